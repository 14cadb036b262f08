pub mod FilesTaken
pub mod Layouts
pub mod MadeRows
pub mod RowStates
pub mod Texts
