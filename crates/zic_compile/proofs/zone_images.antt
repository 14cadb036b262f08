-- The images of zones.
pub mod Types
pub mod Instants
pub mod ChangeBounds
pub mod Files
pub mod OneImage
pub mod OneFault
pub mod Images
pub mod Faults
pub mod Wants
