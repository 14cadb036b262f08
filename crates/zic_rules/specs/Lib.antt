pub mod code
pub mod Laws
pub mod Tail
pub mod Timeline
pub use Rattle.zic_states.specs.Change
pub use Rattle.zic_states.specs.Fault
pub use Rattle.zic_states.specs.Zone
