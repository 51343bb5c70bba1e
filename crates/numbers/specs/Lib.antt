pub mod Binary32
pub mod Points3
pub mod Points4
pub mod Root
pub mod Normal
