pub mod LeastFound
pub mod Rules
pub mod Seen
pub mod Known
pub mod FaultPlaces
pub mod NoFaults
