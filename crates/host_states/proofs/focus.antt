pub mod HostEnds
pub mod Focus
pub mod FocusLinks
pub mod FocusHeld
