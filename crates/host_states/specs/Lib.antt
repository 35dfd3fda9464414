pub mod Hosting
pub mod BaseStates
pub mod FocusStates
pub mod SmallStates
pub mod ManyPartners
