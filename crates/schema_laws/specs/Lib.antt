pub mod sound_types
pub mod state_demand
pub mod sound_demand
pub mod short_values
