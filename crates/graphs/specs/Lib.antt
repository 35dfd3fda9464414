pub mod base_chains
pub mod arrow_cycles
