pub mod csdl_constraints
pub mod csdl_association_sets
