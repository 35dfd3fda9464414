pub mod told
pub mod left_out
pub mod referring
pub mod failing
