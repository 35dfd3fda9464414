-- What the crate above names of failing states, passed on. Declares nothing.
pub use Rattle.witness_state.specs.declared.failure.Failure.{Failure}
pub use Rattle.witness_state.specs.Failures.{IsFailureOf}
