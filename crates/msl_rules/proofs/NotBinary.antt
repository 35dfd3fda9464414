-- No text gives a value for a kind of bytes.
use Rattle.std.proofs.Common.{◌≡◌, ℕ, List, Some}
use Rattle.emc_base.specs.declared.value.Kind.TheVariants as kind
use Rattle.round_trip.specs.Words.{Kind, Value}
use Rattle.round_trip.specs.soundness.Kinds.{IsBinary}
use Rattle.msl_rules.specs.condition_values.Spelled.{spelled}

pub not_binary : (k : Kind) (text : List ℕ) (constant : Value) → spelled k text ≡ Some constant → ¬ IsBinary k
not_binary (kind.Binary bound) text constant is binary = absurd cc
not_binary k text constant is binary = absurd binary
