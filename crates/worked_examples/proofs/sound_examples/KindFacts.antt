-- Kinds that are sound, and kinds that aren't.
use Rattle.std.proofs.Common.{[], ◌∷◌, refl, arith}
use Rattle.std.proofs.lemmas.Int.{ints}
use Rattle.std.specs.Prelude.{pos, ◌<ℤ◌, ◌≤ℤ◌}
use Rattle.round_trip.specs.Words.{Whole, InDomain}
use Rattle.emc_base.specs.declared.value.Kind.TheVariants as kind
use Rattle.worked_examples.proofs.facts.Small.{all_pairs}
use Rattle.round_trip.specs.soundness.Kinds.{IsSoundKind, Corresponds}
use Rattle.worked_examples.specs.sound_examples.Kinds.{two_bytes, no_byte, no_number, one_twice, no_character}
use Rattle.worked_examples.proofs.sound_examples.Lists.{all}

pub sound : IsSoundKind two_bytes
sound = record {
  some = λ e. absurd (cc);
  rising = all_pairs (λ one next. one <ℤ next) (pos 0 ∷ pos 255 ∷ []) ((omega (arith, ints), tt), (tt, tt));
  within = all (λ number. InDomain (Whole number) kind.Byte) (pos 0 ∷ pos 255 ∷ []) ((omega (arith, ints), omega (arith, ints)), ((omega (arith, ints), omega (arith, ints)), tt));
}

pub large : ¬ IsSoundKind no_byte
large is = let small : pos 256 ≤ℤ pos 255 = (is.within 0 (pos 0) (omega arith)).1 in absurd (omega (arith, ints))

pub empty : ¬ IsSoundKind no_number
empty is = is.some refl

pub twice : ¬ IsSoundKind one_twice
twice is = let less : pos 1 <ℤ pos 1 = is.rising 0 1 (pos 0) (omega arith) (omega arith) in absurd (omega (arith, ints))

pub bound : ¬ IsSoundKind no_character
bound is = absurd (omega (arith, is.0))

pub held : Corresponds two_bytes kind.Byte
held = refl

pub other : ¬ Corresponds two_bytes kind.Int16
other is = absurd (cc)
