use Rattle.std.proofs.Common.{◌↔◌, List, IsTrue, not, refl, subst₂, ◌∙◌}
use Rattle.round_trip.specs.Words.{PropId, Pair}
use Rattle.msl_rules.specs.LinkRules.{WritesJust}
use Rattle.msl_rules.proofs.Named.{denies}
use Rattle.msl_checks.proofs.msl_link_rules.end_keys.is_key_unwritten.Goals as goal

pub returns : goal.returns
returns c =
    let just = c.writes_just.result in
    let P : List PropId → List Pair → Type 0 = λ key pairs. IsTrue just ↔ WritesJust key pairs in
    let tells = subst₂ P c.key_of-key.ensures (c.as_slice.ensures.items ∙ c.in_ok-pairs.ensures) c.writes_just.ensures in
    denies (not just) just tells refl
