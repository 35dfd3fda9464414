use Rattle.std.proofs.Common.{Some, refl, ap, ◌∙◌}
use Rattle.std.proofs.lemmas.Option.{slice_get_read}
use Rattle.state_legality.proofs.link_legality.first.standing_at.Goals as goal

pub returns-in-Some-Some : goal.returns-in-Some-Some
returns-in-Some-Some c =
    let there = c.in-Some-Some.ensures.lookup.3 in
    (c.in-Some-Some.keys, slice_get_read _ _ _ _ refl there.0 (there.1 c.in-Some-Some.field-0.now) ∙ ap Some c.in-Some-Some.field-0-is, c.deref.ensures.value)
