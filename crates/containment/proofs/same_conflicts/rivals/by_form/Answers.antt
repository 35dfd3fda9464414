use Rattle.std.proofs.Common.{refl}
use Rattle.std.proofs.lemmas.Option.{slice_get_read}
use Rattle.region_states.specs.region_basis.BasisOf.{basis_of}
use Rattle.containment.specs.same_conflicts.Rivals.{IsFormAt}
use Rattle.containment.proofs.Turns.{holds_more}
use Rattle.containment.proofs.same_conflicts.rivals.by_form.Goals as goal

pub loop-place-preserved : goal.loop-place-preserved
loop-place-preserved c =
    let written = c.args.written.now in
    let i = c.loop-place.place in
    holds_more (IsFormAt (basis_of c.args.parts.now) written) i c.loop-place.formed.items c.push.new.self.items (c.in_ok-form_of.field-0, i) c.loop-place.invariant c.in_ok-push.ensures.items
    (record {
      one = c.index-written-place.result;
      here = slice_get_read _ _ i _ refl c.loop-place-test.true c.index-written-place.is;
      place = refl;
      told = c.in_ok-form_of.ensures;
    })
