use Rattle.std.proofs.Common.{◌≡◌, Bool, true, false, not, Option, Some, None, refl, sym, ap, ◌∙◌}
use Rattle.std.specs.Option.{is_none, is_some}
use Rattle.csdl_meaning.specs.Meaning.{base_in, is_top}
use Rattle.emc_base.proofs.Turns.{kept_next}
use Rattle.csdl_meaning.proofs.csdl_making.forest.tops_in.Goals as goal

-- a test that is the other way round
none_by : {X : Type 0} (found : Option X) (none : Bool) → is_some found ≡ not none → none ≡ is_none found
none_by None true is = refl
none_by None false is = absurd cc
none_by (Some x) true is = absurd cc
none_by (Some x) false is = refl

pub loop-place-preserved : goal.loop-place-preserved
loop-place-preserved c =
    let raw = c.args.lookups.now.model.now in
    c.in_ok-put_kept.ensures
    ∙ kept_next (is_top raw) c.loop-place.place c.is_none.result c.loop-place.tops c.loop-place.invariant
    (none_by (base_in raw c.loop-place.place) c.is_none.result (ap is_some (sym c.base.ensures) ∙ c.is_none.ensures))
