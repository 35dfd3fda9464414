use Rattle.std.proofs.Common.{◌+◌, List, Option, refl, subst, sym}
use Rattle.std.proofs.lemmas.Option.{slice_get_read}
use Rattle.groupings.specs.least_fault.Least.{IsLeast}
use Rattle.groupings.proofs.least_fault.Leasts.{AmongFirst, least_all, least_more}
use Rattle.round_trip.specs.Words.{Entity}
use Rattle.entity_state.specs.breach_order.Founds.{found_cmp}
use Rattle.entity_state.specs.breach_order.FoundOrder.{found_cmp_total}
use Rattle.entity_state.specs.declared.breach_order.found.Found.{Found}
use Rattle.state_legality.specs.set_legality.Found.{IsSetBreach}
use Rattle.state_legality.specs.set_legality.Tells.{entities_numbered}
use Rattle.state_legality.proofs.set_legality.first.first_in_lists.Goals as goal

pub loop-s-preserved : goal.loop-s-preserved
loop-s-preserved c =
    let model = c.args.model.now in
    let entities = c.args.entities.now in
    let n = c.loop-s.s in
    let set = c.index-sets-s.result in
    let P : Option Found → Type 0 = λ found. IsLeast found_cmp (AmongFirst (λ s set. IsSetBreach model s set (entities_numbered entities s)) c.args.sets.now (n + 1)) found in
    let Q : List Entity → Type 0 = λ list. IsLeast found_cmp (IsSetBreach model n set list) c.in_ok-in_set.in_set in
    subst P (sym c.earlier-found.ensures)
    (least_more found_cmp found_cmp_total (λ s set. IsSetBreach model s set (entities_numbered entities s)) c.args.sets.now n set c.loop-s.found c.in_ok-in_set.in_set
    (slice_get_read _ _ n _ refl c.loop-s-test.true c.index-sets-s.is) c.loop-s.invariant (subst Q c.list_at.ensures c.in_ok-in_set.ensures))

pub returns : goal.returns
returns c =
    least_all found_cmp found_cmp_total (λ s set. IsSetBreach c.args.model.now s set (entities_numbered c.args.entities.now s)) c.args.sets.now c.loop-s.s c.loop-s.found
    c.loop-s-test.false c.loop-s.invariant
