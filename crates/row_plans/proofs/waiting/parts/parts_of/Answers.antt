use Rattle.std.proofs.Common.{ap, map, ◌∙◌, ℕ}
use Rattle.std.specs.List.{enumerate_from, flat_map}
use Rattle.emc_base.proofs.Loops.{at_enumerated, take-enumerated}
use Rattle.keyed_rows.specs.row_groups.Shown.{shown_keyed}
use Rattle.row_orders.specs.declared.alteration.Alteration.{Alteration}
use Rattle.row_plans.specs.Roles.{parts_at}
use Rattle.row_plans.proofs.waiting.Given.{next_added}
use Rattle.row_plans.proofs.waiting.parts.parts_of.Goals as goal

pub loop-place-preserved : goal.loop-place-preserved
loop-place-preserved c =
    next_added (λ (entry : ℕ × Alteration). parts_at c.args.key.now entry.0 entry.1) (enumerate_from 0 c.args.alterations.now) c.loop-place.place
    (c.loop-place.place, c.index-alterations-place.result) (map shown_keyed c.loop-place.parts.items) (map shown_keyed c.add_parts.new.parts.items) c.loop-place.invariant
    (at_enumerated c.args.alterations.now c.loop-place.place c.index-alterations-place.result c.loop-place-test.true c.index-alterations-place.is) c.in_ok-add_parts.ensures

pub returns : goal.returns
returns c = c.loop-place.invariant ∙ ap (flat_map (λ (entry : ℕ × Alteration). parts_at c.args.key.now entry.0 entry.1))
    (take-enumerated c.args.alterations.now c.loop-place.place c.loop-place-test.false)
