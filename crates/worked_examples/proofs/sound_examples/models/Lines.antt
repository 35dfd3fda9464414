-- Lines: lines of orders; the model is sound, and its one arrow leads from lines to orders.
use Rattle.std.proofs.Common.{◌≡◌, ◌<◌, [], ◌∷◌, refl, arith, subst}
use Rattle.round_trip.specs.Words.{Constraint, dependent_end, principal_end}
use Rattle.edm_types.specs.declared.model.TypeNode as node
use Rattle.edm_types.specs.declared.model.TypeNode.TheBlock as block
use Rattle.worked_examples.specs.Ids.{type_id, prop_id, leaf}
use Rattle.round_trip.specs.soundness.models.Constraints.{IsSoundAssoc}
use Rattle.round_trip.specs.soundness.models.Models.{IsSoundModel, IsSoundType}
use Rattle.worked_examples.specs.sound_examples.Lines.{lines_model, order_type, line_type, orders_set, lines_set, line_order_prop, lines_of_order, order_constraint}
use Rattle.worked_examples.proofs.sound_examples.models.Models.{ForestFacts, FallsBack, root_type, end_of_set, many_to_one, model_from}

forest : ForestFacts lines_model (leaf (type_id 0) ∷ leaf (type_id 1) ∷ [])
unfolding node.out-TypeNode denote.Hole.Carrier.out block.shown-the_row-TypeNode-0 denote.Hole.Carrier.shown
forest = record {
  roots = refl;
  tops = ((0, omega arith, refl), ((1, omega arith, refl), tt));
  lower = (tt, (tt, tt));
  ids = (omega arith, (omega arith, tt));
  each = ((refl, refl), ((refl, refl), tt));
}

order : IsSoundType lines_model (type_id 0) order_type
order = root_type lines_model (type_id 0) order_type refl refl refl ((tt, refl), tt)

line : IsSoundType lines_model (type_id 1) line_type
line = root_type lines_model (type_id 1) line_type refl refl refl ((tt, refl), ((tt, refl), tt))

sound_lines : IsSoundAssoc lines_model lines_of_order
sound_lines = record {
  first = end_of_set lines_model lines_of_order.first order_type orders_set refl refl refl refl;
  second = end_of_set lines_model lines_of_order.second line_type lines_set refl refl refl refl;
  kind = many_to_one lines_model lines_of_order (prop_id 0) (prop_id 1) refl refl (orders_set, refl, refl) refl (line_order_prop, refl, refl) refl refl (λ by_key. (lines_set, refl, refl));
}

-- from lines, which stand second, to orders
falls : FallsBack lines_model lines_of_order
falls constraint constrained by_key needed =
    let same : order_constraint ≡ constraint = cc in
    let P : Constraint → Type 0 = λ c. (principal_end lines_of_order c).set.index < (dependent_end lines_of_order c).set.index in
    subst P same (omega arith)

pub sound : IsSoundModel lines_model
sound = model_from lines_model (leaf (type_id 0) ∷ leaf (type_id 1) ∷ []) (tt, (tt, tt)) refl (record {
  forest = forest;
  others = ((refl, tt), ((refl, tt), tt));
  types = (order, (line, tt));
  kinds = (tt, (tt, (tt, tt)));
  elements = (sound_lines.first.concrete, (sound_lines.second.concrete, tt));
  linked = (sound_lines, tt);
  falls = (falls, tt);
})
