-- Details of lines of orders: the model is sound.
use Rattle.std.proofs.Common.{[], ◌∷◌, refl, arith}
use Rattle.edm_types.specs.declared.model.TypeNode as node
use Rattle.edm_types.specs.declared.model.TypeNode.TheBlock as block
use Rattle.round_trip.specs.soundness.models.Constraints.{IsSoundAssoc}
use Rattle.round_trip.specs.soundness.models.Models.{IsSoundModel, IsSoundType}
use Rattle.worked_examples.specs.Ids.{leaf, prop_id, type_id}
use Rattle.worked_examples.specs.sound_examples.Lines.{line_order_prop, line_type, lines_of_order, lines_set, order_type, orders_set}
use Rattle.worked_examples.specs.supported.Details.{detail_number_prop, detail_of_line, detail_order_prop, detail_type, details_model, details_set}
use Rattle.worked_examples.proofs.sound_examples.models.Models.{ForestFacts, end_of_set, model_from, root_type}
use Rattle.worked_examples.proofs.supported_states.Constraints.{falls, many_to_one, some_to_one}

forest : ForestFacts details_model (leaf (type_id 0) ∷ leaf (type_id 1) ∷ leaf (type_id 2) ∷ [])
unfolding node.out-TypeNode denote.Hole.Carrier.out block.shown-the_row-TypeNode-0 denote.Hole.Carrier.shown
forest = record {
  roots = refl;
  tops = ((0, omega arith, refl), ((1, omega arith, refl), ((2, omega arith, refl), tt)));
  lower = (tt, (tt, (tt, tt)));
  ids = (omega arith, (omega arith, (omega arith, tt)));
  each = ((refl, refl), ((refl, refl), ((refl, refl), tt)));
}

order : IsSoundType details_model (type_id 0) order_type
order = root_type details_model (type_id 0) order_type refl refl refl ((tt, refl), tt)

line : IsSoundType details_model (type_id 1) line_type
line = root_type details_model (type_id 1) line_type refl refl refl ((tt, refl), ((tt, refl), tt))

detail : IsSoundType details_model (type_id 2) detail_type
detail = root_type details_model (type_id 2) detail_type refl refl refl ((tt, refl), ((tt, refl), tt))

sound_lines : IsSoundAssoc details_model lines_of_order
sound_lines = record {
  first = end_of_set details_model lines_of_order.first order_type orders_set refl refl refl refl;
  second = end_of_set details_model lines_of_order.second line_type lines_set refl refl refl refl;
  kind = many_to_one details_model lines_of_order (prop_id 0 ∷ []) (prop_id 1 ∷ []) refl refl ((line_order_prop, refl, refl), tt)
      (record { element = (orders_set, refl, refl); own = (lines_set, refl, refl); key = refl; tests = refl; kinds = refl });
}

sound_details : IsSoundAssoc details_model detail_of_line
sound_details = record {
  first = end_of_set details_model detail_of_line.first line_type lines_set refl refl refl refl;
  second = end_of_set details_model detail_of_line.second detail_type details_set refl refl refl refl;
  kind = some_to_one details_model detail_of_line (prop_id 1 ∷ prop_id 2 ∷ []) (prop_id 3 ∷ prop_id 4 ∷ []) refl refl refl
      ((detail_order_prop, refl, refl), ((detail_number_prop, refl, refl), tt))
      (record { element = (lines_set, refl, refl); own = (details_set, refl, refl); key = refl; tests = refl; kinds = refl });
}

pub sound : IsSoundModel details_model
sound = model_from details_model (leaf (type_id 0) ∷ leaf (type_id 1) ∷ leaf (type_id 2) ∷ []) (tt, (tt, (tt, tt))) refl (record {
  forest = forest;
  others = ((refl, tt), ((refl, tt), ((refl, tt), tt)));
  types = (order, (line, (detail, tt)));
  kinds = (tt, (tt, (tt, (tt, (tt, tt)))));
  elements = (sound_lines.first.concrete, (sound_lines.second.concrete, (sound_details.second.concrete, tt)));
  linked = (sound_lines, (sound_details, tt));
  falls = (
    falls details_model lines_of_order (prop_id 0 ∷ []) (prop_id 1 ∷ []) refl (omega arith),
    (falls details_model detail_of_line (prop_id 1 ∷ prop_id 2 ∷ []) (prop_id 3 ∷ prop_id 4 ∷ []) refl (omega arith), tt),
  );
})
