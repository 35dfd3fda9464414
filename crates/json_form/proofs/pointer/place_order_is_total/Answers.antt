use Rattle.json_form.specs.PlaceOrder.{steps_cmp_apart, steps_cmp_total}
use Rattle.json_form.proofs.pointer.place_order_is_total.Goals as goal

pub returns-clause-places : goal.returns-clause-places
returns-clause-places c = steps_cmp_total

pub returns-clause-places_apart : goal.returns-clause-places_apart
returns-clause-places_apart c = steps_cmp_apart
