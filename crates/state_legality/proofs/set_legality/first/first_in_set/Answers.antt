use Rattle.std.proofs.Common.{List, Bool, subst, sym}
use Rattle.state_legality.specs.set_legality.Types.{MarksUnder}
use Rattle.state_legality.proofs.set_legality.Leaves.{in_set}
use Rattle.state_legality.proofs.set_legality.first.first_in_set.Goals as goal

pub returns : goal.returns
returns c =
    let model = c.args.model.now in
    let set = c.args.set.now in
    let P : List Bool → Type 0 = λ marks. MarksUnder model set.element marks in
    in_set model c.args.s set c.args.entities.now c.as_slice-marks.result.now c.in_ok-at_entities.at_entities c.in_ok-at_keys.at_keys c.earlier.result
    (subst P (sym c.as_slice-marks.ensures.value) c.in_ok-under.ensures) c.earlier.ensures c.in_ok-at_entities.ensures c.in_ok-at_keys.ensures
