use Rattle.std.proofs.Common.{◌++◌, ◌∷◌, List, [], take, get_or, sym, subst, ◌∙◌}
use Rattle.std.proofs.lemmas.Bool.{not-false}
use Rattle.std.proofs.lemmas.List.{take_more}
use Rattle.round_trip.specs.Words.{PropId}
use Rattle.query_cases.specs.declared.case_reading.reading.CellPlace.{CellPlace}
use Rattle.query_cases.specs.declared.case_reading.reading.Twins.{Twins}
use Rattle.query_cases.specs.case_reading.Noted.{AreNoted}
use Rattle.query_cases.proofs.case_reading.Noting.{first_noted, later_noted, one_place, place_eq}
use Rattle.query_cases.proofs.case_reading.making.twins_of.Goals as goal
use Rattle.query_cases.proofs.case_reading.making.twins_of.Goals.{then-ne+in_ok-push, else-ne}

pub loop-property-preserved : goal.loop-property-preserved
loop-property-preserved c =
    let shown = c.as_slice-property-items.result.now in
    let n = c.loop-property.property-index in
    let nil : PropId × CellPlace = (record { index = 0 }, record { row = 0; col = 0 }) in
    let x : PropId × CellPlace = get_or shown n nil in
    let firsts = c.loop-property.firsts in
    let twins = c.loop-property.twins in
    let first = c.in_ok-first.first in
    let noted = c.in_ok-first.ensures in
    let P : List (PropId × CellPlace) → Type 0 = λ some. AreNoted some c.first_of.new.firsts c.if-ne.twins in
    let Q : List Twins → Type 0 = λ now. AreNoted (take n shown ++ x ∷ []) c.first_of.new.firsts now in
    subst P (sym (take_more shown n nil c.loop-property-test.true)) (elim c.if-ne.branch [
      | then-ne+in_ok-push w ↦ subst Q (sym w.twins-is)
          (later_noted (take n shown) firsts c.first_of.new.firsts twins c.loop-property.invariant x.0 x.1 first noted.first noted.noted w.push.new.self w.in_ok-push.ensures.ok)
      | else-ne w ↦ subst Q (sym w.twins-is)
          (first_noted (take n shown) firsts c.first_of.new.firsts twins c.loop-property.invariant x.0 x.1 first noted.first noted.noted
          (one_place first x.1 (not-false (place_eq first x.1) (sym c.ne.ensures ∙ w.if-ne.false))))
    ])
