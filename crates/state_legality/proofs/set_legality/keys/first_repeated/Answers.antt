use Rattle.std.proofs.Common.{◌≡◌, ℕ, ◌∷◌, List, [], Option, Some, None, map, refl, sym, subst, ◌∙◌}
use Rattle.std.proofs.lemmas.Result.{IfOk-weaker}
use Rattle.groupings.specs.least_fault.Least.{IsLeast}
use Rattle.round_trip.specs.Words.{Value, key_of, place_at}
use Rattle.entity_state.specs.declared.breach_order.found.Found.{Found}
use Rattle.entity_state.specs.breach_order.Founds.{found_cmp}
use Rattle.entity_state.specs.breach_order.Repeats.{IsFirstRepeat, IsFoundRepeat}
use Rattle.entity_state.proofs.breach_order.Finds.{told_repeat}
use Rattle.entity_state.proofs.breach_order.FirstFound.{no_repeat_found}
use Rattle.state_legality.proofs.set_legality.keys.first_repeated.Goals as goal

pub returns-in-Some : goal.returns-in-Some
returns-in-Some c =
    let set = c.args.set.now in
    let keys : List (List Value) = c.as_slice-list.result.now in
    let wanted : List (List Value) = map (key_of c.args.model.now) c.args.entities.now in
    let key : List Value = c.index-list-i.result in
    let found : Found = record { rule = 4; spot = c.args.s ∷ c.in-Some.i ∷ []; place = place_at set.name key [] } in
    let Least : Option Found → Type 0 = IsLeast found_cmp (IsFoundRepeat 4 c.args.s (λ (key : List Value). place_at set.name key []) wanted) in
    let are : keys ≡ wanted = c.as_slice-list.ensures.value ∙ c.in_ok-keys.ensures in
    IfOk-weaker c.found_at.result (λ some. some ≡ Some found) Least
    (λ some is. subst Least (sym is)
    (told_repeat 4 c.args.s (λ (key : List Value). place_at set.name key []) keys wanted are c.in_ok-i.field-0 c.in-Some.i key found 4 (place_at set.name key [])
    c.in_ok-i.ensures c.in-Some.is c.index-list-i.is refl refl refl))
    c.found_at.ensures

pub returns : goal.returns
returns c =
    let set = c.args.set.now in
    let keys : List (List Value) = c.as_slice-list.result.now in
    let wanted : List (List Value) = map (key_of c.args.model.now) c.args.entities.now in
    let are : keys ≡ wanted = c.as_slice-list.ensures.value ∙ c.in_ok-keys.ensures in
    let First : Option ℕ → Type 0 = λ place. IsFirstRepeat (λ (one : List Value) (other : List Value). one ≡ other) keys place in
    let Apart : List (List Value) → Type 0 = λ list. IsFirstRepeat (λ (one : List Value) (other : List Value). one ≡ other) list None in
    no_repeat_found 4 c.args.s (λ (key : List Value). place_at set.name key []) wanted (subst Apart are (subst First c.in-None.is c.in_ok-i.ensures))
