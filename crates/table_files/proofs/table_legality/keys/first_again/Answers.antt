use Rattle.std.proofs.Common.{◌≡◌, ℕ, ◌∷◌, List, [], Option, Some, None, map, refl, sym, subst, ◌∙◌}
use Rattle.std.proofs.lemmas.Result.{IfOk-weaker}
use Rattle.groupings.specs.least_fault.Least.{IsLeast}
use Rattle.round_trip.specs.Words.{Value, place_at, row_key}
use Rattle.entity_state.specs.declared.breach_order.found.Found.{Found}
use Rattle.entity_state.specs.breach_order.Founds.{found_cmp}
use Rattle.entity_state.specs.breach_order.Repeats.{IsFirstRepeat, IsFoundRepeat}
use Rattle.entity_state.proofs.breach_order.Finds.{told_repeat}
use Rattle.entity_state.proofs.breach_order.FirstFound.{no_repeat_found}
use Rattle.table_files.proofs.table_legality.keys.first_again.Goals as goal

pub returns-in-Some : goal.returns-in-Some
returns-in-Some c =
    let table = c.args.table.now in
    let keys : List (List Value) = c.as_slice-list.result.now in
    let wanted : List (List Value) = map (row_key table) c.args.rows.now in
    let key : List Value = c.index-list-i.result in
    let found : Found = record { rule = 3; spot = c.args.t ∷ c.in-Some.i ∷ []; place = place_at table.name key [] } in
    let Least : Option Found → Type 0 = IsLeast found_cmp (IsFoundRepeat 3 c.args.t (λ (key : List Value). place_at table.name key []) wanted) in
    let are : keys ≡ wanted = c.as_slice-list.ensures.value ∙ c.in_ok-keys.ensures in
    IfOk-weaker c.found_at.result (λ some. some ≡ Some found) Least
    (λ some is. subst Least (sym is)
    (told_repeat 3 c.args.t (λ (key : List Value). place_at table.name key []) keys wanted are c.in_ok-i.field-0 c.in-Some.i key found 3 (place_at table.name key [])
    c.in_ok-i.ensures c.in-Some.is c.index-list-i.is refl refl refl))
    c.found_at.ensures

pub returns : goal.returns
returns c =
    let table = c.args.table.now in
    let keys : List (List Value) = c.as_slice-list.result.now in
    let wanted : List (List Value) = map (row_key table) c.args.rows.now in
    let are : keys ≡ wanted = c.as_slice-list.ensures.value ∙ c.in_ok-keys.ensures in
    let First : Option ℕ → Type 0 = λ place. IsFirstRepeat (λ (one : List Value) (other : List Value). one ≡ other) keys place in
    let Apart : List (List Value) → Type 0 = λ list. IsFirstRepeat (λ (one : List Value) (other : List Value). one ≡ other) list None in
    no_repeat_found 3 c.args.t (λ (key : List Value). place_at table.name key []) wanted (subst Apart are (subst First c.in-None.is c.in_ok-i.ensures))
