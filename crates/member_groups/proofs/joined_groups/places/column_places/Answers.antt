use Rattle.std.proofs.Common.{◌≡◌, ◌+◌, ◌≤◌, ℕ, List, [], ◌∷◌, ◌++◌, Option, length, sym, ap, subst, ◌∙◌, arith}
use Rattle.member_groups.specs.joined_groups.Places.{HavePlaces, IsColumnOfKey}
use Rattle.member_groups.proofs.joined_groups.Placing.{none_placed, one_placed}
use Rattle.member_groups.proofs.joined_groups.places.column_places.Goals as goal

pub loop-place-init : goal.loop-place-init
loop-place-init c =
    let P : List (Option ℕ) → Type 0 = λ places. HavePlaces (IsColumnOfKey c.args.table.now) 0 c.args.first places in
    subst P (sym c.empty-places.ensures) (none_placed (IsColumnOfKey c.args.table.now) c.args.first)

pub loop-place-preserved : goal.loop-place-preserved
loop-place-preserved c =
    let table = c.args.table.now in
    let places = c.loop-place.places in
    let P : List (Option ℕ) → Type 0 = λ some. HavePlaces (IsColumnOfKey table) (c.loop-place.place + 1) c.args.first some in
    subst P (sym (c.in_ok-push.ensures.ok ∙ ap (λ (last : Option ℕ). places ++ last ∷ []) c.then_some.ensures))
    (one_placed (IsColumnOfKey table) c.args.first c.loop-place.place places c.is_key_column.result c.loop-place.invariant c.is_key_column.ensures)

pub returns : goal.returns
returns c =
    let P : ℕ → Type 0 = λ n. HavePlaces (IsColumnOfKey c.args.table.now) n c.args.first c.loop-place.places in
    let end : c.len-place-end.result ≤ c.loop-place.place = c.loop-place-test.false in
    let inside : c.loop-place.place ≤ c.len-place-end.result = c.loop-place.auto.place-end in
    let count : c.len-place-end.result ≡ length c.args.table.now.cols = c.len-place-end.ensures.count in
    let all : c.loop-place.place ≡ length c.args.table.now.cols = omega (arith, end, inside, count) in
    subst P all c.loop-place.invariant
