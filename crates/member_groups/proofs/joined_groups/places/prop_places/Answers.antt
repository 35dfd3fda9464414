use Rattle.std.proofs.Common.{◌≡◌, ◌+◌, ◌≤◌, ℕ, List, [], ◌∷◌, ◌++◌, Option, length, not, refl, sym, ap, subst, ◌∙◌, zero-add, arith}
use Rattle.std.specs.Bool.{then_some}
use Rattle.std.proofs.lemmas.Option.{slice_get_read}
use Rattle.round_trip.specs.Words.{Prop, At}
use Rattle.member_groups.specs.joined_groups.Places.{HavePlaces, IsPropOfKey}
use Rattle.member_groups.proofs.joined_groups.Placing.{none_placed, one_placed, prop_tells}
use Rattle.member_groups.proofs.joined_groups.places.prop_places.Goals as goal

pub loop-place-init : goal.loop-place-init
loop-place-init c =
    let P : List (Option ℕ) → Type 0 = λ places. HavePlaces (IsPropOfKey c.args.model.now) 0 0 places in
    subst P (sym c.empty-places.ensures) (none_placed (IsPropOfKey c.args.model.now) 0)

pub loop-place-preserved : goal.loop-place-preserved
loop-place-preserved c =
    let model = c.args.model.now in
    let n = c.loop-place.place in
    let places = c.loop-place.places in
    let P : List (Option ℕ) → Type 0 = λ some. HavePlaces (IsPropOfKey model) (n + 1) 0 some in
    let Q : List Prop → Type 0 = λ props. At props n c.declared-item.result in
    let R : ℕ → Type 0 = λ k. HavePlaces (IsPropOfKey model) (n + 1) 0 (places ++ then_some (not c.is_key_prop.result) k ∷ []) in
    let at : At model.props n c.declared-item.result = subst Q c.as_slice-declared-items.ensures.items (slice_get_read _ _ n _ refl c.loop-place-test.true c.declared-item.is) in
    subst P (sym (c.in_ok-push.ensures.ok ∙ ap (λ (last : Option ℕ). places ++ last ∷ []) c.then_some.ensures))
    (subst R (zero-add n) (one_placed (IsPropOfKey model) 0 n places c.is_key_prop.result c.loop-place.invariant
    (prop_tells model n c.declared-item.result c.is_key_prop.result at c.is_key_prop.ensures)))

pub returns : goal.returns
returns c =
    let P : ℕ → Type 0 = λ n. HavePlaces (IsPropOfKey c.args.model.now) n 0 c.loop-place.places in
    let end : length c.as_slice-declared-items.result.now ≤ c.loop-place.place = c.loop-place-test.false in
    let inside : c.loop-place.place ≤ length c.as_slice-declared-items.result.now = c.loop-place.auto.place-end in
    let count : length c.as_slice-declared-items.result.now ≡ length c.args.model.now.props = ap length c.as_slice-declared-items.ensures.items in
    let all : c.loop-place.place ≡ length c.args.model.now.props = omega (arith, end, inside, count) in
    subst P all c.loop-place.invariant
