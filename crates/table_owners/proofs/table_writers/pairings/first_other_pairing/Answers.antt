use Rattle.std.proofs.Common.{◌≡◌, get_or, None, Some, subst, subst₂, refl}
use Rattle.std.specs.Bool.{Decides}
use Rattle.std.specs.BTreeMap.{get}
use Rattle.std.specs.Option.{unwrap_or}
use Rattle.std.specs.Ordering.{is_eq}
use Rattle.std.proofs.lemmas.Option.{slice_get_read}
use Rattle.emc_base.specs.Lists.{At}
use Rattle.table_owners.specs.table_writers.Ownerships.{ownership_of}
use Rattle.table_owners.specs.table_writers.Writers.{HoldSame, IsOtherPairing}
use Rattle.table_owners.specs.declared.table_writers.ownership.Ownership.{Ownership}
use Rattle.table_owners.proofs.table_writers.FirstOfKey.{first_at, first_differs, knows_more, never_differs}
use Rattle.table_owners.proofs.table_writers.Pairs.{same_itself}
use Rattle.table_owners.proofs.table_writers.Orders.{ownership_cmp, tells_ownership}
use Rattle.table_owners.proofs.table_writers.Writing.{key_apart, least_pairing, OtherKey, SameKey}
use Rattle.table_owners.proofs.table_writers.pairings.first_other_pairing.Goals as goal

pub returns-then-not-hold_same : goal.returns-then-not-hold_same
returns-then-not-hold_same c =
    let writers = c.args.writers.now in
    let n = c.loop-place.place in
    let item = c.index-writers-place.result in
    let known = get ownership_cmp c.loop-place.firsts in
    let first = c.in_ok-first.first in
    let one = get_or writers first c.index-writers-first.result in
    let here : At writers n item = slice_get_read _ _ n _ refl c.loop-place-test.true c.index-writers-place.is in
    let P : Ownership → Type 0 = λ o. first ≡ unwrap_or (known o) n in
    let is : first ≡ unwrap_or (known (ownership_of item)) n = subst P c.ownership.ensures c.in_ok-first.ensures.first in
    let other : IsOtherPairing one.key item.key = subst₂ IsOtherPairing c.as_slice.ensures.items c.as_slice-in-loop-place.ensures.items c.if-not-hold_same.ensures in
    least_pairing writers (Some n)
    (first_differs ownership_of SameKey writers OtherKey key_apart (λ x. same_itself x.key) n item here known c.loop-place.invariant first is one
    (first_at ownership_of SameKey writers n item here known c.loop-place.invariant first is c.index-writers-first.result) other)

pub loop-place-preserved : goal.loop-place-preserved
loop-place-preserved c =
    let writers = c.args.writers.now in
    let n = c.loop-place.place in
    let item = c.index-writers-place.result in
    let known = get ownership_cmp c.loop-place.firsts in
    let first = c.in_ok-first.first in
    let one = get_or writers first c.index-writers-first.result in
    let here : At writers n item = slice_get_read _ _ n _ refl c.loop-place-test.true c.index-writers-place.is in
    let P : Ownership → Type 0 = λ o. first ≡ unwrap_or (known o) n in
    let is : first ≡ unwrap_or (known (ownership_of item)) n = subst P c.ownership.ensures c.in_ok-first.ensures.first in
    let same : HoldSame one.key item.key = subst₂ HoldSame c.as_slice.ensures.items c.as_slice-in-loop-place.ensures.items c.if-not-hold_same.ensures in
    knows_more ownership_of SameKey writers n item here known c.loop-place.invariant first is
    (λ q. is_eq (ownership_cmp c.ownership.result q))
    (λ q. subst (λ (o : Ownership). Decides (is_eq (ownership_cmp c.ownership.result q)) (o ≡ q)) c.ownership.ensures (tells_ownership c.ownership.result q))
    (get ownership_cmp c.first_place.new.firsts) c.in_ok-first.ensures.noted.0 one
    (first_at ownership_of SameKey writers n item here known c.loop-place.invariant first is c.index-writers-first.result) same

pub returns : goal.returns
returns c =
    least_pairing c.args.writers.now None
    (never_differs ownership_of SameKey c.args.writers.now OtherKey key_apart c.loop-place.place (get ownership_cmp c.loop-place.firsts) c.loop-place.invariant c.loop-place-test.false)
