use Rattle.std.proofs.Common.{get_or, None, Some, refl, sym, ◌∙◌}
use Rattle.std.proofs.lemmas.Option.{slice_get_read}
use Rattle.std.specs.BTreeMap.{get}
use Rattle.std.specs.Ordering.{nat_cmp, is_eq}
use Rattle.emc_base.specs.Lists.{At}
use Rattle.table_owners.proofs.table_writers.FirstOfKey.{first_at, first_differs, knows_more, never_differs}
use Rattle.table_owners.proofs.table_writers.Orders.{tells_table}
use Rattle.table_owners.proofs.table_writers.Writing.{differing_owners, least_owner, owner_apart, owners_alike, table_of, OtherOwner, SameOwner}
use Rattle.table_owners.proofs.table_writers.owners.first_other_owner.Goals as goal

pub returns-then-ne : goal.returns-then-ne
returns-then-ne c =
    let writers = c.args.writers.now in
    let n = c.loop-place.place in
    let item = c.index-writers-place.result in
    let known = get nat_cmp c.loop-place.firsts in
    let first = c.in_ok-first.first in
    let one = get_or writers first c.index-writers-first.result in
    let here : At writers n item = slice_get_read _ _ n _ refl c.loop-place-test.true c.index-writers-place.is in
    least_owner writers (Some n)
    (first_differs table_of SameOwner writers OtherOwner owner_apart (λ _. refl) n item here known c.loop-place.invariant first c.in_ok-first.ensures.first one
    (first_at table_of SameOwner writers n item here known c.loop-place.invariant first c.in_ok-first.ensures.first c.index-writers-first.result)
    (differing_owners one item (sym c.ne.ensures ∙ c.if-ne.true)))

pub loop-place-preserved : goal.loop-place-preserved
loop-place-preserved c =
    let writers = c.args.writers.now in
    let n = c.loop-place.place in
    let item = c.index-writers-place.result in
    let known = get nat_cmp c.loop-place.firsts in
    let first = c.in_ok-first.first in
    let one = get_or writers first c.index-writers-first.result in
    let here : At writers n item = slice_get_read _ _ n _ refl c.loop-place-test.true c.index-writers-place.is in
    knows_more table_of SameOwner writers n item here known c.loop-place.invariant first c.in_ok-first.ensures.first
    (λ q. is_eq (nat_cmp item.table.index q)) (tells_table item.table.index) (get nat_cmp c.first_place.new.firsts) c.in_ok-first.ensures.noted.0 one
    (first_at table_of SameOwner writers n item here known c.loop-place.invariant first c.in_ok-first.ensures.first c.index-writers-first.result)
    (owners_alike one item (sym c.ne.ensures ∙ c.if-ne.false))

pub returns : goal.returns
returns c =
    least_owner c.args.writers.now None
    (never_differs table_of SameOwner c.args.writers.now OtherOwner owner_apart c.loop-place.place (get nat_cmp c.loop-place.firsts) c.loop-place.invariant c.loop-place-test.false)
