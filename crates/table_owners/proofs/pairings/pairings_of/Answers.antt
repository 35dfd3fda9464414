use Rattle.std.proofs.Common.{◌≡◌, option_map, ◌≤◌, ◌+◌, ℕ, List, length, refl, sym, ap, ap₂, subst, ◌∙◌, arith}
use Rattle.std.proofs.lemmas.Option.{slice_get_read}
use Rattle.round_trip.specs.Words.{PropId, Table, At}
use Rattle.round_trip.specs.Between.{schema_of}
use Rattle.table_owners.specs.Made.{Made}
use Rattle.table_owners.specs.Sources.{pairs_at, props_beside}
use Rattle.table_owners.proofs.lists.Items.{one_made}
use Rattle.table_owners.proofs.ownership.Pairing.{tell_pairings}
use Rattle.table_owners.proofs.pairings.pairings_of.Goals as goal

pub loop-place-preserved : goal.loop-place-preserved
loop-place-preserved c =
    let tables = c.args.store.now.tables in
    let mapping = c.args.mapping.now in
    let sources = c.in_ok-sources.sources.items in
    let n = c.loop-place.place in
    let table = c.table-item.result in
    let props = c.in_ok-pairing_of.field-0 in
    let IsMade : ℕ → Table → List PropId → Type 0 = λ t some pairing. pairing ≡ props_beside some.key (pairs_at mapping sources t) in
    let Here : List Table → Type 0 = λ items. At items n table in
    let here = subst Here c.as_slice-table-items.ensures.items (slice_get_read _ _ n _ refl c.loop-place-test.true c.table-item.is) in
    let pairs : option_map (λ some. some.now) c.pairs_at-pairs.result ≡ pairs_at mapping sources n = c.pairs_at-pairs.ensures ∙ ap (λ some. pairs_at mapping some n) c.as_slice.ensures.value in
    let is : IsMade n table props = c.in_ok-pairing_of.ensures ∙ ap₂ props_beside c.as_slice-in-loop-place.ensures.items pairs in
    let AreMade : List (List PropId) → Type 0 = Made IsMade tables (n + 1) in
    subst AreMade (sym c.in_ok-push.ensures.ok) (one_made IsMade tables n c.loop-place.pairings table props here is c.loop-place.invariant)

pub returns : goal.returns
returns c = λ model sound.
    let tables = c.args.store.now.tables in
    let end : length c.as_slice-table-items.result.now ≤ c.loop-place.place = c.loop-place-test.false in
    let inside : c.loop-place.place ≤ length c.as_slice-table-items.result.now = c.loop-place.auto.place-end in
    let count : length c.as_slice-table-items.result.now ≡ length tables = ap length c.as_slice-table-items.ensures.items in
    let all : c.loop-place.place ≡ length tables = omega (arith, end, inside, count) in
    tell_pairings (schema_of model c.args.store.now c.args.mapping.now) sound c.in_ok-sources.sources.items c.loop-place.pairings c.loop-place.place all
    (c.in_ok-sources.ensures.sources model) c.loop-place.invariant
