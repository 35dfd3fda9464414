-- Keyed rows of a set, grouped by their keys, are its rows by the keys of its entities.
use Rattle.std.proofs.Common.{◌≡◌, ◌≢◌, ◌<◌, List, [], length, map, filter, get_or, Bool, All, AllPairs, Contains, sym, ap, subst, ◌∙◌, arith}
use Rattle.std.specs.Borrow.{Bor}
use Rattle.std.specs.Cmp.Lexicographic.{slice_cmp}
use Rattle.std.specs.Global.{Vec}
use Rattle.std.specs.Ordering.{is_eq}
use Rattle.std.proofs.lemmas.Option.{slice_get_within}
use Rattle.std.proofs.lemmas.List.Elements.{All-contains, All-map, filter_passes}
use Rattle.std.proofs.lemmas.List.Kept.{AllPairs-filter}
use Rattle.std.proofs.lemmas.Simd.{map-map}
use Rattle.emc_base.proofs.Lists.{all_from_members}
use Rattle.emc_base.proofs.Mapped.{contains_map}
use Rattle.emc_base.proofs.Numbered.{all_pairs_map, map_contains}
use Rattle.emc_base.specs.Order.{value_cmp}
use Rattle.emc_base.specs.OrderLaws.{key_cmp_apart}
use Rattle.emc_base.proofs.facts.Orderings.{is_equal}
use Rattle.emc_base.proofs.facts.Standing.{some_item}
use Rattle.round_trip.specs.Words.{SetId, TableId, Value, Row, Schema, Tables}
use Rattle.round_trip.specs.soundness.Lookups.{set_key}
use Rattle.case_laws.specs.region_cases.Meets.{StandsAtKey}
use Rattle.schema_laws.proofs.state_demand.owners.Owners.{pairs_from_map}
use Rattle.case_laws.specs.candidates.Rows.{AreRowsAt, HasRows, shown_row, shown_rows}
use Rattle.case_laws.specs.declared.candidates.placed.PlacedRow.{PlacedRow}
use Rattle.keyed_rows.specs.row_groups.KeyGroups.{AreKeyGroups, with_key}
use Rattle.keyed_rows.specs.row_groups.Shown.{shown_keyed}
use Rattle.keyed_rows.proofs.row_groups.WithKey.{has_its_key, key_has}
use Rattle.keyed_rows.specs.set_rows.Keyed.{AreKeyedRows, IsKeyed, KeyedRow, shown_keyed_rows}
use Rattle.keyed_rows.specs.set_rows.SetRows.{AreSetRows}

-- what is so of items of one key is so of those of a key
pub with_key_alike : {X : Type 0} (P : X → X → Type 0) (keyed : List (List Value × X)) (key : List Value)
    → AllPairs (λ one later. one.0 ≡ later.0 → P one.1 later.1) keyed → AllPairs P (with_key keyed key)
with_key_alike {X} P keyed key pairs =
    let test : List Value × X → Bool = λ one. is_eq (slice_cmp value_cmp one.0 key) in
    let R : List Value × X → List Value × X → Type 0 = λ one later. one.0 ≡ later.0 → P one.1 later.1 in
    let kept : List (List Value × X) = filter test keyed in
    let has_key : All (λ (one : List Value × X). one.0 ≡ key) kept =
    λ k d inside. key_cmp_apart (get_or kept k d).0 key (is_equal (slice_cmp value_cmp (get_or kept k d).0 key) (filter_passes test keyed k d inside)) in
    all_pairs_map P (λ (one : List Value × X). one.1) kept (λ i j d below inside.
    AllPairs-filter R test keyed pairs i j d below inside (has_key i d (omega (arith, below, inside)) ∙ sym (has_key j d inside)))

-- a keyed row that is lent
abbrev pub shown : List Value × PlacedRow → KeyedRow
shown one = (one.0, shown_row one.1)

module _ (schema : Schema) (tables : Tables) (s : SetId) (keyed : List (List Value × PlacedRow)) (groups : List (List Value × List PlacedRow))
    (grouped : AreKeyGroups keyed groups) (are : AreKeyedRows schema tables s (length schema.store.tables) (map shown keyed)) where
  abbrev Keyed : KeyedRow → Type 0
  Keyed = IsKeyed schema tables s

  -- a row of a key stands at it
  is_keyed : (key : List Value) (placed : PlacedRow) → Contains (with_key keyed key) placed → Keyed (key, shown_row placed)
  is_keyed key placed has =
      All-contains Keyed (map shown keyed) (key, shown_row placed) are.keyed (contains_map shown keyed (key, placed) (has_its_key keyed key placed has))

  -- and a row that stands at a key is one of it
  stands_with : (key : List Value) (t : TableId) (held : Row) → Keyed (key, (t, held))
      → (placed : PlacedRow) × Contains keyed (key, placed) × (shown_row placed ≡ (t, held))
  stands_with key t held is =
      let inside = slice_get_within schema.store.tables t.index is.stands.table is.stands.is_table in
      let found = map_contains shown keyed (key, (t, held)) (are.all key t held inside is) in
      let same : found.0.0 ≡ key = ap (λ (one : KeyedRow). one.0) found.2 in
      (found.0.1, subst (λ k. Contains keyed (k, found.0.1)) same found.1, ap (λ (one : KeyedRow). one.1) found.2)

  abbrev Group : Type 0
  Group = List Value × List PlacedRow

  group_rows : (group : Group) → Contains groups group → group.1 ≡ with_key keyed group.0
  group_rows group has = All-contains (λ (one : Group). one.1 ≡ with_key keyed one.0) groups group grouped.items has

  group_member : (group : Group) → Contains groups group → (placed : PlacedRow) × Contains (with_key keyed group.0) placed
  group_member group has =
      let found = some_item group.1 (All-contains (λ (one : Group). one.1 ≢ []) groups group grouped.some has) in
      (found.0, subst (λ items. Contains items found.0) (group_rows group has) found.1)

  abbrev Stands : List Value → TableId × Row → Type 0
  Stands key placed = StandsAtKey schema tables s key placed.0 placed.1

  -- the rows of a group
  rows_with : (key : List Value) → length key ≡ length (set_key schema.model s) → AreRowsAt schema tables s key (shown_rows (with_key keyed key))
  rows_with key is_whole = record {
    whole = is_whole;
    stand = All-map (Stands key) shown_row (with_key keyed key)
        (all_from_members (λ (placed : PlacedRow). Stands key (shown_row placed)) (with_key keyed key) (λ placed has. (is_keyed key placed has).stands));
    all = λ t held stands.
        let found = stands_with key t held (record { whole = is_whole; stands = stands }) in
        subst (Contains (shown_rows (with_key keyed key))) found.2 (contains_map shown_row (with_key keyed key) found.0 (key_has keyed key found.0 found.1));
    rising = all_pairs_map (λ (one later : TableId × Row). one.0.index < later.0.index) shown_row (with_key keyed key)
        (with_key_alike (λ (one later : PlacedRow). one.table.index < later.table.index) keyed key
        (pairs_from_map (λ (one later : KeyedRow). one.0 ≡ later.0 → one.1.0.index < later.1.0.index) shown keyed are.rising));
  }

  abbrev key_in : Group → List Value
  key_in group = group.0

  has_rows : (key : List Value) → Contains (map key_in groups) key → HasRows schema tables s key
  has_rows key has =
      let group = map_contains key_in groups key has in
      let member = group_member group.0 group.1 in
      let is : Keyed (group.0.0, shown_row member.0) = is_keyed group.0.0 member.0 member.1 in
      subst (HasRows schema tables s) group.2 (record { whole = is.whole; table = member.0.table; held = member.0.row.now; stands = is.stands })

  has_group : (key : List Value) → HasRows schema tables s key → Contains (map key_in groups) key
  has_group key has =
      let found = stands_with key has.table has.held (record { whole = has.whole; stands = has.stands }) in
      All-contains (λ (one : List Value × PlacedRow). Contains (map key_in groups) one.0) keyed (key, found.0) grouped.all found.1

  pub set_rows : AreSetRows schema tables s groups
  set_rows = record {
    keys = λ key. (has_rows key, has_group key);
    rising = grouped.rising;
    rows = all_from_members (λ (group : Group). AreRowsAt schema tables s group.0 (shown_rows group.1)) groups (λ group has.
        let member = group_member group has in
        subst (λ (rows : List PlacedRow). AreRowsAt schema tables s group.0 (shown_rows rows)) (sym (group_rows group has))
        (rows_with group.0 (is_keyed group.0 member.0 member.1).whole));
  }

-- the keyed rows as they are lent
pub lent_rows : (keyed : List (Vec (Bor Value) × PlacedRow)) → shown_keyed_rows keyed ≡ map shown (map shown_keyed keyed)
lent_rows keyed = sym (map-map shown shown_keyed keyed)
