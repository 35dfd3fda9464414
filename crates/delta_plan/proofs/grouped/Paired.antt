-- Kept rows in the order of the fresh ones.
use Rattle.std.proofs.Common.{◌≡◌, ◌≢◌, ◌∙◌, List, [], ◌∷◌, All, AllPairs, Bool, Contains, IsTrue, length, ⊎_elim, ap, arith, subst, sym}
use Rattle.std.proofs.lemmas.List.Elements.{All-contains}
use Rattle.std.proofs.lemmas.List.Kept.{AllPairs-cons}
use Rattle.std.specs.List.{AllZip}
use Rattle.std.specs.List.Sorted.{IsPermutation}
use Rattle.emc_base.proofs.Joined.{pairs_head, pairs_tail}
use Rattle.emc_base.proofs.Lists.{all_from_members}
use Rattle.emc_base.proofs.Members.{contains_cons_cases, contains_head, contains_nil, contains_tail}
use Rattle.schema_laws.proofs.state_demand.lists.Permutations.{same_members_permute}
use Rattle.round_trip.specs.Words.{ColId, IsKeptRow, Row, Table, row_key}
use Rattle.table_files.specs.InOrder.{AreToldApartBy}
use Rattle.delta_plan.specs.Keeping.{AreKeptRows}
use Rattle.delta_plan.proofs.grouped.Groups.{told_apart}
use Rattle.delta_plan.proofs.grouped.KeptRows.{kept_key}
use Rattle.delta_plan.proofs.grouped.Keyed.{rising_apart}
use Rattle.delta_plan.proofs.resting.Alike.{beside_left}

module _ (is_free : ColId → Bool) (table : Table) (old fresh kept : List Row) (are : AreKeptRows (λ col. IsTrue (is_free col)) table old fresh kept) where
  abbrev Keeps : Row → Row → Type 0
  Keeps one row = IsKeptRow (λ col. IsTrue (is_free col)) table old one row

  -- some fresh rows, with a kept one beside each
  record ArePaired (ones rows : List Row) : Type 0 where
    beside : AllZip Keeps ones rows
    each : (row : Row) → Contains rows row → (one : Row) × Contains ones one × Contains kept row × Keeps one row
    apart : AllPairs (λ row other. row_key table row ≢ row_key table other) rows

  more : (one : Row) (ones : List Row) → AreToldApartBy table.key (one ∷ ones) → (row : Row) → Contains kept row → Keeps one row → (rows : List Row) → ArePaired ones rows
      → ArePaired (one ∷ ones) (row ∷ rows)
  more one ones apart row has keeps rows paired = record {
    beside = (keeps, paired.beside);
    each = λ other stands. ⊎_elim
        (λ (is : other ≡ row). (one, contains_head one ones, subst (Contains kept) (sym is) has, subst (Keeps one) (sym is) keeps))
        (λ (later : Contains rows other). (let from = paired.each other later in (from.0, contains_tail one ones from.0 from.1, from.2, from.3)))
        (contains_cons_cases row rows other stands);
    apart = AllPairs-cons (λ (x y : Row). row_key table x ≢ row_key table y) row rows
        (all_from_members (λ (y : Row). row_key table row ≢ row_key table y) rows (λ other stands same.
        (let from = paired.each other stands in
        All-contains (λ (y : Row). row_key table one ≢ row_key table y) ones from.0 (pairs_head (λ (x y : Row). row_key table x ≢ row_key table y) one ones apart) from.1
        (sym (kept_key is_free table old fresh one row keeps) ∙ same ∙ kept_key is_free table old fresh from.0 other from.3))))
        paired.apart;
  }

  pair : (ones : List Row) → ((one : Row) → Contains ones one → Contains fresh one) → AreToldApartBy table.key ones → (rows : List Row) × ArePaired ones rows
  pair [] within apart = ([], record { beside = tt; each = λ row has. absurd (contains_nil row has); apart = λ i j d below inside. absurd (omega arith) })
  pair (one ∷ ones) within apart =
      let found = are.all one (within one (contains_head one ones)) in
      let rest = pair ones (λ other has. within other (contains_tail one ones other has)) (pairs_tail (λ (x y : Row). row_key table x ≢ row_key table y) one ones apart) in
      (found.0 ∷ rest.0, more one ones apart found.0 found.1 found.2 rest.0 rest.1)

  once : (rows : List Row) → AllPairs (λ row other. row_key table row ≢ row_key table other) rows → AllPairs (λ row other. row ≢ other) rows
  once rows apart = λ i j d below within same. apart i j d below within (ap (row_key table) same)

  -- the kept rows are these, in another order
  pub kept_in_order : AreToldApartBy table.key fresh → (rows : List Row) × AllZip Keeps fresh rows × IsPermutation rows kept × All (λ row. length row.cells ≡ length table.cols) rows
  kept_in_order apart =
      let rows = pair fresh (λ one has. has) apart in
      let kept_apart = rising_apart table.key kept are.rising in (
        rows.0,
        rows.1.beside,
        same_members_permute rows.0 kept (once rows.0 rows.1.apart) (once kept kept_apart)
            (λ row has. (rows.1.each row has).2)
            (λ row has. (
            let from = All-contains (λ (row : Row). (one : Row) × Contains fresh one × Keeps one row) kept row are.only has in
            let beside = beside_left Keeps fresh rows.0 rows.1.beside from.0 from.1 in
            let other = rows.1.each beside.0 beside.1 in
            let same : beside.0 ≡ row = told_apart table.key kept kept_apart beside.0 row other.2 has
            (kept_key is_free table old fresh from.0 beside.0 beside.2 ∙ sym (kept_key is_free table old fresh from.0 row from.2)) in
            subst (Contains rows.0) same beside.1)),
        all_from_members (λ (row : Row). length row.cells ≡ length table.cols) rows.0 (λ row has.
            All-contains (λ (row : Row). length row.cells ≡ length table.cols) kept row are.long (rows.1.each row has).2),
      )
