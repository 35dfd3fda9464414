-- The kept rows of all groups.
use Rattle.std.proofs.Common.{◌≡◌, ◌≢◌, ◌⊎◌, ◌∷◌, ◌∙◌, [], List, All, Bool, IsTrue, true, false, Contains, Option, Some, None, length, ⊎_elim, inl, inr, ap, arith, refl, subst, sym}
use Rattle.std.specs.Borrow.{Bor}
use Rattle.std.specs.Cmp.Lexicographic.{slice_cmp}
use Rattle.std.specs.List.{flat_map}
use Rattle.std.specs.declared.cmp.Ordering.TheVariants.{Less}
use Rattle.std.proofs.lemmas.Bool.{false_from_ne_true, true≢false}
use Rattle.std.proofs.lemmas.List.Elements.{All-contains}
use Rattle.emc_base.proofs.FoundItems.{contains_flat_map}
use Rattle.emc_base.proofs.Joined.{in_flat_map}
use Rattle.emc_base.proofs.Lists.{all_from_members}
use Rattle.emc_base.proofs.Members.{contains_cons_cases, contains_head, contains_nil, contains_tail}
use Rattle.emc_base.specs.Order.{value_cmp}
use Rattle.round_trip.specs.Words.{ColId, IsKeptRow, Row, Table, Value, cell_of, row_key}
use Rattle.schema_laws.proofs.state_demand.writings.Selecting.{Decides-key}
use Rattle.schema_laws.specs.state_demand.Selecting.{same_key}
use Rattle.row_changes.proofs.leading.Primary.{either}
use Rattle.keyed_rows.specs.row_groups.Shown.{shown_cells}
use Rattle.table_files.specs.InOrder.{AreToldApartBy}
use Rattle.keyed_rows.specs.declared.row_groups.groups.KeyGroup.{KeyGroup}
use Rattle.row_plans.specs.Altered.{first_of}
use Rattle.row_plans.specs.Sides.{AreRowGroups}
use Rattle.row_plans.specs.declared.altered.sides.Side.TheVariants.{Before, Afterwards}
use Rattle.row_plans.specs.declared.altered.sides.SidedRow.{SidedRow}
use Rattle.row_plans.proofs.altering.InTable.{pairs_of_flat_map}
use Rattle.delta_plan.specs.Keeping.{AreKeptRows, HaveRisingKeys, kept_by, kept_cells, kept_of}
use Rattle.delta_plan.proofs.grouped.Groups.{group_of, none_afterwards, none_before, row_afterwards, row_before, told_apart}
use Rattle.delta_plan.proofs.grouped.KeptCells.{free_cell, kept_long, own_cell, same_cells}

module _ (is_free : ColId → Bool) (table : Table) (old fresh : List Row) where
  abbrev Free : ColId → Type 0
  Free col = IsTrue (is_free col)

  -- a column isn't free and not free
  not_both : (b : Bool) → b ≡ false → ¬ (b ≡ true)
  not_both b isnt is = true≢false (sym is ∙ isnt)

  -- some row has the key, or none has
  pub held_or_not : (rows : List Row) (key : List Value)
      → ((row : Row) × Contains rows row × (row_key table row ≡ key)) ⊎ ((row : Row) → Contains rows row → row_key table row ≢ key)
  held_or_not [] key = inr (λ row has. absurd (contains_nil row has))
  held_or_not (row ∷ rows) key = ⊎_elim
      (λ (is : row_key table row ≡ key). inl (row, contains_head row rows, is))
      (λ (isnt : row_key table row ≢ key). ⊎_elim
      (λ (found : (one : Row) × Contains rows one × (row_key table one ≡ key)). inl (found.0, contains_tail row rows found.0 found.1, found.2))
      (λ (none : (one : Row) → Contains rows one → row_key table one ≢ key).
      inr (λ one has. ⊎_elim (λ (here : one ≡ row) (same : row_key table one ≡ key). isnt (ap (row_key table) (sym here) ∙ same)) (λ (later : Contains rows one). none one later)
      (contains_cons_cases row rows one has)))
      (held_or_not rows key))
      (either (same_key (row_key table row) key) (Decides-key (row_key table row) key))

  -- a kept row has the key of the fresh one
  pub kept_key : (row kept : Row) → IsKeptRow Free table old row kept → row_key table kept ≡ row_key table row
  kept_key row kept is = ⊎_elim
      (λ (found : (one : Row) × Contains old one × (row_key table one ≡ row_key table row)).
      same_cells table.key is_free found.0 row kept found.2
      (λ col free. All-contains (λ (before : Row). row_key table before ≡ row_key table row → (col : ColId) → Free col → cell_of kept col ≡ cell_of before col) old found.0 is.stays found.1
      found.2 col free)
      (λ col other. is.rest col (not_both (is_free col) other)))
      (λ (none : (one : Row) → Contains old one → row_key table one ≢ row_key table row).
      same_cells table.key is_free row row kept refl
      (λ col free. is.new (all_from_members (λ (before : Row). row_key table before ≢ row_key table row) old none) col free)
      (λ col other. is.rest col (not_both (is_free col) other)))
      (held_or_not old (row_key table row))

  -- where a row of the key is held
  pub with_held : (long : All (λ row. length row.cells ≡ length table.cols) old) (fresh_long : All (λ row. length row.cells ≡ length table.cols) fresh)
      → AreToldApartBy table.key old → (held row : Row) → Contains old held → Contains fresh row → row_key table held ≡ row_key table row
      → IsKeptRow Free table old row (record { cells = kept_cells is_free held row.cells })
  with_held long fresh_long apart held row has has_row same =
      let size : length held.cells ≡ length row.cells = All-contains (λ (one : Row). length one.cells ≡ length table.cols) old held long has
      ∙ sym (All-contains (λ (one : Row). length one.cells ≡ length table.cols) fresh row fresh_long has_row) in
      record {
        stays = all_from_members (λ (before : Row). row_key table before ≡ row_key table row → (col : ColId) → Free col
            → cell_of (record { cells = kept_cells is_free held row.cells }) col ≡ cell_of before col) old
            (λ before there is col free. free_cell is_free held row size col free
            ∙ ap (λ (one : Row). cell_of one col) (told_apart table.key old apart held before has there (same ∙ sym is)));
        new = λ none col free. absurd (All-contains (λ (before : Row). row_key table before ≢ row_key table row) old held none has same);
        rest = λ col other. own_cell is_free held row size col (false_from_ne_true (is_free col) other);
      }

  -- where none is
  pub without_held : (row : Row) → ((before : Row) → Contains old before → row_key table before ≢ row_key table row) → IsKeptRow Free table old row row
  without_held row none = record {
    stays = all_from_members (λ (before : Row). row_key table before ≡ row_key table row → (col : ColId) → Free col → cell_of row col ≡ cell_of before col) old
        (λ before has is. absurd (none before has is));
    new = λ others col free. refl;
    rest = λ col other. refl;
  }

module _ (is_free : ColId → Bool) (table : Table) (old fresh : List Row) (groups : List (KeyGroup SidedRow)) (are : AreRowGroups table.key old fresh groups)
    (long : All (λ row. length row.cells ≡ length table.cols) old) (fresh_long : All (λ row. length row.cells ≡ length table.cols) fresh)
    (apart : AreToldApartBy table.key old) where
  abbrev key_of : KeyGroup SidedRow → List Value
  key_of group = shown_cells group.key

  is_long : (rows : List Row) → All (λ row. length row.cells ≡ length table.cols) rows → (row : Row) → Contains rows row → length row.cells ≡ length table.cols
  is_long rows all row has = All-contains (λ (one : Row). length one.cells ≡ length table.cols) rows row all has

  -- what a group gives
  pub record IsGiven (group : KeyGroup SidedRow) (row : Row) : Type 0 where
    one : Row
    has : Contains fresh one
    kept : IsKeptRow (Free is_free table old fresh) table old one row
    own : row_key table one ≡ key_of group
    cells : length row.cells ≡ length table.cols

  module _ (group : KeyGroup SidedRow) (there : Contains groups group) where
    given : (one two : Option (Bor Row)) → first_of Before group.items.items ≡ one → first_of Afterwards group.items.items ≡ two → (row : Row) → Contains (kept_by is_free one two) row
        → IsGiven group row
    given (Some held) (Some new) first second row has = ⊎_elim
        (λ (is : row ≡ record { cells = kept_cells is_free held.now new.now.cells }). (
        let was = row_before table.key old fresh groups are group there held first in
        let now = row_afterwards table.key old fresh groups are group there new second in
        record {
          one = new.now;
          has = now.0;
          kept = subst (IsKeptRow (Free is_free table old fresh) table old new.now) (sym is)
              (with_held is_free table old fresh long fresh_long apart held.now new.now was.0 now.0 (was.1 ∙ sym now.1));
          own = now.1;
          cells = ap (λ (it : Row). length it.cells) is ∙ kept_long is_free held.now new.now (is_long old long held.now was.0 ∙ sym (is_long fresh fresh_long new.now now.0))
              ∙ is_long fresh fresh_long new.now now.0;
        }))
        (λ (never : Contains [] row). absurd (contains_nil row never))
        (contains_cons_cases (record { cells = kept_cells is_free held.now new.now.cells }) [] row has)
    given None (Some new) first second row has = ⊎_elim
        (λ (is : row ≡ new.now). (
        let now = row_afterwards table.key old fresh groups are group there new second in
        record {
          one = new.now;
          has = now.0;
          kept = subst (IsKeptRow (Free is_free table old fresh) table old new.now) (sym is)
              (without_held is_free table old fresh new.now (λ before stands same. none_before table.key old fresh groups are group there first before stands (same ∙ now.1)));
          own = now.1;
          cells = ap (λ (it : Row). length it.cells) is ∙ is_long fresh fresh_long new.now now.0;
        }))
        (λ (never : Contains [] row). absurd (contains_nil row never))
        (contains_cons_cases new.now [] row has)
    given (Some held) None first second row has = absurd (contains_nil row has)
    given None None first second row has = absurd (contains_nil row has)

    is_given : (row : Row) → Contains (kept_of is_free group) row → IsGiven group row
    is_given row has = given (first_of Before group.items.items) (first_of Afterwards group.items.items) refl refl row has

    own_key : (row : Row) → Contains (kept_of is_free group) row → row_key table row ≡ key_of group
    own_key row has = let is = is_given row has in kept_key is_free table old fresh is.one row is.kept ∙ is.own

    -- and it gives one for each fresh row of its key
    gives : AreToldApartBy table.key fresh → (one two : Option (Bor Row)) → first_of Before group.items.items ≡ one → first_of Afterwards group.items.items ≡ two
        → (new : Row) → Contains fresh new → row_key table new ≡ key_of group
        → (row : Row) × Contains (kept_by is_free one two) row
    gives fresh_apart (Some held) (Some found) first second new has is =
        (record { cells = kept_cells is_free held.now found.now.cells }, contains_head (record { cells = kept_cells is_free held.now found.now.cells }) [])
    gives fresh_apart None (Some found) first second new has is = (found.now, contains_head found.now [])
    gives fresh_apart (Some held) None first second new has is = absurd (none_afterwards table.key old fresh groups are group there second new has is)
    gives fresh_apart None None first second new has is = absurd (none_afterwards table.key old fresh groups are group there second new has is)

  one_kept : (one two : Option (Bor Row)) → HaveRisingKeys table.key (kept_by is_free one two)
  one_kept (Some held) (Some new) = λ i j d below within. absurd (omega (arith, below, within))
  one_kept None (Some new) = λ i j d below within. absurd (omega (arith, below, within))
  one_kept (Some held) None = λ i j d below within. absurd (omega (arith, below, within))
  one_kept None None = λ i j d below within. absurd (omega (arith, below, within))

  -- what is given of all groups are the kept rows
  pub are_kept : AreToldApartBy table.key fresh → AreKeptRows (Free is_free table old fresh) table old fresh (flat_map (kept_of is_free) groups)
  are_kept fresh_apart = record {
    only = all_from_members (λ (row : Row). (one : Row) × Contains fresh one × IsKeptRow (Free is_free table old fresh) table old one row) (flat_map (kept_of is_free) groups) (λ row has.
        (let from = in_flat_map (kept_of is_free) groups row has in let is = is_given from.0 from.1 row from.2 in (is.one, is.has, is.kept)));
    all = λ new has. (
        let found = group_of table.key old fresh groups are new has in
        let given = gives found.0 found.1 fresh_apart (first_of Before found.0.items.items) (first_of Afterwards found.0.items.items) refl refl new has (sym found.2) in
        let is = is_given found.0 found.1 given.0 given.1 in
        let same : is.one ≡ new = told_apart table.key fresh fresh_apart is.one new is.has has (is.own ∙ found.2) in (
          given.0,
          contains_flat_map (kept_of is_free) groups found.0 given.0 found.1 given.1,
          subst (λ (one : Row). IsKeptRow (Free is_free table old fresh) table old one given.0) same is.kept,
        ));
    long = all_from_members (λ (row : Row). length row.cells ≡ length table.cols) (flat_map (kept_of is_free) groups) (λ row has.
        (let from = in_flat_map (kept_of is_free) groups row has in let is = is_given from.0 from.1 row from.2 in is.cells));
    rising = pairs_of_flat_map (λ (one later : KeyGroup SidedRow). slice_cmp value_cmp (key_of one) (key_of later) ≡ Less)
        (λ (one later : Row). slice_cmp value_cmp (row_key table one) (row_key table later) ≡ Less) (kept_of is_free) groups are.rising
        (λ group. one_kept (first_of Before group.items.items) (first_of Afterwards group.items.items))
        (λ one later x y has_one has_later rises has_x has_y.
        (λ i. slice_cmp value_cmp (own_key one has_one x has_x i) (own_key later has_later y has_y i)) ∙ rises);
  }
