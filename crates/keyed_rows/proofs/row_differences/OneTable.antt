-- The first row in which one table differs from another, among groups of their rows.
use Rattle.std.proofs.Common.{◌≡◌, ◌≢◌, ⊎_elim, ℕ, ◌+◌, ◌<◌, ◌≤◌, List, [], ◌∷◌, ◌++◌, length, get_or, take, Bool, true, false, is_some, All, Contains, Option, Some, None, refl, sym, ap, subst, ◌∙◌, arith}
use Rattle.std.specs.Cmp.{tied_itself}
use Rattle.std.specs.Cmp.Lexicographic.{slice_cmp}
use Rattle.std.specs.declared.cmp.Ordering.TheVariants.{Less, Equal, Greater}
use Rattle.std.specs.Ordering.{ordering_reverse}
use Rattle.std.proofs.lemmas.Bool.{cases_eq, cases_lt}
use Rattle.std.proofs.lemmas.List.{get_or-take, get_or_default, length-take, take_more}
use Rattle.std.proofs.lemmas.List.Elements.{All-contains, All-push}
use Rattle.emc_base.proofs.Lists.{all_from_members}
use Rattle.emc_base.proofs.Numbered.{map_contains}
use Rattle.emc_base.specs.Order.{value_cmp}
use Rattle.emc_base.specs.OrderLaws.{key_cmp_total}
use Rattle.round_trip.specs.Words.{ColId, Value, Table, Row, cells_of}
use Rattle.table_files.specs.InOrder.{AreToldApartBy}
use Rattle.keyed_rows.specs.row_groups.Shown.{shown_cells}
use Rattle.keyed_rows.specs.declared.row_groups.groups.KeyGroup.{KeyGroup}
use Rattle.keyed_rows.specs.row_differences.Differences.{IsRowAt, RowsDiffer}
use Rattle.keyed_rows.specs.row_differences.InTable.{DifferInTable, IsFirstInTable, TellsInTable, TellsOfGroup}
use Rattle.keyed_rows.specs.row_differences.Sides.{AreRowGroups, IsRowOf, rows_of}
use Rattle.keyed_rows.specs.declared.row_differences.differences.Difference.{Difference}
use Rattle.keyed_rows.specs.declared.row_differences.sides.Side.{Side}
use Rattle.keyed_rows.specs.declared.row_differences.sides.Side.TheVariants.{Held, Demanded}
use Rattle.keyed_rows.specs.declared.row_differences.sides.SidedRow.{SidedRow}
use Rattle.keyed_rows.proofs.row_differences.KeyedRows.{one_row_at}

-- the rows of the group's key don't differ
abbrev pub IsClean : (ColId → Bool) → Table → List Row → List Row → KeyGroup SidedRow → Type 0
IsClean is_free table held demanded group = (one two : Option Row) → ¬ DifferInTable is_free table held demanded (shown_cells group.key) one two

-- a key isn't below itself, and no two keys are below one another
not_below : (x y : List Value) → x ≡ y → ¬ (slice_cmp value_cmp x y ≡ Less)
not_below x y same less = equal_is_not (sym (ap (slice_cmp value_cmp x) (sym same) ∙ tied_itself key_cmp_total x) ∙ less)
  where
    equal_is_not : ¬ (Equal ≡ Less)
    equal_is_not is = cc

not_both : (x y : List Value) → slice_cmp value_cmp x y ≡ Less → ¬ (slice_cmp value_cmp y x ≡ Less)
not_both x y less back = less_is_not (sym less ∙ key_cmp_total.antisymm x y ∙ ap ordering_reverse back)
  where
    less_is_not : ¬ (Less ≡ Greater)
    less_is_not is = cc

module _ (is_free : ColId → Bool) (table : Table) (held demanded : List Row) (groups : List (KeyGroup SidedRow)) (are : AreRowGroups table.key held demanded groups) where
  abbrev Clean : KeyGroup SidedRow → Type 0
  Clean = IsClean is_free table held demanded

  -- the rows of a group are as long as their tables say
  pub rows_as_long : (size : ℕ) → All (λ row. length row.cells ≡ size) held → All (λ row. length row.cells ≡ size) demanded
      → (group : KeyGroup SidedRow) → Contains groups group → All (λ one. length one.row.now.cells ≡ size) group.items.items
  rows_as_long size shape demanded_shape group there = all_from_members (λ (one : SidedRow). length one.row.now.cells ≡ size) group.items.items each
    where
      of_side : (side : Side) (row : Row) → Contains (rows_of held demanded side) row → length row.cells ≡ size
      of_side Held row has = All-contains (λ (r : Row). length r.cells ≡ size) held row shape has
      of_side Demanded row has = All-contains (λ (r : Row). length r.cells ≡ size) demanded row demanded_shape has

      each : (one : SidedRow) → Contains group.items.items one → length one.row.now.cells ≡ size
      each one has = of_side one.side one.row.now ((are.rows group one.side one.row.now there).0 (one, has, refl, refl)).0

  -- the row of a side in a group is that of its key
  row_at : (group : KeyGroup SidedRow) → Contains groups group → (side : Side) (found : Option Row) → IsRowOf side group.items.items found
      → IsRowAt table (rows_of held demanded side) (shown_cells group.key) found
  row_at group there side None none = all_from_members (λ row. cells_of row table.key ≢ shown_cells group.key) (rows_of held demanded side)
      (λ row has same.
      let stands = (are.rows group side row there).1 (has, same) in
      All-contains (λ (one : SidedRow). one.side ≢ side) group.items.items stands.0 none stands.1 stands.2)
  row_at group there side (Some row) has = (are.rows group side row there).0 has

  -- rows that differ are those of some group
  some_group : (key : List Value) (one two : Option Row) → DifferInTable is_free table held demanded key one two → (group : KeyGroup SidedRow) × Contains groups group × (shown_cells group.key ≡ key)
  some_group key None None differ = absurd differ.2
  some_group key (Some row) two differ = by Held row differ.0.0 differ.0.1
    where
      by : (side : Side) (r : Row) → Contains (rows_of held demanded side) r → cells_of r table.key ≡ key → (group : KeyGroup SidedRow) × Contains groups group × (shown_cells group.key ≡ key)
      by side r has is =
          let found = map_contains (λ (group : KeyGroup SidedRow). shown_cells group.key) groups (cells_of r table.key) (are.all side r has) in
          (found.0, found.1, found.2 ∙ is)
  some_group key None (Some row) differ = by Demanded row differ.1.0 differ.1.1
    where
      by : (side : Side) (r : Row) → Contains (rows_of held demanded side) r → cells_of r table.key ≡ key → (group : KeyGroup SidedRow) × Contains groups group × (shown_cells group.key ≡ key)
      by side r has is =
          let found = map_contains (λ (group : KeyGroup SidedRow). shown_cells group.key) groups (cells_of r table.key) (are.all side r has) in
          (found.0, found.1, found.2 ∙ is)

  -- where all groups are clean, no rows differ
  pub none_differ : All Clean groups → (key : List Value) (one two : Option Row) → ¬ DifferInTable is_free table held demanded key one two
  none_differ clean key one two differ =
      let found = some_group key one two differ in
      let P : List Value → Type 0 = λ k. DifferInTable is_free table held demanded k one two in
      All-contains Clean groups found.0 clean found.1 one two (subst P (sym found.2) differ)

  -- what stands below a number is among the first so many
  among_first : {X : Type 0} (i : ℕ) (xs : List X) (x : X) (j : ℕ) → j < i → get_or xs j x ≡ x → j < length xs → Contains (take i xs) x
  among_first i xs x j below is within = (j, omega (arith, length-take i xs), get_or-take i xs j x below ∙ is)

  module _ (apart : AreToldApartBy table.key held) (demanded_apart : AreToldApartBy table.key demanded) (group : KeyGroup SidedRow) where
    -- a group whose rows are told not to differ is clean
    pub clean_group : Contains groups group → TellsOfGroup is_free table group None → Clean group
    clean_group there told one two differ =
        let is_one : one ≡ told.one = one_row_at table held apart (shown_cells group.key) one told.one differ.0 (row_at group there Held told.one told.is_one) in
        let is_two : two ≡ told.two = one_row_at table demanded demanded_apart (shown_cells group.key) two told.two differ.1 (row_at group there Demanded told.two told.is_two) in
        let P : Option Row → Type 0 = λ o. RowsDiffer is_free table o two in
        let Q : Option Row → Type 0 = λ o. RowsDiffer is_free table told.one o in
        told.tells (subst Q is_two (subst P is_one differ.2))

    module _ (i : ℕ) (within : i < length groups) (here : get_or groups i group ≡ group) (before : All Clean (take i groups)) where
      there : Contains groups group
      there = (i, within, here)

      -- no rows of an earlier key differ
      earlier : (other : List Value) (one two : Option Row) → slice_cmp value_cmp other (shown_cells group.key) ≡ Less → ¬ DifferInTable is_free table held demanded other one two
      earlier other one two less differ =
          let found = some_group other one two differ in
          let j : ℕ = found.1.0 in
          let j_in : j < length groups = found.1.1 in
          let at_j : get_or groups j found.0 ≡ found.0 = found.1.2 in
          let key : KeyGroup SidedRow → List Value = λ one. shown_cells one.key in
          ⊎_elim
          (λ (same : j ≡ i).
          let one_group : found.0 ≡ group = sym at_j ∙ get_or_default groups j found.0 group j_in ∙ ap (λ k. get_or groups k group) same ∙ here in
          not_below other (key group) (sym found.2 ∙ ap key one_group) less)
          (λ differs. ⊎_elim
          (λ (below : j < i).
          let P : List Value → Type 0 = λ k. DifferInTable is_free table held demanded k one two in
          All-contains Clean (take i groups) found.0 before (among_first i groups found.0 j below at_j j_in) one two (subst P (sym found.2) differ))
          (λ (above : i ≤ j).
          let rises : slice_cmp value_cmp (key group) other ≡ Less =
          (λ k. slice_cmp value_cmp (key (sym here k)) (sym found.2 k)) ∙ (λ k. slice_cmp value_cmp (key (get_or groups i group)) (key (sym at_later k))) ∙ are.rising i j group (omega (arith, differs)) j_in in
          not_both (key group) other rises less)
          (cases_lt j i))
          (cases_eq j i)
        where
          at_later : get_or groups (some_group other one two differ).1.0 group ≡ (some_group other one two differ).0
          at_later = let found = some_group other one two differ in get_or_default groups found.1.0 group found.0 found.1.1 ∙ found.1.2

      -- and one whose rows are told to differ, behind clean ones, is the first
      first_group : (found : Difference) → TellsOfGroup is_free table group (Some found) → IsFirstInTable is_free table held demanded found
      first_group found told =
          let is = told.tells.1 in
          let At_held : Option Row → Type 0 = λ o. IsRowAt table held (shown_cells group.key) o in
          let At_demanded : Option Row → Type 0 = λ o. IsRowAt table demanded (shown_cells group.key) o in
          let First : Option Row → Type 0 = λ o. RowsDiffer is_free table o told.two in
          let Second : Option Row → Type 0 = λ o. RowsDiffer is_free table found.held o in
          record {
            key = shown_cells group.key;
            differ = (
              subst At_held (sym is.held) (row_at group there Held told.one told.is_one),
              subst At_demanded (sym is.demanded) (row_at group there Demanded told.two told.is_two),
              subst Second (sym is.demanded) (subst First (sym is.held) told.tells.0),
            );
            first = earlier;
            told = is.told;
          }

      -- so what is told of such a group is told of the table
      pub some_told : (found : Option Difference) → true ≡ is_some found → TellsOfGroup is_free table group found → TellsInTable is_free table held demanded found
      some_told None is told = cc
      some_told (Some found) is told = first_group found told

      -- and where nothing is told, it is clean too
      pub none_told : (found : Option Difference) → false ≡ is_some found → TellsOfGroup is_free table group found → All Clean (take (i + 1) groups)
      none_told None is told =
          let next : take (i + 1) groups ≡ take i groups ++ group ∷ [] = take_more groups i group within ∙ ap (λ last. take i groups ++ last ∷ []) here in
          subst (All Clean) (sym next) (All-push Clean (take i groups) group before (clean_group there told))
      none_told (Some found) is told = cc
