-- Groups of the rows of two sides.
use Rattle.std.proofs.Common.{◌≡◌, ⊎_elim, ◌<◌, List, ◌++◌, get_or, map, AllPairs, Contains, refl, sym, ap, subst, ◌∙◌, arith}
use Rattle.std.specs.Borrow.{Bor}
use Rattle.std.specs.Cmp.Lexicographic.{slice_cmp}
use Rattle.std.specs.Global.{Vec}
use Rattle.std.specs.declared.cmp.Ordering.TheVariants.{Less}
use Rattle.std.proofs.lemmas.List.{get_or-map, length-map}
use Rattle.std.proofs.lemmas.List.Elements.{All-contains, Contains-append_cases, Contains-append_left, Contains-append_right}
use Rattle.std.proofs.lemmas.Simd.{map-map}
use Rattle.emc_base.proofs.Mapped.{contains_map}
use Rattle.emc_base.proofs.Numbered.{map_contains}
use Rattle.emc_base.specs.Order.{value_cmp}
use Rattle.round_trip.specs.Words.{ColId, Value, Row, cells_of}
use Rattle.row_plans.proofs.altering.WithKey.{has_its_key, key_has}
use Rattle.keyed_rows.specs.row_groups.KeyGroups.{AreKeyGroups, with_key}
use Rattle.keyed_rows.specs.row_groups.Shown.{shown_cells, shown_group, shown_keyed}
use Rattle.keyed_rows.specs.declared.row_groups.groups.KeyGroup.{KeyGroup}
use Rattle.row_plans.specs.Sides.{AreRowGroups, StandsThere, keyed_row, rows_of, shown_sided}
use Rattle.row_plans.specs.declared.altered.sides.Side.{Side}
use Rattle.row_plans.specs.declared.altered.sides.Side.TheVariants.{Before, Afterwards}
use Rattle.row_plans.specs.declared.altered.sides.SidedRow.{SidedRow}

-- items are so by pairs as their images are
pairs_unmapped : {X Y : Type 0} (R : Y → Y → Type 0) (f : X → Y) (xs : List X) → AllPairs R (map f xs) → AllPairs (λ x z. R (f x) (f z)) xs
pairs_unmapped R f xs pairs i j d below within =
    let first : get_or (map f xs) i (f d) ≡ f (get_or xs i d) = get_or-map f xs i d (f d) (omega arith) in
    let second : get_or (map f xs) j (f d) ≡ f (get_or xs j d) = get_or-map f xs j d (f d) within in
    subst (λ y. R (f (get_or xs i d)) y) second
    (subst (λ y. R y (get_or (map f xs) j (f d))) first (pairs i j (f d) below (subst (λ n. j < n) (sym (length-map xs f)) within)))

module _ (cols : List ColId) (old new : List Row) (keyed : List (Vec (Bor Value) × SidedRow)) (groups : List (KeyGroup SidedRow))
    (are : map shown_sided keyed ≡ map (keyed_row Before cols) old ++ map (keyed_row Afterwards cols) new)
    (grouped : AreKeyGroups (map shown_keyed keyed) (map shown_group groups)) where
  abbrev all_rows : List (List Value × Side × Row)
  all_rows = map shown_sided keyed

  abbrev both : List (List Value × Side × Row)
  both = map (keyed_row Before cols) old ++ map (keyed_row Afterwards cols) new

  -- a row stands there with its cells and its side
  stands : (side : Side) (row : Row) → Contains (rows_of old new side) row → Contains all_rows (keyed_row side cols row)
  stands Before row has = subst (λ rows. Contains rows (keyed_row Before cols row)) (sym are)
      (Contains-append_left (map (keyed_row Before cols) old) (map (keyed_row Afterwards cols) new) (keyed_row Before cols row) (contains_map (keyed_row Before cols) old row has))
  stands Afterwards row has = subst (λ rows. Contains rows (keyed_row Afterwards cols row)) (sym are)
      (Contains-append_right (map (keyed_row Before cols) old) (map (keyed_row Afterwards cols) new) (keyed_row Afterwards cols row) (contains_map (keyed_row Afterwards cols) new row has))

  -- and nothing else does
  of_side : (from : Side) (row : Row) → Contains (rows_of old new from) row → (one : List Value × Side × Row) → keyed_row from cols row ≡ one
      → Contains (rows_of old new one.1) one.2 × (cells_of one.2 cols ≡ one.0)
  of_side from row has one is =
      let P : List Value × Side × Row → Type 0 = λ other. Contains (rows_of old new other.1) other.2 × (cells_of other.2 cols ≡ other.0) in
      subst P is (has, refl)

  of_rows : (one : List Value × Side × Row) → Contains all_rows one → Contains (rows_of old new one.1) one.2 × (cells_of one.2 cols ≡ one.0)
  of_rows one has = ⊎_elim
      (λ (first : Contains (map (keyed_row Before cols) old) one).
      let found = map_contains (keyed_row Before cols) old one first in of_side Before found.0 found.1 one found.2)
      (λ (second : Contains (map (keyed_row Afterwards cols) new) one).
      let found = map_contains (keyed_row Afterwards cols) new one second in of_side Afterwards found.0 found.1 one found.2)
      (Contains-append_cases (map (keyed_row Before cols) old) (map (keyed_row Afterwards cols) new) one (subst (λ rows. Contains rows one) are has))

  module _ (group : KeyGroup SidedRow) (there : Contains groups group) where
    abbrev key : List Value
    key = shown_cells group.key

    -- its items are those of its key
    its_items : group.items.items ≡ with_key (map shown_keyed keyed) key
    its_items = All-contains (λ (g : List Value × List SidedRow). g.1 ≡ with_key (map shown_keyed keyed) g.0) (map shown_group groups) (shown_group group) grouped.items
        (contains_map shown_group groups group there)

    forth : (side : Side) (row : Row) → StandsThere side group.items.items row → Contains (rows_of old new side) row × (cells_of row cols ≡ key)
    forth side row has =
        let one : SidedRow = has.0 in
        let with_its_key = has_its_key (map shown_keyed keyed) key one (subst (λ items. Contains items one) its_items has.1) in
        let found = map_contains shown_keyed keyed (key, one) with_its_key in
        let shows : shown_sided found.0 ≡ (key, one.side, one.row.now) = λ k. ((found.2 k).0, (found.2 k).1.side, (found.2 k).1.row.now) in
        let and_row : (key, one.side, one.row.now) ≡ (key, side, row) = λ k. (key, has.2 k, has.3 k) in
        of_rows (key, side, row) (subst (Contains all_rows) (shows ∙ and_row) (contains_map shown_sided keyed found.0 found.1))

    back : (side : Side) (row : Row) → Contains (rows_of old new side) row × (cells_of row cols ≡ key) → StandsThere side group.items.items row
    back side row has =
        let found = map_contains shown_sided keyed (keyed_row side cols row) (stands side row has.0) in
        let one : SidedRow = found.0.1 in
        let its_key : shown_cells found.0.0 ≡ key = ap (λ (shown : List Value × Side × Row). shown.0) found.2 ∙ has.1 in
        let P : List Value → Type 0 = λ k. Contains (map shown_keyed keyed) (k, one) in
        let with_its_key = key_has (map shown_keyed keyed) key one (subst P its_key (contains_map shown_keyed keyed found.0 found.1)) in (
          one,
          subst (λ items. Contains items one) (sym its_items) with_its_key,
          ap (λ (shown : List Value × Side × Row). shown.1) found.2,
          ap (λ (shown : List Value × Side × Row). shown.2) found.2,
        )

  -- each row has a group
  has_group : (side : Side) (row : Row) → Contains (rows_of old new side) row → Contains (map (λ (group : KeyGroup SidedRow). shown_cells group.key) groups) (cells_of row cols)
  has_group side row has =
      let found = map_contains shown_sided keyed (keyed_row side cols row) (stands side row has) in
      let first : List Value × List SidedRow → List Value = λ group. group.0 in
      let Grouped : List Value × SidedRow → Type 0 = λ one. Contains (map first (map shown_group groups)) one.0 in
      let in_group : Contains (map first (map shown_group groups)) (shown_cells found.0.0) =
      All-contains Grouped (map shown_keyed keyed) (shown_keyed found.0) grouped.all (contains_map shown_keyed keyed found.0 found.1) in
      let key : shown_cells found.0.0 ≡ cells_of row cols = ap (λ (shown : List Value × Side × Row). shown.0) found.2 in
      subst (λ keys. Contains keys (cells_of row cols)) (map-map first shown_group groups) (subst (Contains (map first (map shown_group groups))) key in_group)

  -- they are the groups of the rows
  pub are_row_groups : AreRowGroups cols old new groups
  are_row_groups = record {
    rising = pairs_unmapped (λ (one later : List Value × List SidedRow). slice_cmp value_cmp one.0 later.0 ≡ Less) shown_group groups grouped.rising;
    rows = λ group side row there. (forth group there side row, back group there side row);
    all = has_group;
  }
