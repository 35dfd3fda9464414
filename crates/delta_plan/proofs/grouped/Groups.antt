-- The rows of two tables that stand in one group, and what is given of all groups.
use Rattle.std.proofs.Common.{◌≡◌, ◌≢◌, ◌∷◌, ◌∙◌, [], List, Contains, Option, Some, None, ⊎_elim, ap, arith, refl, subst, sym}
use Rattle.std.specs.Borrow.{Bor}
use Rattle.std.specs.Cmp.Lexicographic.{slice_cmp}
use Rattle.std.specs.List.{flat_map}
use Rattle.std.specs.Option.{option_copied}
use Rattle.std.specs.declared.cmp.Ordering.TheVariants.{Less}
use Rattle.emc_base.proofs.FoundItems.{contains_flat_map}
use Rattle.emc_base.proofs.Joined.{in_flat_map}
use Rattle.emc_base.proofs.Lists.{all_from_members}
use Rattle.schema_laws.proofs.state_demand.lists.Lists.{same_by_key}
use Rattle.emc_base.proofs.Members.{contains_cons_cases, contains_head, contains_nil}
use Rattle.emc_base.proofs.Numbered.{map_contains}
use Rattle.emc_base.specs.Order.{value_cmp}
use Rattle.round_trip.specs.Words.{ColId, Row, Value, cells_of}
use Rattle.table_files.specs.InOrder.{AreToldApartBy}
use Rattle.keyed_rows.specs.declared.row_groups.groups.KeyGroup.{KeyGroup}
use Rattle.keyed_rows.specs.row_groups.Shown.{shown_cells}
use Rattle.row_plans.specs.Altered.{first_of}
use Rattle.row_plans.specs.Sides.{AreRowGroups}
use Rattle.row_plans.specs.declared.altered.sides.Side.TheVariants.{Before, Afterwards}
use Rattle.row_plans.specs.declared.altered.sides.SidedRow.{SidedRow}
use Rattle.row_plans.proofs.altering.FirstOf.{found_row, none_found}
use Rattle.row_plans.proofs.altering.InTable.{pairs_of_flat_map}
use Rattle.delta_plan.specs.Keeping.{AreHeldRows, HaveRisingKeys, held_by, held_of}

-- two rows that are told apart by other keys are one where these are one
pub told_apart : (key : List ColId) (rows : List Row) → AreToldApartBy key rows → (one other : Row) → Contains rows one → Contains rows other → cells_of one key ≡ cells_of other key
    → one ≡ other
told_apart key rows apart one other has_one has_other same = same_by_key (λ row. cells_of row key) rows one other apart has_one has_other same

module _ (key : List ColId) (old new : List Row) (groups : List (KeyGroup SidedRow)) (are : AreRowGroups key old new groups) where
  abbrev key_of : KeyGroup SidedRow → List Value
  key_of group = shown_cells group.key

  -- the row that stood before, and the one that stands afterwards
  pub row_before : (group : KeyGroup SidedRow) → Contains groups group → (row : Bor Row) → first_of Before group.items.items ≡ Some row
      → Contains old row.now × (cells_of row.now key ≡ key_of group)
  row_before group there row is = (are.rows group Before row.now there).0 (found_row Before group.items.items row.now (ap option_copied is))

  pub row_afterwards : (group : KeyGroup SidedRow) → Contains groups group → (row : Bor Row) → first_of Afterwards group.items.items ≡ Some row
      → Contains new row.now × (cells_of row.now key ≡ key_of group)
  row_afterwards group there row is = (are.rows group Afterwards row.now there).0 (found_row Afterwards group.items.items row.now (ap option_copied is))

  pub none_before : (group : KeyGroup SidedRow) → Contains groups group → first_of Before group.items.items ≡ None → (row : Row) → Contains old row
      → cells_of row key ≢ key_of group
  none_before group there none row has is = none_found Before group.items.items (ap option_copied none) row ((are.rows group Before row there).1 (has, is))

  pub none_afterwards : (group : KeyGroup SidedRow) → Contains groups group → first_of Afterwards group.items.items ≡ None → (row : Row) → Contains new row
      → cells_of row key ≢ key_of group
  none_afterwards group there none row has is = none_found Afterwards group.items.items (ap option_copied none) row ((are.rows group Afterwards row there).1 (has, is))

  -- the group of a row afterwards
  pub group_of : (row : Row) → Contains new row → (group : KeyGroup SidedRow) × Contains groups group × (key_of group ≡ cells_of row key)
  group_of row has = map_contains key_of groups (cells_of row key) (are.all Afterwards row has)

  module _ (group : KeyGroup SidedRow) (there : Contains groups group) where
    -- the held row of a group stood before, and one of its key is wanted
    held_is : (one two : Option (Bor Row)) → first_of Before group.items.items ≡ one → first_of Afterwards group.items.items ≡ two → (row : Row) → Contains (held_by one two) row
        → Contains old row × ((wanted : Row) × Contains new wanted × (cells_of wanted key ≡ cells_of row key)) × (cells_of row key ≡ key_of group)
    held_is (Some held) (Some wanted) first second row has = ⊎_elim
        (λ (is : row ≡ held.now). (
        let was = row_before group there held first in
        let now = row_afterwards group there wanted second in
        let own : cells_of row key ≡ key_of group = ap (λ one. cells_of one key) is ∙ was.1 in
        (subst (Contains old) (sym is) was.0, (wanted.now, now.0, now.1 ∙ sym own), own)))
        (λ (never : Contains [] row). absurd (contains_nil row never))
        (contains_cons_cases held.now [] row has)
    held_is (Some held) None first second row has = absurd (contains_nil row has)
    held_is None two first second row has = absurd (contains_nil row has)

    is_held : (row : Row) → Contains (held_of group) row
        → Contains old row × ((wanted : Row) × Contains new wanted × (cells_of wanted key ≡ cells_of row key)) × (cells_of row key ≡ key_of group)
    is_held row has = held_is (first_of Before group.items.items) (first_of Afterwards group.items.items) refl refl row has

    -- where one of its key is wanted, the row that stood before is held
    holds : (apart : AreToldApartBy key old) (one two : Option (Bor Row)) → first_of Before group.items.items ≡ one → first_of Afterwards group.items.items ≡ two
        → (row wanted : Row) → Contains old row → Contains new wanted → cells_of row key ≡ key_of group → cells_of wanted key ≡ key_of group → Contains (held_by one two) row
    holds apart (Some held) (Some found) first second row wanted has wants is wanted_is =
        let was = row_before group there held first in
        subst (Contains (held.now ∷ [])) (told_apart key old apart held.now row was.0 has (was.1 ∙ sym is)) (contains_head held.now [])
    holds apart (Some held) None first second row wanted has wants is wanted_is = absurd (none_afterwards group there second wanted wants wanted_is)
    holds apart None two first second row wanted has wants is wanted_is = absurd (none_before group there first row has is)

  one_held : (one two : Option (Bor Row)) → HaveRisingKeys key (held_by one two)
  one_held (Some held) (Some wanted) = λ i j d below within. absurd (omega (arith, below, within))
  one_held (Some held) None = λ i j d below within. absurd (omega (arith, below, within))
  one_held None two = λ i j d below within. absurd (omega (arith, below, within))

  -- what is given of all groups are the held rows
  pub are_held : AreToldApartBy key old → AreHeldRows key old new (flat_map held_of groups)
  are_held apart = record {
    only = all_from_members (λ (row : Row). Contains old row × ((one : Row) × Contains new one × (cells_of one key ≡ cells_of row key))) (flat_map held_of groups) (λ row has.
        (let from = in_flat_map held_of groups row has in let is = is_held from.0 from.1 row from.2 in (is.0, is.1)));
    all = λ row one has wanted same. (
        let found = group_of one wanted in
        contains_flat_map held_of groups found.0 row found.1
        (holds found.0 found.1 apart (first_of Before found.0.items.items) (first_of Afterwards found.0.items.items) refl refl row one has wanted (sym same ∙ sym found.2) (sym found.2)));
    rising = pairs_of_flat_map (λ (one later : KeyGroup SidedRow). slice_cmp value_cmp (key_of one) (key_of later) ≡ Less)
        (λ (one later : Row). slice_cmp value_cmp (cells_of one key) (cells_of later key) ≡ Less) held_of groups are.rising
        (λ group. one_held (first_of Before group.items.items) (first_of Afterwards group.items.items))
        (λ one later x y has_one has_later rises has_x has_y.
        (λ i. slice_cmp value_cmp ((is_held one has_one x has_x).2 i) ((is_held later has_later y has_y).2 i)) ∙ rises);
  }
