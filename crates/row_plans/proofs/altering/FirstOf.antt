-- The first row of a side is one of its rows; where there is none, no row is of that side.
use Rattle.std.proofs.Common.{◌≡◌, ⊎_elim, List, [], ◌∷◌, Bool, true, false, true≢false, Contains, None, Some, if◌then◌else◌, refl, sym, ap, ◌∙◌}
use Rattle.std.specs.Option.{option_copied}
use Rattle.std.proofs.lemmas.Option.{none-some, same_Some}
use Rattle.emc_base.proofs.Members.{contains_cons_cases, contains_head, contains_nil, contains_tail}
use Rattle.round_trip.specs.Words.{Row}
use Rattle.row_plans.specs.Altered.{first_of, is_side}
use Rattle.row_plans.specs.Sides.{StandsThere}
use Rattle.row_plans.specs.declared.altered.sides.Side.{Side}
use Rattle.row_plans.specs.declared.altered.sides.Side.TheVariants.{Before, Afterwards}
use Rattle.row_plans.specs.declared.altered.sides.SidedRow.{SidedRow}

-- the test of sides tells
same_side : (one other : Side) → is_side one other ≡ true → one ≡ other
same_side Before Before same = refl
same_side Afterwards Afterwards same = refl
same_side Before Afterwards same = cc
same_side Afterwards Before same = cc

is_itself : (side : Side) → is_side side side ≡ true
is_itself Before = refl
is_itself Afterwards = refl

-- what is told is a row of the side
pub found_row : (side : Side) (rows : List SidedRow) (row : Row) → option_copied (first_of side rows) ≡ Some row → StandsThere side rows row
found_row side [] row found = absurd (none-some row found)
found_row side (one ∷ rows) row found = by (is_side one.side side) refl found (found_row side rows row)
  where
    by : (b : Bool) → is_side one.side side ≡ b → option_copied (if b then Some one.row else first_of side rows) ≡ Some row
        → (option_copied (first_of side rows) ≡ Some row → StandsThere side rows row) → StandsThere side (one ∷ rows) row
    by true same found rest = (one, contains_head one rows, same_side one.side side same, same_Some one.row.now row found)
    by false other found rest = let later = rest found in (later.0, contains_tail one rows later.0 later.1, later.2, later.3)

-- where nothing is told, there is none
pub none_found : (side : Side) (rows : List SidedRow) → option_copied (first_of side rows) ≡ None → (row : Row) → ¬ StandsThere side rows row
none_found side [] none row has = contains_nil has.0 has.1
none_found side (one ∷ rows) none row has = by (is_side one.side side) refl none (λ later. none_found side rows later row)
  where
    by : (b : Bool) → is_side one.side side ≡ b → option_copied (if b then Some one.row else first_of side rows) ≡ None
        → (option_copied (first_of side rows) ≡ None → ¬ StandsThere side rows row) → ⊥
    by true same none rest = none-some one.row.now (sym none)
    by false other none rest = ⊎_elim
        (λ (here : has.0 ≡ one). true≢false (sym (is_itself side) ∙ ap (λ s. is_side s side) (sym has.2 ∙ ap (λ (x : SidedRow). x.side) here) ∙ other))
        (λ (later : Contains rows has.0). rest none (has.0, later, has.2, has.3))
        (contains_cons_cases one rows has.0 has.1)
