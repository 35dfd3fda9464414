-- The part that a row gives, where none of its cells is null, and where one is.
use Rattle.std.proofs.Common.{◌≡◌, ◌++◌, List, [], ◌∷◌, map, Bool, true, false, Some, sym, ap, ◌∙◌, append-nil, append_assoc, ℕ, ◌+◌, refl, take}
use Rattle.std.specs.Prelude.{if◌then◌else◌}
use Rattle.std.specs.Borrow.{Bor}
use Rattle.std.specs.Global.{Vec}
use Rattle.std.specs.List.{flat_map, list_all}
use Rattle.std.proofs.lemmas.List.{map-append}
use Rattle.std.proofs.lemmas.List.Folds.{list_all-map}
use Rattle.emc_base.specs.Lists.{At}
use Rattle.emc_base.proofs.Turns.{flat_more}
use Rattle.round_trip.specs.Words.{ColId, ForeignKey, Row, Value, cells_of}
use Rattle.keyed_rows.specs.row_groups.Shown.{shown_cells, shown_keyed}
use Rattle.row_orders.specs.declared.alteration.Alteration.{Alteration}
use Rattle.row_plans.specs.Roles.{cols_in, is_value, part_by, part_with, parts_in, row_in}
use Rattle.row_plans.specs.declared.waiting.parts.Part.{Part}

module _ (key : ForeignKey) (alteration : Alteration) (part : Part) (row : Row) (is : row_in key part.role alteration ≡ Some row)
    (cells : Vec (Bor Value)) (cols : List ColId) (are_cols : cols ≡ cols_in key part.role) (are : shown_cells cells ≡ cells_of row cols)
    (whole : Bool) (tells : whole ≡ list_all (λ (cell : Bor Value). is_value cell.now) cells.items) where
  abbrev if_whole : Bool → List (List Value × Part)
  if_whole b = if b then (shown_cells cells, part) ∷ [] else []

  gives : parts_in key alteration part ≡ if_whole whole
  gives = ap (λ found. part_by key found part) is
      ∙ ap (λ list. part_with list part) (ap (cells_of row) (sym are_cols) ∙ sym are)
      ∙ ap if_whole (list_all-map is_value (λ (cell : Bor Value). cell.now) cells.items ∙ sym tells)

  -- it is given where none is null
  pub one_given : (before after : List (Vec (Bor Value) × Part)) → whole ≡ true → after ≡ before ++ (cells, part) ∷ []
      → map shown_keyed after ≡ map shown_keyed before ++ parts_in key alteration part
  one_given before after is_whole added = ap (map shown_keyed) added ∙ map-append shown_keyed before ((cells, part) ∷ [])
      ∙ ap (λ more. map shown_keyed before ++ more) (sym (gives ∙ ap if_whole is_whole))

  -- and none where one is
  pub none_given : (before : List (Vec (Bor Value) × Part)) → whole ≡ false → map shown_keyed before ≡ map shown_keyed before ++ parts_in key alteration part
  none_given before is_not = sym (append-nil (map shown_keyed before)) ∙ ap (λ more. map shown_keyed before ++ more) (sym (gives ∙ ap if_whole is_not))

-- what one more item gives was added
pub more_added : {X Y : Type 0} (f : X → List Y) (items : List X) (i : ℕ) (item : X) (start made now : List Y) → made ≡ start ++ flat_map f (take i items) → At items i item
    → now ≡ made ++ f item → now ≡ start ++ flat_map f (take (i + 1) items)
more_added f items i item start made now so here added = added ∙ ap (λ list. list ++ f item) so ∙ append_assoc start (flat_map f (take i items)) (f item)
    ∙ ap (λ list. start ++ list) (flat_more f items i item (flat_map f (take i items)) refl here)

pub next_added : {X Y : Type 0} (f : X → List Y) (items : List X) (i : ℕ) (item : X) (made now : List Y) → made ≡ flat_map f (take i items) → At items i item
    → now ≡ made ++ f item → now ≡ flat_map f (take (i + 1) items)
next_added f items i item made now so here added = added ∙ flat_more f items i item made so here
