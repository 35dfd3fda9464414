-- Rows of a table that is lent.
use Rattle.std.proofs.Common.{◌≡◌, ℕ, suc, Bool, true, false, cond, List, [], ◌∷◌, Option, Some, None, refl, ap, ◌∙◌, Bor}
use Rattle.std.specs.Option.{option_map, option_or}
use Rattle.std.proofs.lemmas.Slice.Eq.{bytes_eq-Decides}
use Rattle.std.specs.List.{find}
use Rattle.std.specs.Str.{bytes_eq}
use Rattle.layouts.specs.declared.form.Entry.{Entry}
use Rattle.emc_base.specs.Lists.{At}
use Rattle.layouts.specs.declared.form.Entry.TheVariants.{Required, Optional, LeftOut}
use Rattle.layouts.specs.declared.form.Form.{Form}
use Rattle.layouts.specs.declared.form.Form.TheVariants.{One}
use Rattle.layouts.specs.declared.form.Leaf.TheVariants.{Any}
use Rattle.layouts.specs.declared.form.Shape.{Shape}
use Rattle.layouts.specs.Forms.{IsRequired}
use Rattle.layouts.specs.Layouts.{as_rows, everywhere, is_left_out, is_passed_over, row_of, rows_of}

picked : (b : Bool) (row : Bor (List ℕ) × Entry) (lent : Option (Bor (List ℕ) × Entry)) (own : Option (List ℕ × Entry))
    → option_map (λ found. found.1) lent ≡ option_map (λ found. found.1) own
    → option_map (λ found. found.1) (cond b (Some row) lent) ≡ option_map (λ found. found.1) (cond b (Some (row.0.now, row.1)) own)
picked true row lent own same = refl
picked false row lent own same = same

-- the row that is found where the table is lent
pub row_lent : (rows : List (Bor (List ℕ) × Entry)) (name : List ℕ)
    → option_map (λ row. row.1) (find (λ row. bytes_eq row.0.now name) rows) ≡ row_of (as_rows rows) name
row_lent [] name = refl
row_lent (row ∷ rows) name = picked (bytes_eq row.0.now name) row _ _ (row_lent rows name)

-- nothing has to be there wherever it stands
never_required : (passed left : Bool) (form inner : Form) → cond passed (Some (Optional inner)) (cond left (Some LeftOut) None) ≡ Some (Required form) → ⊥
never_required true left form inner is = absurd cc
never_required false true form inner is = absurd cc
never_required false false form inner is = absurd cc

-- the row that is found
found_row : (rows : List (Bor (List ℕ) × Entry)) (name : List ℕ) (entry : Entry) → row_of (as_rows rows) name ≡ Some entry
    → (i : ℕ) × (row : Bor (List ℕ) × Entry) × At rows i row × (row.0.now ≡ name)
found_row [] name entry is = absurd cc
found_row (row ∷ rows) name entry is = by (bytes_eq row.0.now name) refl is (found_row rows name entry)
  where
    by : (b : Bool) → bytes_eq row.0.now name ≡ b
        → option_map (λ found. found.1) (cond b (Some (row.0.now, row.1)) (find (λ other. bytes_eq other.0 name) (as_rows rows))) ≡ Some entry
        → (row_of (as_rows rows) name ≡ Some entry → (i : ℕ) × (found : Bor (List ℕ) × Entry) × At rows i found × (found.0.now ≡ name))
        → (i : ℕ) × (found : Bor (List ℕ) × Entry) × At (row ∷ rows) i found × (found.0.now ≡ name)
    by true same here more = (0, row, refl, (bytes_eq-Decides row.0.now name).0 same)
    by false same there more = let found = more there in (suc found.0, found.1, found.2, found.3)

-- a member that has to be there has a row
pub required_row : (shape : Shape) (name : List ℕ) (rows : List (Bor (List ℕ) × Entry)) → as_rows rows ≡ rows_of shape → IsRequired shape name
    → (i : ℕ) × (row : Bor (List ℕ) × Entry) × At rows i row × (row.0.now ≡ name)
required_row shape name rows rows_are required = by (row_of (as_rows rows) name) refl
    (ap (λ own. option_or (row_of own name) (everywhere name)) rows_are ∙ required.1)
  where
    by : (row : Option Entry) → row_of (as_rows rows) name ≡ row → option_or row (everywhere name) ≡ Some (Required required.0)
        → (i : ℕ) × (found : Bor (List ℕ) × Entry) × At rows i found × (found.0.now ≡ name)
    by (Some entry) is own = found_row rows name entry is
    by None is own = absurd (never_required (is_passed_over name) (is_left_out name) required.0 (One Any) own)
