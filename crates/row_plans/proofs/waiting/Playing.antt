-- Which row plays a role for a foreign key, and which parts stand in the list of all.
use Rattle.std.proofs.Common.{◌≡◌, ◌≢◌, ⊎_elim, ℕ, List, [], ◌∷◌, All, Bool, true, false, Contains, Option, Some, None, get_or, refl, sym, ap, subst, ◌∙◌, nat_eq, eqb-true, eq-eqb}
use Rattle.std.specs.Prelude.{if◌then◌else◌}
use Rattle.std.specs.List.{enumerate_from, list_all}
use Rattle.std.proofs.lemmas.List.Sums.{AllPass-from_list_all, list_all-from_AllPass}
use Rattle.emc_base.specs.Lists.{At}
use Rattle.emc_base.proofs.FoundItems.{contains_flat_map}
use Rattle.emc_base.proofs.Joined.{in_flat_map}
use Rattle.emc_base.proofs.Mapped.{contains_at, contains_enumerated}
use Rattle.emc_base.proofs.Members.{contains_cons_cases, contains_head, contains_nil}
use Rattle.emc_base.proofs.Numbered.{enumerated_at}
use Rattle.round_trip.specs.Words.{ForeignKey, Row, TableId, Value, Null, Whole, Flag, Text, Bytes, cells_of}
use Rattle.row_orders.specs.declared.alteration.Alteration.{Alteration}
use Rattle.row_orders.specs.Alterations.{new_row, old_row}
use Rattle.row_plans.specs.Roles.{all_parts, all_roles, cols_in, is_value, part_by, part_with, parts_at, parts_in, row_by, row_in}
use Rattle.row_plans.specs.declared.waiting.parts.Part.{Part}
use Rattle.row_plans.specs.declared.waiting.parts.Role.{Role}
use Rattle.row_plans.specs.declared.waiting.parts.Role.TheVariants.{Comes, Refers, Goes, Referred}

-- what is so where a test passes
some_if : (b : Bool) (found : Option Row) (row : Row) → (if b then found else None) ≡ Some row → (b ≡ true) × (found ≡ Some row)
some_if true found row is = (refl, is)
some_if false found row is = absurd cc

in_if : {X : Type 0} (b : Bool) (x y : X) → Contains (if b then x ∷ [] else []) y → (b ≡ true) × (y ≡ x)
in_if true x y has = (refl, ⊎_elim (λ (is : y ≡ x). is) (λ (no_more : Contains [] y). absurd (contains_nil y no_more)) (contains_cons_cases x [] y has))
in_if false x y has = absurd (contains_nil y has)

-- a value that isn't null
value_is : (value : Value) → is_value value ≡ true → ¬ (value ≡ Null)
value_is Null is same = absurd cc
value_is (Whole _) is same = absurd cc
value_is (Flag _) is same = absurd cc
value_is (Text _) is same = absurd cc
value_is (Bytes _) is same = absurd cc

is_one : (value : Value) → ¬ (value ≡ Null) → is_value value ≡ true
is_one Null other = absurd (other refl)
is_one (Whole _) other = refl
is_one (Flag _) other = refl
is_one (Text _) other = refl
is_one (Bytes _) other = refl

-- none of the values is null
pub all_values : (values : List Value) → list_all is_value values ≡ true → All (λ value. value ≢ Null) values
all_values values is k d inside = value_is (get_or values k d) (AllPass-from_list_all is_value values is k d inside)

pub are_values : (values : List Value) → All (λ value. value ≢ Null) values → list_all is_value values ≡ true
are_values values are = list_all-from_AllPass is_value values (λ k d inside. is_one (get_or values k d) (are k d inside))

comes : (old new : Option Row) (row : Row) → row_by Comes old new ≡ Some row → (old ≡ None) × (new ≡ Some row)
comes None new row is = (refl, is)
comes (Some _) new row is = absurd cc

goes : (old new : Option Row) (row : Row) → row_by Goes old new ≡ Some row → (new ≡ None) × (old ≡ Some row)
goes old None row is = (refl, is)
goes old (Some _) row is = absurd cc

same_table : (t u : TableId) → nat_eq t.index u.index ≡ true → u ≡ t
same_table t u is = let index : u.index ≡ t.index = sym (eqb-true t.index u.index is) in λ i. record { index = index i }

if_same : (t u : TableId) (found : Option Row) → u ≡ t → (if nat_eq t.index u.index then found else None) ≡ found
if_same t u found same = ap (λ (b : Bool). if b then found else None) (eq-eqb t.index u.index (ap (λ (id : TableId). id.index) (sym same)))

module _ (key : ForeignKey) where
  -- the row of an alteration has a role
  abbrev pub Plays : Role → Alteration → Row → Type 0
  Plays Comes one row = (one.table ≡ key.to) × (old_row one ≡ None) × (new_row one ≡ Some row)
  Plays Refers one row = (one.table ≡ key.from) × (new_row one ≡ Some row)
  Plays Goes one row = (one.table ≡ key.to) × (new_row one ≡ None) × (old_row one ≡ Some row)
  Plays Referred one row = (one.table ≡ key.from) × (old_row one ≡ Some row)

  pub plays : (role : Role) (one : Alteration) (row : Row) → row_in key role one ≡ Some row → Plays role one row
  plays Comes one row is =
      let found = some_if (nat_eq key.to.index one.table.index) (row_by Comes (old_row one) (new_row one)) row is in
      let both = comes (old_row one) (new_row one) row found.1 in
      (same_table key.to one.table found.0, both.0, both.1)
  plays Refers one row is =
      let found = some_if (nat_eq key.from.index one.table.index) (new_row one) row is in
      (same_table key.from one.table found.0, found.1)
  plays Goes one row is =
      let found = some_if (nat_eq key.to.index one.table.index) (row_by Goes (old_row one) (new_row one)) row is in
      let both = goes (old_row one) (new_row one) row found.1 in
      (same_table key.to one.table found.0, both.0, both.1)
  plays Referred one row is =
      let found = some_if (nat_eq key.from.index one.table.index) (old_row one) row is in
      (same_table key.from one.table found.0, found.1)

  pub played : (role : Role) (one : Alteration) (row : Row) → Plays role one row → row_in key role one ≡ Some row
  played Comes one row is = if_same key.to one.table (row_by Comes (old_row one) (new_row one)) is.0 ∙ (λ i. row_by Comes (is.1 i) (is.2 i))
  played Refers one row is = if_same key.from one.table (new_row one) is.0 ∙ is.1
  played Goes one row is = if_same key.to one.table (row_by Goes (old_row one) (new_row one)) is.0 ∙ (λ i. row_by Goes (is.2 i) (is.1 i))
  played Referred one row is = if_same key.from one.table (old_row one) is.0 ∙ is.1

  module _ (alterations : List Alteration) where
    -- the alteration at the part's place has a row in its role, with these cells, of which none is null
    pub record IsPart (cells : List Value) (part : Part) : Type 0 where
      pub one : Alteration
      pub at : At alterations part.place one
      pub row : Row
      pub plays : Plays part.role one row
      pub whole : list_all is_value cells ≡ true
      pub are : cells ≡ cells_of row (cols_in key part.role)

    -- what stands among the parts of one row
    in_part_by : (found : Option Row) (given part : Part) (cells : List Value) → Contains (part_by key found given) (cells, part)
        → (row : Row) × (found ≡ Some row) × (list_all is_value (cells_of row (cols_in key given.role)) ≡ true)
        × (cells ≡ cells_of row (cols_in key given.role)) × (part ≡ given)
    in_part_by None given part cells has = absurd (contains_nil (cells, part) has)
    in_part_by (Some row) given part cells has =
        let own : List Value = cells_of row (cols_in key given.role) in
        let both = in_if (list_all is_value own) (own, given) (cells, part) has in
        (row, refl, both.0, ap (λ (it : List Value × Part). it.0) both.1, ap (λ (it : List Value × Part). it.1) both.1)

    part_of_role : (place : ℕ) (one : Alteration) (role : Role) (cells : List Value) (part : Part) → At alterations place one
        → Contains (parts_in key one (record { place = place; role = role })) (cells, part) → IsPart cells part
    part_of_role place one role cells part at has =
        let given : Part = record { place = place; role = role } in
        let found = in_part_by (row_in key role one) given part cells has in
        let P : Part → Type 0 = λ it. IsPart cells it in
        let it : IsPart cells given = record {
          one = one;
          at = at;
          row = found.0;
          plays = plays role one found.0 found.1;
          whole = ap (list_all is_value) found.3 ∙ found.2;
          are = found.3;
        } in
        subst P (sym found.4) it

    pub is_part : (cells : List Value) (part : Part) → Contains (all_parts key alterations) (cells, part) → IsPart cells part
    is_part cells part has =
        let entry = in_flat_map (λ (entry : ℕ × Alteration). parts_at key entry.0 entry.1) (enumerate_from 0 alterations) (cells, part) has in
        let place : ℕ = entry.0.0 in
        let one : Alteration = entry.0.1 in
        let role = in_flat_map (λ (role : Role). parts_in key one (record { place = place; role = role })) all_roles (cells, part) entry.2 in
        part_of_role place one role.0 cells part (enumerated_at alterations entry.0 entry.1) role.2

    has_role : (role : Role) → Contains all_roles role
    has_role Comes = contains_at all_roles 0 Comes refl
    has_role Refers = contains_at all_roles 1 Refers refl
    has_role Goes = contains_at all_roles 2 Goes refl
    has_role Referred = contains_at all_roles 3 Referred refl

    pub part_listed : (cells : List Value) (part : Part) → IsPart cells part → Contains (all_parts key alterations) (cells, part)
    part_listed cells part is =
        let is_given : parts_in key is.one part ≡ (cells, part) ∷ [] =
        ap (λ found. part_by key found part) (played part.role is.one is.row is.plays) ∙ ap (λ list. part_with list part) (sym is.are)
        ∙ ap (λ (b : Bool). if b then (cells, part) ∷ [] else []) is.whole in
        let P : List (List Value × Part) → Type 0 = λ list. Contains list (cells, part) in
        let has : Contains (parts_in key is.one part) (cells, part) = subst P (sym is_given) (contains_head (cells, part) []) in
        contains_flat_map (λ (entry : ℕ × Alteration). parts_at key entry.0 entry.1) (enumerate_from 0 alterations) (part.place, is.one) (cells, part)
        (contains_enumerated alterations part.place is.one is.at)
        (contains_flat_map (λ (role : Role). parts_in key is.one (record { place = part.place; role = role })) all_roles part.role (cells, part) (has_role part.role) has)
