-- Lists whose items agree place by place.
use Rattle.std.proofs.Common.{◌≡◌, ⊎_elim, List, [], ◌∷◌, ◌==◌, map, Bool, true, false, Contains, refl, sym, subst, ◌∙◌}
use Rattle.std.specs.List.{AllZip}
use Rattle.std.proofs.lemmas.Bool.Decides.{not_from_Decides}
use Rattle.round_trip.specs.Words.{PropId, ColId, Value, value_beside}
use Rattle.schema_laws.proofs.state_demand.lists.Ids.{Decides-prop}
use Rattle.schema_laws.proofs.state_demand.lists.Lists.{head_stands, member_cases, none_in_nil, tail_stands}
use Rattle.case_laws.proofs.lists.Beside.{beside_first, beside_later}

module _ {X Y : Type 0} (R : X → Y → Type 0) where
  -- an item of the second list has one of the first
  pub zip_second : (xs : List X) (ys : List Y) (y : Y) → AllZip R xs ys → Contains ys y → (x : X) × R x y
  zip_second xs [] y all has = absurd (none_in_nil y has)
  zip_second [] (w ∷ ys) y all has = absurd all
  zip_second (x ∷ xs) (w ∷ ys) y all has = ⊎_elim
      (λ (here : y ≡ w). (x, subst (R x) (sym here) all.0))
      (λ (later : Contains ys y). zip_second xs ys y all.1 later)
      (member_cases w ys y has)

  -- and one of the first has one of the second
  pub zip_first : (xs : List X) (ys : List Y) (x : X) → AllZip R xs ys → Contains xs x → (y : Y) × Contains ys y × R x y
  zip_first [] ys x all has = absurd (none_in_nil x has)
  zip_first (z ∷ xs) [] x all has = absurd all
  zip_first (z ∷ xs) (y ∷ ys) x all has = ⊎_elim
      (λ (here : x ≡ z). (y, head_stands y ys, subst (λ w. R w y) (sym here) all.0))
      (λ (later : Contains xs x). let rest = zip_first xs ys x all.1 later in (rest.0, tail_stands y ys rest.0 rest.1, rest.2))
      (member_cases z xs x has)

  -- what agrees so agrees in another way
  pub zip_turned : (S : X → Y → Type 0) → ((x : X) (y : Y) → R x y → S x y) → (xs : List X) (ys : List Y) → AllZip R xs ys → AllZip S xs ys
  zip_turned S turn [] [] all = tt
  zip_turned S turn [] (y ∷ ys) all = absurd all
  zip_turned S turn (x ∷ xs) [] all = absurd all
  zip_turned S turn (x ∷ xs) (y ∷ ys) all = (turn x y all.0, zip_turned S turn xs ys all.1)

-- the value beside a property, where the values are made of what agrees with the properties
pub beside_zip : (R : PropId → ColId → Type 0) (cell : ColId → Value) (props : List PropId) (cols : List ColId) → AllZip R props cols → (prop : PropId) → Contains props prop
    → (col : ColId) × R prop col × (value_beside prop props (map cell cols) ≡ cell col)
beside_zip R cell [] cols zip prop has = absurd (none_in_nil prop has)
beside_zip R cell (p ∷ props) [] zip prop has = absurd zip
beside_zip R cell (p ∷ props) (c ∷ cols) zip prop has = by (beside_zip R cell props cols zip.1 prop) (p.index == prop.index) refl
  where
    by : (Contains props prop → (col : ColId) × R prop col × (value_beside prop props (map cell cols) ≡ cell col))
        → (b : Bool) → p.index == prop.index ≡ b → (col : ColId) × R prop col × (value_beside prop (p ∷ props) (map cell (c ∷ cols)) ≡ cell col)
    by past true told =
        let same : p ≡ prop = (Decides-prop p prop).0 told in
        let here : value_beside p (p ∷ props) (map cell (c ∷ cols)) ≡ cell c = beside_first p props (cell c) (map cell cols) in
        (c, subst (λ q. R q c) same zip.0, subst (λ q. value_beside q (p ∷ props) (map cell (c ∷ cols)) ≡ cell c) same here)
    by past false told =
        let other : ¬ (p ≡ prop) = not_from_Decides (p.index == prop.index) (Decides-prop p prop) told in
        ⊎_elim
        (λ (here : prop ≡ p). absurd (other (sym here)))
        (λ (later : Contains props prop).
        let rest = past later in
        (rest.0, rest.1, beside_later p prop props (cell c) (map cell cols) other ∙ rest.2))
        (member_cases p props prop has)
