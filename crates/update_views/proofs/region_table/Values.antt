-- The digits of tested properties: the first atom in which the entity's value lies.
use Rattle.std.proofs.Common.{◌≡◌, ⊎_elim, ◌==◌, ◌+◌, ◌<◌, ℕ, List, [], ◌∷◌, length, map, slice_get, position, Contains, cond, Bool, true, false, true≢false, not, if◌then◌else◌, Option, Some, None, unwrap_or, Decides, refl, sym, ap, subst, ◌∙◌, one-add, arith}
use Rattle.std.specs.List.{list_any, position_or_len}
use Rattle.std.specs.Option.{option_map_or}
use Rattle.std.proofs.lemmas.Bool.Decides.{Decides-and, Decides-eqb, Decides-like, Decides-ltb, Decides-not}
use Rattle.emc_base.specs.Lists.{At}
use Rattle.emc_base.proofs.Mapped.{contains_at}
use Rattle.emc_base.proofs.Numbered.{map_contains}
use Rattle.emc_base.proofs.facts.Found.{position_passes}
use Rattle.round_trip.specs.Words.{PropId, Value, Null, Prop, Entity, Hosted, props_of, value_beside, value_of}
use Rattle.round_trip.specs.soundness.mappings.Joined.{prop}
use Rattle.condition_logic.specs.declared.atoms.Atom.{Atom}
use Rattle.condition_logic.specs.declared.atoms.Atom.TheVariants as atom
use Rattle.condition_logic.specs.declared.atoms.AtomOf.{AtomOf}
use Rattle.schema_laws.specs.state_demand.Selecting.{same_value}
use Rattle.schema_laws.proofs.state_demand.lists.Lists.{Decides-any, any_of, member_cases, none_in_nil, of_any}
use Rattle.schema_laws.proofs.state_demand.writings.Selecting.{Decides-value}
use Rattle.regions.specs.Atoms.{LiesIn, atoms_of}
use Rattle.regions.specs.Basis.{Basis}
use Rattle.regions.specs.Regions.{atoms_at, model_of}
use Rattle.update_views.specs.region_table.Digits.{digit_of, lies_in}
use Rattle.update_views.specs.region_table.Made.{place_among, value_test}

module _ (constants : List Value) (value : Value) where
  among : Decides (list_any (same_value value) constants) (Contains constants value)
  among = Decides-like (list_any (same_value value) constants)
      (λ any. let found = of_any (λ other. value ≡ other) constants any in subst (Contains constants) (sym found.2) found.1)
      (λ has. any_of (λ other. value ≡ other) constants value has refl)
      (Decides-any (same_value value) (λ other. value ≡ other) (Decides-value value) constants)

  -- the answer tells whether the value lies in the atom
  pub Decides-lies : (one : Atom) → Decides (lies_in constants one value) (LiesIn constants one value)
  Decides-lies atom.Null = Decides-value value Null
  Decides-lies (atom.Is one) = Decides-value value one
  Decides-lies atom.Other = Decides-and (not (same_value value Null)) (not (list_any (same_value value) constants))
      (Decides-not (same_value value Null) (Decides-value value Null)) (Decides-not (list_any (same_value value) constants) among)

module _ {X : Type 0} (p : X → Bool) where
  within : (xs : List X) (x : X) → Contains xs x → p x ≡ true → position_or_len p xs < length xs
  within [] x has passes = absurd (none_in_nil x has)
  within (y ∷ ys) x has passes = by (p y) refl (λ later. within ys x later passes)
    where
      by : (b : Bool) → p y ≡ b → (Contains ys x → position_or_len p ys < length ys) → cond (not b) (1 + position_or_len p ys) 0 < length (y ∷ ys)
      by true at rest = omega arith
      by false at rest = ⊎_elim
          (λ (here : x ≡ y). absurd (true≢false (sym passes ∙ ap p here ∙ at)))
          (λ (later : Contains ys x). let below : position_or_len p ys < length ys = rest later in omega (arith, below))
          (member_cases y ys x has)

  -- and there is one where an item passes
  position_at : (xs : List X) (x : X) → Contains xs x → p x ≡ true → position p xs ≡ Some (position_or_len p xs)
  position_at xs x has passes = ap (λ b. cond b (Some (position_or_len p xs)) None) ((Decides-ltb (position_or_len p xs) (length xs)).1 (within xs x has passes))

  pub some_position : (xs : List X) (x : X) → Contains xs x → p x ≡ true → (i : ℕ) × (position p xs ≡ Some i)
  some_position xs x has passes = (position_or_len p xs, position_at xs x has passes)

-- the same place, as a number alone
abbrev place_or_len : List PropId → PropId → ℕ
place_or_len properties p = position_or_len (λ other. other.index == p.index) properties

beside_or_len : (p : PropId) (properties : List PropId) (values : List Value) → Contains properties p
    → unwrap_or (slice_get values (place_or_len properties p)) Null ≡ value_beside p properties values
beside_or_len p [] values has = absurd (none_in_nil p has)
beside_or_len p (q ∷ properties) [] has = refl
beside_or_len p (q ∷ properties) (value ∷ values) has = by (q.index == p.index) refl (λ later. beside_or_len p properties values later)
  where
    by : (b : Bool) → (q.index == p.index) ≡ b
        → (Contains properties p → unwrap_or (slice_get values (place_or_len properties p)) Null ≡ value_beside p properties values)
        → unwrap_or (slice_get (value ∷ values) (cond (not b) (1 + place_or_len properties p) 0)) Null ≡ (if b then value else value_beside p properties values)
    by true at rest = refl
    by false at rest = ⊎_elim
        (λ (here : p ≡ q). absurd (true≢false (sym ((Decides-eqb q.index p.index).1 (ap (λ (one : PropId). one.index) (sym here))) ∙ at)))
        (λ (later : Contains properties p).
        ap (λ (k : ℕ). unwrap_or (slice_get (value ∷ values) k) Null) (one-add (place_or_len properties p)) ∙ rest later)
        (member_cases q properties p has)

-- the value at the place of a property is the one that stands beside it
pub beside_at : (p : PropId) (properties : List PropId) (values : List Value) → Contains properties p
    → unwrap_or (slice_get values (place_among properties p)) Null ≡ value_beside p properties values
beside_at p properties values has =
    let test : PropId → Bool = λ other. other.index == p.index in
    let here : test p ≡ true = (Decides-eqb p.index p.index).1 refl in
    let place : position test properties ≡ Some (position_or_len test properties) = position_at test properties p has here in
    ap (λ (found : Option ℕ). unwrap_or (slice_get values (unwrap_or found (length properties))) Null) place ∙ beside_or_len p properties values has

module _ (basis : Basis) (entity : Entity) where
  -- the entity's value of the property lies in the atom
  abbrev pub Holding : PropId → AtomOf → Type 0
  Holding p told = LiesIn (basis.constants (prop told.prop)) told.atom (value_of (model_of basis) entity told.prop)

  -- a listed atom is that of its property
  of_prop : (p : PropId) (told : AtomOf) → Contains (atoms_at basis p) told → p ≡ told.prop
  of_prop p told = by (slice_get (model_of basis).props p.index)
    where
      by : (found : Option Prop)
          → Contains (option_map_or (λ declared. map (λ (a : Atom). record { prop = p; atom = a }) (atoms_of basis.fits declared (basis.constants (prop p)))) found []) told
          → p ≡ told.prop
      by None has = absurd (none_in_nil told has)
      by (Some declared) has =
          let as_told : Atom → AtomOf = λ a. record { prop = p; atom = a } in
          let found = map_contains as_told (atoms_of basis.fits declared (basis.constants (prop p))) told has in
          ap (λ (one : AtomOf). one.prop) found.2

  module _ (links : List Hosted) (p : PropId) (has : Contains (props_of (model_of basis) entity.ty) p) where
    abbrev test_value : Value
    test_value = unwrap_or (slice_get entity.values (place_among (props_of (model_of basis) entity.ty) p)) Null

    abbrev Lies : AtomOf → Type 0
    Lies told = LiesIn (basis.constants (prop p)) told.atom test_value

    lies_as : (told : AtomOf) → Contains (atoms_at basis p) told → Lies told ≡ Holding p told
    lies_as told listed =
        let same = beside_at p (props_of (model_of basis) entity.ty) entity.values has in
        let own = of_prop p told listed in
        (λ k. LiesIn (basis.constants (prop p)) told.atom (same k)) ∙ (λ k. LiesIn (basis.constants (prop (own k))) told.atom (value_of (model_of basis) entity (own k)))

    -- the atom at the digit
    pub value_found : (digit : ℕ) → digit_of (value_test basis (props_of (model_of basis) entity.ty) p) entity links ≡ Some digit
        → (told : AtomOf) × At (atoms_at basis p) digit told × Holding p told
    value_found digit is =
        let found = position_passes (λ (told : AtomOf). lies_in (basis.constants (prop p)) told.atom test_value) (atoms_at basis p) digit is in
        let listed = contains_at (atoms_at basis p) digit found.0 found.1 in
        let lies : Lies found.0 = (Decides-lies (basis.constants (prop p)) test_value found.0.atom).0 found.2 in
        (found.0, found.1, subst (λ (P : Type 0). P) (lies_as found.0 listed) lies)

    -- a digit, where there is such an atom
    pub value_there : (told : AtomOf) → Contains (atoms_at basis p) told → Holding p told
        → (digit : ℕ) × (digit_of (value_test basis (props_of (model_of basis) entity.ty) p) entity links ≡ Some digit)
    value_there told listed holds =
        let lies : Lies told = subst (λ (P : Type 0). P) (sym (lies_as told listed)) holds in
        some_position (λ (one : AtomOf). lies_in (basis.constants (prop p)) one.atom test_value) (atoms_at basis p) told listed
        ((Decides-lies (basis.constants (prop p)) test_value told.atom).1 lies)
