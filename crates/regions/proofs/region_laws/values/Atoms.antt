-- Atoms part the values of a property: each value that it may hold lies in one.
use Rattle.std.proofs.Common.{◌≡◌, ◌≢◌, ⊎_elim, ℤ, ◌<ℤ◌, List, [], ◌∷◌, ◌++◌, map, filter, AllPairs, Contains, Bool, true, false, true≢false, Decides, is_lt, Less, Equal, if◌then◌else◌, refl, sym, ap, subst, ◌∙◌, arith}
use Rattle.std.specs.List.{list_any}
use Rattle.std.specs.List.Sorted.{IsStrictlySortedBy}
use Rattle.std.proofs.lemmas.Bool.{cond_both}
use Rattle.std.proofs.lemmas.Bool.Decides.{Decides-like, not_from_Decides}
use Rattle.std.proofs.lemmas.Cmp.{tied_itself}
use Rattle.std.proofs.lemmas.Int.{ints}
use Rattle.std.proofs.lemmas.List.Elements.{All-from_recursion, All-weaker, Contains-append_cases, Contains-append_left, Contains-append_right}
use Rattle.std.proofs.lemmas.List.Kept.{AllPairs-cons, AllPairs-filter}
use Rattle.emc_base.specs.Lists.{AreApart}
use Rattle.emc_base.specs.Order.{value_cmp}
use Rattle.emc_base.specs.OrderLaws.{value_cmp_total}
use Rattle.emc_base.specs.declared.value.EnumKind.{EnumKind}
use Rattle.emc_base.specs.declared.value.Value.TheVariants as value
use Rattle.emc_base.specs.declared.value.Kind.TheVariants as kind
use Rattle.emc_base.proofs.Mapped.{contains_filter, contains_map}
use Rattle.emc_base.proofs.Numbered.{filter_contains, map_contains}
use Rattle.round_trip.specs.Words.{Value, Kind, Prop, InDomain, Null, Whole, Flag}
use Rattle.round_trip.specs.soundness.Kinds.{IsSoundKind}
use Rattle.condition_logic.specs.declared.atoms.Atom.{Atom}
use Rattle.condition_logic.specs.declared.atoms.Atom.TheVariants as atom
use Rattle.schema_laws.specs.state_demand.Selecting.{same_value}
use Rattle.schema_laws.proofs.state_demand.lists.Lists.{Decides-any, any_of, head_stands, member_cases, none_in_nil, of_any, tail_stands}
use Rattle.schema_laws.proofs.state_demand.writings.Selecting.{Decides-value}
use Rattle.regions.specs.Fitting.{DecidesDomains}
use Rattle.regions.specs.Atoms.{Allows, LiesIn, atom_of, atoms_of, kind_atom, kind_atoms}
use Rattle.regions.proofs.region_laws.lists.Choices.{apart_append, apart_map, apart_one, pairs_nil}

abbrev is_null : Atom → Bool
is_null atom.Null = true
is_null (atom.Is one) = false
is_null atom.Other = false

abbrev is_other : Atom → Bool
is_other atom.Null = false
is_other (atom.Is one) = false
is_other atom.Other = true

abbrev value_in : Atom → Value
value_in atom.Null = Null
value_in (atom.Is one) = one
value_in atom.Other = Null

abbrev number_in : Value → ℤ → ℤ
number_in (value.Whole number) other = number
number_in _ other = other

abbrev flag_in : Value → Bool
flag_in (value.Flag flag) = flag
flag_in _ = false

-- null is in no domain
null_nowhere : (k : Kind) → InDomain Null k → ⊥
null_nowhere kind.Byte none = none
null_nowhere kind.Int16 none = none
null_nowhere kind.Int32 none = none
null_nowhere kind.Int64 none = none
null_nowhere kind.Boolean none = none
null_nowhere (kind.Text bound) none = none
null_nowhere (kind.Binary bound) none = none
null_nowhere (kind.Enum enumeration) none = none

pub not_null : (k : Kind) (v : Value) → InDomain v k → v ≢ Null
not_null k v within null = let P : Value → Type 0 = λ w. InDomain w k in null_nowhere k (subst P null within)

-- values in rising order stand once
pub rising_apart : (values : List Value) → IsStrictlySortedBy value_cmp values → AreApart values
unfolding IsStrictlySortedBy
rising_apart [] up = pairs_nil (λ one two. one ≢ two)
rising_apart (x ∷ xs) up = AllPairs-cons (λ one two. one ≢ two) x xs
    (All-weaker (λ y. value_cmp x y ≡ Less) (λ y. x ≢ y)
    (λ y less same. let P : Value → Type 0 = λ z. value_cmp x z ≡ Equal in true≢false (ap is_lt (sym less ∙ subst P same (tied_itself value_cmp_total x))))
    xs (All-from_recursion (λ y. value_cmp x y ≡ Less) xs up.0))
    (rising_apart xs up.1)

-- an atom that holds the value is the one, and the value isn't null
abbrev IsOnly : Atom → Atom → Value → Type 0
IsOnly found one value = (found ≡ one) × (value ≢ Null)

module _ (fits : Value → Kind → Bool) (decides : DecidesDomains fits) (constants : List Value) where
  Decides-constant : (v : Value) → Decides (list_any (same_value v) constants) (Contains constants v)
  Decides-constant v = Decides-like (list_any (same_value v) constants)
      (λ any. let found = of_any (λ other. v ≡ other) constants any in subst (Contains constants) (sym found.2) found.1)
      (λ has. any_of (λ other. v ≡ other) constants v has refl)
      (Decides-any (same_value v) (λ other. v ≡ other) (Decides-value v) constants)

  abbrev in_domain : Kind → List Value
  in_domain k = filter (λ v. fits v k) constants

  abbrev constant_atoms : Kind → List Atom
  constant_atoms k = map (λ v. atom.Is v) (in_domain k) ++ atom.Other ∷ []

  abbrev constant_atom : Value → Atom
  constant_atom v = if list_any (same_value v) constants then atom.Is v else atom.Other

  constant_has : (k : Kind) (v : Value) → InDomain v k → v ≢ Null → Contains (constant_atoms k) (constant_atom v) × LiesIn constants (constant_atom v) v
  constant_has k v within some =
      let P : Atom → Type 0 = λ a. Contains (constant_atoms k) a × LiesIn constants a v in
      cond_both (list_any (same_value v) constants) (atom.Is v) atom.Other P
      (λ told. (
        Contains-append_left (map (λ one. atom.Is one) (in_domain k)) (atom.Other ∷ []) (atom.Is v)
            (contains_map (λ (one : Value). atom.Is one) (in_domain k) v
            (contains_filter (λ (one : Value). fits one k) constants v ((Decides-constant v).0 told) ((decides.tells v k).1 within))),
        refl,
      ))
      (λ told. (
        Contains-append_right (map (λ one. atom.Is one) (in_domain k)) (atom.Other ∷ []) atom.Other (head_stands atom.Other []),
        (some, not_from_Decides (list_any (same_value v) constants) (Decides-constant v) told),
      ))

  abbrev Only : Value → Atom → Type 0
  Only v a = LiesIn constants a v → IsOnly a (constant_atom v) v

  constant_only : (k : Kind) (a : Atom) (v : Value) → Contains (constant_atoms k) a → LiesIn constants a v → IsOnly a (constant_atom v) v
  constant_only k a v has = ⊎_elim
      (λ (among : Contains (map (λ one. atom.Is one) (in_domain k)) a).
      let found = map_contains (λ (one : Value). atom.Is one) (in_domain k) a among in
      subst (Only v) found.2 (is_one found.0 (filter_contains (λ (one : Value). fits one k) constants found.0 found.1)))
      (λ (last : Contains (atom.Other ∷ []) a). ⊎_elim
      (λ (here : a ≡ atom.Other). subst (Only v) (sym here) is_other_one)
      (λ (later : Contains [] a). absurd (none_in_nil a later))
      (member_cases atom.Other [] a last))
      (Contains-append_cases (map (λ one. atom.Is one) (in_domain k)) (atom.Other ∷ []) a has)
    where
      is_one : (one : Value) → Contains constants one × (fits one k ≡ true) → Only v (atom.Is one)
      is_one one kept same =
          let P : Atom → Type 0 = λ a. atom.Is one ≡ a in
          let among : Contains constants v = subst (Contains constants) (sym same) kept.0 in (
            cond_both (list_any (same_value v) constants) (atom.Is v) atom.Other P
                (λ told. ap atom.Is (sym same))
                (λ told. absurd (not_from_Decides (list_any (same_value v) constants) (Decides-constant v) told among)),
            λ null. not_null k one ((decides.tells one k).0 kept.1) (sym same ∙ null),
          )

      is_other_one : Only v atom.Other
      is_other_one lies =
          let P : Atom → Type 0 = λ a. atom.Other ≡ a in (
            cond_both (list_any (same_value v) constants) (atom.Is v) atom.Other P
                (λ told. absurd (lies.1 ((Decides-constant v).0 told)))
                (λ told. refl),
            lies.0,
          )

  constant_apart : (k : Kind) → AreApart constants → AreApart (constant_atoms k)
  constant_apart k apart = apart_append (map (λ v. atom.Is v) (in_domain k)) (atom.Other ∷ [])
      (apart_map (λ (v : Value). atom.Is v) (in_domain k) (λ one two has_one has_two same. ap value_in same)
      (AllPairs-filter (λ one two. one ≢ two) (λ (v : Value). fits v k) constants apart))
      (apart_one atom.Other)
      (λ a first last.
      let found = map_contains (λ (v : Value). atom.Is v) (in_domain k) a first in
      ⊎_elim
      (λ (here : a ≡ atom.Other). true≢false (ap is_other (sym here ∙ sym found.2)))
      (λ (later : Contains [] a). none_in_nil a later)
      (member_cases atom.Other [] a last))

  -- flags
  abbrev flag_atoms : List Atom
  flag_atoms = atom.Is (Flag false) ∷ atom.Is (Flag true) ∷ []

  flag_there : (flag : Bool) → Contains flag_atoms (atom.Is (Flag flag))
  flag_there false = head_stands (atom.Is (Flag false)) (atom.Is (Flag true) ∷ [])
  flag_there true = tail_stands (atom.Is (Flag false)) (atom.Is (Flag true) ∷ []) (atom.Is (Flag true)) (head_stands (atom.Is (Flag true)) [])

  flag_has : (v : Value) → InDomain v kind.Boolean → Contains flag_atoms (atom.Is v) × LiesIn constants (atom.Is v) v
  flag_has value.Null within = absurd within
  flag_has (value.Whole number) within = absurd within
  flag_has (value.Flag flag) within = (flag_there flag, refl)
  flag_has (value.Text text) within = absurd within
  flag_has (value.Bytes bytes) within = absurd within

  -- an atom of one value that isn't null
  one_only : (a : Atom) (one v : Value) → one ≢ Null → a ≡ atom.Is one → LiesIn constants a v → IsOnly a (atom.Is v) v
  one_only a one v some is lies =
      let same : v ≡ one = subst (λ b. LiesIn constants b v) is lies in
      (is ∙ ap atom.Is (sym same), λ null. some (sym same ∙ null))

  flag_only : (a : Atom) (v : Value) → Contains flag_atoms a → LiesIn constants a v → IsOnly a (atom.Is v) v
  flag_only a v has lies = ⊎_elim
      (λ (here : a ≡ atom.Is (Flag false)). one_only a (Flag false) v (not_null kind.Boolean (Flag false) tt) here lies)
      (λ (later : Contains (atom.Is (Flag true) ∷ []) a). ⊎_elim
      (λ (here : a ≡ atom.Is (Flag true)). one_only a (Flag true) v (not_null kind.Boolean (Flag true) tt) here lies)
      (λ (none : Contains [] a). absurd (none_in_nil a none))
      (member_cases (atom.Is (Flag true)) [] a later))
      (member_cases (atom.Is (Flag false)) (atom.Is (Flag true) ∷ []) a has)

  flag_apart : AreApart flag_atoms
  flag_apart = apart_append (atom.Is (Flag false) ∷ []) (atom.Is (Flag true) ∷ []) (apart_one (atom.Is (Flag false))) (apart_one (atom.Is (Flag true)))
      (λ a first last. ⊎_elim
      (λ (one : a ≡ atom.Is (Flag false)). ⊎_elim
      (λ (two : a ≡ atom.Is (Flag true)). true≢false (ap (λ (b : Atom). flag_in (value_in b)) (sym two ∙ one)))
      (λ (none : Contains [] a). none_in_nil a none)
      (member_cases (atom.Is (Flag true)) [] a last))
      (λ (none : Contains [] a). none_in_nil a none)
      (member_cases (atom.Is (Flag false)) [] a first))

  -- enumerations
  module _ (enumeration : EnumKind) where
    abbrev number_atoms : List Atom
    number_atoms = map (λ number. atom.Is (Whole number)) enumeration.members

    number_has : (v : Value) → InDomain v (kind.Enum enumeration) → Contains number_atoms (atom.Is v) × LiesIn constants (atom.Is v) v
    number_has value.Null within = absurd within
    number_has (value.Whole number) within = (contains_map (λ (one : ℤ). atom.Is (Whole one)) enumeration.members number within, refl)
    number_has (value.Flag flag) within = absurd within
    number_has (value.Text text) within = absurd within
    number_has (value.Bytes bytes) within = absurd within

    number_only : (a : Atom) (v : Value) → Contains number_atoms a → LiesIn constants a v → IsOnly a (atom.Is v) v
    number_only a v has lies =
        let found = map_contains (λ (one : ℤ). atom.Is (Whole one)) enumeration.members a has in
        one_only a (Whole found.0) v (not_null (kind.Enum enumeration) (Whole found.0) found.1) (sym found.2) lies

    number_apart : AllPairs (λ one next. one <ℤ next) enumeration.members → AreApart number_atoms
    number_apart rising = apart_map (λ (one : ℤ). atom.Is (Whole one)) enumeration.members
        (λ one two has_one has_two same. ap (λ (a : Atom). number_in (value_in a) one) same)
        (λ i j d below within same. let less = rising i j d below within in absurd (omega (arith, ints, less, same)))

  kind_has : (k : Kind) (v : Value) → InDomain v k → Contains (kind_atoms fits k constants) (kind_atom k constants v) × LiesIn constants (kind_atom k constants v) v
  kind_has kind.Byte v within = constant_has kind.Byte v within (not_null kind.Byte v within)
  kind_has kind.Int16 v within = constant_has kind.Int16 v within (not_null kind.Int16 v within)
  kind_has kind.Int32 v within = constant_has kind.Int32 v within (not_null kind.Int32 v within)
  kind_has kind.Int64 v within = constant_has kind.Int64 v within (not_null kind.Int64 v within)
  kind_has kind.Boolean v within = flag_has v within
  kind_has (kind.Text bound) v within = constant_has (kind.Text bound) v within (not_null (kind.Text bound) v within)
  kind_has (kind.Binary bound) v within = constant_has (kind.Binary bound) v within (not_null (kind.Binary bound) v within)
  kind_has (kind.Enum enumeration) v within = number_has enumeration v within

  kind_only : (k : Kind) (a : Atom) (v : Value) → Contains (kind_atoms fits k constants) a → LiesIn constants a v → IsOnly a (kind_atom k constants v) v
  kind_only kind.Byte a v = constant_only kind.Byte a v
  kind_only kind.Int16 a v = constant_only kind.Int16 a v
  kind_only kind.Int32 a v = constant_only kind.Int32 a v
  kind_only kind.Int64 a v = constant_only kind.Int64 a v
  kind_only kind.Boolean a v = flag_only a v
  kind_only (kind.Text bound) a v = constant_only (kind.Text bound) a v
  kind_only (kind.Binary bound) a v = constant_only (kind.Binary bound) a v
  kind_only (kind.Enum enumeration) a v = number_only enumeration a v

  kind_apart : (k : Kind) → IsSoundKind k → AreApart constants → AreApart (kind_atoms fits k constants)
  kind_apart kind.Byte sound apart = constant_apart kind.Byte apart
  kind_apart kind.Int16 sound apart = constant_apart kind.Int16 apart
  kind_apart kind.Int32 sound apart = constant_apart kind.Int32 apart
  kind_apart kind.Int64 sound apart = constant_apart kind.Int64 apart
  kind_apart kind.Boolean sound apart = flag_apart
  kind_apart (kind.Text bound) sound apart = constant_apart (kind.Text bound) apart
  kind_apart (kind.Binary bound) sound apart = constant_apart (kind.Binary bound) apart
  kind_apart (kind.Enum enumeration) sound apart = number_apart enumeration sound.rising

  -- null is none of these
  constant_some : (k : Kind) → Contains (constant_atoms k) atom.Null → ⊥
  constant_some k has = ⊎_elim
      (λ (among : Contains (map (λ one. atom.Is one) (in_domain k)) atom.Null).
      let found = map_contains (λ (one : Value). atom.Is one) (in_domain k) atom.Null among in true≢false (ap is_null (sym found.2)))
      (λ (last : Contains (atom.Other ∷ []) atom.Null). ⊎_elim
      (λ (here : atom.Null ≡ atom.Other). true≢false (ap is_null here))
      (λ (later : Contains [] atom.Null). none_in_nil atom.Null later)
      (member_cases atom.Other [] atom.Null last))
      (Contains-append_cases (map (λ one. atom.Is one) (in_domain k)) (atom.Other ∷ []) atom.Null has)

  kind_some : (k : Kind) → Contains (kind_atoms fits k constants) atom.Null → ⊥
  kind_some kind.Byte has = constant_some kind.Byte has
  kind_some kind.Int16 has = constant_some kind.Int16 has
  kind_some kind.Int32 has = constant_some kind.Int32 has
  kind_some kind.Int64 has = constant_some kind.Int64 has
  kind_some kind.Boolean has = (kind_only kind.Boolean atom.Null Null has refl).1 refl
  kind_some (kind.Text bound) has = constant_some (kind.Text bound) has
  kind_some (kind.Binary bound) has = constant_some (kind.Binary bound) has
  kind_some (kind.Enum enumeration) has = (kind_only (kind.Enum enumeration) atom.Null Null has refl).1 refl

  -- null, where it is an atom
  null_there : (nullable : Bool) → nullable ≡ true → Contains (if nullable then atom.Null ∷ [] else []) atom.Null
  null_there true is = head_stands atom.Null []
  null_there false is = absurd (true≢false (sym is))

  null_alone : (nullable : Bool) (a : Atom) → Contains (if nullable then atom.Null ∷ [] else []) a → a ≡ atom.Null
  null_alone true a has = ⊎_elim (λ (here : a ≡ atom.Null). here) (λ (none : Contains [] a). absurd (none_in_nil a none)) (member_cases atom.Null [] a has)
  null_alone false a has = absurd (none_in_nil a has)

  null_apart : (nullable : Bool) → AreApart (if nullable then atom.Null ∷ [] else [])
  null_apart true = apart_one atom.Null
  null_apart false = pairs_nil (λ one two. one ≢ two)

  module _ (declared : Prop) where
    abbrev null_atoms : List Atom
    null_atoms = if declared.nullable then atom.Null ∷ [] else []

    pub one : (v : Value) → Allows declared v → Contains (atoms_of fits declared constants) (atom_of declared constants v) × LiesIn constants (atom_of declared constants v) v
    one v allowed =
        let P : Atom → Type 0 = λ a. Contains (atoms_of fits declared constants) a × LiesIn constants a v in
        cond_both (same_value v Null) atom.Null (kind_atom declared.kind constants v) P
        (λ told.
        let null : v ≡ Null = (Decides-value v Null).0 told in
        ⊎_elim
        (λ (by : (v ≡ Null) × (declared.nullable ≡ true)).
        (Contains-append_left null_atoms (kind_atoms fits declared.kind constants) atom.Null (null_there declared.nullable by.1), null))
        (λ (within : InDomain v declared.kind). absurd (not_null declared.kind v within null)) allowed)
        (λ told. ⊎_elim
        (λ (by : (v ≡ Null) × (declared.nullable ≡ true)). absurd (not_from_Decides (same_value v Null) (Decides-value v Null) told by.0))
        (λ (within : InDomain v declared.kind).
        let has = kind_has declared.kind v within in
        (Contains-append_right null_atoms (kind_atoms fits declared.kind constants) (kind_atom declared.kind constants v) has.0, has.1)) allowed)

    -- nothing is asked of the value
    pub only : (a : Atom) (v : Value) → Contains (atoms_of fits declared constants) a → LiesIn constants a v → a ≡ atom_of declared constants v
    only a v has lies =
        let P : Atom → Type 0 = λ b. a ≡ b in
        ⊎_elim
        (λ (first : Contains null_atoms a).
        let is : a ≡ atom.Null = null_alone declared.nullable a first in
        let null : v ≡ Null = subst (λ b. LiesIn constants b v) is lies in
        cond_both (same_value v Null) atom.Null (kind_atom declared.kind constants v) P (λ told. is)
        (λ told. absurd (not_from_Decides (same_value v Null) (Decides-value v Null) told null)))
        (λ (later : Contains (kind_atoms fits declared.kind constants) a).
        let found = kind_only declared.kind a v later lies in
        cond_both (same_value v Null) atom.Null (kind_atom declared.kind constants v) P
        (λ told. absurd (found.1 ((Decides-value v Null).0 told)))
        (λ told. found.0))
        (Contains-append_cases null_atoms (kind_atoms fits declared.kind constants) a has)

    pub apart : IsSoundKind declared.kind → AreApart constants → AreApart (atoms_of fits declared constants)
    apart sound once = apart_append null_atoms (kind_atoms fits declared.kind constants) (null_apart declared.nullable) (kind_apart declared.kind sound once)
        (λ a first later. kind_some declared.kind (subst (Contains (kind_atoms fits declared.kind constants)) (null_alone declared.nullable a first) later))
