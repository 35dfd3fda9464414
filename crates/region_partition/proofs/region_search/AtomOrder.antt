-- The atoms of a property rise towards that of an entity's value.
use Rattle.std.proofs.Common.{◌≡◌, ⊎_elim, ℤ, ◌<ℤ◌, List, [], ◌∷◌, ◌++◌, map, filter, slice_get, All, AllPairs, Contains, Option, Some, None, Bool, true, false, if◌then◌else◌, refl, sym, ap, subst, ◌∙◌}
use Rattle.std.specs.Cmp.{int_cmp_is}
use Rattle.std.specs.List.Sorted.{IsStrictlySortedBy}
use Rattle.std.specs.Option.{option_map_or}
use Rattle.std.specs.declared.cmp.Ordering.TheVariants.{Less, Equal, Greater}
use Rattle.std.specs.Ordering.{ordering_reverse}
use Rattle.std.proofs.lemmas.Cmp.{tied_itself}
use Rattle.std.proofs.lemmas.List.Elements.{All-append, All-cons, All-from_recursion, All-map, All-nil}
use Rattle.std.proofs.lemmas.List.Kept.{AllPairs-cons, AllPairs-filter}
use Rattle.std.proofs.lemmas.Option.{slice_get_within}
use Rattle.emc_base.specs.Order.{value_cmp}
use Rattle.emc_base.specs.OrderLaws.{value_cmp_apart, value_cmp_total}
use Rattle.emc_base.specs.declared.value.EnumKind.{EnumKind}
use Rattle.emc_base.specs.declared.value.Kind.TheVariants as kind
use Rattle.emc_base.proofs.Lists.{all_from_members}
use Rattle.emc_base.proofs.Numbered.{all_pairs_map, map_contains}
use Rattle.emc_base.proofs.facts.Pairs.{pairs_append}
use Rattle.round_trip.specs.Words.{PropId, Value, Kind, Prop, Entity, Whole, Flag}
use Rattle.round_trip.specs.soundness.mappings.Joined.{prop}
use Rattle.round_trip.specs.soundness.Kinds.{IsSoundKind}
use Rattle.condition_logic.specs.declared.atoms.Atom.{Atom}
use Rattle.condition_logic.specs.declared.atoms.Atom.TheVariants as atom
use Rattle.condition_logic.specs.declared.atoms.AtomOf.{AtomOf}
use Rattle.schema_laws.proofs.sound_types.Dependent.{sound_kind}
use Rattle.schema_laws.proofs.state_demand.lists.Lists.{member_cases, none_in_nil}
use Rattle.regions.specs.Atoms.{atoms_of, kind_atoms}
use Rattle.regions.specs.Basis.{Basis}
use Rattle.regions.specs.Regions.{atoms_at, model_of}
use Rattle.regions.specs.region_laws.IsBasis.{IsBasis}
use Rattle.regions.specs.region_laws.RegionAt.{atom_in}
use Rattle.regions.proofs.region_laws.lists.Choices.{pairs_nil}
use Rattle.region_partition.specs.region_search.Standing.{Rises, Stand, atom_cmp, told_cmp}
use Rattle.region_partition.proofs.region_search.Rising.{pairs_also, pairs_one}

-- the order of atoms
pub atom_itself : (a : Atom) → atom_cmp a a ≡ Equal
atom_itself atom.Null = refl
atom_itself (atom.Is value) = tied_itself value_cmp_total value
atom_itself atom.Other = refl

atom_reverse : (a b : Atom) → atom_cmp a b ≡ ordering_reverse (atom_cmp b a)
atom_reverse atom.Null atom.Null = refl
atom_reverse atom.Null (atom.Is two) = refl
atom_reverse atom.Null atom.Other = refl
atom_reverse (atom.Is one) atom.Null = refl
atom_reverse (atom.Is one) (atom.Is two) = value_cmp_total.antisymm one two
atom_reverse (atom.Is one) atom.Other = refl
atom_reverse atom.Other atom.Null = refl
atom_reverse atom.Other (atom.Is two) = refl
atom_reverse atom.Other atom.Other = refl

pub atom_apart : (a b : Atom) → atom_cmp a b ≡ Equal → a ≡ b
atom_apart atom.Null atom.Null is = refl
atom_apart atom.Null (atom.Is two) is = absurd (let none : ⊥ = cc in none)
atom_apart atom.Null atom.Other is = absurd (let none : ⊥ = cc in none)
atom_apart (atom.Is one) atom.Null is = absurd (let none : ⊥ = cc in none)
atom_apart (atom.Is one) (atom.Is two) is = ap atom.Is (value_cmp_apart one two is)
atom_apart (atom.Is one) atom.Other is = absurd (let none : ⊥ = cc in none)
atom_apart atom.Other atom.Null is = absurd (let none : ⊥ = cc in none)
atom_apart atom.Other (atom.Is two) is = absurd (let none : ⊥ = cc in none)
atom_apart atom.Other atom.Other is = refl

abbrev Before : Atom → Atom → Type 0
Before one later = atom_cmp one later ≡ Less

-- values in rising order
values_rise : (values : List Value) → IsStrictlySortedBy value_cmp values → AllPairs (λ one later. value_cmp one later ≡ Less) values
unfolding IsStrictlySortedBy
values_rise [] up = pairs_nil (λ one later. value_cmp one later ≡ Less)
values_rise (x ∷ xs) up = AllPairs-cons (λ one later. value_cmp one later ≡ Less) x xs (All-from_recursion (λ y. value_cmp x y ≡ Less) xs up.0) (values_rise xs up.1)

module _ (fits : Value → Kind → Bool) (constants : List Value) (up : IsStrictlySortedBy value_cmp constants) where
  abbrev kept : Kind → List Value
  kept k = filter (λ v. fits v k) constants

  constants_rise : (k : Kind) → AllPairs Before (map (λ v. atom.Is v) (kept k) ++ atom.Other ∷ [])
  constants_rise k = pairs_append Before (map (λ v. atom.Is v) (kept k)) (atom.Other ∷ [])
      (all_pairs_map Before (λ (v : Value). atom.Is v) (kept k)
      (AllPairs-filter (λ one later. value_cmp one later ≡ Less) (λ (v : Value). fits v k) constants (values_rise constants up)))
      (pairs_one Before atom.Other)
      (λ a b first last.
      let found = map_contains (λ (v : Value). atom.Is v) (kept k) a first in
      let P : Atom → Type 0 = λ one. Before one b in
      let Q : Atom → Type 0 = λ later. Before (atom.Is found.0) later in
      ⊎_elim
      (λ (here : b ≡ atom.Other). subst P found.2 (subst Q (sym here) refl))
      (λ (none : Contains [] b). absurd (none_in_nil b none))
      (member_cases atom.Other [] b last))

  numbers_rise : (enumeration : EnumKind) → AllPairs (λ one next. one <ℤ next) enumeration.members
      → AllPairs Before (map (λ number. atom.Is (Whole number)) enumeration.members)
  numbers_rise enumeration rising = all_pairs_map Before (λ (number : ℤ). atom.Is (Whole number)) enumeration.members
      (pairs_also (λ one next. one <ℤ next) (λ one next. Before (atom.Is (Whole one)) (atom.Is (Whole next))) enumeration.members
      (λ one next has_one has_next less. sym (int_cmp_is one next Less less)) rising)

  kind_rises : (k : Kind) → IsSoundKind k → AllPairs Before (kind_atoms fits k constants)
  kind_rises kind.Byte sound = constants_rise kind.Byte
  kind_rises kind.Int16 sound = constants_rise kind.Int16
  kind_rises kind.Int32 sound = constants_rise kind.Int32
  kind_rises kind.Int64 sound = constants_rise kind.Int64
  kind_rises kind.Boolean sound = AllPairs-cons Before (atom.Is (Flag false)) (atom.Is (Flag true) ∷ [])
      (All-cons (Before (atom.Is (Flag false))) (atom.Is (Flag true)) [] refl (All-nil (Before (atom.Is (Flag false)))))
      (pairs_one Before (atom.Is (Flag true)))
  kind_rises (kind.Text bound) sound = constants_rise (kind.Text bound)
  kind_rises (kind.Binary bound) sound = constants_rise (kind.Binary bound)
  kind_rises (kind.Enum enumeration) sound = numbers_rise enumeration sound.rising

  -- null stands before them
  some_constants : (k : Kind) → All (Before atom.Null) (map (λ v. atom.Is v) (kept k) ++ atom.Other ∷ [])
  some_constants k = All-append (Before atom.Null) (map (λ v. atom.Is v) (kept k)) (atom.Other ∷ [])
      (All-map (Before atom.Null) (λ (v : Value). atom.Is v) (kept k) (all_from_members (λ v. Before atom.Null (atom.Is v)) (kept k) (λ v has. refl)))
      (All-cons (Before atom.Null) atom.Other [] refl (All-nil (Before atom.Null)))

  null_first : (k : Kind) → All (Before atom.Null) (kind_atoms fits k constants)
  null_first kind.Byte = some_constants kind.Byte
  null_first kind.Int16 = some_constants kind.Int16
  null_first kind.Int32 = some_constants kind.Int32
  null_first kind.Int64 = some_constants kind.Int64
  null_first kind.Boolean = All-cons (Before atom.Null) (atom.Is (Flag false)) (atom.Is (Flag true) ∷ []) refl
      (All-cons (Before atom.Null) (atom.Is (Flag true)) [] refl (All-nil (Before atom.Null)))
  null_first (kind.Text bound) = some_constants (kind.Text bound)
  null_first (kind.Binary bound) = some_constants (kind.Binary bound)
  null_first (kind.Enum enumeration) = All-map (Before atom.Null) (λ (number : ℤ). atom.Is (Whole number)) enumeration.members
      (all_from_members (λ number. Before atom.Null (atom.Is (Whole number))) enumeration.members (λ number has. refl))

  with_null : (nullable : Bool) (k : Kind) → IsSoundKind k → AllPairs Before ((if nullable then atom.Null ∷ [] else []) ++ kind_atoms fits k constants)
  with_null true k sound = AllPairs-cons Before atom.Null (kind_atoms fits k constants) (null_first k) (kind_rises k sound)
  with_null false k sound = kind_rises k sound

  pub atoms_rise : (declared : Prop) → IsSoundKind declared.kind → AllPairs Before (atoms_of fits declared constants)
  atoms_rise declared sound = with_null declared.nullable declared.kind sound

-- towards one that is listed or not
stand_by : (one later held : Atom) → Before one later → Stand (atom_cmp one held) (atom_cmp later held)
stand_by one later held before = (
  λ is. let P : Atom → Type 0 = λ a. atom_cmp one a ≡ Less in subst P (atom_apart later held is) before,
  λ is.
      let P : Atom → Type 0 = λ a. atom_cmp later a ≡ Greater in
      subst P (atom_apart one held is) (atom_reverse later one ∙ ap ordering_reverse before),
)

module _ (basis : Basis) (is : IsBasis basis) (entity : Entity) where
  pub told_rise : (p : PropId) → Rises (told_cmp basis entity) (atoms_at basis p)
  told_rise p = by (slice_get (model_of basis).props p.index) refl
    where
      by : (found : Option Prop) → slice_get (model_of basis).props p.index ≡ found → Rises (told_cmp basis entity)
          (option_map_or (λ declared. map (λ (a : Atom). record { prop = p; atom = a }) (atoms_of basis.fits declared (basis.constants (prop p)))) found [])
      by None here = pairs_nil (λ (one later : AtomOf). Stand (told_cmp basis entity one) (told_cmp basis entity later))
      by (Some declared) here =
          let as_told : Atom → AtomOf = λ a. record { prop = p; atom = a } in
          let atoms = atoms_of basis.fits declared (basis.constants (prop p)) in
          all_pairs_map (λ (one later : AtomOf). Stand (told_cmp basis entity one) (told_cmp basis entity later)) as_told atoms
          (pairs_also Before (λ one later. Stand (told_cmp basis entity (as_told one)) (told_cmp basis entity (as_told later))) atoms
          (λ one later has_one has_later before. stand_by one later (atom_in basis entity p).atom before)
          (atoms_rise basis.fits (basis.constants (prop p)) (is.constants (prop p) (slice_get_within basis.schema.model.props p.index declared here)).sorted declared
          (sound_kind basis.schema.model is.sound.model p declared here)))

  -- the atom of the entity's value
  pub told_itself : (p : PropId) → told_cmp basis entity (atom_in basis entity p) ≡ Equal
  told_itself p = atom_itself (atom_in basis entity p).atom
