-- The value that properties of a group share in both regions: it is the same of each, and one that each may have.
use Rattle.std.proofs.Common.{◌≡◌, ◌⊎◌, inl, inr, ℕ, suc, ◌<◌, ◌≤◌, ◌&&◌, [], ◌∷◌, List, length, slice_get, Option, Some, None, Bool, true, if◌then◌else◌, refl, sym, ap, subst, ◌∙◌, arith}
use Rattle.std.specs.List.{enumerate_from, list_any}
use Rattle.std.specs.Option.{option_map_or}
use Rattle.std.proofs.lemmas.Bool.{and_parts, cond_both}
use Rattle.std.proofs.lemmas.Bool.Decides.{Decides-eqb}
use Rattle.std.proofs.lemmas.Int.{ints}
use Rattle.std.proofs.lemmas.List.Elements.{All-contains}
use Rattle.std.proofs.lemmas.List.Folds.{Any-from_list_any}
use Rattle.std.proofs.lemmas.Option.{slice_get_within}
use Rattle.emc_base.proofs.Lists.{at_once}
use Rattle.emc_base.proofs.Mapped.{contains_at}
use Rattle.emc_base.proofs.Numbered.{enumerated_at}
use Rattle.emc_base.specs.declared.value.Under.{Under}
use Rattle.emc_base.specs.declared.value.Kind.TheVariants as kind
use Rattle.emc_base.specs.declared.value.Under.TheVariants as under
use Rattle.round_trip.specs.Words.{PropId, TypeId, GroupId, Value, Kind, EntityType, Prop, At, props_of}
use Rattle.round_trip.specs.soundness.mappings.Joined.{IsDependent, prop}
use Rattle.round_trip.specs.soundness.Kinds.{IsEnum, IsKeyKind, under_kind}
use Rattle.round_trip.proofs.Classes.{class_of, joined_class}
use Rattle.member_groups.specs.Tested.{AreInOneGroup}
use Rattle.schema_laws.proofs.state_demand.lists.Lists.{of_any}
use Rattle.cells.specs.Limits.{IsSmallModel, IsWithinLimits, most_props}
use Rattle.regions.specs.declared.region.Region.{Region}
use Rattle.regions.specs.Basis.{Basis}
use Rattle.regions.specs.region_laws.IsBasis.{IsBasis}
use Rattle.schema_laws.specs.short_values.Short.{IsShort}
use Rattle.region_states.specs.defaults.Candidates.{AreTwoFree, first_free, next_free}
use Rattle.schema_laws.specs.short_values.Fresh.{first_shared, fresh, most_indices, second_shared, shared_first, shared_second}
use Rattle.schema_laws.specs.short_values.Places.{is_dependent}
use Rattle.region_states.specs.defaults.Admissible.{HasSeveral, IsChoice, SeveralOf}
use Rattle.region_states.proofs.defaults.Changes.{free_choice, short_choice}
use Rattle.region_states.proofs.defaults.groups.Classes.{at_class, class_at, joined_key_kind}
use Rattle.schema_laws.proofs.sound_types.Dependent.{dependent_is}
use Rattle.region_states.proofs.defaults.groups.Constants.{dependent_none}
use Rattle.region_states.proofs.defaults.Defaults.{open_two}
use Rattle.schema_laws.proofs.short_values.Places.{Decides-dependent}
use Rattle.region_states.proofs.defaults.groups.Shared.{first_shared as free_shared}
use Rattle.schema_laws.proofs.short_values.Short.{fresh_short, fresh_sort, one_scalar}
use Rattle.schema_laws.proofs.short_values.Uses.{index_below}
use Rattle.conflict_laws.specs.rival.RivalValues.{group_place, same_group, shared_index, shared_value, tells_other}
use Rattle.conflict_laws.proofs.rival.Atoms.{open_atom}

-- groups that are told to be one are one
same_group_is : (one other : Option GroupId) → same_group one other ≡ true → one ≡ other
same_group_is None other told = cc
same_group_is (Some g) None told = cc
same_group_is (Some g) (Some h) told = let number = (Decides-eqb g.index h.index).0 told in λ k. Some (record { index = number k })

-- kinds of whole numbers have the same numbered values
fresh_under : (under_ : Under) (i : ℕ) → fresh kind.Byte 0 i ≡ fresh (under_kind under_) 0 i
fresh_under under.Byte i = refl
fresh_under under.Int16 i = refl
fresh_under under.Int32 i = refl
fresh_under under.Int64 i = refl

-- a numbered value tells no more of the kind than whether this is of texts
fresh_class : (k : Kind) (i : ℕ) → fresh k 0 i ≡ fresh (class_of k) 0 i
unfolding class_of
fresh_class kind.Boolean i = refl
fresh_class kind.Byte i = refl
fresh_class kind.Int16 i = refl
fresh_class kind.Int32 i = refl
fresh_class kind.Int64 i = refl
fresh_class (kind.Text bound) i = refl
fresh_class (kind.Binary bound) i = refl
fresh_class (kind.Enum enumeration) i = fresh_under enumeration.under i

-- the first candidate of a kind of keys is short
first_short : (k : Kind) → IsKeyKind k → IsShort (first_free k [])
first_short kind.Boolean key = absurd key
first_short kind.Byte key = absurd key
first_short kind.Int16 key = (omega (arith, ints), omega (arith, ints))
first_short kind.Int32 key = (omega (arith, ints), omega (arith, ints))
first_short kind.Int64 key = (omega (arith, ints), omega (arith, ints))
first_short (kind.Text bound) key = (97, one_scalar 97 (omega arith), refl)
first_short (kind.Binary bound) key = absurd key
first_short (kind.Enum enumeration) key = absurd key

module _ (basis : Basis) where
  abbrev group : PropId → Option GroupId
  group p = basis.group (prop p)

  module _ (p q : PropId) (same : group p ≡ group q) where
    -- what is computed by the group is the same of two properties in it
    tells_same : tells_other basis p ≡ tells_other basis q
    tells_same k = list_any (λ (placed : ℕ × Prop).
        is_dependent basis.schema.model (record { index = placed.0 }) && same_group (same k) (group (record { index = placed.0 })))
        (enumerate_from 0 basis.schema.model.props)

    place_same : (props : List PropId) → group_place basis p props ≡ group_place basis q props
    place_same [] = refl
    place_same (r ∷ props) =
        let rest = place_same props in
        λ k. if same_group (same k) (group r) then Some 0 else option_map_or (λ place. Some (suc place)) (rest k) None

    index_same : (one two : Region) → shared_index basis one two p ≡ shared_index basis one two q
    index_same one two k = option_map_or first_shared (place_same (props_of basis.schema.model one.ty) k)
        (option_map_or second_shared (place_same (props_of basis.schema.model two.ty) k) (first_shared 0))

  -- a group's place is that of one of the properties
  place_below : (p : PropId) (props : List PropId) (n : ℕ) → group_place basis p props ≡ Some n → n < length props
  place_below p [] n at = cc
  place_below p (r ∷ props) n at =
      let P : Option ℕ → Type 0 = λ found. found ≡ Some n → n < length (r ∷ props) in
      cond_both (same_group (group p) (group r)) (Some 0) (option_map_or (λ place. Some (suc place)) (group_place basis p props) None) P
      (λ told here. let is : 0 ≡ n = cc in omega (arith, is))
      (λ told later. by (group_place basis p props) (place_below p props) later)
      at
    where
      by : (found : Option ℕ) → ((m : ℕ) → found ≡ Some m → m < length props) → option_map_or (λ place. Some (suc place)) found None ≡ Some n → n < suc (length props)
      by None below later = cc
      by (Some m) below later =
          let less = below m refl in
          let is : suc m ≡ n = cc in
          omega (arith, less, is)

  -- a type has few properties
  props_few : IsSmallModel basis.schema.model → (t : TypeId) → length (props_of basis.schema.model t) ≤ most_props
  props_few small t = by (slice_get basis.schema.model.types t.index) refl
    where
      by : (found : Option EntityType) → slice_get basis.schema.model.types t.index ≡ found → length (option_map_or (λ (one : EntityType). one.props) found []) ≤ most_props
      by None here = omega arith
      by (Some type) here =
          let Few : EntityType → Type 0 = λ one. length one.props ≤ most_props in
          All-contains Few basis.schema.model.types type small.1 (contains_at basis.schema.model.types t.index type here)

  -- so the shared index is small
  index_small : IsSmallModel basis.schema.model → (one two : Region) (p : PropId) → shared_index basis one two p < most_indices
  index_small small one two p = by (group_place basis p (props_of basis.schema.model one.ty)) refl (group_place basis p (props_of basis.schema.model two.ty)) refl
    where
      by : (first : Option ℕ) → group_place basis p (props_of basis.schema.model one.ty) ≡ first
          → (second : Option ℕ) → group_place basis p (props_of basis.schema.model two.ty) ≡ second
          → option_map_or first_shared first (option_map_or second_shared second (first_shared 0)) < most_indices
      by (Some n) at second at_second =
          let less = place_below p (props_of basis.schema.model one.ty) n at in
          let few = props_few small one.ty in
          index_below (shared_first n) (omega (arith, less, few))
      by None at (Some n) at_second =
          let less = place_below p (props_of basis.schema.model two.ty) n at_second in
          let few = props_few small two.ty in
          index_below (shared_second n) (omega (arith, less, few))
      by None at None at_second = index_below (shared_first 0) (omega arith)

module _ (basis : Basis) (is : IsBasis basis) (one two : Region) where
  -- properties of one group share the value, where this isn't one of an enumeration
  pub shared_same : (p q : PropId) (declared other : Prop) → At basis.schema.model.props p.index declared → At basis.schema.model.props q.index other
      → group basis p ≡ group basis q → (p ≡ q) ⊎ ((¬ IsEnum declared.kind) × (¬ IsEnum other.kind))
      → shared_value basis one two p declared ≡ shared_value basis one two q other
  shared_same p q declared other here there same (inl is_q) =
      let At_ : PropId → Type 0 = λ r. At basis.schema.model.props r.index declared in
      let alike : declared ≡ other = at_once basis.schema.model.props q.index declared other (subst At_ is_q here) there in
      λ k. shared_value basis one two (is_q k) (alike k)
  shared_same p q declared other here there same (inr no_enums) =
      let in_group : AreInOneGroup basis.schema (prop p) (prop q) = (is.groups (prop p) (prop q) (slice_get_within basis.schema.model.props p.index declared here)
      (slice_get_within basis.schema.model.props q.index other there)).0 same in
      let frees = free_shared basis is p q declared other (record {
        is_declared = here;
        other_declared = there;
        in_one_group = in_group;
        no_enum = no_enums.0;
        other_no_enum = no_enums.1;
      }) in
      let tests = tells_same basis p q same in
      let index = index_same basis p q same one two in
      let fresh_same : fresh declared.kind 0 (shared_index basis one two p) ≡ fresh other.kind 0 (shared_index basis one two q) =
      fresh_class declared.kind (shared_index basis one two p)
      ∙ (λ k. fresh (classes in_group k) 0 (index k))
      ∙ sym (fresh_class other.kind (shared_index basis one two q)) in
      λ k. if tests k then fresh_same k else frees k
    where
      classes : AreInOneGroup basis.schema (prop p) (prop q) → class_of declared.kind ≡ class_of other.kind
      classes (inl same_prop) =
          let is_q : p ≡ q = cc in
          let At_ : PropId → Type 0 = λ r. At basis.schema.model.props r.index declared in
          ap (λ (d : Prop). class_of d.kind) (at_once basis.schema.model.props q.index declared other (subst At_ is_q here) there)
      classes (inr joins) =
          let class = (joined_class basis.schema is.sound (prop p) (prop q) joins (class_of declared.kind)).0 (class_at basis.schema p declared here) in
          sym (at_class basis.schema q (class_of declared.kind) other there class)

  module _ (limits : IsWithinLimits basis.schema) (of : SeveralOf basis) where
    abbrev p : PropId
    p = of.p

    abbrev declared : Prop
    declared = of.declared

    abbrev region : Region
    region = of.region

    abbrev several : HasSeveral basis of.region of.p of.declared of.nullable
    several = of.several

    -- a group that has a dependent property
    numbered : tells_other basis p ≡ true → IsChoice basis region p (fresh declared.kind 0 (shared_index basis one two p))
    numbered told =
        let test : ℕ × Prop → Bool = λ placed. is_dependent basis.schema.model (record { index = placed.0 }) && same_group (group basis p) (group basis (record { index = placed.0 })) in
        let found = of_any (λ (placed : ℕ × Prop). test placed ≡ true) (enumerate_from 0 basis.schema.model.props)
        (Any-from_list_any test (enumerate_from 0 basis.schema.model.props) told) in
        let q : PropId = record { index = found.0.0 } in
        let both = and_parts (is_dependent basis.schema.model q) (same_group (group basis p) (group basis q)) found.2 in
        let dependent : IsDependent basis.schema.model q = (Decides-dependent basis.schema.model q).0 both.0 in
        let inside = slice_get_within basis.schema.model.props q.index found.0.1 (enumerated_at basis.schema.model.props found.0 found.1) in
        let in_group : AreInOneGroup basis.schema (prop q) (prop p) =
        (is.groups (prop q) (prop p) inside (slice_get_within basis.schema.model.props p.index declared several.is_declared)).0
        (sym (same_group_is (group basis p) (group basis q) both.1)) in
        let index : ℕ = shared_index basis one two p in
        short_choice basis is of q dependent in_group (fresh declared.kind 0 index)
        (fresh_short declared.kind 0 index (omega arith) (index_small basis limits.model one two p))
        (fresh_sort declared.kind (key_kind q dependent in_group) 0 index)
      where
        key_kind : (q : PropId) → IsDependent basis.schema.model q → AreInOneGroup basis.schema (prop q) (prop p) → IsKeyKind declared.kind
        key_kind q dependent (inl same) =
            let is_p : q ≡ p = cc in
            dependent_is basis.schema.model is.sound.model p (subst (IsDependent basis.schema.model) is_p dependent) declared several.is_declared
        key_kind q dependent (inr joins) = joined_key_kind basis.schema is.sound q p dependent joins declared several.is_declared

    -- another group
    first_one : IsChoice basis region p (first_free declared.kind (basis.constants (prop p)))
    first_one =
        let constants : List Value = basis.constants (prop p) in
        let two_free : AreTwoFree declared.kind constants (first_free declared.kind constants) (next_free declared.kind constants) =
        open_two basis is limits of.s region of.listed p declared several.is_declared several.among several.no_key
        (open_atom basis.schema.model region.atoms p of.nullable several.several) in
        free_choice basis is of (first_free declared.kind constants) two_free.one_fits two_free.one_free
        (λ dependent. let Short : List Value → Type 0 = λ list. IsShort (first_free declared.kind list) in
        subst Short (sym (dependent_none basis is p declared several.is_declared dependent))
        (first_short declared.kind (dependent_is basis.schema.model is.sound.model p dependent declared several.is_declared)))

    -- an entity of either region may have it
    pub shared_choice : IsChoice basis of.region of.p (shared_value basis one two of.p of.declared)
    shared_choice = cond_both (tells_other basis p) (fresh declared.kind 0 (shared_index basis one two p)) (first_free declared.kind (basis.constants (prop p)))
        (IsChoice basis region p) numbered (λ told. first_one)
