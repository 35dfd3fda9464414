-- Two bases of one schema have the same regions.
use Rattle.std.proofs.Common.{◌≡◌, List, [], ◌∷◌, map, filter, flat_map, slice_get, Option, None, Some, Bool, Contains, if◌then◌else◌, refl, ◌∙◌}
use Rattle.std.specs.Option.{option_map_or}
use Rattle.std.proofs.lemmas.Option.{slice_get_within}
use Rattle.round_trip.specs.Words.{EntitySet, Kind, Prop, PropId, Schema, SetId, TypeId, Value, props_of}
use Rattle.round_trip.specs.soundness.mappings.Joined.{prop}
use Rattle.condition_logic.specs.declared.atoms.AtomOf.{AtomOf}
use Rattle.schema_laws.proofs.state_demand.lists.Lists.{head_stands, tail_stands}
use Rattle.regions.specs.Atoms.{atoms_of}
use Rattle.regions.specs.Basis.{Basis, Host}
use Rattle.regions.specs.Lists.{choices}
use Rattle.regions.specs.Regions.{atoms_at, regions_by, regions_of, regions_with, tested_props, types_of}
use Rattle.regions.specs.region_laws.IsBasis.{IsBasis}
use Rattle.regions.proofs.region_laws.entities.Regions.{prop_there}
use Rattle.region_partition.proofs.limit_laws.Answered.{beside, same_constants, same_fits, same_hosts, same_is_a, same_tested}

-- two tests that agree on the members keep the same
filter_alike : {X : Type 0} (p q : X → Bool) (xs : List X) → ((x : X) → Contains xs x → p x ≡ q x) → filter p xs ≡ filter q xs
filter_alike p q [] each = refl
filter_alike p q (x ∷ xs) each =
    let here : p x ≡ q x = each x (head_stands x xs) in
    let rest : filter p xs ≡ filter q xs = filter_alike p q xs (λ y has. each y (tail_stands x xs y has)) in
    λ k. if here k then x ∷ rest k else rest k

module _ (schema : Schema) (one two : Basis) (is_one : IsBasis (beside one schema)) (is_two : IsBasis (beside two schema)) where
  -- what the one answers of constants and tested properties, with these answers of types, kinds and hosts
  abbrev mixed : (TypeId → TypeId → Bool) → (Value → Kind → Bool) → (SetId → List Host) → Basis
  mixed is_a fits hosts = record {
    schema = schema;
    is_a = is_a;
    fits = fits;
    group = one.group;
    constants = one.constants;
    tested = one.tested;
    hosts = hosts;
  }

  abbrev between : Basis
  between = mixed two.is_a two.fits two.hosts

  -- a type has the same tested properties
  tested_alike : (t : TypeId) → tested_props between t ≡ tested_props (beside two schema) t
  tested_alike t = filter_alike (λ (p : PropId). one.tested (prop p)) (λ (p : PropId). two.tested (prop p)) (props_of schema.model t) (λ p has.
      let declared = prop_there (beside one schema) is_one t p has in
      same_tested schema one two is_one is_two p (slice_get_within schema.model.props p.index declared.0 declared.1))

  -- a property has the same atoms
  atoms_alike : (p : PropId) → atoms_at between p ≡ atoms_at (beside two schema) p
  atoms_alike p = by (slice_get schema.model.props p.index) refl
    where
      atoms_by : List Value → Prop → List AtomOf
      atoms_by constants declared = map (λ atom. record { prop = p; atom = atom }) (atoms_of two.fits declared constants)

      by : (found : Option Prop) → slice_get schema.model.props p.index ≡ found
          → option_map_or (atoms_by (one.constants (prop p))) found [] ≡ option_map_or (atoms_by (two.constants (prop p))) found []
      by None here = refl
      by (Some declared) here =
          let same = same_constants schema one two is_one is_two p (slice_get_within schema.model.props p.index declared here) in
          λ k. atoms_by (same k) declared

  -- a set has the same regions of a type
  by_alike : (s : SetId) (t : TypeId) → regions_by between s t ≡ regions_by (beside two schema) s t
  by_alike s t = λ k. flat_map (regions_with (beside two schema) s t) (choices (map (λ p. atoms_alike p k) (tested_alike t k)))

  -- and so the same regions
  pub regions_alike : (s : SetId) → regions_of (beside one schema) s ≡ regions_of (beside two schema) s
  regions_alike s =
      let by_one : regions_of (beside one schema) s ≡ regions_of between s =
      λ k. regions_of (mixed (same_is_a schema one two is_one is_two k) (same_fits schema one two is_one is_two k) (λ u. same_hosts schema one two is_one is_two u k)) s in
      let by_two : regions_of between s ≡ regions_of (beside two schema) s =
      λ k. option_map_or (λ (set : EntitySet). flat_map (λ t. by_alike s t k) (types_of (beside two schema) set)) (slice_get schema.model.sets s.index) [] in
      by_one ∙ by_two
