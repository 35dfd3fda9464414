-- The tests that are kept by the model's types, and where the regions of a type stand among those of the set.
use Rattle.std.proofs.Common.{◌≡◌, ◌+◌, ◌≤◌, ℕ, List, [], ◌∷◌, ◌++◌, append_assoc, map, filter, flat_map, take, drop, length, slice_get, true, Option, Some, None, option_map, inl, inr, refl, sym, ap, subst, ◌∙◌, take-append-drop, arith}
use Rattle.std.specs.List.{enumerate_from}
use Rattle.std.proofs.lemmas.List.{length-map, map-append}
use Rattle.std.proofs.lemmas.List.Elements.{filter-append}
use Rattle.std.proofs.lemmas.List.FromFn.{length-enumerate_from}
use Rattle.std.proofs.lemmas.Option.{slice_get_cases, slice_get_past}
use Rattle.emc_base.specs.Lists.{At}
use Rattle.emc_base.proofs.Numbered.{filter_kept, numbered_at}
use Rattle.emc_base.proofs.Joined.{at_map}
use Rattle.round_trip.specs.Words.{SetId, TypeId, EntityType, EntitySet}
use Rattle.regions.specs.declared.region.Region.{Region}
use Rattle.regions.specs.Basis.{Basis}
use Rattle.regions.specs.Regions.{model_of, regions_by, types_of}
use Rattle.update_views.specs.region_table.Made.{is_type_of, types_before}
use Rattle.update_views.proofs.region_table.Standing.{at_joined}

-- by numbered items, at a place
module _ {X Y : Type 0} (f : ℕ × X → Y) (xs : List X) (i : ℕ) where
  pub at_numbered : slice_get (map f (enumerate_from 0 xs)) i ≡ option_map (λ x. f (i, x)) (slice_get xs i)
  at_numbered = by (slice_get xs i) refl
    where
      by : (found : Option X) → slice_get xs i ≡ found → slice_get (map f (enumerate_from 0 xs)) i ≡ option_map (λ x. f (i, x)) found
      by None is =
          let size : length (map f (enumerate_from 0 xs)) ≡ length xs = length-map (enumerate_from 0 xs) f ∙ length-enumerate_from 0 xs in
          slice_get_past (map f (enumerate_from 0 xs)) i (elim (slice_get_cases xs i).1 [
            | inl found ↦ let none = sym is ∙ found.2 in cc
            | inr past ↦ let end : length xs ≤ i = past.0 in omega (arith, size, end)
          ])
      by (Some x) is = at_map f (enumerate_from 0 xs) i (i, x) (numbered_at xs i x is)

module _ (basis : Basis) (s : SetId) where
  module _ (set : EntitySet) (i : ℕ) (declared : EntityType) (here : At (model_of basis).types i declared) (listed : is_type_of basis set (i, declared) ≡ true) where
    -- the types of the set, those before apart
    abbrev entries : List (ℕ × EntityType)
    entries = enumerate_from 0 (model_of basis).types

    abbrev named : List (ℕ × EntityType) → List TypeId
    named placed = map (λ one. record { index = one.0 }) (filter (is_type_of basis set) placed)

    parted : types_of basis set ≡ types_before basis set i ++ record { index = i } ∷ named (drop (i + 1) entries)
    parted =
        let kept = filter_kept (is_type_of basis set) entries i (i, declared) (numbered_at (model_of basis).types i declared here) listed in
        let type_id : ℕ × EntityType → TypeId = λ one. record { index = one.0 } in
        ap named (sym (take-append-drop (i + 1) entries))
        ∙ ap (map type_id) (filter-append (is_type_of basis set) (take (i + 1) entries) (drop (i + 1) entries)
        ∙ ap (λ (first : List (ℕ × EntityType)). first ++ filter (is_type_of basis set) (drop (i + 1) entries)) kept
        ∙ append_assoc (filter (is_type_of basis set) (take i entries)) ((i, declared) ∷ []) (filter (is_type_of basis set) (drop (i + 1) entries)))
        ∙ map-append type_id (filter (is_type_of basis set) (take i entries)) ((i, declared) ∷ filter (is_type_of basis set) (drop (i + 1) entries))

    -- a region of the type, among those of the set
    pub among_all : (j : ℕ) (region : Region) → At (regions_by basis s (record { index = i })) j region
        → At (flat_map (regions_by basis s) (types_of basis set)) (length (flat_map (regions_by basis s) (types_before basis set i)) + j) region
    among_all j region stands =
        let P : List TypeId → Type 0 = λ types. At (flat_map (regions_by basis s) types) (length (flat_map (regions_by basis s) (types_before basis set i)) + j) region in
        subst P (sym parted) (at_joined (regions_by basis s) (types_before basis set i) (named (drop (i + 1) entries)) (record { index = i }) j region stands)
