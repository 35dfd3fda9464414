-- The fragments of a set's mapping, by its set, and the mapping of an association whose set and table are found.
use Rattle.std.proofs.Common.{◌≡◌, ℕ, List, [], Option, Some, None, option_map, slice_get, refl, sym, ◌∙◌}
use Rattle.std.specs.List.{enumerate_from, filter_map, flat_map}
use Rattle.std.specs.Option.{option_and_then}
use Rattle.round_trip.specs.Words.{EntityModel, StoreModel, Assoc, Fragment, LinkFragment}
use Rattle.emc_base.specs.Lists.{At}
use Rattle.json_form.specs.Pointers.{pointer_of}
use Rattle.schema_names.specs.SchemaNames.{association_set_named, set_named, table_named}
use Rattle.msl_rules.specs.declared.msl_lists.raw.RawFragment.{RawFragment}
use Rattle.msl_rules.specs.declared.msl_lists.raw.RawTypeMapping.{RawTypeMapping}
use Rattle.msl_rules.specs.declared.msl_lists.raw.RawSetMapping.{RawSetMapping}
use Rattle.msl_rules.specs.declared.msl_lists.raw.RawLinkMapping.{RawLinkMapping}
use Rattle.msl_rules.specs.MappingMeaning.{fragment_at, link_at, link_with}
use Rattle.msl_rules.specs.Sites.{Site, fragment_place, link_place, sites_of_set, sites_of_types}
use Rattle.msl_meaning.specs.msl_making.Walk.{fragment_of, fragments_of}
use Rattle.msl_meaning.proofs.msl_making.Behind.{found_by_images, found_in_all, none_found, none_given}

module _ (model : EntityModel) (store : StoreModel) (i : ℕ) (mapping : RawSetMapping) where
  -- the fragments by a set that may not be found
  abbrev in_types : Option ℕ → ℕ × RawTypeMapping → List Fragment
  in_types found j =
      filter_map (λ k. option_and_then (λ s. fragment_of model store s (pointer_of (fragment_place i j.0 k.0)) j.1 k.1) found) (enumerate_from 0 j.1.fragments)

  by_set : filter_map (fragment_at model store) (sites_of_set i mapping) ≡ flat_map (in_types (set_named model mapping.name)) (enumerate_from 0 mapping.types)
  by_set =
      found_in_all (fragment_at model store) (λ j. sites_of_types i mapping j.0 j.1) (enumerate_from 0 mapping.types)
      ∙ (λ p. flat_map (λ j. found_by_images (fragment_at model store) (site j) (enumerate_from 0 j.1.fragments) p) (enumerate_from 0 mapping.types))
    where
      site : ℕ × RawTypeMapping → ℕ × RawFragment → Site
      site j k = record { place = fragment_place i j.0 k.0; set = mapping; types = j.1; fragment = k.1 }

  -- those of a set that is found
  pub of_set : (s : ℕ) → set_named model mapping.name ≡ Some s
      → flat_map (λ j. fragments_of model store s i j.0 j.1) (enumerate_from 0 mapping.types) ≡ filter_map (fragment_at model store) (sites_of_set i mapping)
  of_set s is = sym (by_set ∙ (λ p. flat_map (in_types (is p)) (enumerate_from 0 mapping.types)))

  -- there is none where the set isn't found
  pub of_no_set : set_named model mapping.name ≡ None → filter_map (fragment_at model store) (sites_of_set i mapping) ≡ []
  of_no_set is =
      let none : ℕ × RawFragment → Option Fragment = λ k. None in
      by_set
      ∙ (λ p. flat_map (in_types (is p)) (enumerate_from 0 mapping.types))
      ∙ none_given (in_types None) (enumerate_from 0 mapping.types) (λ j. none_found none (enumerate_from 0 j.1.fragments) (λ k. refl))

-- the mapping of an association, where its set, the association and its table are found
pub link_found : (model : EntityModel) (store : StoreModel) (i : ℕ) (link : RawLinkMapping) (a : ℕ) (assoc : Assoc) (t : ℕ)
    → association_set_named model link.name ≡ Some a → At model.assocs a assoc → table_named store link.table ≡ Some t
    → link_at model store (record { place = link_place i; link = link }) ≡ Some (link_with model store (pointer_of (link_place i)) link a assoc t)
link_found model store i link a assoc t set here table =
    let with : ℕ → Assoc → ℕ → LinkFragment = link_with model store (pointer_of (link_place i)) link in
    (λ p. option_and_then (λ s. option_and_then (λ known. option_map (with s known) (table_named store link.table)) (slice_get model.assocs s)) (set p))
    ∙ (λ p. option_and_then (λ known. option_map (with a known) (table_named store link.table)) (here p))
    ∙ (λ p. option_map (with a assoc) (table p))
