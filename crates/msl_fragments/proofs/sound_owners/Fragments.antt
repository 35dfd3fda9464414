-- Where the fragments of a mapping come from: items of the document, whose set, association set and table are found.
use Rattle.std.proofs.Common.{◌≡◌, ℕ, Contains, Option, Some, option_map, slice_get, refl, subst}
use Rattle.std.specs.List.{enumerate_from}
use Rattle.std.specs.Option.{option_and_then}
use Rattle.emc_base.specs.Lists.{At}
use Rattle.emc_base.proofs.Numbered.{enumerated_at}
use Rattle.emc_base.proofs.Members.{in_map}
use Rattle.json_form.specs.Pointers.{pointer_of}
use Rattle.round_trip.specs.Words.{Assoc, EntityModel, Fragment, LinkFragment, StoreModel}
use Rattle.schema_names.specs.SchemaNames.{association_set_named, set_named, table_named}
use Rattle.emc_base.proofs.FoundItems.{and_then_some, map_some}
use Rattle.emc_base.proofs.Joined.{in_flat_map, in_found}
use Rattle.msl_rules.specs.declared.msl_lists.raw.RawFragment.{RawFragment}
use Rattle.msl_rules.specs.declared.msl_lists.raw.RawLinkMapping.{RawLinkMapping}
use Rattle.msl_rules.specs.declared.msl_lists.raw.RawMapping.{RawMapping}
use Rattle.msl_rules.specs.declared.msl_lists.raw.RawSetMapping.{RawSetMapping}
use Rattle.msl_rules.specs.declared.msl_lists.raw.RawTypeMapping.{RawTypeMapping}
use Rattle.msl_rules.specs.MappingMeaning.{fragment_at, fragment_with, link_at, link_with, mapping_in}
use Rattle.msl_rules.specs.Sites.{LinkSite, Site, fragment_place, link_place, link_sites, sites, sites_of_set, sites_of_types}

-- the numbers of a fragment's place, and what stands there
pub record IsSite (raw : RawMapping) (site : Site) : Type 0 where
  pub i : ℕ
  pub j : ℕ
  pub k : ℕ
  pub set : At raw.sets i site.set
  pub types : At site.set.types j site.types
  pub fragment : At site.types.fragments k site.fragment
  pub place : site.place ≡ fragment_place i j k

-- the number of an association's mapping, and what stands there
pub record IsLinkSite (raw : RawMapping) (site : LinkSite) : Type 0 where
  pub i : ℕ
  pub link : At raw.links i site.link
  pub place : site.place ≡ link_place i

-- what stands at a fragment of a type mapping
pub stands_in_types : (i : ℕ) (set : RawSetMapping) (j : ℕ) (types : RawTypeMapping) (site : Site) → Contains (sites_of_types i set j types) site
    → (k : ℕ) × (fragment : RawFragment) × At types.fragments k fragment × (record { place = fragment_place i j k; set = set; types = types; fragment = fragment } ≡ site)
stands_in_types i set j types site has =
    let last = in_map (λ (entry : ℕ × RawFragment). record { place = fragment_place i j entry.0; set = set; types = types; fragment = entry.1 }) (enumerate_from 0 types.fragments) site has in
    (last.0.0, last.0.1, enumerated_at types.fragments last.0 last.1, last.2)

module _ (raw : RawMapping) where
  -- each fragment of the document has numbers
  in_types : (i : ℕ) (set : RawSetMapping) → At raw.sets i set → (j : ℕ) (types : RawTypeMapping) → At set.types j types
      → (site : Site) → Contains (sites_of_types i set j types) site → IsSite raw site
  in_types i set here j types there site has =
      let stands = stands_in_types i set j types site has in
      subst (IsSite raw) stands.3 (record { i = i; j = j; k = stands.0; set = here; types = there; fragment = stands.2; place = refl })

  in_set : (i : ℕ) (set : RawSetMapping) → At raw.sets i set → (site : Site) → Contains (sites_of_set i set) site → IsSite raw site
  in_set i set here site has =
      let from = in_flat_map (λ (entry : ℕ × RawTypeMapping). sites_of_types i set entry.0 entry.1) (enumerate_from 0 set.types) site has in
      in_types i set here from.0.0 from.0.1 (enumerated_at set.types from.0 from.1) site from.2

  pub site_of : (site : Site) → Contains (sites raw) site → IsSite raw site
  site_of site has =
      let from = in_flat_map (λ (entry : ℕ × RawSetMapping). sites_of_set entry.0 entry.1) (enumerate_from 0 raw.sets) site has in
      in_set from.0.0 from.0.1 (enumerated_at raw.sets from.0 from.1) site from.2

  -- and so has each mapping of an association
  pub link_site_of : (site : LinkSite) → Contains (link_sites raw) site → IsLinkSite raw site
  link_site_of site has =
      let from = in_map (λ (entry : ℕ × RawLinkMapping). record { place = link_place entry.0; link = entry.1 }) (enumerate_from 0 raw.links) site has in
      subst (IsLinkSite raw) from.2 (record { i = from.0.0; link = enumerated_at raw.links from.0 from.1; place = refl })

module _ (model : EntityModel) (store : StoreModel) where
  -- the set and the table of a fragment are found, and it is what it means
  pub record IsMeantAt (site : Site) (fragment : Fragment) : Type 0 where
    pub s : ℕ
    pub t : ℕ
    pub is_set : set_named model site.set.name ≡ Some s
    pub is_table : table_named store site.fragment.table ≡ Some t
    pub is : fragment_with model store (pointer_of site.place) site.types site.fragment s t ≡ fragment

  -- those of an association's mapping, with the association
  pub record IsLinkMeantAt (site : LinkSite) (fragment : LinkFragment) : Type 0 where
    pub a : ℕ
    pub assoc : Assoc
    pub t : ℕ
    pub is_set : association_set_named model site.link.name ≡ Some a
    pub is_assoc : At model.assocs a assoc
    pub is_table : table_named store site.link.table ≡ Some t
    pub is : link_with model store (pointer_of site.place) site.link a assoc t ≡ fragment

  -- what is found at a place of the document is what it means
  pub meant_at : (site : Site) (fragment : Fragment) → fragment_at model store site ≡ Some fragment → IsMeantAt site fragment
  meant_at site fragment is =
      let set = and_then_some (λ s. option_map (fragment_with model store (pointer_of site.place) site.types site.fragment s) (table_named store site.fragment.table))
      (set_named model site.set.name) fragment is in
      let table = map_some (fragment_with model store (pointer_of site.place) site.types site.fragment set.0) (table_named store site.fragment.table) fragment set.2 in
      record { s = set.0; t = table.0; is_set = set.1; is_table = table.1; is = table.2 }

  pub link_meant_at : (site : LinkSite) (fragment : LinkFragment) → link_at model store site ≡ Some fragment → IsLinkMeantAt site fragment
  link_meant_at site fragment is =
      let with_table : ℕ → Assoc → Option LinkFragment = λ a assoc. option_map (link_with model store (pointer_of site.place) site.link a assoc) (table_named store site.link.table) in
      let set = and_then_some (λ a. option_and_then (with_table a) (slice_get model.assocs a)) (association_set_named model site.link.name) fragment is in
      let assoc = and_then_some (with_table set.0) (slice_get model.assocs set.0) fragment set.2 in
      let table = map_some (link_with model store (pointer_of site.place) site.link set.0 assoc.0) (table_named store site.link.table) fragment assoc.2 in
      record { a = set.0; assoc = assoc.0; t = table.0; is_set = set.1; is_assoc = assoc.1; is_table = table.1; is = table.2 }

  -- the place in the document at which a fragment of the mapping stands
  pub record IsFragmentOf (raw : RawMapping) (fragment : Fragment) : Type 0 where
    pub site : Site
    pub has : Contains (sites raw) site
    pub given : fragment_at model store site ≡ Some fragment
    pub here : IsSite raw site
    pub meant : IsMeantAt site fragment

  pub record IsLinkOf (raw : RawMapping) (fragment : LinkFragment) : Type 0 where
    pub site : LinkSite
    pub has : Contains (link_sites raw) site
    pub given : link_at model store site ≡ Some fragment
    pub here : IsLinkSite raw site
    pub meant : IsLinkMeantAt site fragment

  -- each has one
  pub fragment_of : (raw : RawMapping) (fragment : Fragment) → Contains (mapping_in model store raw).fragments fragment → IsFragmentOf raw fragment
  fragment_of raw fragment has =
      let from = in_found (fragment_at model store) (sites raw) fragment has in
      record { site = from.0; has = from.1; given = from.2; here = site_of raw from.0 from.1; meant = meant_at from.0 fragment from.2 }

  pub link_of : (raw : RawMapping) (fragment : LinkFragment) → Contains (mapping_in model store raw).links fragment → IsLinkOf raw fragment
  link_of raw fragment has =
      let from = in_found (link_at model store) (link_sites raw) fragment has in
      record { site = from.0; has = from.1; given = from.2; here = link_site_of raw from.0 from.1; meant = link_meant_at from.0 fragment from.2 }
