-- Where the fragments of links that a document means come from.
use Rattle.std.proofs.Common.{◌≡◌, ℕ, slice_get, All, Contains, Option, Some, option_map, sym, subst}
use Rattle.std.specs.List.{enumerate_from}
use Rattle.std.specs.Option.{option_and_then}
use Rattle.emc_base.specs.Lists.{At}
use Rattle.emc_base.proofs.Lists.{all_from_members}
use Rattle.emc_base.proofs.Numbered.{enumerated_at}
use Rattle.emc_base.proofs.Members.{in_map}
use Rattle.json_form.specs.Pointers.{pointer_of}
use Rattle.round_trip.specs.Words.{Assoc, EntityModel, LinkFragment, StoreModel}
use Rattle.schema_names.specs.SchemaNames.{association_set_named, table_named}
use Rattle.emc_base.proofs.FoundItems.{and_then_some, map_some}
use Rattle.emc_base.proofs.Joined.{in_found}
use Rattle.msl_rules.specs.declared.msl_lists.raw.RawLinkMapping.{RawLinkMapping}
use Rattle.msl_rules.specs.declared.msl_lists.raw.RawMapping.{RawMapping}
use Rattle.msl_rules.specs.MappingMeaning.{link_at, link_with, mapping_in}
use Rattle.msl_rules.specs.Sites.{LinkSite, link_place, link_sites}

-- an AssociationSetMapping whose association set and table are found, and what it means
pub record IsFoundLink (model : EntityModel) (store : StoreModel) (site : LinkSite) (fragment : LinkFragment) : Type 0 where
  pub set : ℕ
  pub is_set : association_set_named model site.link.name ≡ Some set
  pub assoc : Assoc
  pub is_assoc : At model.assocs set assoc
  pub table : ℕ
  pub is_table : table_named store site.link.table ≡ Some table
  pub is : link_with model store (pointer_of site.place) site.link set assoc table ≡ fragment

-- where something is meant, both are found
pub found_link : (model : EntityModel) (store : StoreModel) (site : LinkSite) (fragment : LinkFragment) → link_at model store site ≡ Some fragment → IsFoundLink model store site fragment
found_link model store site fragment is =
    let with_table : ℕ → Assoc → Option LinkFragment = λ a assoc. option_map (link_with model store (pointer_of site.place) site.link a assoc) (table_named store site.link.table) in
    let set = and_then_some (λ a. option_and_then (with_table a) (slice_get model.assocs a)) (association_set_named model site.link.name) fragment is in
    let assoc = and_then_some (with_table set.0) (slice_get model.assocs set.0) fragment set.2 in
    let table = map_some (link_with model store (pointer_of site.place) site.link set.0 assoc.0) (table_named store site.link.table) fragment assoc.2 in
    record { set = set.0; is_set = set.1; assoc = assoc.0; is_assoc = assoc.1; table = table.0; is_table = table.1; is = table.2 }

-- the mapping of an association set at a place of the document, with the set and the table
pub record IsMeantLink (model : EntityModel) (store : StoreModel) (raw : RawMapping) : Type 0 where
  pub place : ℕ
  pub link : RawLinkMapping
  pub here : At raw.links place link
  pub set : ℕ
  pub is_set : association_set_named model link.name ≡ Some set
  pub assoc : Assoc
  pub is_assoc : At model.assocs set assoc
  pub table : ℕ
  pub is_table : table_named store link.table ≡ Some table

module _ (model : EntityModel) (store : StoreModel) (raw : RawMapping) where
  -- what it means
  abbrev pub meant_by : IsMeantLink model store raw → LinkFragment
  meant_by it = link_with model store (pointer_of (link_place it.place)) it.link it.set it.assoc it.table

  -- a fragment is what such a mapping means
  pub meant_link : (fragment : LinkFragment) → Contains (mapping_in model store raw).links fragment → (it : IsMeantLink model store raw) × (meant_by it ≡ fragment)
  meant_link fragment has =
      let site = in_found (link_at model store) (link_sites raw) fragment has in
      let site_of : ℕ × RawLinkMapping → LinkSite = λ entry. record { place = link_place entry.0; link = entry.1 } in
      let entry = in_map site_of (enumerate_from 0 raw.links) site.0 site.1 in
      let P : LinkSite → Type 0 = λ site. link_at model store site ≡ Some fragment in
      let found = found_link model store (site_of entry.0) fragment (subst P (sym entry.2) site.2) in (
        record {
          place = entry.0.0;
          link = entry.0.1;
          here = enumerated_at raw.links entry.0 entry.1;
          set = found.set;
          is_set = found.is_set;
          assoc = found.assoc;
          is_assoc = found.is_assoc;
          table = found.table;
          is_table = found.is_table;
        },
        found.is,
      )

  -- so what holds of what such mappings mean holds of each fragment
  pub of_each_link : (P : LinkFragment → Type 0) → ((it : IsMeantLink model store raw) → P (meant_by it)) → All P (mapping_in model store raw).links
  of_each_link P holds = all_from_members P (mapping_in model store raw).links (λ fragment has. let found = meant_link fragment has in subst P found.1 (holds found.0))
