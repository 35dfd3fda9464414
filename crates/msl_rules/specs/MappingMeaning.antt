-- What a whole MSL document means: a mapping. Where a name stands for nothing, or a condition isn't well-formed, it is left out.
-- Source: MSL version 3, in the profile of this project.
use Rattle.std.specs.Prelude.{ℕ, List, Option, None, option_and_then, option_map, slice_get}
use Rattle.std.specs.List.{filter_map}
use Rattle.round_trip.specs.Words.{PropId, EntityModel, StoreModel, Assoc, Fragment, LinkFragment, Mapping, Schema}
use Rattle.json_form.specs.Pointers.{pointer_of}
use Rattle.schema_names.specs.SchemaNames.{set_named, association_set_named, table_named}
use Rattle.msl_rules.specs.declared.msl_lists.raw.RawFragment.{RawFragment}
use Rattle.msl_rules.specs.declared.msl_lists.raw.RawTypeMapping.{RawTypeMapping}
use Rattle.msl_rules.specs.declared.msl_lists.raw.RawLinkMapping.{RawLinkMapping}
use Rattle.msl_rules.specs.declared.msl_lists.raw.RawMapping.{RawMapping}
use Rattle.msl_rules.specs.Found.{set_numbered, assoc_numbered, table_numbered, prop_of_picks, pick_in, pairs_in, conds_in, end_pairs}
use Rattle.msl_rules.specs.Sites.{Site, LinkSite, sites, link_sites}

module _ (model : EntityModel) (store : StoreModel) where
  -- the fragment of a type mapping with the set and the table at these places
  abbrev pub fragment_with : List ℕ → RawTypeMapping → RawFragment → ℕ → ℕ → Fragment
  fragment_with place types fragment s t =
      let named : List ℕ → Option PropId = prop_of_picks model types.picks in
      record {
        place = place;
        set = set_numbered s;
        picks = filter_map (pick_in model) types.picks;
        table = table_numbered t;
        pairs = pairs_in model store named t fragment.pairs;
        conds = conds_in model store named t fragment.conds;
      }

  -- a fragment, where its set and its table are found
  abbrev pub fragment_at : Site → Option Fragment
  fragment_at site = option_and_then
      (λ s. option_map (fragment_with (pointer_of site.place) site.types site.fragment s) (table_named store site.fragment.table))
      (set_named model site.set.name)

  -- the mapping of this association set, which stands at a place, to the table at a place
  abbrev pub link_with : List ℕ → RawLinkMapping → ℕ → Assoc → ℕ → LinkFragment
  link_with place link a assoc t = record {
    place = place;
    assoc = assoc_numbered a;
    table = table_numbered t;
    first = end_pairs model store t assoc.first link.ends;
    second = end_pairs model store t assoc.second link.ends;
    conds = conds_in model store (λ name. None) t link.conds;
  }

  -- a mapping of an association, where its set and its table are found
  abbrev pub link_at : LinkSite → Option LinkFragment
  link_at site = option_and_then
      (λ a. option_and_then (λ assoc. option_map (link_with (pointer_of site.place) site.link a assoc) (table_named store site.link.table)) (slice_get model.assocs a))
      (association_set_named model site.link.name)

  -- the mapping that a document means
  abbrev pub mapping_in : RawMapping → Mapping
  mapping_in raw = record { fragments = filter_map fragment_at (sites raw); links = filter_map link_at (link_sites raw) }

  -- it, between its model and its store
  abbrev pub schema_in : RawMapping → Schema
  schema_in raw = record { model = model; store = store; mapping = mapping_in raw }
