-- V31 and V32: who writes each table, and by which pairs. All that writes a table stands in one list, in the order of the document's places:
-- the mappings of association sets come before those of entity sets, since members are ordered by their names.
-- Source: MSL version 3, MappingFragment and AssociationSetMapping. Who may write a table is the profile's choice.
use Rattle.std.specs.Prelude.{◌⊎◌, ℕ, List, [], ◌∷◌, ◌++◌, ◌==◌, ◌&&◌, map, filter, slice_get, Bool, true, false, not, if◌then◌else◌}
use Rattle.std.specs.List.{flat_map, list_all, list_any}
use Rattle.std.specs.Option.{option_map_or}
use Rattle.json_form.specs.declared.pointer.Step.{Step}
use Rattle.layouts.specs.declared.fault.Fault.{Fault}
use Rattle.layouts.specs.declared.rule.Rule.{Rule}
use Rattle.layouts.specs.declared.rule.Rule.TheVariants.{OnePairing, OneOwner}
use Rattle.layouts.specs.rule_places.Places.{IsAt}
use Rattle.emc_base.specs.Lists.{At}
use Rattle.round_trip.specs.Words.{PropId, ColId, EntityModel, StoreModel, Mult, Assoc, End, Pair, Fragment, LinkFragment, key_columns}
use Rattle.edm_types.specs.declared.model.Mult.TheVariants.{One, ZeroOrOne, Many}
use Rattle.round_trip.specs.soundness.Lookups.{set_key}
use Rattle.table_owners.specs.table_writers.Writers.{PairsOtherwise, HasOtherOwner}
use Rattle.table_owners.specs.declared.table_writers.writer.Owner.TheVariants as owner
use Rattle.table_owners.specs.declared.table_writers.writer.Writer.{Writer}
use Rattle.msl_rules.specs.declared.msl_lists.raw.RawMapping.{RawMapping}
use Rattle.msl_rules.specs.MappingMeaning.{fragment_at, link_at}
use Rattle.msl_rules.specs.Sites.{Site, LinkSite, sites, link_sites}

-- a writer with its place in the document
pub record PlacedWriter : Type 0 where
  pub place : List Step
  pub writer : Writer

-- the column, the property, is one of these
abbrev pub is_among_cols : List ColId → ColId → Bool
is_among_cols cols col = list_any (λ other. other.index == col.index) cols

abbrev pub is_among_props : List PropId → PropId → Bool
is_among_props props prop = list_any (λ other. other.index == prop.index) props

-- the columns of the pairs are exactly these
abbrev pub are_exactly : List ColId → List Pair → Bool
are_exactly cols pairs = list_all (λ pair. is_among_cols cols pair.col) pairs && list_all (is_among_cols (map (λ pair. pair.col) pairs)) cols

-- the pairs of a property of this key with a column of this primary key
abbrev pub key_pairs : List PropId → List ColId → List Pair → List Pair
key_pairs key cols pairs = filter (λ pair. is_among_props key pair.prop && is_among_cols cols pair.col) pairs

-- an end may not be without a partner
abbrev pub is_one : Mult → Bool
is_one One = true
is_one ZeroOrOne = false
is_one Many = false

module _ (model : EntityModel) (store : StoreModel) where
  -- the writer that a fragment of entities is: its set writes the table
  abbrev pub writer_of_fragment : Fragment → Writer
  writer_of_fragment fragment = record {
    table = fragment.table;
    owner = owner.Set fragment.set;
    key = key_pairs (set_key model fragment.set) (key_columns store fragment.table) fragment.pairs;
  }

  -- the writer that a link fragment is by one of its ends: the set there, where the links are hosted at this end
  abbrev pub writers_of_end : LinkFragment → End → List Pair → List Writer
  writers_of_end fragment end pairs =
      if are_exactly (key_columns store fragment.table) pairs
      then record { table = fragment.table; owner = owner.Set end.set; key = key_pairs (set_key model end.set) (key_columns store fragment.table) pairs } ∷ []
      else []

  -- and by both: the association, where the links are joined
  abbrev pub writers_of_both : LinkFragment → Assoc → List Writer
  writers_of_both fragment assoc =
      if are_exactly (key_columns store fragment.table) (fragment.first ++ fragment.second) && not (is_one assoc.first.mult) && not (is_one assoc.second.mult)
      then record { table = fragment.table; owner = owner.Assoc fragment.assoc; key = [] } ∷ []
      else []

  abbrev pub writers_of_link : LinkFragment → Assoc → List Writer
  writers_of_link fragment assoc = writers_of_end fragment assoc.first fragment.first ++ writers_of_end fragment assoc.second fragment.second ++ writers_of_both fragment assoc

  -- a link fragment with its association
  abbrev pub with_assoc : LinkFragment → List Writer
  with_assoc fragment = option_map_or (writers_of_link fragment) (slice_get model.assocs fragment.assoc.index) []

  -- at a place of the document
  abbrev pub placed : List Step → List Writer → List PlacedWriter
  placed place writers = map (λ writer. record { place = place; writer = writer }) writers

  abbrev pub writers_at_site : Site → List PlacedWriter
  writers_at_site site = option_map_or (λ fragment. placed site.place (writer_of_fragment fragment ∷ [])) (fragment_at model store site) []

  abbrev pub writers_at_link : LinkSite → List PlacedWriter
  writers_at_link site = option_map_or (λ fragment. placed site.place (with_assoc fragment)) (link_at model store site) []

  -- all that writes a table, in the order of places
  abbrev pub writers_in : RawMapping → List PlacedWriter
  writers_in raw = flat_map writers_at_link (link_sites raw) ++ flat_map writers_at_site (sites raw)

  -- a rule is broken at the place of a writer
  abbrev pub BreaksAtWriter : Rule → (List Writer → ℕ → Type 0) → RawMapping → Fault → Type 0
  BreaksAtWriter rule Breaks raw fault =
      (k : ℕ) × (one : PlacedWriter) × At (writers_in raw) k one × Breaks (map (λ other. other.writer) (writers_in raw)) k × IsAt rule one.place fault

  -- V31: a set pairs its key otherwise than before where it owns the table. V32: another owner wrote the table before.
  abbrev pub BreaksOwnerRules : RawMapping → Fault → Type 0
  BreaksOwnerRules raw fault = BreaksAtWriter OnePairing PairsOtherwise raw fault ⊎ BreaksAtWriter OneOwner HasOtherOwner raw fault
