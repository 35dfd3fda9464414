-- The rows at the key of an entity meet the case of its region alone, and keys of rows are those of entities.
use Rattle.std.proofs.Common.{◌≡◌, ◌↔◌, List, length, Bool, Contains, sym, ap, subst, ◌∙◌}
use Rattle.std.proofs.lemmas.List.{length-map}
use Rattle.round_trip.specs.Words.{SetId, TableId, ColId, Entity, Hosted, IsLegal, RoundTrips, Row, State, Tables, entities_in, key_of, key_props, value_of}
use Rattle.cells.specs.Limits.{IsWithinLimits}
use Rattle.round_trip.specs.soundness.Lookups.{set_key}
use Rattle.conflict_laws.proofs.same.states.Legal.{key_parts}
use Rattle.regions.specs.declared.region.Region.{Region}
use Rattle.regions.specs.declared.pattern.Focus.TheVariants as focus
use Rattle.regions.specs.Basis.{Basis}
use Rattle.regions.specs.Patterns.{pattern_of}
use Rattle.regions.specs.Regions.{regions_of}
use Rattle.regions.specs.region_laws.IsBasis.{IsBasis}
use Rattle.regions.proofs.region_laws.listing.Listed.{set_is}
use Rattle.region_states.proofs.focus.Flags.{some_region}
use Rattle.regions.proofs.region_laws.pattern.types.Regions.{parts_of}
use Rattle.case_laws.specs.filled_rows.Demanded.{IsHeldWith}
use Rattle.case_laws.specs.region_cases.Cases.{case_of}
use Rattle.case_laws.specs.region_cases.Meets.{MeetsCase, StandsAtKey}
use Rattle.case_laws.specs.Reading.{DecidesFree, HasStateTables}
use Rattle.case_laws.specs.Told.{AreTold, IsMet, IsReadable}
use Rattle.case_laws.proofs.Keys.{set_key_is}
use Rattle.case_laws.proofs.own.OneCase.{one_case, reading}
use Rattle.case_laws.proofs.own.Reading.{IsReading}
use Rattle.case_laws.proofs.own.Own.{alone_in_tables, meets}
use Rattle.case_laws.proofs.own.OwnTold.{entity_told, links_told}
use Rattle.case_laws.proofs.shown.Present.{present_row}
use Rattle.case_laws.proofs.reading.Readable.{some_row}
use Rattle.case_laws.proofs.reading.RoundTripping.{few, readable}
use Rattle.case_laws.proofs.reading.Whole.{one_entity, one_links}

module _ (basis : Basis) (is : IsBasis basis) (limits : IsWithinLimits basis.schema) (round : RoundTrips basis.schema)
    (is_free : TableId → ColId → Bool) (decides : DecidesFree basis.schema is_free) (state : State) (legal : IsLegal basis.schema.model state)
    (tables : Tables) (has : HasStateTables basis.schema state tables) (s : SetId) where
  module _ (entity : Entity) (links : List Hosted) (region : Region) (held : IsHeldWith basis state s entity links region) where
    abbrev can : IsReadable basis s region
    can = readable basis is limits round s region held.listed

    pub meets_own : MeetsCase basis tables (key_of basis.schema.model entity) (case_of is_free basis region)
    meets_own = meets is_free basis is decides state legal tables has s (few basis is limits round s) entity links region held can.clear

    -- its key has the parts of the set's
    key_whole : length (key_of basis.schema.model entity) ≡ length (set_key basis.schema.model s)
    key_whole =
        let parts = parts_of basis s region held.listed in
        length-map (key_props basis.schema.model entity.ty) (value_of basis.schema.model entity)
        ∙ ap length (key_parts basis.schema is.sound s parts.set parts.is_set state legal entity held.stands)
        ∙ ap length (sym (set_key_is basis.schema is.sound s parts.set parts.is_set))

    reading_of : (other : Region) → Contains (regions_of basis s) other → MeetsCase basis tables (key_of basis.schema.model entity) (case_of is_free basis other)
        → IsReading is_free basis is decides s tables (key_of basis.schema.model entity) other
    reading_of other listed met = reading basis is limits round is_free decides s tables (key_of basis.schema.model entity) other listed
        (record { meets = met; whole = key_whole })
        (alone_in_tables is_free basis is decides state tables has s other listed (readable basis is limits round s other listed).clear (key_of basis.schema.model entity))

    pub own_case : (other : Region) → Contains (regions_of basis s) other → MeetsCase basis tables (key_of basis.schema.model entity) (case_of is_free basis other)
        → other ≡ region
    own_case other listed met = one_case basis is limits round is_free decides s tables (key_of basis.schema.model entity) other region
        (reading_of other listed met) (reading_of region held.listed meets_own)

    -- what the rows tell is the entity with its links
    pub told_is_own : (other : Region) → Contains (regions_of basis s) other → MeetsCase basis tables (key_of basis.schema.model entity) (case_of is_free basis other)
        → (it : Entity) (told_links : List Hosted) → AreTold basis is_free s other tables (key_of basis.schema.model entity) it told_links
        → (it ≡ entity) × ((hosted : Hosted) → Contains told_links hosted ↔ Contains links hosted)
    told_is_own other listed met it told_links told =
        let Told : Region → Type 0 = λ one. AreTold basis is_free s one tables (key_of basis.schema.model entity) it told_links in
        let here : Told region = subst Told (own_case other listed met) told in
        let own : AreTold basis is_free s region tables (key_of basis.schema.model entity) entity links = record {
          entity_told = entity_told is_free basis is decides state legal tables has s (few basis is limits round s) entity links region held can.clear;
          links_told = links_told is_free basis is decides state legal tables has s (few basis is limits round s) entity links region held can.clear;
        } in
        let is_met : IsMet basis is_free s region tables (key_of basis.schema.model entity) = record { meets = meets_own; whole = key_whole } in (
          one_entity is_free basis is decides s region can tables (key_of basis.schema.model entity) is_met it entity told_links links here own,
          one_links is_free basis is decides s region can tables (key_of basis.schema.model entity) is_met it entity told_links links here own,
        )

    -- and one of them stands there
    row_stands : (t : TableId) × (held_row : Row) × StandsAtKey basis.schema tables s (key_of basis.schema.model entity) t held_row
    row_stands =
        let row = some_row (pattern_of basis (focus.Entity region)).rows can.present in
        let found = present_row is_free basis region tables (key_of basis.schema.model entity) meets_own row.0 row.1 in
        let Here : SetId → Type 0 = λ u. StandsAtKey basis.schema tables u (key_of basis.schema.model entity) row.0.table found.0 in
        (row.0.table, found.0, subst Here (set_is basis s region held.listed) found.1)

  -- so some row stands at the key of each entity
  pub row_there : (entity : Entity) → Contains (entities_in state s) entity
      → (t : TableId) × (held_row : Row) × StandsAtKey basis.schema tables s (key_of basis.schema.model entity) t held_row
  row_there entity stands =
      let found = some_region basis is (record { state = state; legal = legal; s = s; entity = entity; stands = stands }) in
      row_stands entity found.1.links found.0
      (record { stands = stands; hosted = found.1.hosted; listed = found.1.listed; holds = found.1.holds })
