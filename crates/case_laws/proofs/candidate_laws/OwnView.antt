-- The rows at the key of an entity of a legal state meet the case of its region, and the query view gives this entity.
use Rattle.std.proofs.Common.{◌≡◌, ◌↔◌, List, length, Bool, Contains, sym, ap, subst, ◌∙◌}
use Rattle.std.proofs.lemmas.List.{length-map}
use Rattle.std.proofs.lemmas.List.Elements.{All-contains}
use Rattle.emc_base.proofs.Mapped.{contains_at, contains_map}
use Rattle.emc_base.proofs.Numbered.{map_contains}
use Rattle.round_trip.specs.Words.{SetId, TableId, ColId, Entity, EntitySet, Hosted, At, IsLegal, RoundTrips, State, Tables, Value, entities_in, key_of, key_props, value_of}
use Rattle.cells.specs.Limits.{IsWithinLimits}
use Rattle.conflict_laws.proofs.same.states.Legal.{key_parts}
use Rattle.regions.specs.declared.region.Region.{Region}
use Rattle.regions.specs.Basis.{Basis, IsHostedLink}
use Rattle.regions.specs.Regions.{regions_of}
use Rattle.regions.specs.region_laws.IsBasis.{IsBasis}
use Rattle.regions.specs.region_laws.Held.{IsOfRegion}
use Rattle.regions.proofs.region_laws.entities.Held.{set_of_entity}
use Rattle.region_states.proofs.focus.Flags.{some_region}
use Rattle.case_laws.specs.filled_rows.Demanded.{IsHeldWith}
use Rattle.case_laws.specs.declared.region_cases.case.Case.{Case}
use Rattle.case_laws.specs.region_cases.Cases.{case_of, cases_of}
use Rattle.case_laws.specs.region_cases.Meets.{HaveLinksOf, IsEntityOf, IsLinkOf, MeetsCase}
use Rattle.case_laws.specs.candidates.Rows.{HasRows}
use Rattle.case_laws.specs.candidates.Viewed.{IsFirstMet, IsViewed, LacksCase}
use Rattle.case_laws.specs.Reading.{DecidesFree, HasStateTables}
use Rattle.case_laws.specs.Told.{IsMet, IsReadable}
use Rattle.case_laws.proofs.Keys.{set_key_is}
use Rattle.case_laws.proofs.own.Own.{alone_in_tables}
use Rattle.case_laws.proofs.own.OwnCase.{meets_own, row_there, told_is_own}
use Rattle.case_laws.proofs.reading.RoundTripping.{readable}
use Rattle.case_laws.proofs.reading.Telling.{some_told}
use Rattle.case_laws.proofs.reading.Whole.{key_of_row}

module _ (basis : Basis) (is : IsBasis basis) (limits : IsWithinLimits basis.schema) (round : RoundTrips basis.schema)
    (is_free : TableId → ColId → Bool) (decides : DecidesFree basis.schema is_free) (state : State) (legal : IsLegal basis.schema.model state)
    (tables : Tables) (has : HasStateTables basis.schema state tables) (s : SetId) where
  -- a key with rows is that of an entity
  pub entity_at : (key : List Value) → HasRows basis.schema tables s key → (entity : Entity) × Contains (entities_in state s) entity × (key_of basis.schema.model entity ≡ key)
  entity_at key rows = key_of_row basis is state legal tables has s key rows.whole rows.table rows.held rows.stands

  module _ (entity : Entity) (stands : Contains (entities_in state s) entity) where
    abbrev key : List Value
    key = key_of basis.schema.model entity

    -- it stands in a set of the model
    set_found : (set : EntitySet) × At basis.schema.model.sets s.index set
    set_found = set_of_entity basis state legal s entity stands

    -- and a region holds it
    region_found : (region : Region) × IsOfRegion basis state s entity region
    region_found = some_region basis is (record { state = state; legal = legal; s = s; entity = entity; stands = stands })

    held : IsHeldWith basis state s entity region_found.1.links region_found.0
    held = let of_region = region_found.1 in record { stands = stands; hosted = of_region.hosted; listed = of_region.listed; holds = of_region.holds }

    -- whose case its rows meet
    own_met : MeetsCase basis tables key (case_of is_free basis region_found.0)
    own_met = meets_own basis is limits round is_free decides state legal tables has s entity region_found.1.links region_found.0 held

    -- rows stand at its key
    pub has_rows : HasRows basis.schema tables s key
    has_rows =
        let set = set_found in
        let row = row_there basis is limits round is_free decides state legal tables has s entity stands in record {
          whole = length-map (key_props basis.schema.model entity.ty) (value_of basis.schema.model entity)
              ∙ ap length (key_parts basis.schema is.sound s set.0 set.1 state legal entity stands)
              ∙ ap length (sym (set_key_is basis.schema is.sound s set.0 set.1));
          table = row.0;
          held = row.1;
          stands = row.2;
        }

    -- the case that the query view finds first at its key is that of a region that can be read, and tells its links
    record FirstRead (case : Case) : Type 0 where
      region : Region
      listed : Contains (regions_of basis s) region
      is_case : case_of is_free basis region ≡ case
      links : List Hosted
      links_told : HaveLinksOf basis tables key (case_of is_free basis region) links
      own : (viewed : Entity) → IsEntityOf basis tables key (case_of is_free basis region) viewed
          → (viewed ≡ entity) × ((hosted : Hosted) → Contains links hosted ↔ Contains region_found.1.links hosted)
      told : Entity × IsEntityOf basis tables key (case_of is_free basis region) entity

    first_read : (case : Case) → IsFirstMet basis is_free tables s key case → FirstRead case
    first_read case first_met =
        let found = map_contains (case_of is_free basis) (regions_of basis s) case (contains_at (cases_of is_free basis s) first_met.place case first_met.is_case) in
        let region : Region = found.0 in
        let can : IsReadable basis s region = readable basis is limits round s region found.1 in
        let Met : Case → Type 0 = λ one. MeetsCase basis tables key one in
        let met : IsMet basis is_free s region tables key = record { meets = subst Met (sym found.2) first_met.meets; whole = has_rows.whole } in
        let some = some_told is_free basis is decides s region can tables key met (alone_in_tables is_free basis is decides state tables has s region found.1 can.clear key) in
        let own = λ (viewed : Entity) (tells : IsEntityOf basis tables key (case_of is_free basis region) viewed).
        told_is_own basis is limits round is_free decides state legal tables has s entity region_found.1.links region_found.0 held
        region found.1 met.meets viewed some.1 (record { entity_told = tells; links_told = some.2.links_told }) in
        let Tells : Entity → Type 0 = λ one. IsEntityOf basis tables key (case_of is_free basis region) one in
        record {
          region = region;
          listed = found.1;
          is_case = found.2;
          links = some.1;
          links_told = some.2.links_told;
          own = own;
          told = (some.0, subst Tells (own some.0 some.2.entity_told).0 some.2.entity_told);
        }

    -- what the query view gives at its key is this entity
    pub view_is_own : (viewed : Entity) → IsViewed basis is_free tables s key viewed → viewed ≡ entity
    view_is_own viewed view =
        let read : FirstRead view.case = first_read view.case view.first_met in
        let Tells : Case → Type 0 = λ case. IsEntityOf basis tables key case viewed in
        (read.own viewed (subst Tells (sym read.is_case) view.told)).0

    -- and the links are those that it hosts
    pub links_are_own : (case : Case) → IsFirstMet basis is_free tables s key case → (hosted : Hosted)
        → IsLinkOf basis tables key case hosted ↔ IsHostedLink state (basis.hosts s) key hosted
    links_are_own case first_met hosted =
        let read : FirstRead case = first_read case first_met in
        let same = (read.own entity read.told.1).1 hosted in
        let Tells : Case → Type 0 = λ one. IsLinkOf basis tables key one hosted in
        let hosted_are = (held.hosted).tells hosted in (
          (λ told. hosted_are.0 (same.0 ((read.links_told.tells hosted).1 (subst Tells (sym read.is_case) told)))),
          (λ by. subst Tells read.is_case ((read.links_told.tells hosted).0 (same.1 (hosted_are.1 by)))),
        )

  -- so no key lacks a case
  pub case_met : (key : List Value) → ¬ LacksCase basis is_free tables s key
  case_met key lacks =
      let found = entity_at key lacks.rows in
      let region : Region = (region_found found.0 found.1).0 in
      let Met : List Value → Type 0 = λ one. MeetsCase basis tables one (case_of is_free basis region) in
      let Unmet : Case → Type 0 = λ case. ¬ MeetsCase basis tables key case in
      All-contains Unmet (cases_of is_free basis s) (case_of is_free basis region) lacks.none
      (contains_map (case_of is_free basis) (regions_of basis s) region (held found.0 found.1).listed)
      (subst Met found.2 (own_met found.0 found.1))
