-- The keys at which rows of a set stand are those of its entities, and what rows tell by a case that they meet is the entity with its links.
use Rattle.std.proofs.Common.{◌≡◌, ◌↔◌, inl, inr, List, map, length, Bool, Contains, sym, ap, subst, ◌∙◌}
use Rattle.std.proofs.lemmas.List.Elements.{All-contains}
use Rattle.emc_base.proofs.Numbered.{map_contains}
use Rattle.emc_base.specs.Lists.{AreApart}
use Rattle.round_trip.specs.Words.{SetId, TableId, ColId, PropId, TypeId, Entity, Hosted, IsLegal, Pair, Row, State, Tables, Value, entities_in, key_of, key_props, props_of, row_key, value_beside, value_of}
use Rattle.round_trip.specs.soundness.Lookups.{set_key}
use Rattle.schema_laws.specs.state_demand.Owners.{StandsAt, props_in}
use Rattle.schema_laws.proofs.state_demand.lists.Places.{agree_by_map, map_agree}
use Rattle.schema_laws.proofs.sound_demand.Keys.{keys_apart}
use Rattle.schema_laws.proofs.sound_demand.ReadBack.{rows_of}
use Rattle.schema_laws.proofs.sound_types.Once.{props_once}
use Rattle.conflict_laws.proofs.same.states.Legal.{key_parts}
use Rattle.regions.specs.declared.region.Region.{Region}
use Rattle.regions.specs.Basis.{Basis}
use Rattle.regions.specs.region_laws.IsBasis.{IsBasis}
use Rattle.case_laws.specs.region_cases.Meets.{StandsAtKey}
use Rattle.case_laws.specs.Reading.{DecidesFree, HasStateTables}
use Rattle.case_laws.specs.Told.{AreTold, IsMet, IsReadable}
use Rattle.case_laws.proofs.lists.Beside.{all_beside, same_beside}
use Rattle.case_laws.proofs.Keys.{set_key_is}
use Rattle.case_laws.proofs.reading.Readable.{IsValue, some_value}
use Rattle.case_laws.proofs.StateRows.{erased_row, key_kept}
use Rattle.case_laws.proofs.reading.Values.{shown_value, single_value}

-- the key of a row is that of an entity of the state
module _ (basis : Basis) (is : IsBasis basis) (state : State) (legal : IsLegal basis.schema.model state) (tables : Tables) (has : HasStateTables basis.schema state tables)
    (s : SetId) (key : List Value) (whole : length key ≡ length (set_key basis.schema.model s)) (t : TableId) (held : Row) (at : StandsAtKey basis.schema tables s key t held) where
  abbrev keys : List PropId
  keys = set_key basis.schema.model s

  abbrev keys_are : keys ≡ key_props basis.schema.model at.owned.set.element
  keys_are = set_key_is basis.schema is.sound s at.owned.set at.owned.is_set

  entity_there : (entity : Entity) × Contains (entities_in state s) entity
      × (map (λ pair. value_of basis.schema.model entity pair.prop) at.pairing ≡ map (λ pair. value_beside pair.prop (set_key basis.schema.model s) key) at.pairing)
  entity_there =
      let found = erased_row basis is state tables has t held at.stands in
      let entity = (rows_of basis.schema is.sound state legal has.erased has.are t at.table at.is_table s at.pairing at.owned).entities found.0 found.1 in
      let stands : StandsAt basis.schema state s at.pairing (row_key at.table found.0) entity.0 = entity.1 in (
        entity.0,
        stands.stands,
        stands.at_key ∙ sym (key_kept basis is state tables has t at.table at.is_table at.written held found.0 found.2) ∙ at.at_key,
      )

  pub key_of_row : (entity : Entity) × Contains (entities_in state s) entity × (key_of basis.schema.model entity ≡ key)
  key_of_row =
      let found = entity_there in
      let entity : Entity = found.0 in
      let part : PropId → Value = λ p. value_beside p keys key in
      let same : (p : PropId) → Contains keys p → value_of basis.schema.model entity p ≡ part p = λ p among.
      let in_key : Contains (key_props basis.schema.model at.owned.set.element) p = subst (λ props. Contains props p) keys_are among in
      let pair = map_contains (λ (one : Pair). one.prop) at.pairing p
      (All-contains (Contains (props_in at.pairing)) (key_props basis.schema.model at.owned.set.element) p at.owned.paired in_key) in
      let P : PropId → Type 0 = λ q. value_of basis.schema.model entity q ≡ part q in
      subst P pair.2 (agree_by_map (λ (one : Pair). value_of basis.schema.model entity one.prop) (λ (one : Pair). part one.prop) at.pairing found.2 pair.0 pair.1) in
      let Apart : List PropId → Type 0 = λ props. AreApart props in (
        entity,
        found.1,
        ap (map (value_of basis.schema.model entity))
            (key_parts basis.schema is.sound s at.owned.set at.owned.is_set state legal entity found.1 ∙ sym keys_are)
            ∙ map_agree (value_of basis.schema.model entity) part keys same
            ∙ all_beside keys key (subst Apart (sym keys_are) (keys_apart basis.schema.model is.sound.model at.owned.set.element)) whole,
      )

-- by one case rows tell one entity, and the same links
module _ (is_free : TableId → ColId → Bool) (basis : Basis) (is : IsBasis basis) (decides : DecidesFree basis.schema is_free) (s : SetId) (region : Region)
    (readable : IsReadable basis s region) (tables : Tables) (key : List Value) (met : IsMet basis is_free s region tables key)
    (entity other : Entity) (links others : List Hosted) (told : AreTold basis is_free s region tables key entity links)
    (too : AreTold basis is_free s region tables key other others) where
  one_value : (p : PropId) → Contains (props_of basis.schema.model region.ty) p → value_of basis.schema.model entity p ≡ value_of basis.schema.model other p
  one_value p among = by (some_value is_free basis is decides s region readable tables key met p among)
    where
      by : (value : Value) × IsValue is_free basis is decides s region readable tables key met p value → value_of basis.schema.model entity p ≡ value_of basis.schema.model other p
      by (value, inl one) = single_value is_free basis is decides s region readable tables key met entity links told p value one
          ∙ sym (single_value is_free basis is decides s region readable tables key met other others too p value one)
      by (value, inr shown) = shown_value is_free basis is decides s region readable tables key met entity links told p value shown
          ∙ sym (shown_value is_free basis is decides s region readable tables key met other others too p value shown)

  pub one_entity : entity ≡ other
  one_entity =
      let typed : entity.ty ≡ region.ty = told.entity_told.typed in
      let typed_too : other.ty ≡ region.ty = too.entity_told.typed in
      let props : TypeId → List PropId = props_of basis.schema.model in
      let Long : Entity → TypeId → Type 0 = λ it t. length it.values ≡ length (props t) in
      let Beside : Entity → TypeId → PropId → Value = λ it t p. value_beside p (props t) it.values in
      let same : entity.values ≡ other.values = same_beside (props region.ty) entity.values other.values (props_once basis.schema.model is.sound.model region.ty)
      (subst (Long entity) typed told.entity_told.size) (subst (Long other) typed_too too.entity_told.size)
      (λ p among. sym (ap (λ t. Beside entity t p) typed) ∙ one_value p among ∙ ap (λ t. Beside other t p) typed_too) in
      λ k. record { ty = (typed ∙ sym typed_too) k; values = same k }

  pub one_links : (hosted : Hosted) → Contains links hosted ↔ Contains others hosted
  one_links hosted = (
    (λ among. (too.links_told.tells hosted).1 ((told.links_told.tells hosted).0 among)),
    (λ among. (told.links_told.tells hosted).1 ((too.links_told.tells hosted).0 among)),
  )
