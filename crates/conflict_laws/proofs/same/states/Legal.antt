-- Legal states: they don't clash, and each key of a set is that of one entity, which stands at one row of a table.
use Rattle.std.proofs.Common.{◌≡◌, List, map, Contains, sym, ap, subst, ◌∙◌}
use Rattle.std.proofs.lemmas.List.Elements.{All-contains}
use Rattle.emc_base.proofs.Numbered.{map_contains}
use Rattle.round_trip.specs.Words.{SetId, PropId, TableId, Entity, EntityModel, EntitySet, HasFittingType, HasNoClash, IsLegal, Pair, Schema, State, Value, At, entities_in, key_of, key_props, value_of}
use Rattle.round_trip.specs.declared.FailKind.TheVariants as kind
use Rattle.round_trip.specs.soundness.mappings.Mappings.{IsSoundSchema}
use Rattle.schema_laws.specs.state_demand.Owners.{IsOwned, paired_key, props_in}
use Rattle.schema_laws.proofs.state_demand.lists.Lists.{same_by_key}
use Rattle.schema_laws.proofs.state_demand.lists.Places.{agree_by_map, map_agree}
use Rattle.schema_laws.proofs.sound_demand.Keys.{inherits_keys}
use Rattle.schema_laws.proofs.sound_demand.Kept.{clash_shown}
use Rattle.regions.specs.Basis.{Basis}
use Rattle.regions.specs.region_laws.IsBasis.{IsBasis}
use Rattle.regions.specs.region_laws.Held.{IsAtRow}
use Rattle.region_states.specs.conflicts.There.{NoneFailsBy}

-- where no legal state fails by a clash, none clashes
pub unclashed : (schema : Schema) → IsSoundSchema schema → NoneFailsBy schema kind.Clash → (state : State) → IsLegal schema.model state → HasNoClash schema state
unclashed schema sound none state legal = clash_shown schema sound state (λ place fails. none place state state (record { legal = legal; fails = fails }))

-- entities of a set with one key are one
pub one_at_key : (model : EntityModel) (state : State) → IsLegal model state → (s : SetId) (set : EntitySet) → At model.sets s.index set → (x y : Entity)
    → Contains (entities_in state s) x → Contains (entities_in state s) y → key_of model x ≡ key_of model y → x ≡ y
one_at_key model state legal s set is_set x y has_x has_y same = same_by_key (key_of model) (entities_in state s) x y (legal.sets s set is_set).keys has_x has_y same

module _ (schema : Schema) (sound : IsSoundSchema schema) (s : SetId) (set : EntitySet) (is_set : At schema.model.sets s.index set) where
  -- an entity's key has the parts of the set's
  pub key_parts : (state : State) → IsLegal schema.model state → (x : Entity) → Contains (entities_in state s) x
      → key_props schema.model x.ty ≡ key_props schema.model set.element
  key_parts state legal x has = (inherits_keys schema.model sound.model).same x.ty set.element
      (All-contains (HasFittingType schema.model set) (entities_in state s) x (legal.sets s set is_set).types has).under

  -- entities of one key have one value of each part
  pub parts_alike : (c d : State) → IsLegal schema.model c → IsLegal schema.model d → (x y : Entity) → Contains (entities_in c s) x → Contains (entities_in d s) y
      → key_of schema.model x ≡ key_of schema.model y → (p : PropId) → Contains (key_props schema.model set.element) p
      → value_of schema.model x p ≡ value_of schema.model y p
  parts_alike c d legal_c legal_d x y has_x has_y same p among =
      let keys : List PropId = key_props schema.model set.element in
      agree_by_map (value_of schema.model x) (value_of schema.model y) keys
      (ap (map (value_of schema.model x)) (sym (key_parts c legal_c x has_x)) ∙ same ∙ ap (map (value_of schema.model y)) (key_parts d legal_d y has_y)) p among

-- and the other way
module _ (schema : Schema) (sound : IsSoundSchema schema) (t : TableId) (s : SetId) (pairing : List Pair) (owned : IsOwned schema t s pairing) (c d : State)
    (legal_c : IsLegal schema.model c) (legal_d : IsLegal schema.model d) (x y : Entity) (has_x : Contains (entities_in c s) x) (has_y : Contains (entities_in d s) y) where
  -- the parts of the key of the set
  abbrev keys : List PropId
  keys = key_props schema.model owned.set.element

  -- entities of one key stand at one row
  pub row_by_key : key_of schema.model x ≡ key_of schema.model y → paired_key schema.model pairing x ≡ paired_key schema.model pairing y
  row_by_key same = map_agree (λ (pair : Pair). value_of schema.model x pair.prop) (λ (pair : Pair). value_of schema.model y pair.prop) pairing
      (λ pair has.
      let Keyed : Pair → Type 0 = λ one. Contains keys one.prop in
      parts_alike schema sound s owned.set owned.is_set c d legal_c legal_d x y has_x has_y same pair.prop (All-contains Keyed pairing pair owned.keyed has))

  -- and entities that stand at one row have one key
  pub key_by_row : paired_key schema.model pairing x ≡ paired_key schema.model pairing y → key_of schema.model x ≡ key_of schema.model y
  key_by_row same =
      ap (map (value_of schema.model x)) (key_parts schema sound s owned.set owned.is_set c legal_c x has_x)
      ∙ map_agree (value_of schema.model x) (value_of schema.model y) keys (λ p among.
      let found = map_contains (λ (pair : Pair). pair.prop) pairing p (All-contains (Contains (props_in pairing)) keys p owned.paired among) in
      let P : PropId → Type 0 = λ q. value_of schema.model x q ≡ value_of schema.model y q in
      subst P found.2 (agree_by_map (λ (pair : Pair). value_of schema.model x pair.prop) (λ (pair : Pair). value_of schema.model y pair.prop) pairing same found.0 found.1))
      ∙ ap (map (value_of schema.model y)) (sym (key_parts schema sound s owned.set owned.is_set d legal_d y has_y))

-- where an entity of the one state stands at a row, so does one of this key of the other state
pub at_same_row : (basis : Basis) → IsBasis basis → (s : SetId) (c d : State) → IsLegal basis.schema.model c → IsLegal basis.schema.model d → (x y : Entity)
    → Contains (entities_in d s) y → key_of basis.schema.model x ≡ key_of basis.schema.model y → (t : TableId) (key : List Value)
    → IsAtRow basis c s x t key → IsAtRow basis d s y t key
at_same_row basis is s c d legal_c legal_d x y has_y same t key at = record {
  pairing = at.pairing;
  owned = at.owned;
  at = record {
    stands = has_y;
    at_key = sym (row_by_key basis.schema is.sound t s at.pairing at.owned c d legal_c legal_d x y at.at.stands has_y same) ∙ at.at.at_key;
  };
}
