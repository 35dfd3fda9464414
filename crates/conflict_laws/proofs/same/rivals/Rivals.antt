-- States that hold entities of two regions with one key, written alike, have the same tables.
use Rattle.std.proofs.Common.{◌≡◌, ◌≢◌, inl, inr, List, [], ◌∷◌, Contains, refl, sym, subst, ◌∙◌}
use Rattle.round_trip.specs.Words.{SetId, TableId, ColId, Entity, EntitySet, FailsAt, State, Table, Value, At, key_of, place_at}
use Rattle.round_trip.specs.FailsAt.{HasEntityOnly}
use Rattle.round_trip.specs.declared.FailKind.TheVariants as kind
use Rattle.schema_laws.proofs.state_demand.lists.Lists.{head_stands}
use Rattle.schema_laws.specs.sound_demand.Made.{tables_for}
use Rattle.schema_laws.proofs.sound_demand.Kept.{tables_there}
use Rattle.regions.specs.declared.region.Region.{Region}
use Rattle.regions.specs.declared.pattern.Focus.TheVariants as focus
use Rattle.regions.specs.declared.pattern.Symbol.{Symbol}
use Rattle.regions.specs.Basis.{Basis}
use Rattle.regions.specs.Patterns.{Valuation, by_entity, pattern_of}
use Rattle.regions.specs.Regions.{regions_of}
use Rattle.regions.specs.region_laws.IsBasis.{IsBasis}
use Rattle.regions.proofs.region_laws.listing.Listed.{set_is}
use Rattle.regions.specs.region_laws.pattern.Described.{value_in}
use Rattle.regions.specs.region_laws.pattern.Listed.{HasCell}
use Rattle.regions.specs.region_laws.Held.{IsAtRow, IsHeldAt}
use Rattle.region_states.specs.conflicts.There.{NoneFailsBy}
use Rattle.region_states.specs.Entities.{focus_entity}
use Rattle.host_states.specs.Hosting.{DifferAtMostAt, HoldRivals}
use Rattle.region_states.proofs.Entities.{symbol_value}
use Rattle.region_states.proofs.Held.{focus_held}
use Rattle.conflict_laws.specs.rival.Alike.{AreWrittenAlike, HaveOneKey, AreTwins}
use Rattle.conflict_laws.proofs.same.states.Different.{same_fails}
use Rattle.conflict_laws.proofs.same.states.Legal.{at_same_row, one_at_key, unclashed}
use Rattle.conflict_laws.proofs.same.states.SameTables.{AgreeAt, AgreeEverywhere, IsAtEither, agree_everywhere, tables_too}
use Rattle.conflict_laws.proofs.same.rivals.Written.{agree_at}
use Rattle.conflict_laws.proofs.rival.Rivals.{one_focus_key}

-- the value of a cell by the entity that is made of values is that by these
value_by : (basis : Basis) → IsBasis basis → (s : SetId) (region : Region) → Contains (regions_of basis s) region → (values : Valuation) (t : TableId) (col : ColId)
    (cell : List Symbol) → HasCell (pattern_of basis (focus.Entity region)) t col cell
    → value_in (by_entity basis.schema.model (focus_entity basis region values) values.part) cell ≡ value_in values cell
value_by basis is s region listed values t col [] has = refl
value_by basis is s region listed values t col (first ∷ rest) has =
    symbol_value basis is (record { s = s; region = region; listed = listed; values = values }) t col first (first ∷ rest, has, head_stands first rest)

module _ (basis : Basis) (is : IsBasis basis) (none_clash : NoneFailsBy basis.schema kind.Clash) (s : SetId) (set : EntitySet) (is_set : At basis.schema.model.sets s.index set)
    (one two : Region) (values others : Valuation) (twins : AreTwins basis s one two values others) (keyed : HaveOneKey basis one values others)
    (c d : State) (hold : HoldRivals basis one two values others c d) where
  -- the entities, and their key
  abbrev mine : Entity
  mine = focus_entity basis one values

  abbrev theirs : Entity
  theirs = focus_entity basis two others

  abbrev focus_key : List Value
  focus_key = key_of basis.schema.model (focus_entity basis one values)

  -- the regions hold the entities
  held_x : IsHeldAt basis c s mine one values.part
  held_x = focus_held basis is (record { s = s; region = one; listed = twins.comparable.is_one; values = values }) twins.allowed c hold.first

  held_y : IsHeldAt basis d s theirs two others.part
  held_y = focus_held basis is (record { s = s; region = two; listed = twins.comparable.is_two; values = others }) twins.others_allowed d hold.second

  -- the entities have one key
  same_key : key_of basis.schema.model mine ≡ key_of basis.schema.model theirs
  same_key = one_focus_key basis is s one two twins.comparable values others keyed

  -- and are written alike
  alike_by : AreWrittenAlike basis one two (by_entity basis.schema.model mine values.part) (by_entity basis.schema.model theirs others.part)
  alike_by = record {
    rows = twins.alike.rows;
    cells = λ t col cell other has too.
        value_by basis is s one twins.comparable.is_one values t col cell has
        ∙ twins.alike.cells t col cell other has too
        ∙ sym (value_by basis is s two twins.comparable.is_two others t col other too);
  }

  -- the states differ at this key of the set at most
  differ_there : DifferAtMostAt basis s focus_key c d
  differ_there = subst (λ u. DifferAtMostAt basis u focus_key c d) (set_is basis s one twins.comparable.is_one) hold.alike

  -- the states agree at the rows of both entities
  agree_there : (t : TableId) (table : Table) → At basis.schema.store.tables t.index table → (key : List Value) → IsAtRow basis c s mine t key → IsAtRow basis d s theirs t key
      → AgreeAt basis.schema c d t table key
  agree_there t table here = agree_at basis is
      (record { state = c; legal = hold.first.legal; s = s; entity = mine; region = one; part = values.part; held = held_x })
      (record { state = d; legal = hold.second.legal; s = s; entity = theirs; region = two; part = others.part; held = held_y })
      twins.comparable.clear_one twins.comparable.clear_two alike_by t table here

  -- and these are the rows of this key
  focus_agrees : (t : TableId) (table : Table) → At basis.schema.store.tables t.index table → (key : List Value) → IsAtEither basis s focus_key c d t key
      → AgreeAt basis.schema c d t table key
  focus_agrees t table here key (inl at) =
      let same : at.entity ≡ mine = one_at_key basis.schema.model c hold.first.legal s set is_set at.entity mine at.at_row.at.stands held_x.stands at.keyed in
      let at_x : IsAtRow basis c s mine t key = subst (λ e. IsAtRow basis c s e t key) same at.at_row in
      agree_there t table here key at_x (at_same_row basis is s c d hold.first.legal hold.second.legal mine theirs held_y.stands same_key t key at_x)
  focus_agrees t table here key (inr at) =
      let same : at.entity ≡ theirs =
      one_at_key basis.schema.model d hold.second.legal s set is_set at.entity theirs at.at_row.at.stands held_y.stands (at.keyed ∙ same_key) in
      let at_y : IsAtRow basis d s theirs t key = subst (λ e. IsAtRow basis d s e t key) same at.at_row in
      agree_there t table here key (at_same_row basis is s d c hold.second.legal hold.first.legal theirs mine held_x.stands (sym same_key) t key at_y) at_y

  -- where the entities are different, the states fail
  pub twins_fail : focus_entity basis one values ≢ focus_entity basis two others
      → FailsAt basis.schema kind.Same (place_at set.name (key_of basis.schema.model (focus_entity basis one values)) []) c d
  twins_fail different =
      let agree : AgreeEverywhere basis.schema c d = agree_everywhere basis is s focus_key c d hold.first.legal hold.second.legal differ_there focus_agrees in
      let are_c = tables_there basis.schema is.sound c (unclashed basis.schema is.sound none_clash c hold.first.legal) in
      let are_d = tables_too basis.schema c d agree (unclashed basis.schema is.sound none_clash d hold.second.legal) (tables_for basis.schema c) are_c in
      let only : HasEntityOnly basis.schema.model s focus_key c d =
      (mine, held_x.stands, refl, λ has. different (one_at_key basis.schema.model d hold.second.legal s set is_set mine theirs has held_y.stands same_key)) in
      same_fails basis.schema c d s focus_key only hold.first.legal hold.second.legal set is_set (tables_for basis.schema c) are_c are_d
