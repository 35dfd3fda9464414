-- What reading tables by query views answers.
-- Source: the query views of Melnik, Adya and Bernstein, SIGMOD 2007.
use Rattle.std.specs.Prelude.{◌≡◌, ◌≢◌, List, [], length, All, AllPairs, Contains, ◌↔◌, Bool, Result, Ok, Err, ⊤}
use Rattle.std.specs.Global.{Vec}
use Rattle.std.specs.List.{AllZip}
use Rattle.round_trip.specs.Words.{SetId, AssocId, TableId, ColId, Value, Place, place_at, Assoc, EntityModel, EntitySet, IsLink, State, Tables, At}
use Rattle.regions.specs.Basis.{Basis}
use Rattle.case_laws.specs.declared.candidates.placed.PlacedRow.{PlacedRow}
use Rattle.case_laws.specs.declared.region_cases.case.Case.{Case}
use Rattle.case_laws.specs.region_cases.Meets.{AreLinksOf, HaveLinksOf, IsEntityOf}
use Rattle.case_laws.specs.candidates.Rows.{AreRowsAt, HasRows, shown_rows}
use Rattle.case_laws.specs.candidates.Viewed.{IsFirstMet, LacksCase}
use Rattle.case_laws.specs.candidates.Candidates.{IsCandidate, IsFirstLack}
use Rattle.case_laws.specs.candidates.ViewedLinks.{AreViewedLinks, IsBefore}
use Rattle.keyed_rows.specs.declared.row_groups.groups.KeyGroup.{KeyGroup}
use Rattle.keyed_rows.specs.row_groups.Shown.{shown_cells}
use Rattle.query_cases.specs.case_reading.Links.{read_links}
use Rattle.query_views.specs.declared.fault.EntityFault.{EntityFault}
use Rattle.query_views.specs.declared.fault.EntityFault.TheVariants as entity
use Rattle.query_views.specs.declared.fault.Found.{Found}
use Rattle.query_views.specs.declared.fault.StateFault.{StateFault}
use Rattle.query_views.specs.declared.fault.StateFault.TheVariants as state
use Rattle.query_views.specs.declared.loaded.Loaded.{Loaded}
use Rattle.query_views.specs.declared.lending.LentEntity.{LentEntity}
use Rattle.query_views.specs.declared.links.lent.LentLinks.{LentLinks}
use Rattle.query_views.specs.Lent.{lent_entity, lent_state, shown_links}
use Rattle.query_views.specs.LinkKeys.{HaveLinkCells}

-- the place tells the key of the set
abbrev pub TellsKey : EntityModel → SetId → List Value → Place → Type 0
TellsKey model s key place = (set : EntitySet) × At model.sets s.index set × (place ≡ place_at set.name key [])

module _ (basis : Basis) (is_free : TableId → ColId → Bool) (tables : Tables) where
  -- the entity with its links that the query view gives at the key: those that are told by the first case which the rows there meet
  pub record IsFound (s : SetId) (key : List Value) (found : Found) : Type 0 where
    pub case : Case
    pub first_met : IsFirstMet basis is_free tables s key case
    pub entity : IsEntityOf basis tables key case found.entity
    pub links : AreLinksOf basis tables key case found.links

  -- this; or that no row stands there, or that rows do and meet no case. Memory says nothing.
  abbrev pub EntityAt : SetId → List Value → Result Found EntityFault → Type 0
  EntityAt s key (Ok found) = HasRows basis.schema tables s key × IsFound s key found
  EntityAt s key (Err entity.Absent) = ¬ HasRows basis.schema tables s key
  EntityAt s key (Err entity.NoCase) = LacksCase basis is_free tables s key
  EntityAt s key (Err entity.Memory) = ⊤

  -- the candidate: the state of all entities and links that the query views give; or the first key whose rows meet no case. Memory says nothing.
  abbrev pub StateOf : Result State StateFault → Type 0
  StateOf (Ok state) = IsCandidate basis is_free tables state
  StateOf (Err (state.NoCase place)) = IsFirstLack basis is_free tables place
  StateOf (Err state.Memory) = ⊤

  -- the same, where entities and links are lent, with the model
  abbrev pub Lends : Result Loaded StateFault → Type 0
  Lends (Ok loaded) = (loaded.model.now ≡ basis.schema.model) × IsCandidate basis is_free tables (lent_state loaded)
  Lends (Err (state.NoCase place)) = IsFirstLack basis is_free tables place
  Lends (Err state.Memory) = ⊤

  -- an entity that is lent at a key: it and its links are told by the first case that the rows there meet, and each part of a link stands in one of these
  pub record IsLent (s : SetId) (key : List Value) (lent : LentEntity) : Type 0 where
    pub at_key : shown_cells lent.key ≡ key
    pub first_met : IsFirstMet basis is_free tables s key lent.met.case.now
    pub told : IsEntityOf basis tables key lent.met.case.now (lent_entity lent)
    pub links : HaveLinksOf basis tables key lent.met.case.now (read_links lent.met.reading.now (shown_rows lent.rows.items))
    pub places : HaveLinkCells lent

  -- the entity at the key of a group of rows, if just these stand there; or the key, if they meet no case. Memory says nothing.
  abbrev pub LendsAt : SetId → KeyGroup PlacedRow → Result LentEntity StateFault → Type 0
  LendsAt s group (Ok lent) = AreRowsAt basis.schema tables s (shown_cells group.key) (shown_rows group.items.items) → IsLent s (shown_cells group.key) lent
  LendsAt s group (Err (state.NoCase place)) = TellsKey basis.schema.model s (shown_cells group.key) place
      × (AreRowsAt basis.schema tables s (shown_cells group.key) (shown_rows group.items.items) → group.items.items ≢ [] → LacksCase basis is_free tables s (shown_cells group.key))
  LendsAt s group (Err state.Memory) = ⊤

  -- an entity for each key of the set at which rows stand, in the order of keys
  pub record AreLent (s : SetId) (lent : List LentEntity) : Type 0 where
    pub keys : List (List Value)
    pub are : (key : List Value) → Contains keys key ↔ HasRows basis.schema tables s key
    pub rising : AllPairs IsBefore keys
    pub each : AllZip (IsLent s) keys lent

  -- the entities of a set; or the first key whose rows meet no case. Memory says nothing.
  abbrev pub LendsSet : SetId → Result (Vec LentEntity) StateFault → Type 0
  LendsSet s (Ok lent) = AreLent s lent.items
  LendsSet s (Err (state.NoCase place)) = (key : List Value) × TellsKey basis.schema.model s key place × LacksCase basis is_free tables s key
      × ((other : List Value) → IsBefore other key → ¬ LacksCase basis is_free tables s other)
  LendsSet s (Err state.Memory) = ⊤

  -- the entities of each set
  pub record AreLentSets (sets : List (Vec LentEntity)) : Type 0 where
    pub count : length sets ≡ length basis.schema.model.sets
    pub each : (s : SetId) (of_set : Vec LentEntity) → At sets s.index of_set → AreLent s of_set.items

  -- these; or the first key of all sets whose rows meet no case. Memory says nothing.
  abbrev pub LendsSets : Result (Vec (Vec LentEntity)) StateFault → Type 0
  LendsSets (Ok sets) = AreLentSets sets.items
  LendsSets (Err (state.NoCase place)) = IsFirstLack basis is_free tables place
  LendsSets (Err state.Memory) = ⊤

  -- the links of an association that are given, each with as many parts of a key as its end asks for
  pub record AreLentLinks (a : AssocId) (lent : LentLinks) : Type 0 where
    pub viewed : AreViewedLinks basis is_free tables a (shown_links lent)
    pub fit : (assoc : Assoc) → At basis.schema.model.assocs a.index assoc → All (IsLink basis.schema.model assoc) (shown_links lent)

  -- those of each association
  pub record AreLentLists (lists : List LentLinks) : Type 0 where
    pub count : length lists ≡ length basis.schema.model.assocs
    pub each : (a : AssocId) (of_assoc : LentLinks) → At lists a.index of_assoc → AreLentLinks a of_assoc
