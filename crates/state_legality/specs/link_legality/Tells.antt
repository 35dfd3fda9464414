-- What is told of links and of principals.
-- Source: the rules S5 to S8 of `Legal` in `round_trip`.
use Rattle.std.specs.Prelude.{◌≡◌, ◌⊎◌, List, [], ◌++◌, slice_get, unwrap_or, All, Some, MatchOption}
use Rattle.emc_base.specs.Lists.{AreApart}
use Rattle.groupings.specs.least_fault.Least.{Among}
use Rattle.round_trip.specs.Words.{AssocId, EntityModel, Assoc, Constraint, Entity, Link, State, At, place_at, entities_in, links_in, IsIndependent, HasEntityAt, AreLegalLinks, HavePrincipals}
use Rattle.round_trip.specs.legality.Breaches.{BreaksEnd, BreaksOnce, BreaksCount, BreaksPrincipal}
use Rattle.entity_state.specs.breach_order.Repeats.{IsFoundRepeat}
use Rattle.entity_state.specs.declared.breach_order.found.Found.{Found}
use Rattle.state_legality.specs.declared.link_legality.side.Side.{Side}
use Rattle.state_legality.specs.declared.link_legality.side.Side.TheVariants.{First, Second}
use Rattle.state_legality.specs.link_legality.Sides.{end_at, key_at}
use Rattle.state_legality.specs.link_legality.Ends.{IsLoose, StandsAmong}
use Rattle.state_legality.specs.link_legality.Counts.{MiscountedAmong, KeepsCount}
use Rattle.state_legality.specs.link_legality.Principals.{IsLostAt}

-- the state of these lists
abbrev pub state_of : List (List Entity) → List (List Link) → State
state_of entities links = record { entities = entities; links = links }

-- what was found is a breach of one of the rules S5 to S8
abbrev pub BreaksLinks : EntityModel → State → Found → Type 0
BreaksLinks model state found =
    ((found.rule ≡ 5) × BreaksEnd model state found.spot found.place)
    ⊎ ((found.rule ≡ 6) × BreaksOnce model state found.spot found.place)
    ⊎ ((found.rule ≡ 7) × BreaksCount model state found.spot found.place)
    ⊎ ((found.rule ≡ 8) × BreaksPrincipal model state found.spot found.place)

-- the state keeps the rules S5 to S8
pub record KeepsLinkRules (model : EntityModel) (state : State) : Type 0 where
  -- S5 to S7
  pub links : (a : AssocId) (assoc : Assoc) → At model.assocs a.index assoc → IsIndependent assoc → AreLegalLinks model state assoc (links_in state a)
  -- S8
  pub principals : (a : AssocId) (assoc : Assoc) (constraint : Constraint) → At model.assocs a.index assoc
      → assoc.constraint ≡ Some constraint → HavePrincipals model state assoc constraint

-- a link without an entity at this side: S5
abbrev pub HasLooseLink : EntityModel → State → AssocId → Assoc → Side → Found → Type 0
HasLooseLink model state a assoc side = Among (IsLoose (HasEntityAt model state (end_at assoc side)) a assoc side) (links_in state a)

-- an entity at this side with too few partners or too many: S7
abbrev pub HasMiscounted : EntityModel → State → AssocId → Assoc → Side → Found → Type 0
HasMiscounted model state a assoc side = MiscountedAmong model (entities_in state (end_at assoc side).set) (links_in state a) a assoc side

-- a link that stands before it too: S6
abbrev pub HasDouble : AssocId → Assoc → List Link → Found → Type 0
HasDouble a assoc = IsFoundRepeat 6 a.index (λ link. place_at assoc.set_name (link.first ++ link.second) [])

-- S5 and S7 at one side
abbrev pub BreaksAtSide : EntityModel → State → AssocId → Assoc → Side → Found → Type 0
BreaksAtSide model state a assoc side found = HasLooseLink model state a assoc side found ⊎ HasMiscounted model state a assoc side found

-- S5 to S7 at an association that is independent
abbrev pub BreaksIndependent : EntityModel → State → AssocId → Assoc → Found → Type 0
BreaksIndependent model state a assoc found =
    (BreaksAtSide model state a assoc First found ⊎ BreaksAtSide model state a assoc Second found) ⊎ HasDouble a assoc (links_in state a) found

-- S5 to S8 at one association: S8 where it has a constraint, and the others where it has none
abbrev pub BreaksAssoc : EntityModel → State → AssocId → Assoc → Found → Type 0
BreaksAssoc model state a assoc found =
    MatchOption assoc.constraint (BreaksIndependent model state a assoc found) (λ constraint. IsLostAt model state a assoc constraint found)

-- the links keep S5 at this side, and the entities S7
pub record KeepsSide (model : EntityModel) (entities : List Entity) (links : List Link) (assoc : Assoc) (side : Side) : Type 0 where
  pub stand : All (λ link. StandsAmong model (end_at assoc side).ty entities (key_at link side)) links
  pub fit : All (KeepsCount model links assoc side) entities

-- the same at both sides, at which these entities stand
abbrev pub KeepsSides : EntityModel → List Entity → List Entity → List Link → Assoc → Type 0
KeepsSides model first second links assoc = KeepsSide model first links assoc First × KeepsSide model second links assoc Second

-- S5 to S8 at one association
abbrev pub KeepsAssoc : EntityModel → State → AssocId → Assoc → Type 0
KeepsAssoc model state a assoc = MatchOption assoc.constraint (AreLegalLinks model state assoc (links_in state a)) (HavePrincipals model state assoc)

-- the links keep S5 to S7, where these entities stand in sets
abbrev pub KeepsIndependent : EntityModel → List (List Entity) → List Link → Assoc → Type 0
KeepsIndependent model entities links assoc =
    KeepsSides model (unwrap_or (slice_get entities assoc.first.set.index) []) (unwrap_or (slice_get entities assoc.second.set.index) []) links assoc × AreApart links
