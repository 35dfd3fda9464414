-- A walk from entities to what they lead to: what is found.
-- Source: this project's.
use Rattle.std.specs.Prelude.{◌≡◌, ◌<◌, ℕ, List, ◌++◌, Contains, Decides}
use Rattle.std.specs.BTreeSet.{BTreeSet, contains}
use Rattle.emc_base.specs.Lists.{AreApart, At}
use Rattle.regions.specs.Basis.{Basis}
use Rattle.regions.specs.declared.pattern.Focus.{Focus}
use Rattle.round_trip.specs.Words.{PropId}
use Rattle.forced_entities.specs.Forced.{IsForced, LeadsTo}
use Rattle.forced_entities.specs.Listed.{begun}
use Rattle.forced_entities.specs.Spots.{IsSpotOf, spot_cmp}
use Rattle.forced_entities.specs.declared.member.Forced.{Forced}
use Rattle.forced_entities.specs.declared.spots.Spot.{Spot}
use Rattle.forced_entities.specs.declared.walk.Found.{Found}

-- the set has just the spots of these entities
abbrev pub HoldsJust : List Forced → BTreeSet Spot → Type 0
HoldsJust members spots = (one : Forced) (spot : Spot) → IsSpotOf one spot → Decides (contains spot_cmp spots spot) (Contains members one)

-- the entities that were found are known, and each stands there once
pub record IsFound (found : Found) : Type 0 where
  pub known : HoldsJust found.members.items found.spots
  pub once : AreApart found.members.items

-- behind those that were found stand others, which are some of these, and each of these is found
pub record Finds (list : List Forced) (before after : Found) : Type 0 where
  pub are_found : IsFound after
  pub more : List Forced
  pub behind : after.members.items ≡ before.members.items ++ more
  pub from : (one : Forced) → Contains more one → Contains list one
  pub all : (one : Forced) → Contains list one → Contains after.members.items one

-- what the focus forces by itself is found, and what each before a place leads to; all are forced
pub record IsWalked (basis : Basis) (of : Focus) (not_null : List PropId) (found : Found) (place : ℕ) : Type 0 where
  pub are_found : IsFound found
  pub holds : (one : Forced) → Contains (begun basis of not_null) one → Contains found.members.items one
  pub leads : (i : ℕ) (from to : Forced) → i < place → At found.members.items i from → LeadsTo basis from to → Contains found.members.items to
  pub forced : (one : Forced) → Contains found.members.items one → IsForced basis of not_null one
