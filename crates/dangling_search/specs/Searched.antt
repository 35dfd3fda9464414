-- What is found of a foreign key: a focus at which it dangles, or none among those that were looked at.
-- Source: this project's.
use Rattle.std.specs.Prelude.{◌≡◌, List, Contains, Option, None, Some}
use Rattle.round_trip.specs.Words.{AssocId, FailsAt, ForeignKey, LinkFragId, Place, Schema, State}
use Rattle.round_trip.specs.declared.FailKind.TheVariants as kind
use Rattle.table_owners.specs.declared.places.LinkPlace.{LinkPlace}
use Rattle.table_owners.specs.declared.places.LinkPlace.TheVariants as told
use Rattle.regions.specs.Basis.{Basis}
use Rattle.regions.specs.declared.pattern.Focus.{Focus}
use Rattle.regions.specs.declared.pattern.Focus.TheVariants as focus
use Rattle.regions.specs.declared.region.Region.{Region}
use Rattle.dangling_keys.specs.Dangling.{DanglesAt}
use Rattle.dangling_search.specs.declared.first.Spot.{Spot}

-- the key dangles at one of these focuses so, or at none of them
abbrev pub FindsAmong : Basis → ForeignKey → (Focus → Type 0) → Option Spot → Type 0
FindsAmong basis key Among None = (of : Focus) → Among of → (principal : Option Region) → ¬ DanglesAt basis of key principal
FindsAmong basis key Among (Some spot) = DanglesAt basis spot.of key spot.principal

-- at a region of these, at this region, at the links of the association, and at any focus
abbrev pub FindsIn : Basis → ForeignKey → List Region → Option Spot → Type 0
FindsIn basis key regions = FindsAmong basis key (λ of. (region : Region) × Contains regions region × (of ≡ focus.Entity region))

abbrev pub FindsRegion : Basis → ForeignKey → Region → Option Spot → Type 0
FindsRegion basis key region = FindsAmong basis key (λ of. of ≡ focus.Entity region)

abbrev pub FindsAt : Basis → ForeignKey → AssocId → Option Spot → Type 0
FindsAt basis key a = FindsAmong basis key (λ of. of ≡ focus.Link a)

abbrev pub FindsKey : Basis → ForeignKey → Option Spot → Type 0
FindsKey basis key = FindsAmong basis key (λ of. of ≡ of)

-- some legal state has a row that refers by a key and finds none
abbrev pub SomeFails : Schema → Type 0
SomeFails schema = (place : Place) × (c : State) × (d : State) × FailsAt schema kind.Dangling place c d

-- links are rows of a table of their own
abbrev pub IsJoinedPlace : LinkPlace → Type 0
IsJoinedPlace place = (number : LinkFragId) × (place ≡ told.Joined number)
