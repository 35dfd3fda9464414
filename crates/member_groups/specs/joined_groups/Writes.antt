-- The links between places that entity fragments give: from the property of each pair to its column.
use Rattle.std.specs.Prelude.{◌≡◌, ◌⊎◌, ◌↔◌, List, Contains, Option, Some, option_and_then, option_map}
use Rattle.round_trip.specs.Words.{TableId, Fragment, Pair}
use Rattle.round_trip.specs.soundness.mappings.Joined.{prop, col}
use Rattle.groupings.specs.declared.linked_places.classes.Link.{Link}
use Rattle.member_groups.specs.declared.joined_groups.places.Places.{Places}
use Rattle.member_groups.specs.joined_groups.Places.{place_of}

-- the link of a pair, if both its property and its column have places
abbrev pub link_by : Places → TableId → Pair → Option Link
link_by places table pair = option_and_then (λ one. option_map (λ other. record { one = one; other = other }) (place_of places (col table pair.col))) (place_of places (prop pair.prop))

-- one of the pairs gives this link
abbrev pub LinksBy : Places → TableId → List Pair → Link → Type 0
LinksBy places table pairs link = (pair : Pair) × Contains pairs pair × (link_by places table pair ≡ Some link)

-- the links of these pairs have come to others
abbrev pub AreMore : Places → TableId → List Pair → List Link → List Link → Type 0
AreMore places table pairs before after = (link : Link) → Contains after link ↔ (Contains before link ⊎ LinksBy places table pairs link)

-- these are the links of all pairs of these fragments
abbrev pub AreLinks : Places → List Fragment → List Link → Type 0
AreLinks places fragments links = (link : Link) → Contains links link ↔ ((fragment : Fragment) × Contains fragments fragment × LinksBy places fragment.table fragment.pairs link)
