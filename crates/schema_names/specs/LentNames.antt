-- The places of names that a closure lends.
use Rattle.std.specs.Prelude.{◌≡◌, ℕ, List}
use Rattle.std.specs.Borrow.{Bor}
use Rattle.groupings.specs.declared.name_places.places.Places.{Places}
use Rattle.groupings.specs.name_places.GivenNames.{first_place}
use Rattle.groupings.specs.name_places.PlacesIn.{place_in}

-- where the name is given first that is lent of each item, whichever name of an item that is
abbrev pub ArePlacesBy : {T : Type 0} → (Bor T → Bor (List ℕ) → Type 0) → List T → Places → Type 0
ArePlacesBy {T} Lends items places =
    (name_in : T → List ℕ) → ((item : Bor T) (name : Bor (List ℕ)) → Lends item name → name.now ≡ name_in item.now) → place_in places ≡ first_place name_in items
