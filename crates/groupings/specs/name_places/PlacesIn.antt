-- The places of names, as they are known.
use Rattle.std.specs.Prelude.{ℕ, List, Option}
use Rattle.indexmap.specs.IndexMap.{get_by_text}
use Rattle.groupings.specs.declared.name_places.places.Places.{Places}

-- the place that is known of a name
abbrev pub place_in : Places → List ℕ → Option ℕ
place_in places name = get_by_text places.by_name name
