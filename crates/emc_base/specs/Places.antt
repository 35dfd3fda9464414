-- Places, by their parts.
use Rattle.std.specs.Prelude.{ℕ, List}
use Rattle.emc_base.specs.declared.place.Place.{Place}
use Rattle.emc_base.specs.declared.value.Value.{Value}

-- a place by its three parts
abbrev pub place_at : List ℕ → List Value → List ℕ → Place
place_at name key part = record { name = name; key = key; part = part }
