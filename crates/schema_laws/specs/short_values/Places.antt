-- Where a property stands among others, and whether it is a dependent one, as computed answers.
-- Source: CSDL version 3, Key and ReferentialConstraint.
use Rattle.std.specs.Prelude.{◌==◌, ℕ, suc, List, [], ◌∷◌, Bool, false, if◌then◌else◌}
use Rattle.std.specs.List.{list_any}
use Rattle.std.specs.Option.{option_map_or}
use Rattle.round_trip.specs.Words.{PropId, EntityModel}

-- how many properties stand before this one
abbrev pub place_in : PropId → List PropId → ℕ
place_in p [] = 0
place_in p (other ∷ props) = if other.index == p.index then 0 else suc (place_in p props)

-- whether a property is one of these
abbrev pub is_among : PropId → List PropId → Bool
is_among p props = list_any (λ other. other.index == p.index) props

-- whether a property is a dependent one of a constraint
abbrev pub is_dependent : EntityModel → PropId → Bool
is_dependent model p = list_any (λ assoc. option_map_or (λ constraint. is_among p constraint.dependent) assoc.constraint false) model.assocs
