-- Which fragments select the entities of a type of which atoms are told.
-- Source: MSL version 3, MappingFragment and Condition.
use Rattle.std.specs.Prelude.{◌==◌, ◌&&◌, List, find, Option, Bool}
use Rattle.std.specs.List.{list_all, list_any}
use Rattle.round_trip.specs.Words.{TypeId, PropId, EntityModel, Fragment}
use Rattle.condition_logic.specs.declared.atoms.AtomOf.{AtomOf}
use Rattle.schema_laws.specs.state_demand.Selecting.{is_picked}
use Rattle.schema_laws.specs.sound_demand.Deriving.{derives}
use Rattle.regions.specs.Symbols.{met_by_atoms}

-- what is told of a property
abbrev pub told_of : List AtomOf → PropId → Option AtomOf
told_of atoms prop = find (λ told. told.prop.index == prop.index) atoms

-- a pick of the fragment fits the type, and the atoms meet its conditions on properties
abbrev pub selected_by : EntityModel → TypeId → List AtomOf → Fragment → Bool
selected_by model t atoms fragment =
    list_any (is_picked (derives model) t) fragment.picks && list_all (λ cond. met_by_atoms atoms cond.on cond.test) fragment.conds
