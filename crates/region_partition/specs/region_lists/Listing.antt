-- Lists of choices, made by choosing further; and the parts of a region as they are told.
-- Source: this project's; the cells by which the mapping compiler of Melnik, Adya and Bernstein, SIGMOD 2007, divides entities.
use Rattle.std.specs.Prelude.{◌++◌, List, map, flat_map}
use Rattle.round_trip.specs.Words.{SetId, TypeId, PropId, AssocId}
use Rattle.condition_logic.specs.declared.atoms.Atom.{Atom}
use Rattle.condition_logic.specs.declared.atoms.AtomOf.{AtomOf}
use Rattle.regions.specs.declared.region.Region.{Region}
use Rattle.regions.specs.Lists.{choices}

-- each of the first lists with each of the second ones behind it
abbrev pub beside : {X : Type 0} → List (List X) → List (List X) → List (List X)
beside firsts seconds = flat_map (λ first. map (λ second. first ++ second) seconds) firsts

-- a list of each, joined to one, for each choice
abbrev pub joined_choices : {X : Type 0} → List (List (List X)) → List (List X)
joined_choices lists = map (λ choice. flat_map (λ list. list) choice) (choices lists)

-- atoms as those of a property
abbrev pub told_atoms : PropId → List Atom → List AtomOf
told_atoms p atoms = map (λ atom. record { prop = p; atom = atom }) atoms

-- the region with these parts
abbrev pub region_with : SetId → TypeId → List AtomOf → List AssocId → Region
region_with s t atoms assocs = record { set = s; ty = t; atoms = atoms; linked = assocs }
