-- The digits of an entity with the links that it hosts: by each test of its type, which answer it gives.
-- Source: this project's; the cells by which the mapping compiler of Melnik, Adya and Bernstein, SIGMOD 2007, divides entities.
use Rattle.std.specs.Prelude.{◌&&◌, ℕ, List, length, position, slice_get, Bool, true, false, not, Option, Some, None, unwrap_or}
use Rattle.std.specs.List.{list_any}
use Rattle.round_trip.specs.Words.{Value, Null, Entity, Hosted}
use Rattle.condition_logic.specs.declared.atoms.Atom.{Atom}
use Rattle.condition_logic.specs.declared.atoms.Atom.TheVariants as atom
use Rattle.schema_laws.specs.state_demand.Selecting.{same_value}
use Rattle.regions.specs.region_laws.RegionAt.{has_link}
use Rattle.update_views.specs.declared.region_table.telling.Test.{Test}
use Rattle.update_views.specs.declared.region_table.telling.Test.TheVariants as test
use Rattle.update_views.specs.declared.region_table.telling.ValueTest.{ValueTest}
use Rattle.update_views.specs.declared.region_table.telling.LinkRule.{LinkRule}
use Rattle.update_views.specs.declared.region_table.telling.LinkRule.TheVariants as rule

-- whether a value lies in an atom, where these are the constants
abbrev pub lies_in : List Value → Atom → Value → Bool
lies_in constants atom.Null value = same_value value Null
lies_in constants (atom.Is one) value = same_value value one
lies_in constants atom.Other value = not (same_value value Null) && not (list_any (same_value value) constants)

-- the position of the first atom in which a value lies
abbrev pub position_in : ValueTest → Value → Option ℕ
position_in tested value = position (λ told. lies_in tested.constants told.atom value) tested.atoms

-- the same of the entity's value, which is null where there is none
abbrev pub value_digit : ValueTest → Entity → Option ℕ
value_digit tested entity = position_in tested (unwrap_or (slice_get entity.values tested.place) Null)

-- the position of the flag that tells whether a link is there; the one flag where it isn't looked at
abbrev pub rule_digit : LinkRule → Bool → Option ℕ
rule_digit rule.Unlooked linked = Some 0
rule_digit rule.Barred true = None
rule_digit rule.Barred false = Some 0
rule_digit rule.Needed true = Some 0
rule_digit rule.Needed false = None
rule_digit rule.Free true = Some 1
rule_digit rule.Free false = Some 0

-- how many flags there may be
abbrev pub rule_size : LinkRule → ℕ
rule_size rule.Unlooked = 1
rule_size rule.Barred = 1
rule_size rule.Needed = 1
rule_size rule.Free = 2

-- the digit by a test
abbrev pub digit_of : Test → Entity → List Hosted → Option ℕ
digit_of (test.Value tested) entity links = value_digit tested entity
digit_of (test.Link tested) entity links = rule_digit tested.rule (has_link links tested.assoc)

-- how many digits there are
abbrev pub size_of : Test → ℕ
size_of (test.Value tested) = length tested.atoms
size_of (test.Link tested) = rule_size tested.rule
