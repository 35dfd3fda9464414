-- How many steps saving counts: each is one call of the update views for an entity, in planning alone.
-- Source: this project's.
use Rattle.std.specs.Prelude.{◌≡◌, ◌⊎◌, ◌+◌, ◌*◌, ℕ, List, length, Result, Ok, Err}
use Rattle.round_trip.specs.Words.{Schema, State, Tables}
use Rattle.cells.specs.declared.parts.Parts.{Parts}
use Rattle.cells.specs.Parts.{AreParts, schema_in}
use Rattle.entity_changes.specs.Touching.{TellsTouched}
use Rattle.entity_changes.specs.declared.change.Change.{Change}
use Rattle.entity_changes.specs.declared.touched.Touched.{Touched}
use Rattle.delta_plan.specs.Steps.{RoseAtMost, raised}
use Rattle.delta_plan.specs.Units.{count_at}
use Rattle.mapping_core.specs.declared.saving.fault.SaveFault.{SaveFault}
use Rattle.mapping_core.specs.declared.saving.fault.SaveFault.TheVariants.{Load, Refused, Breach, FreeReference, Circular, Memory}
use Rattle.mapping_core.specs.declared.saving.saved.Saved.{Saved}
use Rattle.mapping_core.specs.states.Saves.{LeadTo}

module _ (schema : Schema) (changes : List Change) where
  -- this is what the changes touch, each once, by the cells of the schema
  pub record AreTouched (touched : Touched) : Type 0 where
    pub parts : Parts
    pub of_schema : schema_in parts ≡ schema
    pub are_parts : AreParts parts
    pub tells : TellsTouched schema.model parts.cells.now changes touched

  -- the count rose by two for each touched key at most
  pub record RoseForTouched (before now : ℕ) : Type 0 where
    pub touched : Touched
    pub are : AreTouched touched
    pub rose : RoseAtMost (2 * length touched.entities) before now

  -- and by just the number of entities that the two states hold at touched keys
  pub record RoseForEntities (tables : Tables) (before now : ℕ) : Type 0 where
    pub touched : Touched
    pub are : AreTouched touched
    pub old : State
    pub new : State
    pub lead : LeadTo schema tables changes old new
    pub exact : now ≡ raised (count_at schema.model touched old + count_at schema.model touched new) before
    pub most : RoseAtMost (2 * length touched.entities) before now

-- where row changes are planned, each entity at a touched key counts one step in each of the two states; where they aren't, there is no step; and where memory ran out there
-- are no more than two for each touched key
abbrev pub CountsSteps : Schema → Tables → List Change → ℕ → ℕ → Result Saved SaveFault → Type 0
CountsSteps schema tables changes before now (Ok saved) = RoseForEntities schema changes tables before now
CountsSteps schema tables changes before now (Err (Circular ring)) = RoseForEntities schema changes tables before now
CountsSteps schema tables changes before now (Err (Load fault)) = now ≡ before
CountsSteps schema tables changes before now (Err (Refused index why)) = now ≡ before
CountsSteps schema tables changes before now (Err (Breach breach)) = now ≡ before
CountsSteps schema tables changes before now (Err (FreeReference place)) = now ≡ before
CountsSteps schema tables changes before now (Err Memory) = (now ≡ before) ⊎ RoseForTouched schema changes before now
