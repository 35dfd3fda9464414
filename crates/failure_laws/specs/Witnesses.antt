-- The states that are shown of a conflict: small parts, which hold what the failure needs and nothing else.
-- Source: this project's choice of the states that it shows.
use Rattle.std.specs.Prelude.{◌==◌, ◌&&◌, [], map, slice_get, Option, None, Some, Bool}
use Rattle.std.specs.List.{list_any}
use Rattle.std.specs.Option.{option_map_or}
use Rattle.round_trip.specs.Words.{AssocId, PropId, Assoc, EntityModel, State}
use Rattle.regions.specs.declared.region.Region.{Region}
use Rattle.regions.specs.declared.pattern.Focus.{Focus}
use Rattle.regions.specs.declared.pattern.Focus.TheVariants as focus
use Rattle.regions.specs.Basis.{Basis}
use Rattle.regions.specs.Patterns.{Valuation}
use Rattle.region_states.specs.defaults.Defaults.{default_valuation}
use Rattle.region_states.specs.declared.conflicts.conflict.Conflict.{Conflict}
use Rattle.region_states.specs.declared.conflicts.conflict.Conflict.TheVariants as conflict
use Rattle.host_states.specs.SmallStates.{small_focus, small_leaving, small_rivals}
use Rattle.conflict_laws.specs.clash.ClashValues.{clash_values}
use Rattle.conflict_laws.specs.rival.RivalValues.{first_values, second_values}
use Rattle.conflict_laws.specs.same.SameValues.{first_several, with_one, with_other}
use Rattle.failure_laws.specs.SmallLinks.{small_link, small_pair, small_shared}

-- no entity and no link
abbrev pub empty_state : EntityModel → State
empty_state model = record { entities = map (λ set. []) model.sets; links = map (λ assoc. []) model.assocs }

-- this state alone
abbrev pub alone : State → State × Option State
alone state = (state, None)

-- this state, and another with the same tables
abbrev pub beside : State × State → State × Option State
beside both = (both.0, Some both.1)

module _ (basis : Basis) where
  -- what is shown of an association
  abbrev pub of_assoc : AssocId → (Assoc → State × Option State) → State × Option State
  of_assoc a shown = option_map_or shown (slice_get basis.schema.model.assocs a.index) (alone (empty_state basis.schema.model))

  -- an entity of the region that has these values; or the link of an association
  abbrev pub of_focus : Focus → (Region → Valuation) → State × Option State
  of_focus (focus.Entity region) values = alone (small_focus basis 0 region (values region))
  of_focus (focus.Link a) values = of_assoc a (λ assoc. alone (small_link basis.schema.model 0 a assoc))

  -- two entities of the region that differ in the property alone
  abbrev pub of_lost : Region → PropId → State × Option State
  of_lost region p = beside (small_rivals basis 0 region (with_one basis region p) region (with_other basis region p))

  -- whether the first end of an association hosts its links
  abbrev pub hosts_first : AssocId → Assoc → Bool
  hosts_first a assoc = list_any (λ host. (host.assoc.index == a.index) && host.first_hosts) (basis.hosts assoc.first.set)

  -- the state that is shown of a conflict, and the other one with the same tables
  abbrev pub witness_of : Conflict → State × Option State
  witness_of (conflict.Clash of t col one two) = of_focus of (λ region. clash_values basis region one two)
  witness_of (conflict.ManyLinks a) = of_assoc a (λ assoc. alone (small_shared basis.schema.model 0 a assoc (hosts_first a assoc)))
  witness_of (conflict.NullIn of t col one) = of_focus of (default_valuation basis 0)
  witness_of (conflict.Disagree of place) = of_focus of (default_valuation basis 0)
  witness_of (conflict.Absent region) = option_map_or (of_lost region) (first_several basis region) (beside (small_leaving basis 0 region (default_valuation basis 0 region)))
  witness_of (conflict.Rival one two) = beside (small_rivals basis 0 one (first_values basis one two) two (second_values basis one two))
  witness_of (conflict.Lost region p) = of_lost region p
  witness_of (conflict.Unmapped a) = of_assoc a (λ assoc. beside (small_pair basis.schema.model 0 a assoc))
