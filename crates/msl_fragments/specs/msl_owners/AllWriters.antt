-- What is added to a list of writers. Only for the functions that list them.
-- Source: this project's choice of who may write a table, over MSL version 3, MappingFragment and AssociationSetMapping.
use Rattle.std.specs.Prelude.{◌≡◌, ℕ, List, ◌++◌, Option, map, option_map, slice_get}
use Rattle.std.specs.Option.{option_and_then}
use Rattle.layouts.specs.declared.fault.Fault.{Fault}
use Rattle.layouts.specs.declared.rule.Rule.{Rule}
use Rattle.msl_rules.specs.OwnerRules.{PlacedWriter}
use Rattle.msl_fragments.specs.msl_owners.Spots.{place_of}
use Rattle.msl_fragments.specs.declared.msl_owners.all_writers.AllWriters.{AllWriters}

-- these writers stand at the end now, each beside its place
pub record Adds (before now : AllWriters) (more : List PlacedWriter) : Type 0 where
  pub writers : now.writers ≡ before.writers ++ map (λ one. one.writer) more
  pub places : map place_of now.spots ≡ map place_of before.spots ++ map (λ one. one.place) more

-- these are all the writers, each beside its place
pub record Holds (all : AllWriters) (writers : List PlacedWriter) : Type 0 where
  pub each : all.writers ≡ map (λ one. one.writer) writers
  pub places : map place_of all.spots ≡ map (λ one. one.place) writers

-- the rule is broken at the writer of this number, where there is one
abbrev pub fault_at_writer : Rule → AllWriters → Option ℕ → Option Fault
fault_at_writer rule all found = option_and_then (λ k. option_map (λ place. record { rule = rule; place = place }) (slice_get (map place_of all.spots) k)) found
