-- The least fault of a rule at the writers of a list, where their places rise.
use Rattle.std.proofs.Common.{◌≡◌, ◌≢◌, ℕ, ◌<◌, ◌≤◌, List, map, length, Option, Some, None, slice_get, refl, sym, ap, subst, ◌∙◌}
use Rattle.std.specs.declared.cmp.Ordering.{Ordering}
use Rattle.std.specs.declared.cmp.Ordering.TheVariants.{Greater}
use Rattle.std.specs.Cmp.{nat_cmp_total, tied_itself}
use Rattle.std.specs.Option.{option_and_then, option_map}
use Rattle.std.specs.Ordering.{nat_cmp, ordering_then}
use Rattle.std.proofs.lemmas.List.{length-map}
use Rattle.std.proofs.lemmas.Option.{slice_get_within}
use Rattle.emc_base.specs.Lists.{At}
use Rattle.emc_base.proofs.Lists.{item_at}
use Rattle.emc_base.proofs.facts.Orderings.{not_greater}
use Rattle.emc_base.proofs.Joined.{at_map}
use Rattle.json_form.specs.declared.pointer.Step.{Step}
use Rattle.json_form.specs.Pointers.{steps_cmp}
use Rattle.groupings.specs.least_fault.Least.{IsLeast}
use Rattle.layouts.specs.declared.fault.Fault.{Fault}
use Rattle.layouts.specs.declared.rule.Rule.{Rule}
use Rattle.layouts.specs.Faults.{fault_cmp}
use Rattle.layouts.specs.Rules.{rule_number}
use Rattle.layouts.proofs.Faults.{same_fault}
use Rattle.layouts.specs.rule_places.Places.{IsAt}
use Rattle.table_owners.specs.declared.table_writers.writer.Writer.{Writer}
use Rattle.msl_rules.specs.OwnerRules.{PlacedWriter}
use Rattle.msl_fragments.specs.msl_owners.AllWriters.{Holds, fault_at_writer}
use Rattle.msl_fragments.specs.msl_owners.Spots.{place_of}
use Rattle.msl_fragments.specs.declared.msl_owners.all_writers.AllWriters.{AllWriters}
use Rattle.msl_fragments.proofs.msl_owners.Order.{Rises, Upto, rises_at}

-- a writer stands at a place where an item does
pub written_at : (writers : List PlacedWriter) (k : ℕ) (writer : Writer) → At (map (λ one. one.writer) writers) k writer → k < length writers
written_at writers k writer here = subst (λ (n : ℕ). k < n) (length-map writers (λ (one : PlacedWriter). one.writer)) (slice_get_within (map (λ one. one.writer) writers) k writer here)

module _ (rule : Rule) (Breaks : List Writer → ℕ → Type 0) (writers : List PlacedWriter) where
  -- the rule is broken at a writer
  abbrev pub BreaksAt : Fault → Type 0
  BreaksAt fault = (k : ℕ) × (one : PlacedWriter) × At writers k one × Breaks (map (λ other. other.writer) writers) k × IsAt rule one.place fault

  -- the fault there
  abbrev at : List Step → Fault
  at place = record { rule = rule; place = place }

  -- faults of one rule have the order of their places
  in_order : (one other : List Step) → Upto one other → fault_cmp (at one) (at other) ≢ Greater
  in_order one other upto =
      let P : Ordering → Type 0 = λ order. ordering_then order (steps_cmp one other) ≢ Greater in
      subst P (sym (tied_itself nat_cmp_total (rule_number rule))) upto

  module _ (rises : Rises (λ (one : PlacedWriter). one.place) writers) (within : (k : ℕ) → Breaks (map (λ other. other.writer) writers) k → k < length writers) where
    -- the first writer at which the rule is broken tells the least fault
    least_told : (found : Option ℕ) (places : List (List Step)) → places ≡ map (λ one. one.place) writers
        → IsLeast nat_cmp (Breaks (map (λ other. other.writer) writers)) found → IsLeast fault_cmp BreaksAt (option_and_then (λ k. option_map at (slice_get places k)) found)
    least_told None places are none = λ fault some. none some.0 some.3
    least_told (Some k) places are is =
        subst (λ (seen : Option Fault). IsLeast fault_cmp BreaksAt seen) (sym told) ((k, first.0, first.1, is.0, (refl, refl)), before)
      where
        first : (one : PlacedWriter) × At writers k one
        first = item_at writers k (within k is.0)

        told : option_map at (slice_get places k) ≡ Some (at first.0.place)
        told = ap (λ (ps : List (List Step)). option_map at (slice_get ps k)) are ∙ ap (option_map at) (at_map (λ (one : PlacedWriter). one.place) writers k first.0 first.1)

        before : (fault : Fault) → BreaksAt fault → fault_cmp (at first.0.place) fault ≢ Greater
        before fault some =
            let upto : k ≤ some.0 = not_greater k some.0 (is.1 some.0 some.3) in
            let one : fault ≡ at some.1.place = same_fault fault (at some.1.place) some.4.0 some.4.1 in
            subst (λ (other : Fault). fault_cmp (at first.0.place) other ≢ Greater) (sym one)
            (in_order first.0.place some.1.place (rises_at (λ (one : PlacedWriter). one.place) writers k some.0 first.0 some.1 rises first.1 some.2 upto))

    -- the same of what is held
    pub least_at_writer : (all : AllWriters) (found : Option ℕ) (seen : Option Fault) → Holds all writers → seen ≡ fault_at_writer rule all found
        → IsLeast nat_cmp (Breaks all.writers) found → IsLeast fault_cmp BreaksAt seen
    least_at_writer all found seen holds is least =
        let P : List Writer → Type 0 = λ ws. IsLeast nat_cmp (Breaks ws) found in
        subst (λ (o : Option Fault). IsLeast fault_cmp BreaksAt o) (sym is) (least_told found (map place_of all.spots) holds.places (subst P holds.each least))
