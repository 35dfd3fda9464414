-- What was read by some rules, together with those that were asked before.
use Rattle.std.proofs.Common.{◌≡◌, ◌⊎◌, ◌<◌, Option, Some, None, Result, Ok, Err, subst₂, arith}
use Rattle.serde_json.specs.Data.{Data}
use Rattle.groupings.specs.least_fault.Least.{IsLeast}
use Rattle.layouts.specs.declared.fault.Fault.{Fault}
use Rattle.layouts.specs.declared.form.Form.{Form}
use Rattle.layouts.specs.Faults.{fault_cmp}
use Rattle.layouts.specs.Forms.{IsFaultOf}
use Rattle.layouts.specs.Rules.{rule_number}
use Rattle.layouts.proofs.LayoutRules.{layout_rules}
use Rattle.layouts.proofs.rule_places.Rules.{least_of_lower, least_of_other}
use Rattle.layouts.specs.declared.told_rules.stop.Stop.{Stop}
use Rattle.layouts.specs.declared.told_rules.stop.Stop.TheVariants as stop
use Rattle.layouts.specs.told_rules.Reads.{Reads}

module _ {X : Type 0} (P Q : Fault → Type 0) (meant : X) where
  -- the first rules are kept, so the others decide
  pub goes_on : (result : Result X Stop) → IsLeast fault_cmp P None → Reads Q meant result → Reads (λ fault. P fault ⊎ Q fault) meant result
  goes_on (Ok read) none reads = (least_of_other P Q None none reads.0, reads.1)
  goes_on (Err (stop.Fault fault)) none reads = least_of_other P Q (Some fault) none reads
  goes_on (Err stop.Memory) none reads = cc

  -- one of them is broken, and the others have greater numbers
  pub stops_there : (fault : Fault) → IsLeast fault_cmp P (Some fault) → ((other : Fault) → Q other → rule_number fault.rule < rule_number other.rule)
      → Reads (λ other. P other ⊎ Q other) meant (Err (stop.Fault fault))
  stops_there fault least greater = least_of_lower P Q fault least greater

-- what stops the reading is what it answers, where that is want of memory
pub lacks_memory : {X : Type 0} (P : Fault → Type 0) (meant : X) (result : Result X Stop) → result ≡ Err stop.Memory → Reads P meant result
lacks_memory P meant (Ok read) is = absurd cc
lacks_memory P meant (Err (stop.Fault fault)) is = absurd cc
lacks_memory P meant (Err stop.Memory) is = cc

-- a document whose layout is asked first: its rules have the least numbers
module _ {X : Type 0} (form : Form) (d : Data) (Later : Fault → Type 0) (meant : X) (part : Data) (same : part ≡ d) (found : Option Fault)
    (least : IsLeast fault_cmp (IsFaultOf form part) found) where
  -- what was found of the layout
  found_there : (answer : Option Fault) → found ≡ answer → IsLeast fault_cmp (IsFaultOf form d) answer
  found_there answer is = let P : Data → Option Fault → Type 0 = λ e other. IsLeast fault_cmp (IsFaultOf form e) other in subst₂ P same is least

  -- it is broken
  pub stops_at_layout : (fault : Fault) → found ≡ Some fault → ((other : Fault) → Later other → 5 < rule_number other.rule)
      → Reads (λ other. IsFaultOf form d other ⊎ Later other) meant (Err (stop.Fault fault))
  stops_at_layout fault is later = stops_there (IsFaultOf form d) Later meant fault (found_there (Some fault) is)
      (λ other holds.
      let early = layout_rules form d fault (found_there (Some fault) is).0 in
      let late = later other holds in
      omega (arith, early, late))

  -- it is kept, so the others decide
  pub passes_layout : (result : Result X Stop) → found ≡ None → Reads Later meant result → Reads (λ other. IsFaultOf form d other ⊎ Later other) meant result
  passes_layout result is reads = goes_on (IsFaultOf form d) Later meant result (found_there None is) reads
