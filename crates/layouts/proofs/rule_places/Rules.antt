-- Faults of rules: by what a test says, by the numbers of rules, and by the places of items.
use Rattle.std.proofs.Common.{◌≡◌, ◌≢◌, ◌↔◌, ◌⊎◌, ⊎_elim, inl, inr, ℕ, ◌<◌, ◌≤◌, List, ◌∷◌, MatchOption, Option, Some, None, Result, IfOk, refl, sym, ap, subst, ◌∙◌, arith}
use Rattle.std.specs.declared.cmp.Ordering.{Ordering}
use Rattle.std.specs.declared.cmp.Ordering.TheVariants.{Less, Equal, Greater}
use Rattle.std.specs.Cmp.{nat_cmp_is, nat_cmp_total, tied_itself}
use Rattle.std.specs.Option.{option_map}
use Rattle.std.specs.Ordering.{nat_cmp, ordering_then}
use Rattle.std.proofs.lemmas.Bool.{cases_lt}
use Rattle.std.proofs.lemmas.Result.{IfOk-weaker}
use Rattle.emc_base.specs.Lists.{At}
use Rattle.emc_base.proofs.facts.Orderings.{not_greater}
use Rattle.json_form.specs.declared.pointer.Step.{Step}
use Rattle.json_form.specs.declared.pointer.Step.TheVariants.{Member, Item}
use Rattle.json_form.specs.Pointers.{steps_cmp}
use Rattle.groupings.specs.least_fault.Least.{IsEarlierOf, IsLeast, earlier}
use Rattle.groupings.proofs.least_fault.Leasts.{least_of_both, least_of_searches, least_same}
use Rattle.layouts.specs.declared.fault.Fault.{Fault}
use Rattle.layouts.specs.declared.rule.Rule.{Rule}
use Rattle.layouts.specs.FaultOrder.{fault_cmp_total}
use Rattle.layouts.specs.Faults.{fault_cmp}
use Rattle.layouts.specs.Inside.{Under}
use Rattle.layouts.proofs.Faults.{least_under, not_after_itself, same_fault}
use Rattle.layouts.specs.Rules.{rule_number}
use Rattle.layouts.specs.rule_places.Places.{InItems, InList, IsAt, item_fault}

-- where a test says whether P holds, the least by the test is the least by P
pub least_where : {B P : Type 0} (Q : Fault → Type 0) (found : Option Fault) → (B ↔ P) → IsLeast fault_cmp (λ fault. B × Q fault) found
    → IsLeast fault_cmp (λ fault. P × Q fault) found
least_where {B} {P} Q found same = least_same fault_cmp (λ fault. B × Q fault) (λ fault. P × Q fault) found
    (λ fault holds. (same.0 holds.0, holds.1)) (λ fault holds. (same.1 holds.0, holds.1))

-- the same of a search that may lack memory
pub least_searched : {E B P : Type 0} (Q : Fault → Type 0) (found : Result (Option Fault) E) → (B ↔ P) → IfOk found (IsLeast fault_cmp (λ fault. B × Q fault))
    → IfOk found (IsLeast fault_cmp (λ fault. P × Q fault))
least_searched {E} {B} {P} Q found same = IfOk-weaker found (IsLeast fault_cmp (λ fault. B × Q fault)) (IsLeast fault_cmp (λ fault. P × Q fault)) (λ least. least_where Q least same)

-- the least in a list is that in an equal list
pub least_in_same : {X : Type 0} (member : List ℕ) (P : ℕ → X → Fault → Type 0) (items others : List X) (found : Option Fault) → items ≡ others
    → IsLeast fault_cmp (InList member P items) found → IsLeast fault_cmp (InList member P others) found
least_in_same member P items others found same least = subst (λ xs. IsLeast fault_cmp (InList member P xs) found) same least

-- what holds of the rule of each fault inside an item holds of that of each fault in the list
pub rule_inside : {X : Type 0} (B : Rule → Type 0) (member : List ℕ) (P : ℕ → X → Fault → Type 0) (items : List X)
    → ((i : ℕ) (item : X) (inside : Fault) → P i item inside → B inside.rule) → (fault : Fault) → InList member P items fault → B fault.rule
rule_inside B member P items each fault some =
    each some.holds.i some.holds.item (record { rule = fault.rule; place = some.holds.holds.rest }) some.holds.holds.holds

-- what holds of the rule of each fault at a node holds of that of each fault that is seen behind a step
pub rule_behind : (B : Rule → Type 0) (step : Step) (P : Fault → Type 0) → ((inside : Fault) → P inside → B inside.rule)
    → (fault : Fault) → Under step P fault → B fault.rule
rule_behind B step P each fault some = each (record { rule = fault.rule; place = some.rest }) some.holds

-- a rule of a lower number comes first
lower_first : (one other : ℕ) (rest : Ordering) → one < other → ordering_then (nat_cmp one other) rest ≢ Greater
lower_first one other rest lower = subst (λ (order : Ordering). ordering_then order rest ≢ Greater) (nat_cmp_is one other Less lower) (λ same. absurd cc)

-- the least of a search is that of both, where each fault of the other is against a rule of a greater number
pub least_of_lower : (P Q : Fault → Type 0) (found : Fault) → IsLeast fault_cmp P (Some found)
    → ((fault : Fault) → Q fault → rule_number found.rule < rule_number fault.rule) → IsLeast fault_cmp (λ fault. P fault ⊎ Q fault) (Some found)
least_of_lower P Q found least greater = (inl least.0, λ fault. ⊎_elim (least.1 fault) (λ holds. lower_first (rule_number found.rule) (rule_number fault.rule) _ (greater fault holds)))

-- the least of the other search is that of both, where the first finds nothing
pub least_of_other : (P Q : Fault → Type 0) (found : Option Fault) → IsLeast fault_cmp P None → IsLeast fault_cmp Q found
    → IsLeast fault_cmp (λ fault. P fault ⊎ Q fault) found
least_of_other P Q None none least = λ fault. ⊎_elim (none fault) (least fault)
least_of_other P Q (Some found) none least = (inr least.0, λ fault. ⊎_elim (λ holds. absurd (none fault holds)) (least.1 fault))

-- and back
pub upto_not_greater : (one other : ℕ) → one ≤ other → nat_cmp one other ≢ Greater
upto_not_greater one other upto = ⊎_elim
    (λ (less : one < other). subst (λ (order : Ordering). order ≢ Greater) (nat_cmp_is one other Less less) (λ is. absurd cc))
    (λ (late : other ≤ one). subst (λ (order : Ordering). order ≢ Greater) (nat_cmp_is one other Equal (let is : one ≡ other = omega arith in is)) (λ is. absurd cc))
    (cases_lt one other)

-- the least of two properties of places, of which one holds only of places at or behind those of the other
pub least_by_first : (P Q : ℕ → Type 0) (found : Option ℕ) → ((k : ℕ) → P k → Q k) → ((k : ℕ) → Q k → (j : ℕ) × P j × (j ≤ k)) → IsLeast nat_cmp P found
    → IsLeast nat_cmp Q found
least_by_first P Q None to back none = λ k holds. let first = back k holds in none first.0 first.1
least_by_first P Q (Some one) to back is = (
  to one is.0,
  λ k holds.
      let first = back k holds in
      let before : one ≤ first.0 = not_greater one first.0 (is.1 first.0 first.1) in
      let behind : first.0 ≤ k = first.2 in
      upto_not_greater one k (omega arith),
)

-- what is wrong with items may be said in other words, which are as good for the item at the place
pub in_list_at : {X : Type 0} (member : List ℕ) (P Q : ℕ → X → Fault → Type 0) (items : List X)
    → ((i : ℕ) (item : X) → At items i item → (fault : Fault) → P i item fault → Q i item fault) → (fault : Fault) → InList member P items fault → InList member Q items fault
in_list_at member P Q items to fault some = record {
  rest = some.rest;
  reached = some.reached;
  holds = record {
    i = some.holds.i;
    item = some.holds.item;
    here = some.holds.here;
    holds = record {
      rest = some.holds.holds.rest;
      reached = some.holds.holds.reached;
      holds = to some.holds.i some.holds.item some.holds.here (record { rule = fault.rule; place = some.holds.holds.rest }) some.holds.holds.holds;
    };
  };
}

-- what holds of items may be weakened
pub in_list_map : {X : Type 0} (member : List ℕ) (P Q : ℕ → X → Fault → Type 0) (items : List X) → ((i : ℕ) (item : X) (fault : Fault) → P i item fault → Q i item fault)
    → (fault : Fault) → InList member P items fault → InList member Q items fault
in_list_map member P Q items to = in_list_at member P Q items (λ i item here. to i item)

-- of two things that may be wrong with items, each fault is of the one or of the other
in_list_either : {X : Type 0} (member : List ℕ) (P Q : ℕ → X → Fault → Type 0) (items : List X) (fault : Fault)
    → InList member (λ i item fault. P i item fault ⊎ Q i item fault) items fault → InList member P items fault ⊎ InList member Q items fault
in_list_either member P Q items fault some = ⊎_elim
    (λ (holds : P some.holds.i some.holds.item (record { rule = fault.rule; place = some.holds.holds.rest })). inl (record {
      rest = some.rest;
      reached = some.reached;
      holds = record { i = some.holds.i; item = some.holds.item; here = some.holds.here; holds = record { rest = some.holds.holds.rest; reached = some.holds.holds.reached; holds = holds } };
    }))
    (λ (holds : Q some.holds.i some.holds.item (record { rule = fault.rule; place = some.holds.holds.rest })). inr (record {
      rest = some.rest;
      reached = some.reached;
      holds = record { i = some.holds.i; item = some.holds.item; here = some.holds.here; holds = record { rest = some.holds.holds.rest; reached = some.holds.holds.reached; holds = holds } };
    }))
    some.holds.holds.holds

-- the least of two searches in one list is that of both things in it
pub least_in_list_of_both : {X : Type 0} (member : List ℕ) (P Q : ℕ → X → Fault → Type 0) (items : List X) (found : Option Fault)
    → IsLeast fault_cmp (λ fault. InList member P items fault ⊎ InList member Q items fault) found
    → IsLeast fault_cmp (InList member (λ i item fault. P i item fault ⊎ Q i item fault) items) found
least_in_list_of_both {X} member P Q items found = least_same fault_cmp (λ fault. InList member P items fault ⊎ InList member Q items fault) (InList member Both items) found
    (λ fault. ⊎_elim (in_list_map member P Both items (λ i item inside holds. inl holds) fault) (in_list_map member Q Both items (λ i item inside holds. inr holds) fault))
    (in_list_either member P Q items)
  where
    Both : ℕ → X → Fault → Type 0
    Both i item fault = P i item fault ⊎ Q i item fault

-- the least of what is wrong only where something holds, and it holds
pub least_given : {P : Type 0} (Q : Fault → Type 0) (found : Option Fault) → P → IsLeast fault_cmp Q found → IsLeast fault_cmp (λ fault. P × Q fault) found
least_given {P} Q found holds = least_same fault_cmp Q (λ fault. P × Q fault) found (λ fault wrong. (holds, wrong)) (λ fault both. both.1)

module _ {X : Type 0} (rule : Rule) (rest : List Step) (P : ℕ → X → Type 0) (items : List X) where
  -- the fault at the item of this place, seen from the list
  abbrev at_item : ℕ → Fault
  at_item i = record { rule = rule; place = Item i ∷ rest }

  -- faults of one rule in items have the order of the items
  items_in_order : (i k : ℕ) → i ≤ k → fault_cmp (at_item i) (at_item k) ≢ Greater
  items_in_order i k upto = ⊎_elim earlier same (cases_lt i k)
    where
      earlier : i < k → fault_cmp (at_item i) (at_item k) ≢ Greater
      earlier less =
          let Q : Ordering → Type 0 = λ order. ordering_then order (steps_cmp (Item i ∷ rest) (Item k ∷ rest)) ≢ Greater in
          let R : Ordering → Type 0 = λ order. ordering_then (ordering_then order Equal) (steps_cmp rest rest) ≢ Greater in
          subst Q (sym (tied_itself nat_cmp_total (rule_number rule))) (subst R (nat_cmp_is i k Less less) (λ is. absurd cc))

      same : k ≤ i → fault_cmp (at_item i) (at_item k) ≢ Greater
      same late = subst (λ (j : ℕ). fault_cmp (at_item i) (at_item j) ≢ Greater) (let is : i ≡ k = omega arith in is) (not_after_itself (at_item i))

  -- the first item of which P holds tells the least fault
  least_in_items : (found : Option ℕ) → IsLeast nat_cmp (λ i. (item : X) × At items i item × P i item) found
      → IsLeast fault_cmp (InItems (λ i item fault. P i item × IsAt rule rest fault) items) (option_map at_item found)
  least_in_items None none = λ fault some. none some.i (some.item, some.here, some.holds.holds.0)
  least_in_items (Some first) is =
      (record { i = first; item = is.0.0; here = is.0.1; holds = record { rest = rest; reached = refl; holds = (is.0.2, (refl, refl)) } }, before)
    where
      before : (fault : Fault) → InItems (λ i item inside. P i item × IsAt rule rest inside) items fault → fault_cmp (at_item first) fault ≢ Greater
      before fault some =
          let one : fault ≡ at_item some.i = same_fault fault (at_item some.i) some.holds.holds.1.0 (some.holds.reached ∙ ap (λ (places : List Step). Item some.i ∷ places) some.holds.holds.1.1) in
          subst (λ (other : Fault). fault_cmp (at_item first) other ≢ Greater) (sym one)
          (items_in_order first some.i (not_greater first some.i (is.1 some.i (some.item, some.here, some.holds.holds.0))))

  -- the same, seen from the object that has the list at a member
  pub least_by_place : (member : List ℕ) (found : Option ℕ) → IsLeast nat_cmp (λ i. (item : X) × At items i item × P i item) found
      → IsLeast fault_cmp (InList member (λ i item fault. P i item × IsAt rule rest fault) items) (item_fault rule member rest found)
  least_by_place member found is = least_under (Member member) (InItems (λ i item fault. P i item × IsAt rule rest fault) items) (option_map at_item found) (least_in_items found is)

-- two searches that were joined
pub least_joined : (P Q : Fault → Type 0) (one other both : Option Fault) → both ≡ earlier fault_cmp one other → IsLeast fault_cmp P one → IsLeast fault_cmp Q other
    → IsLeast fault_cmp (λ fault. P fault ⊎ Q fault) both
least_joined P Q one other both is first second = subst (λ (found : Option Fault). IsLeast fault_cmp (λ fault. P fault ⊎ Q fault) found) (sym is)
    (least_of_both fault_cmp fault_cmp_total P Q one other first second)

-- the same of searches that may lack memory
pub least_searches : {E : Type 0} (P Q : Fault → Type 0) (one other both : Result (Option Fault) E) → IfOk both (IsEarlierOf fault_cmp one other)
    → IfOk one (IsLeast fault_cmp P) → IfOk other (IsLeast fault_cmp Q) → IfOk both (IsLeast fault_cmp (λ fault. P fault ⊎ Q fault))
least_searches P Q one other both is first second = least_of_searches fault_cmp fault_cmp_total P Q one other both first second is

-- what a search finds is also this, where it is what is known of it
pub searched : {E : Type 0} {P : Option Fault → Type 0} (Q : Option Fault → Type 0) (found : Result (Option Fault) E) → IfOk found P
    → ((least : Option Fault) → P least → Q least) → IfOk found Q
searched {E} {P} Q found is to = IfOk-weaker found P Q to is

-- a search that asks for something which is there
pub least_where_some : {X : Type 0} (P : X → Fault → Type 0) (known : Option X) (x : X) (found : Option Fault) → known ≡ Some x → IsLeast fault_cmp (P x) found
    → IsLeast fault_cmp (λ fault. MatchOption known ⊥ (λ y. P y fault)) found
least_where_some {X} P known x found is least = let Q : Option X → Type 0 = λ o. IsLeast fault_cmp (λ fault. MatchOption o ⊥ (λ y. P y fault)) found in subst Q (sym is) least

-- a rule that is this one comes after those of lesser numbers
pub after_number : (n : ℕ) (known rule : Rule) → rule ≡ known → n < rule_number known → n < rule_number rule
after_number n known rule is late = subst (λ (r : Rule). n < rule_number r) (sym is) late

-- what holds of the rule of each fault of what may be there holds of that of the fault
pub rule_where : {X : Type 0} (B : Rule → Type 0) (P : X → Fault → Type 0) (known : Option X) (fault : Fault) → ((x : X) → P x fault → B fault.rule)
    → MatchOption known ⊥ (λ x. P x fault) → B fault.rule
rule_where B P None fault each is = absurd is
rule_where B P (Some x) fault each is = each x is
