-- Marks of places, set by set: one more, and those of all.
use Rattle.std.proofs.Common.{◌≡◌, ◌≢◌, ◌↔◌, ⊎_elim, inl, inr, ℕ, ◌+◌, ◌<◌, ◌≤◌, List, length, get_or, replicate, set, Any, Option, Some, None, Bool, true, false, true≢false, slice_get, sym, ap, subst, ◌∙◌, arith}
use Rattle.std.proofs.lemmas.Bool.{cases_eq}
use Rattle.std.proofs.lemmas.List.{get_or-replicate, get_or-set_other, get_or-set_same, length-replicate, length-set}
use Rattle.std.proofs.lemmas.Option.{get_or_from_slice_get, none-some, same_Some, slice_get-get_or, slice_get_within}
use Rattle.emc_base.specs.Lists.{At}
use Rattle.emc_base.proofs.Lists.{at_once}
use Rattle.csdl_associations.specs.csdl_constraints.Marks.{AreMarks, AreMarksBelow, IsMarked}

-- some item, by its place
module _ {X : Type 0} (P : X → Type 0) (xs : List X) where
  pub any_at : Any P xs → (k : ℕ) × (x : X) × At xs k x × P x
  any_at some = (some.0, some.1, slice_get-get_or xs some.0 some.1 some.2 ∙ ap Some some.3, some.4)

  pub at_any : (k : ℕ) (x : X) → At xs k x → P x → Any P xs
  at_any k x here holds = (k, x, slice_get_within xs k x here, get_or_from_slice_get xs k x x here, holds)

  -- what holds of each so may be said of some
  pub any_same : (Q : X → Type 0) → ((x : X) → P x → Q x) → Any P xs → Any Q xs
  any_same Q to some = (some.0, some.1, some.2, some.3, to some.1 some.4)

module _ (before : List Bool) (place : ℕ) where
  -- a mark that was set is there
  set_here : place < length before → At (set before place true) place true
  set_here inside =
      slice_get-get_or (set before place true) place true (subst (λ n. place < n) (sym (length-set before place true)) inside)
      ∙ ap Some (get_or-set_same before place true true inside)

  -- and the others are as they were
  set_there : (i : ℕ) → i < length before → i ≢ place → slice_get (set before place true) i ≡ slice_get before i
  set_there i inside other =
      slice_get-get_or (set before place true) i true (subst (λ n. i < n) (sym (length-set before place true)) inside)
      ∙ ap Some (get_or-set_other before place i true true other)
      ∙ sym (slice_get-get_or before i true inside)

  pub marked_set : place < length before → IsMarked before (Some place) (set before place true)
  marked_set inside = record {
    alike = length-set before place true;
    each = λ i within. (
      λ now. ⊎_elim (λ (same : i ≡ place). inr (ap Some (sym same))) (λ (other : i ≢ place). inl (sym (set_there i within other) ∙ now)) (cases_eq i place),
      ⊎_elim
          (λ (was : At before i true). ⊎_elim
          (λ (same : i ≡ place). subst (λ (k : ℕ). At (set before place true) k true) (sym same) (set_here inside))
          (λ (other : i ≢ place). set_there i within other ∙ was)
          (cases_eq i place))
          (λ (is : Some place ≡ Some i). subst (λ (k : ℕ). At (set before place true) k true) (same_Some place i is) (set_here inside)),
    );
  }

  -- a place outside is none of those below
  pub marked_past : length before ≤ place → IsMarked before (Some place) before
  marked_past past = record {
    alike = λ i. length before;
    each = λ i within. (
      λ now. inl now,
      ⊎_elim (λ (was : At before i true). was) (λ (is : Some place ≡ Some i). let same : place ≡ i = same_Some place i is in absurd (omega arith)),
    );
  }

-- without a place nothing changes
pub marked_none : (before : List Bool) → IsMarked before None before
marked_none before = record {
  alike = λ i. length before;
  each = λ i within. (λ now. inl now, ⊎_elim (λ (was : At before i true). was) (λ (is : None ≡ Some i). absurd (none-some i is)));
}

module _ {X : Type 0} (R : X → ℕ → Type 0) (sets : List X) where
  -- one of the first so many marks the place
  pub record MarkedBefore (n i : ℕ) : Type 0 where
    pub k : ℕ
    pub set : X
    pub here : At sets k set
    pub before : k < n
    pub marks : R set i

  -- one more
  pub marks_more : (n count : ℕ) (item : X) (place : Option ℕ) (before now : List Bool) → At sets n item → ((i : ℕ) → (place ≡ Some i ↔ R item i))
      → AreMarksBelow (MarkedBefore n) count before → IsMarked before place now → AreMarksBelow (MarkedBefore (n + 1)) count now
  marks_more n count item place before now here tells are marked = record {
    alike = marked.alike ∙ are.alike;
    each = λ i inside.
        let m = marked.each i (subst (λ (k : ℕ). i < k) (sym are.alike) inside) in (
          λ at. ⊎_elim
              (λ (was : At before i true). longer i ((are.each i inside).0 was))
              (λ (is : place ≡ Some i). record { k = n; set = item; here = here; before = omega arith; marks = (tells i).0 is })
              (m.0 at),
          λ some. m.1 (⊎_elim
              (λ (last : some.k ≡ n). inr ((tells i).1 (moved i some last)))
              (λ (other : some.k ≢ n). inl ((are.each i inside).1 (shorter i some other)))
              (cases_eq some.k n)),
        );
  }
    where
      longer : (i : ℕ) → MarkedBefore n i → MarkedBefore (n + 1) i
      longer i some = record { k = some.k; set = some.set; here = some.here; before = (let b : some.k < n = some.before in omega arith); marks = some.marks }

      shorter : (i : ℕ) (some : MarkedBefore (n + 1) i) → some.k ≢ n → MarkedBefore n i
      shorter i some other = record { k = some.k; set = some.set; here = some.here; before = (let b : some.k < n + 1 = some.before in omega arith); marks = some.marks }

      moved : (i : ℕ) (some : MarkedBefore (n + 1) i) → some.k ≡ n → R item i
      moved i some last =
          let is : some.set ≡ item = at_once sets n some.set item (subst (λ (k : ℕ). At sets k some.set) last some.here) here in
          subst (λ (x : X). R x i) is some.marks

  -- all
  pub marks_all : (n count : ℕ) (marks : List Bool) → length sets ≤ n → AreMarksBelow (MarkedBefore n) count marks
      → AreMarksBelow (λ i. Any (λ x. R x i) sets) count marks
  marks_all n count marks end are = record {
    alike = are.alike;
    each = λ i inside. (
      λ at. let some = (are.each i inside).0 at in at_any (λ x. R x i) sets some.k some.set some.here some.marks,
      λ any.
          let found = any_at (λ x. R x i) sets any in
          let within : found.0 < length sets = slice_get_within sets found.0 found.1 found.2 in
          (are.each i inside).1 (record { k = found.0; set = found.1; here = found.2; before = omega arith; marks = found.3 }),
    );
  }

  -- none yet
  pub marks_start : (count : ℕ) (marks : List Bool) → length marks ≡ count → ((i : ℕ) → i < count → ¬ At marks i true) → AreMarksBelow (MarkedBefore 0) count marks
  marks_start count marks alike never = record {
    alike = alike;
    each = λ i inside. (λ at. absurd (never i inside at), λ some. absurd (let b : some.k < 0 = some.before in omega arith));
  }

-- where P holds of no other place, the marks below are all
pub marks_whole : (P Q : ℕ → Type 0) (count : ℕ) (marks : List Bool) → ((i : ℕ) → P i → Q i) → ((i : ℕ) → Q i → P i) → ((i : ℕ) → Q i → i < count)
    → AreMarksBelow P count marks → AreMarks Q count marks
marks_whole P Q count marks to back inside are = record {
  alike = are.alike;
  each = λ i. (
    λ at. to i ((are.each i (subst (λ (n : ℕ). i < n) are.alike (slice_get_within marks i true at))).0 at),
    λ holds. (are.each i (inside i holds)).1 (back i holds),
  );
}

-- no item before a place is so
module _ {X : Type 0} (P : X → Type 0) (xs : List X) where
  abbrev pub NoneBefore : ℕ → Type 0
  NoneBefore n = (j : ℕ) (x : X) → At xs j x → j < n → ¬ P x

  -- one more
  pub none_more : (n : ℕ) (item : X) → At xs n item → ¬ P item → NoneBefore n → NoneBefore (n + 1)
  none_more n item here not before j x at less holds = ⊎_elim
      (λ (same : j ≡ n).
      let at_n : At xs n x = subst (λ (k : ℕ). At xs k x) same at in
      not (subst P (at_once xs n x item at_n here) holds))
      (λ (other : j ≢ n). before j x at (let b : j < n + 1 = less in omega arith) holds)
      (cases_eq j n)

  -- none at all
  pub none_any : (n : ℕ) → length xs ≤ n → NoneBefore n → ¬ Any P xs
  none_any n end before any =
      let found = any_at P xs any in
      let within : found.0 < length xs = slice_get_within xs found.0 found.1 found.2 in
      before found.0 found.1 found.2 (omega arith) found.3

-- a list without a mark
pub marks_none : {X : Type 0} (R : X → ℕ → Type 0) (sets : List X) (count : ℕ) (marks : List Bool) → marks ≡ replicate count false
    → AreMarksBelow (MarkedBefore R sets 0) count marks
marks_none R sets count marks is = marks_start R sets count marks (ap length is ∙ length-replicate count false) (λ i inside at.
    let value : get_or marks i true ≡ false = ap (λ xs. get_or xs i true) is ∙ get_or-replicate count i false true inside in
    true≢false (sym (get_or_from_slice_get marks i true true at) ∙ value))
