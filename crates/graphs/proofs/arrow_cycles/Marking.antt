-- Places that are marked as parts of a complete component, one after another; and what is so when a search has come to its end.
use Rattle.std.proofs.Common.{◌≡◌, inl, inr, ℕ, ◌+◌, ◌-◌, ◌<◌, ◌≤◌, List, [], ◌∷◌, ◌++◌, length, set, drop, All, Contains, None, slice_get, length-set, refl, sym, subst, ◌∙◌, arith}
use Rattle.std.proofs.lemmas.Bool.{cases_eq}
use Rattle.std.proofs.lemmas.List.Elements.{Contains-append_left, Contains-push}
use Rattle.std.proofs.lemmas.Option.{slice_get_within}
use Rattle.emc_base.specs.Lists.{At}
use Rattle.emc_base.proofs.Lists.{all_from_members, item_at}
use Rattle.emc_base.proofs.Members.{at_push_cases}
use Rattle.graphs.proofs.base_chains.orders.Orders.{place_of_member}
use Rattle.graphs.specs.arrow_cycles.Numbers.{AreComponents}
use Rattle.graphs.specs.arrow_cycles.Searches.{AreClosed, IsSearch, left_marks}
use Rattle.graphs.specs.declared.arrow_cycles.search.Group.{Group}
use Rattle.graphs.specs.declared.arrow_cycles.search.Mark.{Mark}
use Rattle.graphs.specs.declared.arrow_cycles.search.Mark.TheVariants.{New, OnPath, Closed}
use Rattle.graphs.proofs.arrow_cycles.Left.{left_closed}
use Rattle.graphs.proofs.arrow_cycles.Places.{at_dropped, at_set, at_set_cases, at_set_other}

-- one place more
pub closed_more : (number : ℕ) (places : List ℕ) (before after : List Mark) (v : ℕ) → v < length after → AreClosed number places before after
    → AreClosed number (places ++ v ∷ []) before (set after v (Closed number))
closed_more number places before after v inside so_far = record {
  size = length-set after v (Closed number) ∙ so_far.size;
  closed = λ i w at. elim (cases_eq v w) [
    | inl same ↦ let P : ℕ → Type 0 = λ x. At (set after v (Closed number)) x (Closed number) in subst P same (at_set after v (Closed number) inside)
    | inr other ↦ elim (at_push_cases places v i w at) [
      | inl old ↦ at_set_other after v w (Closed number) (Closed number) (so_far.closed i w old) other
      | inr here ↦ absurd (other (sym here.1))
    ]
  ];
  kept = λ w mark at apart. at_set_other after v w (Closed number) mark
      (so_far.kept w mark at (λ has. apart (Contains-append_left places (v ∷ []) w has)))
      (λ same. let P : ℕ → Type 0 = λ x. Contains (places ++ v ∷ []) x in apart (subst P same (Contains-push places v)));
  only = λ w mark at. elim (at_set_cases after v w (Closed number) mark at) [
    | inl old ↦ elim (so_far.only w mark old) [
      | inl older ↦ inl older
      | inr here ↦ inr (here.0, Contains-append_left places (v ∷ []) w here.1)
    ]
    | inr here ↦ let P : ℕ → Type 0 = λ x. Contains (places ++ v ∷ []) x in inr (here.1, subst P here.0 (Contains-push places v))
  ];
  fewer = λ ends.
      let one = left_closed ends after v number in
      let most : left_marks ends after ≤ left_marks ends before = so_far.fewer ends in
      omega (arith, one, most);
}

module _ (Is : ℕ → ℕ → Type 0) (marks : List Mark) (path : List ℕ) (groups : List Group) (pending : List ℕ) (number : ℕ)
    (search : IsSearch Is marks path groups pending number) where
  -- each place of the path, from some position on, is a place
  pub path_inside : (n : ℕ) → All (λ v. v < length marks) (drop n path)
  path_inside n = all_from_members (λ v. v < length marks) (drop n path) (λ v has.
      slice_get_within marks v (OnPath (n + has.0)) (search.marked (n + has.0) v (at_dropped n path has.0 v (place_of_member (drop n path) v has))))

  -- without a last group there is no group
  no_group : slice_get groups (length groups - 1) ≡ None → (i : ℕ) (group : Group) → ¬ At groups i group
  no_group none i group at =
      let inside : i < length groups = slice_get_within groups i group at in
      let last = item_at groups (length groups - 1) (omega (arith, inside)) in
      let is = last.1 in
      cc

  pub no_path : slice_get groups (length groups - 1) ≡ None → (p v : ℕ) → ¬ At path p v
  no_path none p v at = let mine = search.grouped p v at in no_group none mine.0 mine.1 mine.2

  -- a search that has seen all places, and whose path is empty
  module _ (count : ℕ) (size : length marks ≡ count) (empty : path ≡ []) (seen : (v : ℕ) → v < count → ¬ At marks v New) where
    each_closed : (v : ℕ) → v < count → (mark : Mark) → At marks v mark → (n : ℕ) × At marks v (Closed n)
    each_closed v inside New at = absurd (seen v inside at)
    each_closed v inside (OnPath p) at = let P : List ℕ → Type 0 = λ xs. At xs p v in let none : At [] p v = subst P empty (search.stands p v at) in absurd cc
    each_closed v inside (Closed n) at = (n, at)

    pub all_closed : AreComponents Is count marks
    all_closed = record {
      each = λ v inside. let mark = item_at marks v (omega (arith, inside, size)) in each_closed v inside mark.0 mark.1;
      lower = search.lower;
      joined = search.joined;
    }

-- a list in which nothing stands is empty
pub nothing_at : {X : Type 0} (xs : List X) → ((i : ℕ) (x : X) → ¬ At xs i x) → xs ≡ []
nothing_at [] none = refl
nothing_at (x ∷ xs) none = absurd (none 0 x refl)
