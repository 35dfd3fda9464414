-- Each step of a search keeps what is so at each step, and leaves fewer steps.
use Rattle.std.proofs.Common.{◌≡◌, ℕ, ◌+◌, ◌-◌, ◌<◌, ◌≤◌, List, [], ◌∷◌, ◌++◌, length, get_or, set, take, drop, min, Contains, length-set, refl, sym, ap, subst, ◌∙◌, arith}
use Rattle.std.proofs.lemmas.List.{length-append, length-take}
use Rattle.std.proofs.lemmas.Option.{slice_get-get_or, slice_get_within}
use Rattle.emc_base.specs.Lists.{At}
use Rattle.emc_base.proofs.Lists.{at_once}
use Rattle.graphs.specs.arrow_cycles.Ends.{EndWithin, GoesTo}
use Rattle.graphs.specs.arrow_cycles.Searches.{AreClosed, IsLast, IsNext, IsSearch, IsStep, IsTop, Searches, left_marks}
use Rattle.graphs.specs.declared.arrow_cycles.search.Group.{Group}
use Rattle.graphs.specs.declared.arrow_cycles.search.Mark.{Mark}
use Rattle.graphs.specs.declared.arrow_cycles.search.Mark.TheVariants.{New, OnPath}
use Rattle.graphs.specs.declared.arrow_cycles.search.Search.{Search}
use Rattle.graphs.proofs.arrow_cycles.Closing.{closed_fresh, closes}
use Rattle.graphs.proofs.arrow_cycles.Joining.{IsDone, joins, passes, reaches_end}
use Rattle.graphs.proofs.arrow_cycles.Left.{left_opened}
use Rattle.graphs.proofs.arrow_cycles.Opening.{opened, opened_fresh}

-- the same search, by equal lists
moved : (Is : ℕ → ℕ → Type 0) (marks marks_now : List Mark) (path path_now : List ℕ) (groups groups_now : List Group) (pending pending_now : List ℕ) (number number_now : ℕ)
    → marks_now ≡ marks → path_now ≡ path → groups_now ≡ groups → pending_now ≡ pending → number_now ≡ number
    → IsSearch Is marks path groups pending number → IsSearch Is marks_now path_now groups_now pending_now number_now
moved Is marks marks_now path path_now groups groups_now pending pending_now number number_now e f g h k search =
    let A : List Mark → Type 0 = λ xs. IsSearch Is xs path groups pending number in
    let B : List ℕ → Type 0 = λ xs. IsSearch Is marks_now xs groups pending number in
    let C : List Group → Type 0 = λ xs. IsSearch Is marks_now path_now xs pending number in
    let D : List ℕ → Type 0 = λ xs. IsSearch Is marks_now path_now groups_now xs number in
    let E : ℕ → Type 0 = λ n. IsSearch Is marks_now path_now groups_now pending_now n in
    subst E (sym k) (subst D (sym h) (subst C (sym g) (subst B (sym f) (subst A (sym e) search))))

-- the marks after a step leave so many steps
left_equal : (ends : List (List ℕ)) (marks marks_now : List Mark) → marks_now ≡ marks → left_marks ends marks_now ≡ left_marks ends marks
left_equal ends marks marks_now e = ap (left_marks ends) e

module _ (ends : List (List ℕ)) (before : Search) (searches : Searches ends before) where
  module _ (after : Search) (place : ℕ) (next : IsNext ends before place)
      (marks : after.marks.items ≡ set before.marks.items place (OnPath (length before.path.items)))
      (path : after.path.items ≡ before.path.items ++ place ∷ [])
      (groups : after.groups.items ≡ before.groups.items ++ record { path = length before.path.items; pending = length before.pending.items } ∷ [])
      (pending : after.pending.items ≡ before.pending.items ++ get_or ends place [])
      (components : length after.components.items ≡ length before.components.items) where
    abbrev listed : List ℕ
    listed = get_or ends place []

    its_ends : At ends place listed
    its_ends =
        let inside : place < length before.marks.items = slice_get_within before.marks.items place New next.unseen in
        let size : length before.marks.items ≡ length ends = searches.0 in
        slice_get-get_or ends place [] (omega (arith, inside, size))

    listed_each : (to : ℕ) → GoesTo ends place to → Contains listed to
    listed_each to goes = let P : List ℕ → Type 0 = λ xs. Contains xs to in subst P (at_once ends place goes.0 listed goes.1 its_ends) goes.2

    listed_only : (to : ℕ) → Contains listed to → GoesTo ends place to
    listed_only to has = (listed, its_ends, has)

    pub opened_step : IsStep ends before after
    opened_step =
        let old : List Mark = before.marks.items in
        let fewer = left_opened ends old place (length before.path.items) listed its_ends next.unseen in
        let same = left_equal ends (set old place (OnPath (length before.path.items))) after.marks.items marks in
        let one : length after.groups.items ≡ length before.groups.items + 1 = ap length groups ∙ length-append before.groups.items (record { path = length before.path.items; pending = length before.pending.items } ∷ []) in
        let more : length after.pending.items ≡ length before.pending.items + length listed = ap length pending ∙ length-append before.pending.items listed in (
          record {
            search = (
              ap length marks ∙ length-set old place (OnPath (length before.path.items)) ∙ searches.0,
              moved (GoesTo ends) (set old place (OnPath (length before.path.items))) after.marks.items (before.path.items ++ place ∷ []) after.path.items
                  (before.groups.items ++ record { path = length before.path.items; pending = length before.pending.items } ∷ []) after.groups.items
                  (before.pending.items ++ listed) after.pending.items (length before.components.items) (length after.components.items)
                  marks path groups pending components
                  (opened (GoesTo ends) old before.path.items before.groups.items before.pending.items (length before.components.items) searches.1
                  place listed next.unseen next.reached listed_each listed_only),
            );
            fresh = λ v at. let P : List Mark → Type 0 = λ xs. At xs v New in
                opened_fresh (GoesTo ends) old before.path.items before.groups.items before.pending.items (length before.components.items) searches.1
                place listed next.unseen v (subst P marks at);
          },
          omega (arith, fewer, same, one, more),
        )

  -- the last pending end is a place, to which the whole path leads
  pub end_inside : (top : Group) (to : ℕ) → IsLast before top to → EndWithin ends → to < length before.marks.items
  end_inside top to last within =
      let from = searches.1.source (length before.pending.items - 1) to last.last in
      let inside : to < length ends = within from.1 to from.3 in
      let size : length before.marks.items ≡ length ends = searches.0 in
      omega (arith, inside, size)

  pub end_next : (top : Group) (to : ℕ) → IsLast before top to → At before.marks.items to New → IsNext ends before to
  end_next top to last new = record {
    unseen = new;
    reached = reaches_end (GoesTo ends) before.marks.items before.path.items before.groups.items before.pending.items (length before.components.items) searches.1
        top last.top to last.last last.behind;
  }

  module _ (after : Search) (top : Group) (to : ℕ) (last : IsLast before top to)
      (marks : after.marks.items ≡ before.marks.items) (path : after.path.items ≡ before.path.items)
      (components : length after.components.items ≡ length before.components.items) where
    same_fresh : (v : ℕ) → At after.marks.items v New → At before.marks.items v New
    same_fresh v at = let P : List Mark → Type 0 = λ xs. At xs v New in subst P marks at

    pub joined_step : (q : ℕ) → At before.marks.items to (OnPath q) → q < top.path
        → after.groups.items ≡ take (length before.groups.items - 1) before.groups.items → after.pending.items ≡ before.pending.items → IsStep ends before after
    joined_step q on_path is_before groups pending =
        let same = left_equal ends before.marks.items after.marks.items marks in
        let some : length before.groups.items - 1 < length before.groups.items = slice_get_within before.groups.items (length before.groups.items - 1) top last.top in
        let one : length after.groups.items ≡ min (length before.groups.items - 1) (length before.groups.items) = ap length groups ∙ length-take (length before.groups.items - 1) before.groups.items in
        let more : length after.pending.items ≡ length before.pending.items = ap length pending in (
          record {
            search = (
              ap length marks ∙ searches.0,
              moved (GoesTo ends) before.marks.items after.marks.items before.path.items after.path.items
                  (take (length before.groups.items - 1) before.groups.items) after.groups.items
                  before.pending.items after.pending.items (length before.components.items) (length after.components.items)
                  marks path groups pending components
                  (joins (GoesTo ends) before.marks.items before.path.items before.groups.items before.pending.items (length before.components.items) searches.1
                  top last.top to last.last last.behind q on_path is_before),
            );
            fresh = same_fresh;
          },
          omega (arith, same, some, one, more),
        )

    pub passed_step : IsDone (GoesTo ends) before.marks.items before.path.items before.groups.items before.pending.items (length before.components.items) searches.1 top last.top to last.last last.behind
        → after.groups.items ≡ before.groups.items → after.pending.items ≡ take (length before.pending.items - 1) before.pending.items → IsStep ends before after
    passed_step done groups pending =
        let same = left_equal ends before.marks.items after.marks.items marks in
        let some : length before.pending.items - 1 < length before.pending.items = slice_get_within before.pending.items (length before.pending.items - 1) to last.last in
        let one : length after.groups.items ≡ length before.groups.items = ap length groups in
        let more : length after.pending.items ≡ min (length before.pending.items - 1) (length before.pending.items) = ap length pending ∙ length-take (length before.pending.items - 1) before.pending.items in (
          record {
            search = (
              ap length marks ∙ searches.0,
              moved (GoesTo ends) before.marks.items after.marks.items before.path.items after.path.items before.groups.items after.groups.items
                  (take (length before.pending.items - 1) before.pending.items) after.pending.items (length before.components.items) (length after.components.items)
                  marks path groups pending components
                  (passes (GoesTo ends) before.marks.items before.path.items before.groups.items before.pending.items (length before.components.items) searches.1
                  top last.top to last.last last.behind done),
            );
            fresh = same_fresh;
          },
          omega (arith, same, some, one, more),
        )

  module _ (after : Search) (top : Group) (is_top : IsTop before.groups.items top) (none : length before.pending.items ≤ top.pending)
      (closed : AreClosed (length before.components.items) (drop top.path before.path.items) before.marks.items after.marks.items)
      (path : after.path.items ≡ take top.path before.path.items)
      (groups : after.groups.items ≡ take (length before.groups.items - 1) before.groups.items)
      (pending : after.pending.items ≡ before.pending.items)
      (components : length after.components.items ≡ length before.components.items + 1) where
    pub closed_step : IsStep ends before after
    closed_step =
        let fewer : left_marks ends after.marks.items ≤ left_marks ends before.marks.items = closed.fewer ends in
        let some : length before.groups.items - 1 < length before.groups.items = slice_get_within before.groups.items (length before.groups.items - 1) top is_top in
        let one : length after.groups.items ≡ min (length before.groups.items - 1) (length before.groups.items) = ap length groups ∙ length-take (length before.groups.items - 1) before.groups.items in
        let more : length after.pending.items ≡ length before.pending.items = ap length pending in (
          record {
            search = (
              closed.size ∙ searches.0,
              moved (GoesTo ends) after.marks.items after.marks.items (take top.path before.path.items) after.path.items
                  (take (length before.groups.items - 1) before.groups.items) after.groups.items
                  before.pending.items after.pending.items (length before.components.items + 1) (length after.components.items)
                  refl path groups pending components
                  (closes (GoesTo ends) before.marks.items before.path.items before.groups.items before.pending.items (length before.components.items) searches.1
                  top is_top none after.marks.items closed),
            );
            fresh = closed_fresh (GoesTo ends) before.marks.items before.path.items before.groups.items before.pending.items (length before.components.items) searches.1
                top is_top none after.marks.items closed;
          },
          omega (arith, fewer, some, one, more),
        )
