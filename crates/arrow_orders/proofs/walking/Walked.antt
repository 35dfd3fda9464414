-- A walk goes on: a place comes on the path, one more of those that it waits for is taken, or it comes in the line.
use Rattle.std.proofs.Common.{◌≡◌, ◌≢◌, ◌⊎◌, ⊎_elim, inl, inr, ℕ, zero, suc, ◌<◌, ◌≤◌, List, [], ◌∷◌, ◌++◌, length, length-set, set, take, Contains, Some, refl, sym, ap, subst, ◌∙◌, arith}
use Rattle.std.proofs.lemmas.Bool.{cases_lt}
use Rattle.std.proofs.lemmas.List.Elements.{Contains-append_cases, Contains-append_left, Contains-append_right}
use Rattle.std.proofs.lemmas.Option.{slice_get_within}
use Rattle.emc_base.specs.Lists.{At}
use Rattle.emc_base.proofs.Lists.{at_once, item_at}
use Rattle.emc_base.proofs.Members.{contains_cons_cases, contains_head, contains_nil}
use Rattle.emc_base.proofs.facts.Pairs.{pairs_append}
use Rattle.graphs.proofs.arrow_cycles.Places.{at_set, at_set_cases, at_set_other, at_take, at_taken}
use Rattle.arrow_orders.specs.Orders.{Waits}
use Rattle.arrow_orders.specs.Walks.{AreWalked, left}
use Rattle.arrow_orders.specs.declared.walk.Mark.{Mark}
use Rattle.arrow_orders.specs.declared.walk.Mark.TheVariants.{New, Open, Done}
use Rattle.arrow_orders.proofs.walking.Left.{left_marked, left_taken}

-- an item of the first list stands at its place
at_left : {X : Type 0} (xs ys : List X) (i : ℕ) (x : X) → At xs i x → At (xs ++ ys) i x
at_left [] ys i x at = absurd cc
at_left (z ∷ xs) ys zero x at = at
at_left (z ∷ xs) ys (suc i) x at = at_left xs ys i x at

-- an item of a list with one more
at_longer : {X : Type 0} (xs : List X) (y : X) (i : ℕ) (x : X) → At (xs ++ y ∷ []) i x → At xs i x ⊎ ((i ≡ length xs) × (x ≡ y))
at_longer [] y zero x at = inr (refl, cc)
at_longer [] y (suc i) x at = absurd cc
at_longer (z ∷ xs) y zero x at = inl at
at_longer (z ∷ xs) y (suc i) x at = ⊎_elim
    (λ (old : At xs i x). inl old)
    (λ (last : (i ≡ length xs) × (x ≡ y)). inr (ap suc last.0, last.1))
    (at_longer xs y i x at)

at_last : {X : Type 0} (xs : List X) (y : X) → At (xs ++ y ∷ []) (length xs) y
at_last [] y = refl
at_last (z ∷ xs) y = at_last xs y

-- a member stands at a place
pub placed : {X : Type 0} (xs : List X) (x : X) → Contains xs x → (n : ℕ) × At xs n x
placed [] x has = absurd (contains_nil x has)
placed (y ∷ xs) x has = ⊎_elim
    (λ (is : x ≡ y). (zero, ap Some (sym is)))
    (λ (later : Contains xs x). let found = placed xs x later in (suc found.0, found.1))
    (contains_cons_cases y xs x has)

not_open : (n : ℕ) → New ≡ Open n → ⊥
not_open n same = let never : New ≡ Open n = same in cc

not_done : New ≡ Done → ⊥
not_done same = let never : New ≡ Done = same in cc

open_not_done : (n : ℕ) → Open n ≡ Done → ⊥
open_not_done n same = let never : Open n ≡ Done = same in cc

same_position : (n m : ℕ) → Open n ≡ Open m → n ≡ m
same_position n m same = let it : Open n ≡ Open m = same in cc

module _ (ends : List (List ℕ)) (marks : List Mark) (taken path line : List ℕ) (walked : AreWalked ends marks taken path line) where
  -- what is marked in one way isn't in another
  one_mark : (v : ℕ) (one other : Mark) → At marks v one → At marks v other → one ≡ other
  one_mark v one other first second = at_once marks v one other first second

  listed_for : (v : ℕ) (mark : Mark) → At marks v mark → (listed : List ℕ) × At ends v listed
  listed_for v mark at = let within = slice_get_within marks v mark at in let size = walked.marks_size in item_at ends v (omega (arith, within, size))

  counted_for : (v : ℕ) (mark : Mark) → At marks v mark → (count : ℕ) × At taken v count
  counted_for v mark at = let within = slice_get_within marks v mark at in let size = walked.marks_size in let counts = walked.counts_size in item_at taken v (omega (arith, within, size, counts))

  module _ (place : ℕ) (unseen : At marks place New) (reached : (position v : ℕ) → At path position v → length path ≡ suc position → Waits ends v place) where
    abbrev opened : List Mark
    opened = set marks place (Open (length path))

    inside : place < length marks
    inside = slice_get_within marks place New unseen

    -- other marks stay
    stays : (v : ℕ) (mark : Mark) → At marks v mark → (New ≡ mark → ⊥) → At opened v mark
    stays v mark at other = at_set_other marks place v (Open (length path)) mark at (λ same. other (one_mark v New mark (subst (λ (u : ℕ). At marks u New) same unseen) at))

    back : (v : ℕ) (mark : Mark) → At opened v mark → At marks v mark ⊎ ((place ≡ v) × (mark ≡ Open (length path)))
    back v mark at = at_set_cases marks place v (Open (length path)) mark at

    pub opens : AreWalked ends opened taken (path ++ place ∷ []) line
    opens = record {
      marks_size = length-set marks place (Open (length path)) ∙ walked.marks_size;
      counts_size = walked.counts_size;
      heeded = λ v k i w listed at_taken at_ends at_listed below. stays w Done (walked.heeded v k i w listed at_taken at_ends at_listed below) not_done;
      placed = λ i v at. ⊎_elim
          (λ (old : At path i v). stays v (Open i) (walked.placed i v old) (not_open i))
          (λ (last : (i ≡ length path) × (v ≡ place)).
          subst (λ (n : ℕ). At opened v (Open n)) (sym last.0) (subst (λ (u : ℕ). At opened u (Open (length path))) (sym last.1) (at_set marks place (Open (length path)) inside)))
          (at_longer path place i v at);
      stands = λ i v at. ⊎_elim
          (λ (old : At marks v (Open i)). at_left path (place ∷ []) i v (walked.stands i v old))
          (λ (now : (place ≡ v) × (Open i ≡ Open (length path))).
          subst (λ (n : ℕ). At (path ++ place ∷ []) n v) (sym (same_position i (length path) now.1)) (subst (λ (u : ℕ). At (path ++ place ∷ []) (length path) u) now.0 (at_last path place)))
          (back v (Open i) at);
      linked = λ i v w at_v at_w. linked i v w (at_longer path place i v at_v) (at_longer path place (suc i) w at_w);
      listed = λ v at. ⊎_elim
          (λ (old : At marks v Done). walked.listed v old)
          (λ (now : (place ≡ v) × (Done ≡ Open (length path))). absurd (open_not_done (length path) (sym now.1)))
          (back v Done at);
      done = λ v has. stays v Done (walked.done v has) not_done;
      behind = walked.behind;
      once = walked.once;
    }
      where
        linked : (i v w : ℕ) → At path i v ⊎ ((i ≡ length path) × (v ≡ place)) → At path (suc i) w ⊎ ((suc i ≡ length path) × (w ≡ place)) → Waits ends v w
        linked i v w (inl old_v) (inl old_w) = walked.linked i v w old_v old_w
        linked i v w (inl old_v) (inr last_w) = subst (Waits ends v) (sym last_w.1) (reached i v old_v (sym last_w.0))
        linked i v w (inr last_v) (inl old_w) = let within = slice_get_within path (suc i) w old_w in let place_v = last_v.0 in absurd (omega (arith, within, place_v))
        linked i v w (inr last_v) (inr last_w) = let one = last_v.0 in let other = last_w.0 in absurd (omega (arith, one, other))

    pub fresh_opened : (v : ℕ) → At opened v New → At marks v New
    fresh_opened v at = ⊎_elim
        (λ (old : At marks v New). old)
        (λ (now : (place ≡ v) × (New ≡ Open (length path))). absurd (not_open (length path) now.1))
        (back v New at)

    pub seen_opened : ¬ At opened place New
    seen_opened at = not_open (length path) (at_once opened place New (Open (length path)) at (at_set marks place (Open (length path)) inside))

    pub fewer_opened : left ends opened taken < left ends marks taken
    fewer_opened =
        let listed = listed_for place New unseen in
        let count = counted_for place New unseen in
        let steps = left_marked ends marks taken place count.0 listed.0 New (Open (length path)) listed.1 unseen count.1 in
        omega (arith, steps)

  -- of the last place of the path
  module _ (position top : ℕ) (at_top : At path position top) (last : length path ≡ suc position) (listed : List ℕ) (told : At ends top listed) (count : ℕ) (counted : At taken top count) where
    is_open : At marks top (Open position)
    is_open = walked.placed position top at_top

    -- one more is taken, which stands in the line
    module _ (end : ℕ) (next : At listed count end) (complete : At marks end Done) where
      abbrev more : List ℕ
      more = set taken top (suc count)

      pub takes : AreWalked ends marks more path line
      takes = record {
        marks_size = walked.marks_size;
        counts_size = length-set taken top (suc count) ∙ walked.counts_size;
        heeded = λ v k i w one at_taken at_ends at_listed below. heeded v k i w one at_ends at_listed below (at_set_cases taken top v (suc count) k at_taken);
        placed = walked.placed;
        stands = walked.stands;
        linked = walked.linked;
        listed = walked.listed;
        done = walked.done;
        behind = walked.behind;
        once = walked.once;
      }
        where
          heeded : (v k i w : ℕ) (one : List ℕ) → At ends v one → At one i w → i < k → At taken v k ⊎ ((top ≡ v) × (k ≡ suc count)) → At marks w Done
          heeded v k i w one at_ends at_listed below (inl old) = walked.heeded v k i w one old at_ends at_listed below
          heeded v k i w one at_ends at_listed below (inr now) =
              let same_listed : listed ≡ one = at_once ends v listed one (subst (λ (u : ℕ). At ends u listed) now.0 told) at_ends in
              let here : At listed i w = subst (λ (list : List ℕ). At list i w) (sym same_listed) at_listed in
              let bound = now.1 in
              ⊎_elim
              (λ (less : i < count). walked.heeded top count i w listed counted told here less)
              (λ (not_less : count ≤ i).
              let same : count ≡ i = omega (arith, below, bound, not_less) in
              subst (λ (u : ℕ). At marks u Done) (at_once listed i end w (subst (λ (n : ℕ). At listed n end) same next) here) complete)
              (cases_lt i count)

      pub fewer_taken : left ends marks more < left ends marks taken
      fewer_taken =
          let steps = left_taken ends marks taken top count (suc count) listed (Open position) told is_open counted in
          let inside = slice_get_within listed count end next in
          omega (arith, steps, inside)

    -- all are taken: the place comes in the line
    module _ (all : length listed ≤ count) where
      abbrev closed : List Mark
      closed = set marks top Done

      abbrev shorter : List ℕ
      shorter = take position path

      abbrev longer : List ℕ
      longer = line ++ top ∷ []

      not_listed : ¬ Contains line top
      not_listed has = open_not_done position (one_mark top (Open position) Done is_open (walked.done top has))

      back_closed : (v : ℕ) (mark : Mark) → At closed v mark → At marks v mark ⊎ ((top ≡ v) × (mark ≡ Done))
      back_closed v mark at = at_set_cases marks top v Done mark at

      still : (v : ℕ) (mark : Mark) → At marks v mark → (Open position ≡ mark → ⊥) → At closed v mark
      still v mark at other = at_set_other marks top v Done mark at (λ same. other (one_mark v (Open position) mark (subst (λ (u : ℕ). At marks u (Open position)) same is_open) at))

      pub closes : AreWalked ends closed taken shorter longer
      closes = record {
        marks_size = length-set marks top Done ∙ walked.marks_size;
        counts_size = walked.counts_size;
        heeded = λ v k i w one at_taken at_ends at_listed below. still w Done (walked.heeded v k i w one at_taken at_ends at_listed below) (open_not_done position);
        placed = λ i v at. (let old = at_taken position path i v at in
            let below = old.1 in
            still v (Open i) (walked.placed i v old.0) (λ same. absurd (let position_is = same_position position i same in omega (arith, below, position_is))));
        stands = λ i v at. ⊎_elim
            (λ (old : At marks v (Open i)). at_take position path i v (walked.stands i v old) (below i v old at))
            (λ (now : (top ≡ v) × (Open i ≡ Done)). absurd (open_not_done i now.1))
            (back_closed v (Open i) at);
        linked = λ i v w at_v at_w. walked.linked i v w (at_taken position path i v at_v).0 (at_taken position path (suc i) w at_w).0;
        listed = λ v at. ⊎_elim
            (λ (old : At marks v Done). Contains-append_left line (top ∷ []) v (walked.listed v old))
            (λ (now : (top ≡ v) × (Done ≡ Done)). subst (Contains longer) now.0 (Contains-append_right line (top ∷ []) top (contains_head top [])))
            (back_closed v Done at);
        done = λ v has. ⊎_elim
            (λ (old : Contains line v). still v Done (walked.done v old) (open_not_done position))
            (λ (now : Contains (top ∷ []) v). subst (λ (u : ℕ). At closed u Done) (sym (only v now)) (at_set marks top Done (slice_get_within marks top (Open position) is_open)))
            (Contains-append_cases line (top ∷ []) v has);
        behind = λ i v w at waits. behind i v w (at_longer line top i v at) waits;
        once = pairs_append (λ (a b : ℕ). a ≢ b) line (top ∷ []) walked.once (λ i j d below within. absurd (omega (arith, below, within)))
            (λ one other has now same. not_listed (subst (Contains line) (same ∙ only other now) has));
      }
        where
          only : (v : ℕ) → Contains (top ∷ []) v → v ≡ top
          only v now = ⊎_elim (λ (is : v ≡ top). is) (λ (never : Contains [] v). absurd (contains_nil v never)) (contains_cons_cases top [] v now)

          below : (i v : ℕ) → At marks v (Open i) → At closed v (Open i) → i < position
          below i v old at =
              let there = walked.stands i v old in
              let within = slice_get_within path i v there in
              ⊎_elim
              (λ (less : i < position). less)
              (λ (not_less : position ≤ i).
              let same : position ≡ i = omega (arith, within, last, not_less) in
              let is_top : top ≡ v = at_once path i top v (subst (λ (n : ℕ). At path n top) same at_top) there in
              absurd (open_not_done i (at_once closed v (Open i) Done at (subst (λ (u : ℕ). At closed u Done) is_top (at_set marks top Done (slice_get_within marks top (Open position) is_open))))))
              (cases_lt i position)

          old_place : (w : ℕ) → Contains line w → (j : ℕ) × At line j w × (j < length line)
          old_place w has = let found = placed line w has in (found.0, found.1, slice_get_within line found.0 w found.1)

          behind : (i v w : ℕ) → At line i v ⊎ ((i ≡ length line) × (v ≡ top)) → Waits ends v w → (j : ℕ) × At longer j w × (j < i)
          behind i v w (inl old) waits = let found = walked.behind i v w old waits in (found.0, at_left line (top ∷ []) found.0 w found.1, found.2)
          behind i v w (inr now) waits =
              let same_listed : listed ≡ waits.0 = at_once ends top listed waits.0 told (subst (λ (u : ℕ). At ends u waits.0) now.1 waits.1) in
              let has : Contains listed w = subst (λ (list : List ℕ). Contains list w) (sym same_listed) waits.2 in
              let at = placed listed w has in
              let within = slice_get_within listed at.0 w at.1 in
              let complete = walked.heeded top count at.0 w listed counted told at.1 (omega (arith, within, all)) in
              let there = old_place w (walked.listed w complete) in
              let below_line = there.2 in
              let here = now.0 in
              (there.0, at_left line (top ∷ []) there.0 w there.1, omega (arith, below_line, here))

      pub fresh_closed : (v : ℕ) → At closed v New → At marks v New
      fresh_closed v at = ⊎_elim
          (λ (old : At marks v New). old)
          (λ (now : (top ≡ v) × (New ≡ Done)). absurd (not_done now.1))
          (back_closed v New at)

      pub fewer_closed : left ends closed taken < left ends marks taken
      fewer_closed =
          let steps = left_marked ends marks taken top count listed (Open position) Done told is_open counted in
          omega (arith, steps, all)
