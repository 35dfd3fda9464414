-- The same of a walk: each step of it.
use Rattle.std.proofs.Common.{◌≡◌, ℕ, suc, ◌<◌, arith, List, ◌∷◌, ◌++◌, [], length, set, take, Option, None, Some, sym, subst}
use Rattle.std.proofs.lemmas.Option.{slice_get_within}
use Rattle.emc_base.specs.Lists.{At}
use Rattle.emc_base.proofs.Lists.{at_once}
use Rattle.emc_base.proofs.Mapped.{contains_at}
use Rattle.arrow_orders.specs.Orders.{Waits}
use Rattle.arrow_orders.specs.Walks.{AreAllTaken, AreWalked, Finishes, IsMet, IsNext, IsNextEnd, IsOpened, IsStep, IsTop, IsWalk, Visits, left}
use Rattle.arrow_orders.specs.declared.walk.Mark.{Mark}
use Rattle.arrow_orders.specs.declared.walk.Mark.TheVariants.{New, Open, Done}
use Rattle.arrow_orders.specs.declared.walk.Walk.{Walk}
use Rattle.arrow_orders.proofs.walking.Rings.{from_within, ring}
use Rattle.arrow_orders.proofs.walking.Walked.{closes, fewer_closed, fewer_opened, fewer_taken, fresh_closed, fresh_opened, opens, seen_opened, takes}

abbrev State : Type 0
State = List Mark × List ℕ × List ℕ × List ℕ

-- a step, by what the lists are afterwards
made_step : (ends : List (List ℕ)) (old now : Walk) (marks : List Mark) (taken path line : List ℕ) → now.marks.items ≡ marks → now.taken.items ≡ taken → now.path.items ≡ path → now.line.items ≡ line
    → AreWalked ends marks taken path line → ((v : ℕ) → At marks v New → At old.marks.items v New) → left ends marks taken < left ends old.marks.items old.taken.items → IsStep ends old now
made_step ends old now marks taken path line is_marks is_taken is_path is_line walked fresh fewer =
    let Walked : State → Type 0 = λ w. AreWalked ends w.0 w.1 w.2 w.3 in
    let Fewer : State → Type 0 = λ w. left ends w.0 w.1 < left ends old.marks.items old.taken.items in
    record {
      later = record {
        walk = subst Walked (λ k. (sym is_marks k, sym is_taken k, sym is_path k, sym is_line k)) walked;
        fresh = λ v at. fresh v (subst (λ (list : List Mark). At list v New) is_marks at);
      };
      fewer = subst Fewer (λ k. (sym is_marks k, sym is_taken k, sym is_path k, sym is_line k)) fewer;
    }

module _ (ends : List (List ℕ)) (old now : Walk) (walk : IsWalk ends old) where
  pub opened_step : (place : ℕ) → IsNext ends old place → now.marks.items ≡ set old.marks.items place (Open (length old.path.items)) → now.taken.items ≡ old.taken.items
      → now.path.items ≡ old.path.items ++ place ∷ [] → now.line.items ≡ old.line.items → IsOpened ends place old now
  opened_step place next is_marks is_taken is_path is_line =
      let marks : List Mark = old.marks.items in
      let taken : List ℕ = old.taken.items in
      let path : List ℕ = old.path.items in
      let line : List ℕ = old.line.items in
      record {
        step = made_step ends old now (set marks place (Open (length path))) taken (path ++ place ∷ []) line is_marks is_taken is_path is_line
            (opens ends marks taken path line walk place next.unseen next.reached) (fresh_opened ends marks taken path line walk place next.unseen next.reached)
            (fewer_opened ends marks taken path line walk place next.unseen next.reached);
        seen = λ at. seen_opened ends marks taken path line walk place next.unseen next.reached (subst (λ (list : List Mark). At list place New) is_marks at);
      }

  module _ (top : ℕ) (is_top : IsTop old top) where
    pub closed_step : AreAllTaken ends old top → now.marks.items ≡ set old.marks.items top Done → now.taken.items ≡ old.taken.items → now.path.items ≡ take is_top.position old.path.items
        → now.line.items ≡ old.line.items ++ top ∷ [] → IsStep ends old now
    closed_step all is_marks is_taken is_path is_line =
        let marks : List Mark = old.marks.items in
        let taken : List ℕ = old.taken.items in
        let path : List ℕ = old.path.items in
        let line : List ℕ = old.line.items in
        made_step ends old now (set marks top Done) taken (take is_top.position path) (line ++ top ∷ []) is_marks is_taken is_path is_line
        (closes ends marks taken path line walk is_top.position top is_top.at is_top.last all.listed all.told all.count all.taken all.all)
        (fresh_closed ends marks taken path line walk is_top.position top is_top.at is_top.last all.listed all.told all.count all.taken all.all)
        (fewer_closed ends marks taken path line walk is_top.position top is_top.at is_top.last all.listed all.told all.count all.taken all.all)

    module _ (end more : ℕ) (next : IsNextEnd ends old top end more) where
      pub taken_step : At old.marks.items end Done → now.marks.items ≡ old.marks.items → now.taken.items ≡ set old.taken.items top (suc next.count) → now.path.items ≡ old.path.items
          → now.line.items ≡ old.line.items → IsStep ends old now
      taken_step complete is_marks is_taken is_path is_line =
          let marks : List Mark = old.marks.items in
          let taken : List ℕ = old.taken.items in
          let path : List ℕ = old.path.items in
          let line : List ℕ = old.line.items in
          made_step ends old now marks (set taken top (suc next.count)) path line is_marks is_taken is_path is_line
          (takes ends marks taken path line walk is_top.position top is_top.at is_top.last next.listed next.told next.count next.taken end next.next complete) (λ v at. at)
          (fewer_taken ends marks taken path line walk is_top.position top is_top.at is_top.last next.listed next.told next.count next.taken end next.next complete)

module _ (ends : List (List ℕ)) (old : Walk) (walk : IsWalk ends old) (top : ℕ) (is_top : IsTop old top) where
  -- the last place of the path is a place
  pub top_marked : top < length old.marks.items
  top_marked = slice_get_within old.marks.items top (Open is_top.position) (walk.placed is_top.position top is_top.at)

  module _ (end more : ℕ) (next : IsNextEnd ends old top end more) where
    pub waits : Waits ends top end
    waits = (next.listed, next.told, contains_at next.listed next.count end next.next)

    pub met : (from : ℕ) → At old.marks.items end (Open from) → IsMet ends old from
    met from at = record {
      within = (let below = from_within ends old.marks.items old.taken.items old.path.items old.line.items walk is_top.position top is_top.at is_top.last end waits from at in omega (arith, below));
      ring = ring ends old.marks.items old.taken.items old.path.items old.line.items walk is_top.position top is_top.at is_top.last end waits from at;
    }

-- the place at the position of the last one waits for what this waits for
pub next_waits : (ends : List (List ℕ)) (old : Walk) (top : ℕ) (is_top : IsTop old top) (position v : ℕ) → At old.path.items position v → is_top.position ≡ position → (end : ℕ) → Waits ends top end → Waits ends v end
next_waits ends old top is_top position v at same end to =
    subst (λ (u : ℕ). Waits ends u end) (at_once old.path.items position top v (subst (λ (n : ℕ). At old.path.items n top) same is_top.at) at) to

-- what is seen at the start of a visit stays so
pub visited : (ends : List (List ℕ)) (place : ℕ) (old begun now : Walk) → ((v : ℕ) → At begun.marks.items v New → At old.marks.items v New) → ¬ At begun.marks.items place New
    → (found : Option ℕ) → Finishes ends begun now found → Visits ends place old now found
visited ends place old begun now fresh seen None (later, empty) =
    (record { walk = later.walk; fresh = λ v at. fresh v (later.fresh v at) }, empty, λ at. seen (later.fresh place at))
visited ends place old begun now fresh seen (Some position) met = met
