-- Where each place is seen and the path is empty, all stand in the line.
use Rattle.std.proofs.Common.{◌≡◌, ⊎_elim, ℕ, ◌+◌, ◌<◌, ◌≤◌, List, [], length, Contains, subst, arith}
use Rattle.std.proofs.lemmas.Bool.{cases_lt}
use Rattle.std.proofs.lemmas.Option.{slice_get_within}
use Rattle.emc_base.specs.Lists.{At}
use Rattle.emc_base.proofs.Lists.{item_at}
use Rattle.arrow_orders.specs.Orders.{IsLine}
use Rattle.arrow_orders.specs.Walks.{IsLater, IsWalk}
use Rattle.arrow_orders.specs.declared.walk.Mark.{Mark}
use Rattle.arrow_orders.specs.declared.walk.Mark.TheVariants.{New, Open, Done}
use Rattle.arrow_orders.specs.declared.walk.Walk.{Walk}

-- each place below this one is seen, and the path is empty
pub record IsUpTo (ends : List (List ℕ)) (place : ℕ) (walk : Walk) : Type 0 where
  pub walk_is : IsWalk ends walk
  pub empty : walk.path.items ≡ []
  pub seen : (v : ℕ) → v < place → ¬ At walk.marks.items v New

-- one place more
pub one_more_seen : (ends : List (List ℕ)) (place : ℕ) (old now : Walk) → IsUpTo ends place old → IsLater ends old now → now.path.items ≡ [] → ¬ At now.marks.items place New → IsUpTo ends (place + 1) now
one_more_seen ends place old now so later empty seen = record {
  walk_is = later.walk;
  empty = empty;
  seen = λ v below at. ⊎_elim
      (λ (before : v < place). so.seen v before (later.fresh v at))
      (λ (not_before : place ≤ v). let same : v ≡ place = omega (arith, below, not_before) in seen (subst (λ (u : ℕ). At now.marks.items u New) same at))
      (cases_lt v place);
}

-- so after the last of them
pub all_in_line : (ends : List (List ℕ)) (place : ℕ) (walk : Walk) → IsUpTo ends place walk → length ends ≤ place → IsLine ends walk.line.items
all_in_line ends place walk so end = record {
  once = so.walk_is.once;
  all = λ v within. (let size = so.walk_is.marks_size in
      let mark = item_at walk.marks.items v (omega (arith, within, size)) in
      in_line v within mark.0 mark.1);
  only = λ v has. (let within = slice_get_within walk.marks.items v Done (so.walk_is.done v has) in let size = so.walk_is.marks_size in omega (arith, within, size));
  behind = so.walk_is.behind;
}
  where
    in_line : (v : ℕ) → v < length ends → (mark : Mark) → At walk.marks.items v mark → Contains walk.line.items v
    in_line v within New at = absurd (so.seen v (omega (arith, within, end)) at)
    in_line v within (Open position) at =
        let there : At [] position v = subst (λ (list : List ℕ). At list position v) so.empty (so.walk_is.stands position v at) in
        absurd (let never = there in cc)
    in_line v within Done at = so.walk_is.listed v at
