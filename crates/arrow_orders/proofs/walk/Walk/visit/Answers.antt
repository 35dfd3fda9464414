use Rattle.std.proofs.Common.{ℕ, sym, subst, ◌∙◌}
use Rattle.std.proofs.lemmas.Option.{get_or_from_slice_get}
use Rattle.std.proofs.lemmas.Result.{IfOk-weaker}
use Rattle.emc_base.specs.Lists.{At}
use Rattle.arrow_orders.specs.declared.walk.Mark.TheVariants.{New}
use Rattle.arrow_orders.specs.declared.walk.Walk.{Walk}
use Rattle.arrow_orders.proofs.walking.Steps.{visited}
use Rattle.arrow_orders.proofs.walk.Walk.visit.Goals.{in-New+in_ok-open, in_default}
use Rattle.arrow_orders.proofs.walk.Walk.visit.Goals as goal

pub returns : goal.returns
returns c =
    let ends = c.args.ends.now in
    let old = c.args.self.now in
    let Fresh : Walk → Type 0 = λ walk. (v : ℕ) → At walk.marks.items v New → At old.marks.items v New in
    let Seen : Walk → Type 0 = λ walk. ¬ At walk.marks.items c.args.place New in
    let fresh : Fresh c.match-index.self = elim c.match-index.branch [
      | in-New+in_ok-open w ↦ subst Fresh (sym w.self-is) w.in_ok-open.ensures.step.later.fresh
      | in_default w ↦ subst Fresh (sym w.self-is) (λ v at. at)
    ] in
    let seen : Seen c.match-index.self = elim c.match-index.branch [
      | in-New+in_ok-open w ↦ subst Seen (sym w.self-is) w.in_ok-open.ensures.seen
      | in_default w ↦ subst Seen (sym w.self-is) (λ at. w.in_default.not-New (c.index.ensures ∙ get_or_from_slice_get old.marks.items c.args.place New c.index.result.now at))
    ] in
    IfOk-weaker c.finish.result _ _ (λ found finishes. visited ends c.args.place old c.match-index.self c.finish.new.self fresh seen found finishes) c.finish.ensures
