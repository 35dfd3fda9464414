use Rattle.std.proofs.Common.{◌≡◌, ◌<◌, ℕ, [], List, length, sym, subst, ◌∙◌, arith}
use Rattle.std.proofs.lemmas.Option.{get_or_from_slice_get}
use Rattle.std.proofs.lemmas.Result.{IfOk-weaker}
use Rattle.emc_base.specs.Lists.{At}
use Rattle.graphs.specs.arrow_cycles.Searches.{IsLater, Searches}
use Rattle.graphs.specs.declared.arrow_cycles.search.Mark.TheVariants.{New}
use Rattle.graphs.specs.declared.arrow_cycles.search.Search.{Search}
use Rattle.graphs.proofs.arrow_cycles.Places.{at_read}
use Rattle.graphs.proofs.arrow_cycles.search.Search.visit.Goals.{in-New+in_ok-open, in_default}
use Rattle.graphs.proofs.arrow_cycles.search.Search.visit.Goals as goal

pub index-requires : goal.index-requires
index-requires c =
    let inside : c.args.place < length c.args.ends.now = c.requires.inside in
    let alike : length c.args.self.now.marks.items ≡ length c.args.ends.now = c.requires.search.0 in
    omega (arith, inside, alike)

pub open-requires-clause-next : goal.open-requires-clause-next
open-requires-clause-next c =
    let old = c.args.self.now in
    let inside : c.args.place < length c.args.ends.now = c.requires.inside in
    let alike : length old.marks.items ≡ length c.args.ends.now = c.requires.search.0 in
    record {
      unseen = at_read old.marks.items c.args.place c.index.result.now New (omega (arith, inside, alike)) c.index.ensures c.in-New.is;
      reached = λ p v at.
          let P : List ℕ → Type 0 = λ xs. At xs p v in
          let nowhere : At [] p v = subst P c.requires.empty at in
          absurd cc;
    }

pub finish-requires-clause-search : goal.finish-requires-clause-search
finish-requires-clause-search c =
    let P : Search → Type 0 = λ search. Searches c.args.ends.now search in
    elim c.match-index.branch [
      | in-New+in_ok-open w ↦ subst P (sym w.self-is) w.in_ok-open.ensures.step.0.search
      | in_default w ↦ subst P (sym w.self-is) c.requires.search
    ]

pub returns-clause-later : goal.returns-clause-later
returns-clause-later c =
    let ends = c.args.ends.now in
    let old = c.args.self.now in
    let now = c.finish.new.self in
    let P : Search → Type 0 = λ search. (v : ℕ) → At search.marks.items v New → At old.marks.items v New in
    let fresh : P c.match-index.self = elim c.match-index.branch [
      | in-New+in_ok-open w ↦ subst P (sym w.self-is) w.in_ok-open.ensures.step.0.fresh
      | in_default w ↦ subst P (sym w.self-is) (λ _ at. at)
    ] in
    IfOk-weaker c.finish.result (λ _. IsLater ends c.match-index.self now) (λ _. IsLater ends old now)
    (λ _ later. record { search = later.search; fresh = λ v at. fresh v (later.fresh v at) }) c.finish.ensures.later

pub returns-clause-empty : goal.returns-clause-empty
returns-clause-empty c = c.finish.ensures.empty

pub returns-clause-seen : goal.returns-clause-seen
returns-clause-seen c =
    let ends = c.args.ends.now in
    let old = c.args.self.now in
    let now = c.finish.new.self in
    let P : Search → Type 0 = λ search. ¬ At search.marks.items c.args.place New in
    let seen : P c.match-index.self = elim c.match-index.branch [
      | in-New+in_ok-open w ↦ subst P (sym w.self-is) w.in_ok-open.ensures.seen
      | in_default w ↦ subst P (sym w.self-is) (λ at.
          w.in_default.not-New (c.index.ensures ∙ get_or_from_slice_get old.marks.items c.args.place New c.index.result.now at))
    ] in
    IfOk-weaker c.finish.result (λ _. IsLater ends c.match-index.self now) (λ _. P now) (λ _ later at. seen (later.fresh c.args.place at)) c.finish.ensures.later
