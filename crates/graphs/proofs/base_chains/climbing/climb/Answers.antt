use Rattle.std.proofs.Common.{◌≡◌, ◌<◌, ℕ, true, List, length, set, Option, sym, subst, subst₂, ◌∙◌, arith}
use Rattle.graphs.specs.base_chains.Chains.{base_at}
use Rattle.graphs.specs.base_chains.Climbs.{IsSeen, IsWayUp}
use Rattle.graphs.proofs.base_chains.Chains.{base_read}
use Rattle.graphs.proofs.base_chains.walks.Climbs.{not_seen, read_seen, way_more}
use Rattle.graphs.proofs.base_chains.climbing.climb.Goals as goal
use Rattle.graphs.proofs.base_chains.climbing.climb.Goals.{in-Some+then-index, in_default}

pub loop-next-preserved : goal.loop-next-preserved
loop-next-preserved c =
    let base = base_at c.args.bases.now in
    let seen = c.loop-next.seen.items in
    let Way : List ℕ → Option ℕ → Type 0 = λ path next. IsWayUp base c.args.from c.args.seen.now.items (set seen c.in-Some.place true) path next in
    let So_far : Option ℕ → Type 0 = λ next. IsWayUp base c.args.from c.args.seen.now.items seen c.loop-next.path.items next in
    let inside : c.in-Some.place < length c.args.bases.now = c.loop-next.invariant.1 c.in-Some.place c.in-Some.is in
    let alike : length seen ≡ length c.args.bases.now = c.loop-next.invariant.0.size ∙ c.requires.alike in (
      subst₂ Way (sym c.in_ok-push.ensures.items) (sym (base_read c.args.bases.now c.in-Some.place))
          (way_more base c.args.from c.args.seen.now.items seen c.loop-next.path.items c.in-Some.place (omega arith)
          (not_seen seen c.in-Some.place c.index.result.now c.index.ensures c.if-index.false)
          (subst So_far c.in-Some.is c.loop-next.invariant.0)),
      λ i is. c.requires.within c.in-Some.place i (sym (base_read c.args.bases.now c.in-Some.place) ∙ is),
    )

pub returns : goal.returns
returns c = elim c.match-next.branch [
  | in-Some+then-index w ↦
      let Way : Option ℕ → Type 0 = λ next. IsWayUp (base_at c.args.bases.now) c.args.from c.args.seen.now.items c.loop-next.seen.items c.loop-next.path.items next in
      let inside : w.in-Some.place < length c.args.bases.now = c.loop-next.invariant.1 w.in-Some.place w.in-Some.is in
      let alike : length c.loop-next.seen.items ≡ length c.args.bases.now = c.loop-next.invariant.0.size ∙ c.requires.alike in (
        subst Way (w.in-Some.is ∙ sym w.next-is) c.loop-next.invariant.0,
        λ j is.
            let same : w.in-Some.place ≡ j = let both = sym w.next-is ∙ is in cc in
            let P : ℕ → Type 0 = λ i. IsSeen c.loop-next.seen.items i in
            subst P same (read_seen c.loop-next.seen.items w.in-Some.place w.index.result.now (omega arith) w.index.ensures w.if-index.true),
      )
  | in_default w ↦
      let Way : Option ℕ → Type 0 = λ next. IsWayUp (base_at c.args.bases.now) c.args.from c.args.seen.now.items c.loop-next.seen.items c.loop-next.path.items next in
      (subst Way (sym w.next-is) c.loop-next.invariant.0, λ j is. absurd (w.in_default.not-Some j (sym w.next-is ∙ is)))
]
