use Rattle.std.proofs.Common.{◌≡◌, ℕ, refl, ap, set, arith}
use Rattle.std.specs.Vec.{with_item}
use Rattle.graphs.proofs.arrow_cycles.Places.{at_read}
use Rattle.arrow_orders.specs.declared.walk.Mark.TheVariants.{New, Open, Done}
use Rattle.arrow_orders.specs.declared.walk.Walk.{Walk}
use Rattle.arrow_orders.proofs.walking.Steps.{met, next_waits, taken_step, top_marked, waits}
use Rattle.arrow_orders.proofs.walk.Walk.follow.Goals as goal

pub index-requires : goal.index-requires
index-requires c =
    let old = c.args.self.now in
    let inside = c.requires.within c.args.top c.args.end (waits c.args.ends.now old c.requires.walk c.args.top c.requires.top c.args.end c.args.more c.requires.next) in
    let size = c.requires.walk.marks_size in
    omega (arith, inside, size)

pub open-requires-clause-next : goal.open-requires-clause-next
open-requires-clause-next c =
    let old = c.args.self.now in
    let to = waits c.args.ends.now old c.requires.walk c.args.top c.requires.top c.args.end c.args.more c.requires.next in
    let inside = c.requires.within c.args.top c.args.end to in
    let size = c.requires.walk.marks_size in
    let top = c.requires.top in
    record {
      unseen = at_read old.marks.items c.args.end c.index.result.now New (omega (arith, inside, size)) c.index.ensures c.in-New.is;
      reached = λ position v at last.
          (let one = top.last in
          let same : top.position ≡ position = omega (arith, one, last) in
          next_waits c.args.ends.now old c.args.top top position v at same c.args.end to);
    }

pub index_mut-requires : goal.index_mut-requires
index_mut-requires c =
    let old = c.args.self.now in
    let inside = top_marked c.args.ends.now old c.requires.walk c.args.top c.requires.top in
    let size = c.requires.walk.marks_size in
    let counts = c.requires.walk.counts_size in
    omega (arith, inside, size, counts)

pub returns-in-Open : goal.returns-in-Open
returns-in-Open c =
    let old = c.args.self.now in
    let to = waits c.args.ends.now old c.requires.walk c.args.top c.requires.top c.args.end c.args.more c.requires.next in
    let inside = c.requires.within c.args.top c.args.end to in
    let size = c.requires.walk.marks_size in
    met c.args.ends.now old c.requires.walk c.args.top c.requires.top c.args.end c.args.more c.requires.next c.in-Open.position
    (at_read old.marks.items c.args.end c.index.result.now (Open c.in-Open.position) (omega (arith, inside, size)) c.index.ensures c.in-Open.is)

pub returns-in-Done : goal.returns-in-Done
returns-in-Done c =
    let old = c.args.self.now in
    let now : Walk = record { marks = old.marks; taken = with_item old.taken c.args.top c.args.more; path = old.path; line = old.line } in
    let to = waits c.args.ends.now old c.requires.walk c.args.top c.requires.top c.args.end c.args.more c.requires.next in
    let inside = c.requires.within c.args.top c.args.end to in
    let size = c.requires.walk.marks_size in
    taken_step c.args.ends.now old now c.requires.walk c.args.top c.requires.top c.args.end c.args.more c.requires.next
    (at_read old.marks.items c.args.end c.index.result.now Done (omega (arith, inside, size)) c.index.ensures c.in-Done.is) refl
    (ap (λ (n : ℕ). set old.taken.items c.args.top n) c.requires.next.more_is) refl refl
