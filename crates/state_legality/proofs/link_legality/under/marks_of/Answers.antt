use Rattle.std.proofs.Common.{List, Bool, false, replicate, subst, sym}
use Rattle.std.proofs.lemmas.Option.{slice_get-get_or}
use Rattle.edm_types.specs.Marks.{AddsMarks}
use Rattle.state_legality.proofs.link_legality.Marked.{PassedTo, marks_end, marks_more, marks_start}
use Rattle.state_legality.proofs.link_legality.under.marks_of.Goals as goal

pub loop-t-init : goal.loop-t-init
loop-t-init c =
    let blank = replicate c.args.count false in
    let P : List Bool → Type 0 = λ marks. AddsMarks (PassedTo c.args.types.now 0) blank marks in
    subst P (sym (c.in_ok-marks.ensures.items_if_clones_equal (λ y is. is))) (marks_start c.args.types.now blank)

pub loop-t-preserved : goal.loop-t-preserved
loop-t-preserved c =
    let n = c.loop-t.t-index in
    marks_more c.args.types.now n _ (replicate c.args.count false) c.loop-t.marks.items c.mark.new.marks.items
    (slice_get-get_or c.args.types.now n _ c.loop-t-test.true) c.loop-t.invariant c.mark.ensures

pub returns : goal.returns
returns c = marks_end c.args.types.now c.loop-t.t-index (replicate c.args.count false) c.loop-t.marks.items c.loop-t-test.false c.loop-t.invariant
