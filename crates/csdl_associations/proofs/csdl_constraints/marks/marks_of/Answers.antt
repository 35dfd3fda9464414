use Rattle.std.proofs.Common.{refl}
use Rattle.std.proofs.lemmas.Option.{slice_get_read}
use Rattle.csdl_associations.proofs.csdl_constraints.Marking.{marks_all, marks_more, marks_none}
use Rattle.csdl_associations.proofs.csdl_constraints.marks.marks_of.Goals as goal

pub loop-set-init : goal.loop-set-init
loop-set-init g c = marks_none (g.M.Marking.marks c.args.marking.now) c.args.sets.now c.args.count c.in_ok-marks.marks.items c.in_ok-marks.ensures

pub loop-set-preserved : goal.loop-set-preserved
loop-set-preserved g c =
    marks_more (g.M.Marking.marks c.args.marking.now) c.args.sets.now c.loop-set.set-index c.args.count c.set-item.result c.place.result
    c.loop-set.marks.items c.mark.new.marks.items
    (slice_get_read _ _ c.loop-set.set-index _ refl c.loop-set-test.true c.set-item.is) c.place.ensures c.loop-set.invariant c.mark.ensures

pub returns : goal.returns
returns g c = marks_all (g.M.Marking.marks c.args.marking.now) c.args.sets.now c.loop-set.set-index c.args.count c.loop-set.marks.items c.loop-set-test.false c.loop-set.invariant
