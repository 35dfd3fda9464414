use Rattle.std.proofs.Common.{refl}
use Rattle.std.proofs.lemmas.Option.{slice_get_read}
use Rattle.msl_checks.specs.barred_members.Added.{Constrains}
use Rattle.msl_checks.proofs.barred_members.Adding.{adds_next}
use Rattle.msl_checks.proofs.barred_members.barred.Barred.add_dependents.Goals as goal

pub loop-assoc-preserved : goal.loop-assoc-preserved
loop-assoc-preserved c =
    let n = c.loop-assoc.assoc-index in
    adds_next Constrains c.args.assocs.now n c.assoc-item.result c.args.self.now c.loop-assoc.self c.add_constrained.new.self
    (slice_get_read _ _ n _ refl c.loop-assoc-test.true c.assoc-item.is) c.loop-assoc.invariant c.in_ok-add_constrained.ensures
