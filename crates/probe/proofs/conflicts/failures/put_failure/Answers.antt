use Rattle.probe.proofs.conflicts.failures.put_failure.Goals as goal

pub put_found-requires : goal.put_found-requires
put_found-requires c = c.in-Ok.ensures.fails
