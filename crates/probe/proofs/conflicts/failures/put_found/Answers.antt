use Rattle.probe.proofs.conflicts.failures.put_found.Goals as goal

pub put_shown-put-requires : goal.put_shown-put-requires
put_shown-put-requires c = c.requires c.in-Some.failure c.in-Some.is
