use Rattle.forced_entities.proofs.Walking.{finds_next, finds_none}
use Rattle.forced_entities.proofs.walk.add_all.Goals as goal

pub loop-one-init : goal.loop-one-init
loop-one-init c = λ found. finds_none c.args.found.now found

pub loop-one-preserved : goal.loop-one-preserved
loop-one-preserved c = λ found.
    (let so_far = c.loop-one.invariant found in
    finds_next c.loop-one.yielded c.in-Some.one c.args.found.now c.loop-one.found c.add.new.found so_far (c.in_ok-add.ensures so_far.are_found))
