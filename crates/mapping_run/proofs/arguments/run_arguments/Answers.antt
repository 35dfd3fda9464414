use Rattle.std.proofs.Common.{ℕ, List, drop, ap, subst, ◌∙◌}
use Rattle.mapping_run.specs.Completeness.{IsComplete}
use Rattle.mapping_run.specs.World.{World, world}
use Rattle.mapping_run.proofs.arguments.run_arguments.Goals as goal

pub returns-clause-complete : goal.returns-clause-complete
returns-clause-complete g c =
    let before : World = world (g.F.Files.held c.args.files.now) (g.F.Files.fault_count c.args.files.now) (g.W.Sink.written_to c.args.out.now) (g.W.Sink.fault_count c.args.out.now) in
    let after : World = world (g.F.Files.held c.run.new.files) (g.F.Files.fault_count c.run.new.files) (g.W.Sink.written_to c.run.new.out) (g.W.Sink.fault_count c.run.new.out) in
    subst (λ (words : List (List ℕ)). IsComplete words before after c.run.result) (c.after_first.ensures ∙ ap (drop 1) (c.as_slice.ensures.items ∙ c.in-Ok.ensures.texts)) c.run.ensures.complete
