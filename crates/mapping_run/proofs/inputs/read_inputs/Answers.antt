use Rattle.std.proofs.Common.{◌∙◌, ◌+◌, ℕ, List, Option, length, take, refl, sym, subst}
use Rattle.std.proofs.lemmas.Option.{slice_get_read}
use Rattle.emc_files.specs.Files.{FileMap}
use Rattle.mapping_run.specs.Inputs.{AreInputs, IsInput}
use Rattle.mapping_run.proofs.FilesRead.{next_input}
use Rattle.mapping_run.proofs.inputs.read_inputs.Goals as goal

pub loop-name-preserved : goal.loop-name-preserved
loop-name-preserved g c =
    let held = g.F.Files.held c.args.files.now in
    let input : IsInput held c.name-item.result c.in_ok-read_input.field-0 =
    subst (λ (files : Option FileMap). IsInput files c.name-item.result c.in_ok-read_input.field-0) c.loop-name.invariant.same c.in_ok-read_input.ensures.reads.1 in
    record {
      same = c.in_ok-read_input.ensures.same ∙ c.loop-name.invariant.same;
      quiet = c.in_ok-read_input.ensures.reads.0 ∙ c.loop-name.invariant.quiet;
      read = subst (λ (contents : List (List ℕ)). AreInputs held (take (c.loop-name.name-index + 1) c.args.names.now) contents) (sym c.in_ok-push.ensures.ok)
          (next_input held c.args.names.now c.loop-name.contents c.loop-name.name-index c.name-item.result c.in_ok-read_input.field-0
          (slice_get_read c.args.names.now (length c.args.names.now) c.loop-name.name-index c.name-item.result refl c.loop-name-test.true c.name-item.is)
          c.loop-name.invariant.read input);
    }
