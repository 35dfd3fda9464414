use Rattle.std.proofs.Common.{◌≡◌, take}
use Rattle.mapping_run.specs.Inputs.{AreInputs}
use Rattle.mapping_run.proofs.inputs.read_inputs.Given as goal

abbrev pub invariant-loop-name : goal.invariant-loop-name
invariant-loop-name g l = record {
  same : g.F.Files.held l.files ≡ g.F.Files.held l.initial.files;
  quiet : g.F.Files.fault_count l.files ≡ g.F.Files.fault_count l.initial.files;
  read : AreInputs (g.F.Files.held l.initial.files) (take l.name-index l.names) l.contents;
}
