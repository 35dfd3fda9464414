use Rattle.std.proofs.Common.{◌≡◌, inl, ap, Some}
use Rattle.emc_files.specs.Files.{FileMap}
use Rattle.emc_files.specs.MemFiles.{kept_files}
use Rattle.emc_files.specs.InMemory.{KeptFiles}
use Rattle.emc_files.proofs.mem_files.MemFilesFiles.replace.Goals as goal

pub returns-then-contains-clause-replaces : goal.returns-then-contains-clause-replaces
returns-then-contains-clause-replaces c =
    let kept : (kept_files c.count_fault.new.self).map ≡ (kept_files c.args.self.now).map = c.count_fault.ensures.map in
    inl (ap (λ (map : FileMap). Some map) kept)

pub returns-in-Err-clause-replaces : goal.returns-in-Err-clause-replaces
returns-in-Err-clause-replaces c = ap (λ (kept : KeptFiles). Some kept.map) c.in-Err.ensures.err
