use Rattle.std.proofs.Common.{ap, sym, slice_get, ◌∙◌}
use Rattle.round_trip.specs.Words.{TableId}
use Rattle.round_trip.specs.soundness.mappings.Joined.Member.{col}
use Rattle.msl_checks.specs.barred_members.Told.{is_told}
use Rattle.msl_checks.specs.msl_written.Within.{schema_in, table_in}
use Rattle.msl_checks.proofs.msl_written.Free.{same_made, told_free}
use Rattle.msl_checks.proofs.msl_written.writing.Writing.has_free_column.Goals as goal

pub returns : goal.returns
returns c =
    let self = c.args.self.now in
    let same = same_made c.in-Some.table (table_in self) (slice_get self.between.names.now.store.now.tables self.table) (sym c.in-Some.is ∙ c.table_id.ensures) in
    told_free (schema_in self.between) self.between.barred.now (col (table_in self) c.args.col) c.has_column.result self.between.told
    (c.has_column.ensures ∙ ap (λ (table : TableId). is_told self.between.barred.now (col table c.args.col)) same)
