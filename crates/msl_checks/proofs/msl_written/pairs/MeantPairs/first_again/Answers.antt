use Rattle.std.proofs.Common.{subst}
use Rattle.schema_names.specs.SchemaNames.{column_named}
use Rattle.msl_checks.specs.msl_written.Rising.{IsRising}
use Rattle.msl_checks.specs.msl_written.Within.{named_in}
use Rattle.msl_checks.proofs.msl_written.RisingPairs.{none_again}
use Rattle.msl_checks.proofs.msl_written.pairs.MeantPairs.first_again.Goals as goal

pub returns-then-is_rising : goal.returns-then-is_rising
returns-then-is_rising c =
    let self = c.args.self.now in
    none_again (named_in self.writing.now) (column_named self.writing.now.between.names.now.store.now self.writing.now.table) self.pairs.now self.each self.meant
    (subst IsRising c.as_slice.ensures.items (c.is_rising.ensures c.if-is_rising.true))
