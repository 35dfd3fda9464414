use Rattle.std.proofs.Common.{sym, ◌∙◌}
use Rattle.msl_checks.specs.msl_written.Within.{kind_in, schema_in, table_in}
use Rattle.msl_checks.proofs.msl_written.Free.{told_foreign}
use Rattle.msl_checks.proofs.msl_written.conditions.is_foreign.Goals as goal

pub returns : goal.returns
returns c =
    let writing = c.args.writing.now in
    let cond = c.args.cond.now in
    told_foreign (schema_in writing.between) (table_in writing) c.args.what (kind_in writing c.args.what) cond.value cond.is_null c.in-Some.kind.now c.in-Some-None.text c.is_free.result
    (sym c.in-Some.ensures) c.in-Some-None.is-0 c.in-Some-None.is-1 (sym c.in_ok-gives_value.ensures ∙ c.if-not-branch.false) c.is_free.ensures
