use Rattle.std.proofs.Common.{◌∙◌, subst, sym, ap, map}
use Rattle.table_files.specs.InOrder.{IsInOrderOf}
use Rattle.table_files.proofs.Entries.{row_in}
use Rattle.table_files.proofs.key_order.rows_in_order.Goals as goal

pub returns : goal.returns
returns c = subst (IsInOrderOf c.args.cols.now c.args.rows.now) (sym (c.in_ok-rows.ensures ∙ ap (map row_in) c.as_slice.ensures.value)) c.in_ok-sorted.ensures.order
