use Rattle.std.proofs.Common.{sym}
use Rattle.witness_state.proofs.links_small.HostRows.{no_row, row_found}
use Rattle.witness_state.proofs.small_links.host_rows.row_in.Goals as goal

pub unreachable-requires : goal.unreachable-requires
unreachable-requires c = no_row c.args.pattern.now c.args.table (sym c.in-None.ensures) c.requires

pub returns : goal.returns
returns c = row_found c.args.pattern.now c.args.table c.in-Some.row.now (sym c.in-Some.ensures)
