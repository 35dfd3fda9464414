use Rattle.std.proofs.Common.{◌++◌, ◌∙◌, append_assoc, ap, flat_map, length, take}
use Rattle.cells.specs.host_links.Grouped.{links_in}
use Rattle.delta_plan.specs.Asking.{local_rows}
use Rattle.delta_plan.proofs.Marking.{next_lists, reached}
use Rattle.delta_plan.proofs.Stepped.{rose, stepped}
use Rattle.delta_plan.proofs.asking.ask_entities.Goals as goal

pub returns-in_err-own-clause-most : goal.returns-in_err-own-clause-most
returns-in_err-own-clause-most g c =
    rose (length c.args.marked.now) c.loop-one.one-index (g.L.Ledger.count c.args.steps.now) (g.L.Ledger.count c.loop-one.steps) (g.L.Ledger.count c.local.new.steps)
    c.loop-one-test.true c.loop-one.invariant.1 c.local.ensures.counted

pub returns-in_err-append-clause-most : goal.returns-in_err-append-clause-most
returns-in_err-append-clause-most g c =
    rose (length c.args.marked.now) c.loop-one.one-index (g.L.Ledger.count c.args.steps.now) (g.L.Ledger.count c.loop-one.steps) (g.L.Ledger.count c.local.new.steps)
    c.loop-one-test.true c.loop-one.invariant.1 c.local.ensures.counted

pub loop-one-preserved : goal.loop-one-preserved
loop-one-preserved g c =
    let marked = c.args.marked.now in
    let i = c.loop-one.one-index in
    let one = c.one-item.result in
    let local = g.R.LocalRows.rows c.args.views.now in
    let f = local_rows local (links_in c.args.hosts.now) in
    let so_far = flat_map f (take i marked) in
    let first = c.args.rows.now.items in (
      c.in_ok-append.ensures ∙ ap (λ rows. rows ++ c.in_ok-own.own) c.loop-one.invariant.0 ∙ append_assoc first so_far c.in_ok-own.own
          ∙ ap (λ own. first ++ (so_far ++ own)) (c.in_ok-own.ensures.demanded ∙ ap (local one.set one.entity.now) c.at-links.ensures)
          ∙ ap (λ all. first ++ all) (next_lists f marked i one (reached marked i one c.loop-one-test.true c.one-item.is)),
      stepped i (g.L.Ledger.count c.args.steps.now) (g.L.Ledger.count c.loop-one.steps) (g.L.Ledger.count c.local.new.steps) c.loop-one.invariant.1 c.local.ensures.counted,
    )
