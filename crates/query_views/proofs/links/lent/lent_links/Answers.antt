use Rattle.std.proofs.Common.{◌≡◌, ◌≤◌, ◌+◌, List, length, arith, sym, subst, ◌∙◌}
use Rattle.cells.specs.Cells.{is_free_in}
use Rattle.region_states.specs.region_basis.BasisOf.{basis_of}
use Rattle.query_views.specs.declared.links.lent.LentLinks.{LentLinks}
use Rattle.query_views.proofs.links.LinkLists.{AreLentOfFirst, one_list_more}
use Rattle.query_views.proofs.links.lent.lent_links.Goals as goal

pub loop-index-preserved : goal.loop-index-preserved
loop-index-preserved c =
    let parts = c.args.parts.now in
    let basis = basis_of parts in
    let is_free = is_free_in parts.cells.now in
    let tables = c.args.tables.now in
    let i = c.loop-index.index in
    let First : List LentLinks → Type 0 = AreLentOfFirst basis is_free tables (i + 1) in
    subst First (sym c.in_ok-push.ensures.items)
    (one_list_more basis is_free tables i c.loop-index.links.items c.in_ok-links_of.field-0 c.loop-index.invariant c.in_ok-links_of.ensures)

pub returns : goal.returns
returns c =
    let parts = c.args.parts.now in
    let past : c.len-index-end.result ≤ c.loop-index.index = c.loop-index-test.false in
    let below : c.loop-index.index ≤ c.len-index-end.result = c.loop-index.auto.index-end in
    let count : c.len-index-end.result ≡ length parts.model.now.assocs = c.len-index-end.ensures.count in
    let all : c.loop-index.index ≡ length parts.model.now.assocs = omega (arith, past, below, count) in
    record { count = c.loop-index.invariant.0 ∙ all; each = c.loop-index.invariant.1 }
