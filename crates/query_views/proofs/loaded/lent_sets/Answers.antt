use Rattle.std.proofs.Common.{◌≡◌, ◌≤◌, ◌+◌, List, length, arith, sym, subst, ◌∙◌}
use Rattle.std.specs.Global.{Vec}
use Rattle.cells.specs.Cells.{is_free_in}
use Rattle.region_states.specs.region_basis.BasisOf.{basis_of}
use Rattle.region_partition.proofs.set_regions.Sets.{AreOfFirst, one_more}
use Rattle.query_views.specs.Answers.{LendsSets}
use Rattle.query_views.specs.declared.lending.LentEntity.{LentEntity}
use Rattle.query_views.proofs.Candidates.{AreLentOf, lack_all}
use Rattle.query_views.proofs.Lent.{handed_on}
use Rattle.query_views.proofs.loaded.lent_sets.Goals as goal

pub returns-in_err-lent_set : goal.returns-in_err-lent_set
returns-in_err-lent_set c =
    let parts = c.args.parts.now in
    let basis = basis_of parts in
    let is_free = is_free_in parts.cells.now in
    let tables = c.args.tables.now in
    handed_on (LendsSets basis is_free tables) c.in_err-lent_set.field-0.0 c.from_residual.result c.from_residual.ensures.1
    (lack_all basis is_free tables c.loop-index.index c.loop-index.sets.items c.loop-index.invariant c.in_err-lent_set.field-0.0 c.in_err-lent_set.ensures)

pub loop-index-preserved : goal.loop-index-preserved
loop-index-preserved c =
    let parts = c.args.parts.now in
    let Lent = AreLentOf (basis_of parts) (is_free_in parts.cells.now) c.args.tables.now in
    let i = c.loop-index.index in
    let First : List (Vec LentEntity) → Type 0 = AreOfFirst Lent (i + 1) in
    subst First (sym c.in_ok-push.ensures.items) (one_more Lent i c.loop-index.sets.items c.in_ok-lent_set.field-0 c.loop-index.invariant c.in_ok-lent_set.ensures)

pub returns : goal.returns
returns c =
    let parts = c.args.parts.now in
    let past : c.len-index-end.result ≤ c.loop-index.index = c.loop-index-test.false in
    let below : c.loop-index.index ≤ c.len-index-end.result = c.loop-index.auto.index-end in
    let count : c.len-index-end.result ≡ length parts.model.now.sets = c.len-index-end.ensures.count in
    let all : c.loop-index.index ≡ length parts.model.now.sets = omega (arith, past, below, count) in
    record { count = c.loop-index.invariant.0 ∙ all; each = c.loop-index.invariant.1 }
