use Rattle.std.proofs.Common.{List, refl, sym, subst}
use Rattle.std.specs.Global.{Vec}
use Rattle.cells.specs.Cells.{is_free_in}
use Rattle.region_states.specs.region_basis.BasisOf.{basis_of}
use Rattle.query_views.specs.Answers.{AreLentSets, Lends}
use Rattle.query_views.specs.declared.lending.LentEntity.{LentEntity}
use Rattle.query_views.proofs.Candidates.{is_candidate, lends_none}
use Rattle.query_views.proofs.Lent.{handed_on}
use Rattle.query_views.proofs.loaded.Loaded.of.Goals as goal

pub returns-in_err-sets : goal.returns-in_err-sets
returns-in_err-sets c =
    let parts = c.args.parts.now in
    let basis = basis_of parts in
    let is_free = is_free_in parts.cells.now in
    let tables = c.args.tables.now in
    handed_on (Lends basis is_free tables) c.in_err-sets.field-0.0 c.from_residual.result c.from_residual.ensures.1
    (lends_none basis is_free tables c.in_err-sets.field-0.0 c.in_err-sets.ensures)

pub lent_links-requires-clause-sets : goal.lent_links-requires-clause-sets
lent_links-requires-clause-sets c =
    let parts = c.args.parts.now in
    let Are : List (Vec LentEntity) → Type 0 = AreLentSets (basis_of parts) (is_free_in parts.cells.now) c.args.tables.now in
    subst Are (sym c.as_slice.ensures.value) c.in_ok-sets.ensures

pub returns : goal.returns
returns c =
    let parts = c.args.parts.now in (
      refl,
      is_candidate (basis_of parts) (is_free_in parts.cells.now) c.args.tables.now (c.parts_are_a_basis.ensures.basis parts c.requires.parts)
          (record { model = parts.model; sets = c.in_ok-sets.sets; links = c.in_ok-links.links }) c.in_ok-sets.ensures c.in_ok-links.ensures,
    )
