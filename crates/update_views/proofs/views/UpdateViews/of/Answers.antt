use Rattle.region_states.specs.region_basis.BasisOf.{basis_of}
use Rattle.region_states.proofs.region_basis.Bases.{basis_is}
use Rattle.update_views.proofs.Made.{made_views}
use Rattle.update_views.proofs.views.UpdateViews.of.Goals as goal

pub returns : goal.returns
returns c =
    let parts = c.args.parts.now in
    made_views (basis_of parts) (basis_is parts c.requires.parts) parts.cells.now.places c.requires.parts.cells.places
    (record { sets = c.in_ok-set_views.field-0; joined = c.in_ok-joined_rows.field-0 }) c.in_ok-set_views.ensures c.in_ok-joined_rows.ensures
