use Rattle.region_states.specs.region_basis.BasisOf.{basis_of}
use Rattle.region_states.proofs.region_basis.Bases.{basis_is}
use Rattle.update_views.proofs.region_table.Finding.{finds}
use Rattle.update_views.proofs.region_table.numbering.RegionTable.of.Goals as goal

pub returns : goal.returns
returns c =
    let basis = basis_of c.args.parts.now in
    let order = (basis_is c.args.parts.now c.requires).order c.args.set in
    finds basis c.args.set order c.in_ok-types_of.ensures.few c.in_ok-types_of.field-0 c.in_ok-types_of.ensures
