use Rattle.std.proofs.lemmas.Bool.Decides.{same_from_decides}
use Rattle.region_states.proofs.region_basis.Bases.{basis_is}
use Rattle.region_states.specs.region_basis.BasisOf.{basis_of}
use Rattle.dangling_search.proofs.at_focus.is_under.Goals as goal

pub returns : goal.returns
returns c =
    let parts = c.args.parts.now in
    same_from_decides c.derives.result ((basis_of parts).is_a c.args.t c.args.u) c.derives.ensures ((basis_is parts c.requires).types.tells c.args.t c.args.u)
