use Rattle.std.proofs.Common.{◌∙◌, subst, sym}
use Rattle.region_states.specs.region_basis.BasisOf.{basis_of}
use Rattle.dangling_search.proofs.Searching.{NeverAt}
use Rattle.dangling_search.proofs.Tables.{never_without}
use Rattle.dangling_search.proofs.first.at_region.Goals as goal

pub returns-then-not-writes : goal.returns-then-not-writes
returns-then-not-writes c = λ of same. subst (NeverAt (basis_of c.args.parts.now) c.args.key.now) (sym same) (never_without (basis_of c.args.parts.now) c.args.key.now c.args.rows.now c.requires.rows (sym c.writes.ensures ∙ c.if-not-writes.true))
