use Rattle.std.proofs.Common.{◌≡◌, ℕ, List, IfNone, false, sym, subst}
use Rattle.regions.specs.declared.pattern.Focus.TheVariants as focus
use Rattle.region_states.specs.region_basis.BasisOf.{basis_of}
use Rattle.region_states.specs.conflicts.Facts.{disagrees_at}
use Rattle.containment.proofs.Differing.{fragment_told, link_told, none_told}
use Rattle.containment.proofs.disagreements.place_of.Goals as goal

pub returns-in-Some-clause-found : goal.returns-in-Some-clause-found
returns-in-Some-clause-found c = fragment_told (basis_of c.args.parts.now) c.args.region.now c.in-Some.fragment.now (sym c.in-Some.ensures)

pub returns-in_err-fragment-clause-none : goal.returns-in_err-fragment-clause-none
returns-in_err-fragment-clause-none c =
    let basis = basis_of c.args.parts.now in
    let region = c.args.region.now in
    subst (λ found. IfNone found ((place : List ℕ) → disagrees_at basis (focus.Entity region) place ≡ false)) (sym c.from_residual.ensures)
    (none_told basis region (sym c.in_default.ensures) (sym c.in_err-fragment.ensures))

pub returns-clause-found : goal.returns-clause-found
returns-clause-found c = link_told (basis_of c.args.parts.now) c.args.region.now c.in_ok-fragment.fragment.now (sym c.in_ok-fragment.ensures)
