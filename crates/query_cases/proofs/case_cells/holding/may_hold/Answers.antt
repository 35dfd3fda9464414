use Rattle.std.proofs.Common.{◌↔◌, IsTrue, sym, subst}
use Rattle.region_states.specs.region_basis.BasisOf.{basis_of}
use Rattle.case_laws.specs.declared.region_cases.case.CaseCell.{CaseCell}
use Rattle.query_cases.specs.case_cells.Holding.{MayHold}
use Rattle.query_cases.proofs.case_cells.holding.may_hold.Goals as goal

pub returns-in-Const : goal.returns-in-Const
returns-in-Const c =
    let P : CaseCell → Type 0 = λ told. IsTrue c.is_same.result ↔ MayHold (basis_of c.args.parts.now) c.args.region.now told c.args.value.now in
    subst P (sym c.in-Const.is) c.is_same.ensures

pub returns-in-Prop : goal.returns-in-Prop
returns-in-Prop c =
    let P : CaseCell → Type 0 = λ told. IsTrue c.may_be.result ↔ MayHold (basis_of c.args.parts.now) c.args.region.now told c.args.value.now in
    subst P (sym c.in-Prop.is) c.may_be.ensures
