use Rattle.std.proofs.Common.{sym, subst, ◌∙◌}
use Rattle.std.specs.Option.{option_copied}
use Rattle.region_states.specs.region_basis.BasisOf.{basis_of}
use Rattle.dangling_search.specs.Found.{TargetHere}
use Rattle.dangling_search.proofs.Telling.{refer_decided, refers_not, unowned_dangles}
use Rattle.dangling_search.proofs.at_focus.at_focus.Goals as goal

pub returns-then-not-may_refer : goal.returns-then-not-may_refer
returns-then-not-may_refer c =
    refers_not (basis_of c.args.parts.now) c.args.of.now c.args.key.now (sym c.may_refer.ensures ∙ c.if-not-may_refer.true)

pub with_target-requires-clause-refers : goal.with_target-requires-clause-refers
with_target-requires-clause-refers c =
    (refer_decided (basis_of c.args.parts.now) c.args.of.now c.args.key.now).0 (sym c.may_refer.ensures ∙ c.if-not-may_refer.false)

pub returns : goal.returns
returns c =
    let basis = basis_of c.args.parts.now in
    let may = (refer_decided basis c.args.of.now c.args.key.now).0 (sym c.may_refer.ensures ∙ c.if-not-may_refer.false) in
    unowned_dangles basis c.args.of.now c.args.key.now c.requires.of may (subst (λ found. TargetHere basis c.args.key.now (option_copied found)) c.in-None.is c.requires.target)
