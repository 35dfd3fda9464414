use Rattle.std.proofs.Common.{Some, subst}
use Rattle.region_states.specs.region_basis.BasisOf.{basis_of}
use Rattle.region_states.proofs.region_basis.Bases.{basis_is}
use Rattle.dangling_keys.proofs.failing.Whole.{own_pairing}
use Rattle.dangling_search.specs.Found.{OwnedHere}
use Rattle.dangling_states.proofs.Missing.{other_told, own_told, supported_at}
use Rattle.dangling_states.proofs.failures.with_principal.Goals as goal

pub unreachable-requires : goal.unreachable-requires
unreachable-requires c =
    let basis = basis_of c.args.parts.now in
    let key = c.args.referring.key.now in
    let mine = own_pairing basis c.requires.dangles.given key c.requires.dangles.is_key c.args.referring.look.of.now (Some c.args.region.now) c.requires.dangles.dangles.lacks in
    subst (OwnedHere basis key.to) c.in_default.is c.in_ok-owned.ensures c.args.region.now.set mine.0 mine.1

pub returns-then-branch : goal.returns-then-branch
returns-then-branch c = λ pairing paired.
    own_told (basis_of c.args.parts.now) (basis_is c.args.parts.now c.requires.parts) c.args.referring.look.of.now c.args.referring.key.now c.args.region.now c.in-Some.owned.set c.in-Some.owned.pairing
    (subst (OwnedHere (basis_of c.args.parts.now) c.args.referring.key.now.to) c.in-Some.is c.in_ok-owned.ensures) c.in_ok-is_own.field-0 c.in_ok-is_own.ensures pairing paired c.if-branch.true
    c.lone_state.result c.lone_state.ensures

pub both_state-requires-clause-supported : goal.both_state-requires-clause-supported
both_state-requires-clause-supported c =
    supported_at (basis_of c.args.parts.now) (basis_is c.args.parts.now c.requires.parts) c.args.referring.look.of.now c.args.referring.key.now c.args.region.now c.in-Some.owned.set c.in-Some.owned.pairing
    (subst (OwnedHere (basis_of c.args.parts.now) c.args.referring.key.now.to) c.in-Some.is c.in_ok-owned.ensures) c.in_ok-is_own.field-0 c.in_ok-is_own.ensures
    c.requires.dangles.given c.requires.dangles.is_key c.requires.dangles.dangles c.if-branch.false c.as_slice.result.now c.as_slice.ensures.items

pub returns : goal.returns
returns c = λ pairing paired.
    other_told (basis_of c.args.parts.now) (basis_is c.args.parts.now c.requires.parts) c.args.referring.look.of.now c.args.referring.key.now c.args.region.now c.in-Some.owned.set c.in-Some.owned.pairing
    (subst (OwnedHere (basis_of c.args.parts.now) c.args.referring.key.now.to) c.in-Some.is c.in_ok-owned.ensures) c.in_ok-is_own.field-0 c.in_ok-is_own.ensures pairing paired c.if-branch.false
    c.as_slice.result.now c.as_slice.ensures.items c.both_state.result c.both_state.ensures
