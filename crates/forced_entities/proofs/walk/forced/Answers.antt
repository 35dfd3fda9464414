use Rattle.std.proofs.Common.{List, length, arith, refl, subst, sym}
use Rattle.std.proofs.lemmas.Option.{slice_get_read}
use Rattle.emc_base.specs.Lists.{At}
use Rattle.region_states.proofs.region_basis.Bases.{basis_is}
use Rattle.region_states.specs.region_basis.BasisOf.{basis_of}
use Rattle.std.proofs.lemmas.Result.{IfOk-weaker}
use Rattle.forced_entities.specs.Forced.{AreForced}
use Rattle.forced_entities.specs.Walked.{Finds}
use Rattle.forced_entities.specs.declared.member.Forced.{Forced}
use Rattle.forced_entities.specs.declared.walk.Found.{Found}
use Rattle.forced_entities.proofs.Walking.{few_found, found_none, numbers_of, walk_begins, walk_ends, walk_on}
use Rattle.forced_entities.proofs.walk.forced.Goals as goal

pub loop-at-init : goal.loop-at-init
loop-at-init c =
    let parts = c.args.parts.now in
    let empty : Found = record { members = c.new.result; spots = c.new-2.result } in
    let after = c.add_all.new.found in
    let P : List Forced → Type 0 = λ list. Finds list empty after in
    walk_begins (basis_of parts) (basis_is parts c.requires) (numbers_of parts c.requires) c.args.of.now c.args.not_null.now empty after c.new.ensures.items
    (subst P c.in_ok-begun.ensures (c.in_ok-add_all.ensures (found_none empty c.new.ensures.items c.new-2.ensures.empty)))

pub loop-at-smaller : goal.loop-at-smaller
loop-at-smaller c =
    let parts = c.args.parts.now in
    let found = c.loop-at.found in
    let few = few_found (basis_of parts) (basis_is parts c.requires) (numbers_of parts c.requires) c.args.of.now c.args.not_null.now found c.loop-at.at c.loop-at.invariant in
    let long = c.loop-at-test.true in
    let size = c.len.ensures in
    let same = found.members.ok.0 in
    omega (arith, few, long, size, same)

pub loop-at-preserved : goal.loop-at-preserved
loop-at-preserved c =
    let parts = c.args.parts.now in
    let found = c.loop-at.found in
    let from : Forced = c.index.result.now in
    let after = c.add_all-in-loop-at.new.found in
    let long = c.loop-at-test.true in
    let size = c.len.ensures in
    let same = found.members.ok.0 in
    let here : At found.members.items c.loop-at.at from = slice_get_read found.members.items (length found.members.items) c.loop-at.at from refl (omega (arith, long, size, same)) c.index.ensures in
    let P : List Forced → Type 0 = λ list. Finds list found after in
    walk_on (basis_of parts) (basis_is parts c.requires) (numbers_of parts c.requires) c.args.of.now c.args.not_null.now found c.loop-at.at c.loop-at.invariant after from here
    (subst P c.in_ok-led.ensures (c.in_ok-add_all-2.ensures c.loop-at.invariant.are_found))

pub returns : goal.returns
returns c =
    let parts = c.args.parts.now in
    let found = c.loop-at.found in
    let end = c.loop-at-test.false in
    let size = c.len.ensures in
    let same = found.members.ok.0 in
    IfOk-weaker c.from_vec.result _ _ (λ list is. subst (AreForced (basis_of parts) c.args.of.now c.args.not_null.now) (sym is)
    (walk_ends (basis_of parts) (basis_is parts c.requires) (numbers_of parts c.requires) c.args.of.now c.args.not_null.now found c.loop-at.at c.loop-at.invariant (omega (arith, end, size, same))))
    c.from_vec.ensures
