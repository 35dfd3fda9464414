use Rattle.std.proofs.Common.{◌≡◌, All, false, take, refl, sym, subst, ◌∙◌}
use Rattle.std.proofs.lemmas.List.{take_all}
use Rattle.std.proofs.lemmas.List.Elements.{All-contains, All-push}
use Rattle.std.proofs.lemmas.Option.{slice_get_read}
use Rattle.emc_base.specs.Lists.{At}
use Rattle.emc_base.proofs.Loops.{take_item}
use Rattle.emc_base.proofs.Mapped.{contains_at, contains_map}
use Rattle.round_trip.specs.Words.{PropId}
use Rattle.region_states.specs.region_basis.BasisOf.{basis_of}
use Rattle.region_states.specs.conflicts.SameFacts.{is_lost}
use Rattle.containment.specs.declared.same_conflicts.written.Written.{Written}
use Rattle.containment.specs.same_conflicts.Written.{IsWritten, region_in}
use Rattle.containment.proofs.same_conflicts.Losing.{found_lost, none_lost}
use Rattle.containment.proofs.same_conflicts.lost.first_lost.Goals as goal

pub returns-in-Some-clause-found : goal.returns-in-Some-clause-found
returns-in-Some-clause-found c =
    let basis = basis_of c.args.parts.now in
    let written = c.args.written.now in
    let i = c.loop-one.one-index in
    let one = c.one-item.result in
    let there = contains_at written i one (slice_get_read _ _ i _ refl c.loop-one-test.true c.one-item.is) in
    let is = All-contains (IsWritten basis) written one c.requires there in
    (contains_map region_in written one there, found_lost basis one is c.in-Some.prop (sym c.in-Some.ensures))

pub loop-one-preserved : goal.loop-one-preserved
loop-one-preserved c =
    let basis = basis_of c.args.parts.now in
    let written = c.args.written.now in
    let i = c.loop-one.one-index in
    let one = c.one-item.result in
    let here : At written i one = slice_get_read _ _ i _ refl c.loop-one-test.true c.one-item.is in
    let is = All-contains (IsWritten basis) written one c.requires (contains_at written i one here) in
    let Keeps : Written → Type 0 = λ other. (p : PropId) → is_lost basis (region_in other) p ≡ false in
    subst (All Keeps) (sym (take_item written i one here))
    (All-push Keeps (take i written) one c.loop-one.invariant (none_lost basis one is (sym c.lost_prop.ensures ∙ c.in_default.is)))

pub returns-clause-none : goal.returns-clause-none
returns-clause-none c =
    let Keeps : Written → Type 0 = λ one. (p : PropId) → is_lost (basis_of c.args.parts.now) (region_in one) p ≡ false in
    subst (All Keeps) (take_all c.loop-one.one-index c.args.written.now c.loop-one-test.false) c.loop-one.invariant
