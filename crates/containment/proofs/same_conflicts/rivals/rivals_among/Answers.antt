use Rattle.std.proofs.Common.{◌≡◌, ◌<◌, ℕ, AllPairs, false, length, take, get_or, refl, sym, subst}
use Rattle.std.proofs.lemmas.List.{take_all, take_more}
use Rattle.std.proofs.lemmas.List.Elements.{All-take}
use Rattle.std.proofs.lemmas.List.Quantifiers.{all_pairs_push}
use Rattle.std.proofs.lemmas.Option.{slice_get_read}
use Rattle.emc_base.specs.Lists.{At}
use Rattle.emc_base.proofs.Lists.{at_once}
use Rattle.region_states.specs.region_basis.BasisOf.{basis_of}
use Rattle.containment.specs.declared.same_conflicts.written.Written.{Written}
use Rattle.containment.specs.same_conflicts.Matching.{rows_alike}
use Rattle.containment.specs.same_conflicts.Rivals.{DifferAt}
use Rattle.containment.proofs.Turns.{two_of}
use Rattle.containment.proofs.same_conflicts.rivals.rivals_among.Goals as goal

pub loop-later-preserved : goal.loop-later-preserved
loop-later-preserved c =
    let basis = basis_of c.args.parts.now in
    let written = c.args.written.now in
    let alike = c.args.alike.now in
    let i = c.loop-later.later in
    let two = c.index-written-place.result in
    let place : ℕ = get_or alike i 0 in
    let R : ℕ → ℕ → Type 0 = DifferAt basis written in
    let within : place < length written = c.requires i 0 c.loop-later-test.true in
    let here : At written place two = slice_get_read _ _ place _ refl within c.index-written-place.is in
    subst (AllPairs R) (sym (take_more alike i 0 c.loop-later-test.true))
    (all_pairs_push R (take i alike) place c.loop-later.invariant
    (λ k d under one other at_one at_other.
    let is : two ≡ other = at_once written place two other here at_other in
    let Differs : Written → Type 0 = λ last. rows_alike basis one last ≡ false in
    subst Differs is (c.in_default.ensures.none k d under one at_one)))

pub returns-clause-none : goal.returns-clause-none
returns-clause-none c = subst (AllPairs (DifferAt (basis_of c.args.parts.now) c.args.written.now)) (take_all c.loop-later.later c.args.alike.now c.loop-later-test.false)
    c.loop-later.invariant

pub rival_of-requires : goal.rival_of-requires
rival_of-requires c = let Within : ℕ → Type 0 = λ place. place < length c.args.written.now in All-take Within c.loop-later.later c.args.alike.now c.requires

pub returns-in-Some-clause-found : goal.returns-in-Some-clause-found
returns-in-Some-clause-found c =
    let written = c.args.written.now in
    let alike = c.args.alike.now in
    let j = c.loop-later.later in
    let place : ℕ = get_or alike j 0 in
    let within : place < length written = c.requires j 0 c.loop-later-test.true in
    let found = c.in-Some.ensures.found in
    two_of (basis_of c.args.parts.now) written alike j found.0 found.1 c.in-Some.one.now c.index-written-place.result _ c.loop-later-test.true
    found.2 found.3 (slice_get_read _ _ place _ refl within c.index-written-place.is) refl refl found.4
