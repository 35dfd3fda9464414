use Rattle.std.proofs.Common.{◌≡◌, Contains, List, Option, true, false, map, refl, sym, subst, ◌∙◌}
use Rattle.std.specs.Option.{IfNone, IfSome}
use Rattle.std.proofs.lemmas.Option.{same_Some}
use Rattle.round_trip.specs.declared.FailKind.TheVariants as kind
use Rattle.regions.specs.declared.region.Region.{Region}
use Rattle.region_states.specs.region_basis.BasisOf.{basis_of}
use Rattle.region_states.specs.conflicts.Conflicts.{IsConflictAt}
use Rattle.region_states.specs.conflicts.SameFacts.{are_rivals}
use Rattle.region_states.specs.declared.conflicts.conflict.Conflict.TheVariants as conflict
use Rattle.containment.specs.declared.same_conflicts.rivals.Rivals.{Rivals}
use Rattle.containment.specs.declared.same_conflicts.written.Written.{Written}
use Rattle.containment.specs.same_conflicts.Written.{region_in}
use Rattle.containment.proofs.same_conflicts.Telling.{absent_told, lost_told, none_told, rivals_told}
use Rattle.containment.proofs.same_conflicts.first.same_among.Goals as goal

pub returns-in-Some-clause-told : goal.returns-in-Some-clause-told
returns-in-Some-clause-told c = λ s are.
    let basis = basis_of c.args.parts.now in
    let told = absent_told basis s c.args.written.now are c.in-Some.one.now (sym c.in-Some.ensures) c.in_ok-copy_region.field-0 c.in_ok-copy_region.ensures in
    λ one same. subst (IsConflictAt basis s kind.Same) (same_Some (conflict.Absent c.in_ok-copy_region.field-0) one same) told

pub returns-in-Some-first_lost-clause-told : goal.returns-in-Some-first_lost-clause-told
returns-in-Some-first_lost-clause-told c = λ s are.
    let basis = basis_of c.args.parts.now in
    let lost = c.in-Some-first_lost.lost in
    let facts = c.in-Some-first_lost.ensures.found in
    let told = lost_told basis s c.args.written.now are lost.region.now lost.prop facts.0 facts.1 c.in_ok-copy_region-2.field-0 c.in_ok-copy_region-2.ensures in
    λ one same. subst (IsConflictAt basis s kind.Same) (same_Some (conflict.Lost c.in_ok-copy_region-2.field-0 lost.prop) one same) told

pub returns-in_ok-rival-in-Some-2-clause-told : goal.returns-in_ok-rival-in-Some-2-clause-told
returns-in_ok-rival-in-Some-2-clause-told c = λ s are.
    let basis = basis_of c.args.parts.now in
    let written = c.args.written.now in
    let rivals = c.in-Some-2.rivals in
    let Found : Option Rivals → Type 0 = λ found. IfSome found (λ (two : Rivals). Contains (map region_in written) two.one.now × Contains (map region_in written) two.two.now
    × (are_rivals basis two.one.now two.two.now ≡ true)) in
    let facts = subst Found c.in-Some-2.is c.in_ok-rivals.ensures.found in
    let told = rivals_told basis s written are rivals.one.now rivals.two.now facts.0 facts.1 facts.2 rivals.one.now rivals.two.now refl refl in
    λ one same. subst (IsConflictAt basis s kind.Same) (sym c.in_ok-rival-in-Some-2.ensures ∙ same_Some c.in_ok-rival-in-Some-2.field-0 one same) told

pub returns-in-None-clause-free : goal.returns-in-None-clause-free
returns-in-None-clause-free c = λ s are none.
    let basis = basis_of c.args.parts.now in
    let written = c.args.written.now in
    let Free : List Written → Type 0 = λ list. (one two : Region) → Contains (map region_in list) one → Contains (map region_in list) two → are_rivals basis one two ≡ false in
    let NoneFound : Option Rivals → Type 0 = λ found. IfNone found (Free written) in
    let no_rivals = subst NoneFound c.in-None.is c.in_ok-rivals.ensures.none in
    none_told basis s written are (sym c.in_default.ensures) c.in_default-first_lost.ensures.none no_rivals
