use Rattle.std.proofs.Common.{◌≡◌, ◌≤◌, ◌<◌, List, length, Option, None, IsSome, refl, ap, subst, ◌∙◌, arith}
use Rattle.std.proofs.lemmas.Option.{slice_get_read, slice_get_within}
use Rattle.round_trip.specs.Words.{At}
use Rattle.regions.specs.declared.region.Region.{Region}
use Rattle.region_states.specs.region_basis.BasisOf.{basis_of}
use Rattle.region_states.specs.conflicts.There.{FailsThere}
use Rattle.region_states.specs.declared.conflicts.conflict.Conflict.{Conflict}
use Rattle.mapping_core.proofs.mapping_verdict.Sets.{so_of_one_more}
use Rattle.mapping_core.proofs.mapping_verdict.failures.conflict_of_sets.Goals as goal

-- the regions at hand are those of the set
pub first_conflict-requires-clause-regions : goal.first_conflict-requires-clause-regions
first_conflict-requires-clause-regions c =
    let i = c.loop-index.index in
    let of_set = c.of_set-item.result in
    c.requires.regions.each (record { index = i }) of_set
    (subst (λ (list : List (List Region)). At list i of_set) c.as_slice-of_set-items.ensures.items (slice_get_read _ _ i _ refl c.loop-index-test.true c.of_set-item.is))

pub returns-in-Some-clause-told : goal.returns-in-Some-clause-told
returns-in-Some-clause-told c = λ conflict same. (
  record { index = c.loop-index.index },
  c.in_ok-conflict.ensures.told conflict (c.in-Some.is ∙ same),
  c.in_ok-conflict.ensures.so c.requires.earlier conflict (c.in-Some.is ∙ same),
)

-- this set has no conflict, so no state fails there
pub loop-index-preserved : goal.loop-index-preserved
loop-index-preserved c =
    let i = c.loop-index.index in
    let Found : Option Conflict → Type 0 = λ found. IsSome found in
    so_of_one_more (λ n. ¬ FailsThere (basis_of c.args.parts.now) (record { index = n }) c.args.kind) i c.loop-index.invariant
    (λ fails. let no : Found None = subst Found c.in_default.is ((c.in_ok-conflict.ensures.exact c.requires.earlier).1 fails) in absurd cc)

-- each set has been looked at
pub returns-clause-none : goal.returns-clause-none
returns-clause-none c = λ same s set at.
    let sets = c.args.parts.now.model.now.sets in
    let within : s.index < length sets = slice_get_within sets s.index set at in
    let count : length c.args.regions.now ≡ length sets = c.requires.regions.count in
    let items : length c.as_slice-of_set-items.result.now ≡ length c.args.regions.now = ap length c.as_slice-of_set-items.ensures.items in
    let end : length c.as_slice-of_set-items.result.now ≤ c.loop-index.index = c.loop-index-test.false in
    c.loop-index.invariant s.index (omega (arith, within, count, items, end))
