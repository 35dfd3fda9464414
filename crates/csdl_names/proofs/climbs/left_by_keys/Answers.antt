use Rattle.std.proofs.Common.{◌≡◌, ◌+◌, ℕ, List, sum_by, take, sym, ap, subst, ◌∙◌}
use Rattle.std.specs.List.{enumerate_from}
use Rattle.emc_base.specs.Lists.{At}
use Rattle.emc_base.proofs.Loops.{at_enumerated, take-enumerated}
use Rattle.csdl_names.specs.declared.csdl_lists.raw.RawType.{RawType}
use Rattle.csdl_names.specs.csdl_lists.References.{names_in}
use Rattle.csdl_names.specs.Climbs.{steps_of_key, steps_of_keys}
use Rattle.csdl_names.proofs.StepsLeft.{refuses, takes_more, takes_over}
use Rattle.csdl_names.proofs.climbs.left_by_keys.Goals as goal

pub returns-in_err-left : goal.returns-in_err-left
returns-in_err-left c =
    let model = c.args.lookups.now.model.now in
    let i = c.loop-place.place in
    let item = c.ty-item.result in
    let steps : ℕ × RawType → ℕ = λ placed. steps_of_key (names_in model) model placed.0 placed.1 in
    let Here : List RawType → Type 0 = λ xs. At (enumerate_from 0 xs) i (i, item) in
    let here = subst Here c.as_slice-ty-items.ensures.items (at_enumerated c.as_slice-ty-items.result.now i item c.loop-place-test.true c.ty-item.is) in
    refuses c.args.most (steps_of_keys (names_in model) model) c.from_residual.result c.from_residual.ensures.0
    (takes_over steps (enumerate_from 0 model.types) i c.args.most c.loop-place.left c.loop-place.invariant (i, item) here c.in_err-left.ensures)

pub loop-place-preserved : goal.loop-place-preserved
loop-place-preserved c =
    let model = c.args.lookups.now.model.now in
    let i = c.loop-place.place in
    let item = c.ty-item.result in
    let steps : ℕ × RawType → ℕ = λ placed. steps_of_key (names_in model) model placed.0 placed.1 in
    let Here : List RawType → Type 0 = λ xs. At (enumerate_from 0 xs) i (i, item) in
    let here = subst Here c.as_slice-ty-items.ensures.items (at_enumerated c.as_slice-ty-items.result.now i item c.loop-place-test.true c.ty-item.is) in
    takes_more steps (enumerate_from 0 model.types) i c.args.most c.loop-place.left c.loop-place.invariant (i, item) c.in_ok-left.left here c.in_ok-left.ensures

pub returns : goal.returns
returns c =
    let model = c.args.lookups.now.model.now in
    let i = c.loop-place.place in
    let steps : ℕ × RawType → ℕ = λ placed. steps_of_key (names_in model) model placed.0 placed.1 in
    let Taken : List RawType → Type 0 = λ xs. take i (enumerate_from 0 xs) ≡ enumerate_from 0 xs in
    let all = subst Taken c.as_slice-ty-items.ensures.items (take-enumerated c.as_slice-ty-items.result.now i c.loop-place-test.false) in
    ap (λ (xs : List (ℕ × RawType)). c.loop-place.left + sum_by steps xs) (sym all) ∙ c.loop-place.invariant
