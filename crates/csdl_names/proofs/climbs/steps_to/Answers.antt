use Rattle.std.proofs.Common.{◌≡◌, ◌+◌, ℕ, length, sym, ap, ◌∙◌, arith}
use Rattle.std.specs.Option.{is_some}
use Rattle.csdl_names.specs.csdl_lists.References.{names_in}
use Rattle.csdl_names.specs.Climbs.{steps_upto}
use Rattle.csdl_names.proofs.PropClimbs.{one_left}
use Rattle.csdl_names.proofs.StepsLeft.{goes_to_base}
use Rattle.csdl_names.proofs.climbs.steps_to.Goals as goal

pub loop-steps-preserved : goal.loop-steps-preserved
loop-steps-preserved c =
    let model = c.args.lookups.now.model.now in
    let name = c.args.name.now in
    let steps = c.loop-steps.steps in
    let base = c.in-Some.base in
    let inv = c.loop-steps.invariant in
    let one = one_left inv.0 steps (length model.types) c.len-count.result inv.1 inv.2 c.loop-steps-test.true in
    let more : ℕ = steps_upto (names_in model) model one.0 base name in
    let regroup : steps + 1 + more ≡ steps + (1 + more) = omega arith in
    let next = goes_to_base (names_in model) model name one.0 c.loop-steps.place base (ap is_some (sym c.own_prop.ensures) ∙ sym c.if-is_some.ensures) (sym c.base.ensures ∙ c.in-Some.is) in (
      one.0,
      one.2,
      inv.2,
      regroup
          ∙ ap (λ (n : ℕ). steps + n) (sym next)
          ∙ ap (λ (n : ℕ). steps + steps_upto (names_in model) model n c.loop-steps.place name) (sym one.1)
          ∙ inv.3,
    )
