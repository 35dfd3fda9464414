use Rattle.std.proofs.Common.{◌≡◌, ◌∙◌, ◌+◌, ◌++◌, List, drop, ℤ, ◌+ℤ◌, pos, ap, refl, rules, to_z, of_z, arith}
use Rattle.std.proofs.lemmas.Grind.{common_steps}
use Rattle.std.specs.Int.{w128}
use Rattle.std.proofs.lemmas.Option.{slice_get_read}
use Rattle.csdl_types.specs.Numbers.{numbers_from}
use Rattle.csdl_types.proofs.Counting.{next_upto, numbers_more}
use Rattle.csdl_types.proofs.numbers.numbers_of.Goals as goal

pub loop-member-preserved : goal.loop-member-preserved
loop-member-preserved c =
    let next : to_z w128 (of_z w128 c.one_more-next.result) ≡ c.one_more-next.result = search rules in
    let number : to_z w128 (of_z w128 c.number_at-number.result) ≡ c.number_at-number.result = search rules in
    let after = next ∙ c.one_more-next.ensures in (
      ap (λ (made : List ℤ). made ++ numbers_from (to_z w128 (of_z w128 c.one_more-next.result)) (drop (c.loop-member.member-index + 1) c.as_slice-member-items.result.now)) c.in_ok-push.ensures.items
          ∙ numbers_more _ c.loop-member.member-index c.member-item.result c.loop-member.numbers.items _ (to_z w128 (of_z w128 c.number_at-number.result)) _
          (slice_get_read _ _ c.loop-member.member-index _ refl c.loop-member-test.true c.member-item.is) (number ∙ c.number_at-number.ensures.number) after
          ∙ c.loop-member.invariant.0,
      next_upto _ c.number_at-number.result _ c.loop-member.member-index c.loop-member.invariant.1 c.number_at-number.ensures.upto (after ∙ ap (λ (n : ℤ). n +ℤ pos 1) number),
    )

pub loop-member-init : goal.loop-member-init
loop-member-init c = (
  ap (λ (made : List ℤ). made ++ numbers_from (pos 0) c.as_slice-member-items.result.now) c.new-numbers.ensures.items
      ∙ ap (numbers_from (pos 0)) c.as_slice-member-items.ensures.items,
  search rules,
)

pub returns : goal.returns
returns c = grind (arith, common_steps)
