use Rattle.std.proofs.Common.{List, refl, sym, subst, ◌∙◌}
use Rattle.std.specs.BTreeSet.{BTreeSet}
use Rattle.std.proofs.lemmas.Option.{slice_get_read}
use Rattle.round_trip.specs.Words.{Value}
use Rattle.member_groups.specs.group_constants.Constants.{AddsIn, Compares, IsComparison}
use Rattle.member_groups.proofs.group_numbers.Joint.{no_joint, one_joint}
use Rattle.member_groups.proofs.group_constants.Sets.{adds_in_as, adds_in_next, adds_in_nothing}
use Rattle.member_groups.proofs.group_constants.constants.add_compared.Goals as goal
use Rattle.member_groups.proofs.group_constants.constants.add_compared.Goals.{in-Some+in_ok-add_constant, in_default}

pub loop-ask-preserved : goal.loop-ask-preserved
loop-ask-preserved c =
    let n = c.loop-ask.ask-index in
    let x = c.ask-item.result in
    let By = Compares c.args.numbered.now in
    let so_far = c.loop-ask.sets.items in
    let Comes : List (BTreeSet Value) → Type 0 = λ after. AddsIn (By x) so_far after in
    adds_in_next By c.args.asks.now n x c.args.sets.now.items so_far c.match-joint.sets.items
    (slice_get_read _ _ n _ refl c.loop-ask-test.true c.ask-item.is) c.loop-ask.invariant
    (elim c.match-joint.branch [
      | in-Some+in_ok-add_constant w ↦ let group = w.in-Some.group in
          let number = one_joint _ group (sym c.joint.ensures ∙ w.in-Some.is) in
          subst Comes (sym (λ k. (w.sets-is k).items))
          (adds_in_as (IsComparison group x.constant) (By x) so_far w.add_constant.new.sets.items
          (λ entry. (λ some. ((number entry.0).0 some.0, some.1), λ some. ((number entry.0).1 some.0, some.1))) w.in_ok-add_constant.ensures)
      | in_default w ↦ subst Comes (sym (λ k. (w.sets-is k).items))
          (adds_in_nothing (By x) so_far (λ entry within is. no_joint _ (sym c.joint.ensures ∙ w.in_default.is) entry.0 is.0))
    ])
