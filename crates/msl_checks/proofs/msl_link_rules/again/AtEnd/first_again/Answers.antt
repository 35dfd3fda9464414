use Rattle.std.proofs.Common.{◌⊎◌, ⊎_elim, inl, inr, ℕ, [], codes}
use Rattle.layouts.specs.declared.fault.Fault.{Fault}
use Rattle.layouts.specs.declared.rule.Rule.TheVariants.{WrittenOnce}
use Rattle.layouts.specs.rule_places.Places.{InList, IsAt}
use Rattle.layouts.proofs.rule_places.LeastFound.{least_in_list}
use Rattle.layouts.proofs.rule_places.Rules.{least_in_list_of_both, least_joined}
use Rattle.msl_rules.specs.declared.msl_lists.raw.RawPair.{RawPair}
use Rattle.msl_rules.specs.FragmentRules.{IsWrittenBefore}
use Rattle.msl_rules.specs.LinkRules.{IsWrittenAgain, IsWrittenAtEarlierEnd}
use Rattle.msl_checks.proofs.msl_link_rules.again.AtEnd.first_again.Goals as goal

pub returns : goal.returns
returns c =
    let self = c.args.self.now in
    let end = c.args.end.now in
    let member = codes "ScalarProperty" in
    let There : Fault → Type 0 = IsAt WrittenOnce [] in
    let Before : ℕ → RawPair → Fault → Type 0 = λ k pair inside. IsWrittenBefore end.pairs k pair × There inside in
    let Earlier : ℕ → RawPair → Fault → Type 0 = λ k pair inside. IsWrittenAtEarlierEnd self.ends.now self.place pair × There inside in
    let Again : ℕ → RawPair → Fault → Type 0 = λ k pair inside. IsWrittenAgain self.ends.now self.place end k pair × There inside in
    least_in_list member (λ k pair inside. Before k pair inside ⊎ Earlier k pair inside) Again end.pairs c.earlier.result
    (λ k pair inside. ⊎_elim (λ (one : Before k pair inside). (inl one.0, one.1)) (λ (other : Earlier k pair inside). (inr other.0, other.1)))
    (λ k pair inside again. ⊎_elim (λ one. inl (one, again.1)) (λ other. inr (other, again.1)) again.0)
    (least_in_list_of_both member Before Earlier end.pairs c.earlier.result
    (least_joined (InList member Before end.pairs) (InList member Earlier end.pairs) c.in_ok-in_list.in_list c.in_ok-in_earlier.in_earlier c.earlier.result c.earlier.ensures
    c.in_ok-in_list.ensures c.in_ok-in_earlier.ensures))
