use Rattle.std.proofs.Common.{◌≡◌, ◌↔◌, All, IsTrue, Some, not, refl, sym, ◌∙◌}
use Rattle.msl_rules.proofs.Named.{denies}
use Rattle.msl_meaning.specs.msl_picks.PickedProps.{prop_in}
use Rattle.msl_meaning.proofs.msl_picks.EachPick.{none_picked, nowhere, unshared}
use Rattle.msl_meaning.proofs.msl_picks.shared.OfPicks.names_no_shared.Goals as goal

pub returns-in_default : goal.returns-in_default
returns-in_default c =
    let self = c.args.self.now in
    (λ no. absurd cc, λ never. absurd (none_picked self.names.now.model.now c.args.name.now self.picks.now self.types.now self.named c.in_default.ensures.cases never))

pub returns-in_default-prop_in : goal.returns-in_default-prop_in
returns-in_default-prop_in c =
    let self = c.args.self.now in
    let never = nowhere self.names.now.model.now c.args.name.now self.picks.now self.types.now self.named c.in-Some.first.now c.in-Some.others.now c.in-Some.ensures.cases.0
    (sym c.prop_in.ensures ∙ c.in_default-prop_in.is) in
    (λ yes. never, λ none. refl)

pub returns : goal.returns
returns c =
    let self = c.args.self.now in
    let model = self.names.now.model.now in
    let name = c.args.name.now in
    let shared = c.in-Some-prop_in.shared in
    let others = c.in-Some.others.now in
    let each = c.each_has_prop.result in
    let tells : IsTrue (not each) ↔ (¬ All (λ ty. prop_in model name ty ≡ Some shared) others) = denies (not each) each c.each_has_prop.ensures refl in
    let same = unshared model name self.picks.now self.types.now self.named c.in-Some.first.now others shared c.in-Some.ensures.cases.0 (sym c.prop_in.ensures ∙ c.in-Some-prop_in.is) in
    (λ yes. same.0 (tells.0 yes), λ never. tells.1 (same.1 never))
