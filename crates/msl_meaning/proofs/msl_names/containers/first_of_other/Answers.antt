use Rattle.std.proofs.Common.{◌≡◌, ◌↔◌, ◌∷◌, [], IsTrue, sym, ◌∙◌}
use Rattle.std.specs.Str.{bytes_eq}
use Rattle.std.proofs.lemmas.Slice.Eq.{bytes_eq-Decides}
use Rattle.json_form.specs.declared.pointer.Step.TheVariants.{Member}
use Rattle.layouts.specs.declared.rule.Rule.TheVariants.{ContainerName}
use Rattle.layouts.specs.rule_places.Places.{IsAt}
use Rattle.layouts.proofs.rule_places.Rules.{least_where}
use Rattle.msl_rules.proofs.Named.{denies}
use Rattle.msl_meaning.proofs.msl_names.containers.first_of_other.Goals as goal

pub returns : goal.returns
returns c =
    let name = c.as_str.result.now in
    let container = c.as_str-2.result.now in
    let same : IsTrue (bytes_eq name container) ↔ (c.args.name.now ≡ c.args.container.now) = (
      λ yes. sym c.as_str.ensures.text ∙ (bytes_eq-Decides name container).0 yes ∙ c.as_str-2.ensures.text,
      λ is. (bytes_eq-Decides name container).1 (c.as_str.ensures.text ∙ is ∙ sym c.as_str-2.ensures.text),
    ) in
    least_where (IsAt ContainerName (Member c.args.member.now ∷ [])) c.in_ok-found.found
    (denies c.ne-is_other.result (bytes_eq name container) same c.ne-is_other.ensures) c.in_ok-found.ensures
