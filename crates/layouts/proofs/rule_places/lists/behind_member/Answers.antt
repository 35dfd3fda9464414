use Rattle.std.proofs.Common.{List, ℕ, ap, ◌∙◌}
use Rattle.std.specs.Option.{option_map}
use Rattle.json_form.specs.declared.pointer.Step.TheVariants.{Member}
use Rattle.layouts.specs.Inside.{after}
use Rattle.layouts.proofs.rule_places.lists.behind_member.Goals as goal

pub returns : goal.returns
returns c = c.in_ok-seen.ensures ∙ ap (λ (name : List ℕ). option_map (after (Member name)) c.args.found) c.in_ok-of.ensures
