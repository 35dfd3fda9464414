use Rattle.std.proofs.Common.{◌∙◌, None, lit<, sym}
use Rattle.std.proofs.lemmas.Str.Pattern.{strip_prefix_char}
use Rattle.msl_rules.proofs.msl_lists.Spaces.{front_stays}
use Rattle.msl_rules.proofs.msl_lists.picks.without_spaces_before.Goals as goal

pub returns : goal.returns
returns c = sym (front_stays c.loop-rest.text.now (strip_prefix_char 32 c.loop-rest.text.now None c.in_default.ensures.cases (lit< tt))) ∙ c.loop-rest.invariant.1
