use Rattle.std.proofs.Common.{◌∙◌, None, Some, ap, lit<, rules, sym}
use Rattle.std.proofs.lemmas.Str.Pattern.{strip_suffix_char}
use Rattle.msl_rules.specs.msl_lists.Picks.{skip_last_spaces}
use Rattle.msl_rules.proofs.msl_lists.Spaces.{end_stays, last_goes}
use Rattle.msl_rules.proofs.msl_lists.picks.without_spaces_behind.Goals as goal

pub loop-rest-preserved : goal.loop-rest-preserved
loop-rest-preserved c = (
  search rules,
  sym (last_goes c.in-Some.rest.now)
      ∙ sym (ap skip_last_spaces (strip_suffix_char 32 c.loop-rest.text.now (Some c.in-Some.rest) c.in-Some.ensures.cases (lit< tt)))
      ∙ c.loop-rest.invariant.1,
)

pub returns : goal.returns
returns c = sym (end_stays c.loop-rest.text.now (strip_suffix_char 32 c.loop-rest.text.now None c.in_default.ensures.cases (lit< tt))) ∙ c.loop-rest.invariant.1
