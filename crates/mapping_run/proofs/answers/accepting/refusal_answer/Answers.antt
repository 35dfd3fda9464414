use Rattle.std.proofs.Common.{subst}
use Rattle.mapping_run.specs.answers.Answers.{ShowsFailure}
use Rattle.mapping_run.proofs.answers.accepting.refusal_answer.Goals as goal

pub fail_text-requires : goal.fail_text-requires
fail_text-requires c = subst ShowsFailure c.in-Fails.is c.requires
