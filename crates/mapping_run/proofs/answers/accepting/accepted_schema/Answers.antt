use Rattle.mapping_run.proofs.answers.Accepted.{refuses_decided, shows_decided}
use Rattle.mapping_run.proofs.answers.accepting.accepted_schema.Goals as goal

pub refusal_told-halt-requires : goal.refusal_told-halt-requires
refusal_told-halt-requires c = shows_decided c.args.schema c.in-Err.refusal c.in-Err.ensures

pub returns-in-Err : goal.returns-in-Err
returns-in-Err c = refuses_decided c.args.schema c.in-Err.refusal c.in-Err.ensures c.refusal_told-halt.result c.refusal_told-halt.ensures
