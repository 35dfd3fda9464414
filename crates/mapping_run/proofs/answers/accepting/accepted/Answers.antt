use Rattle.mapping_run.proofs.answers.Accepted.{accepts_meant}
use Rattle.mapping_run.proofs.answers.accepting.accepted.Goals as goal

pub accepted_schema-requires : goal.accepted_schema-requires
accepted_schema-requires c = record { csdl = c.at.result.now; ssdl = c.at-2.result.now; msl = c.at-3.result.now; read = c.in-Ok.ensures }

pub returns-in-Ok : goal.returns-in-Ok
returns-in-Ok c = accepts_meant c.args.contents.now c.at.result.now c.at-2.result.now c.at-3.result.now c.at.ensures c.at-2.ensures c.at-3.ensures
    c.in-Ok.schema c.in-Ok.ensures c.accepted_schema.result c.accepted_schema.ensures
