use Rattle.case_laws.proofs.filled_rows.Entities.{each, whole}
use Rattle.case_laws.proofs.filled_rows.entity_rows_are_demanded.Goals as goal

pub returns-clause-each : goal.returns-clause-each
returns-clause-each c basis is state legal no_clash s few entity links region held = each basis is state legal s few entity links region held no_clash

pub returns-clause-whole : goal.returns-clause-whole
returns-clause-whole c basis is state legal s few entity links region held = whole basis is state legal s few entity links region held
