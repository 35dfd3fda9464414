use Rattle.case_laws.proofs.reading.ReadBack.{alone_by_keys, read_back}
use Rattle.case_laws.proofs.reading.Telling.{some_told}
use Rattle.case_laws.proofs.a_met_case_tells_an_entity.Goals as goal

pub returns-clause-told : goal.returns-clause-told
returns-clause-told c basis is is_free decides s region readable tables have key met =
    some_told is_free basis is decides s region readable tables key met (alone_by_keys is_free basis is decides s region readable tables have key)

pub returns-clause-each : goal.returns-clause-each
returns-clause-each c basis is is_free decides s region readable tables have key met entity links told =
    read_back is_free basis is decides s region readable tables key met (alone_by_keys is_free basis is decides s region readable tables have key) entity links told
