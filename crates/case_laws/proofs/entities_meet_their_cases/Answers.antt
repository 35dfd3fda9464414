use Rattle.case_laws.proofs.own.Own.{meets}
use Rattle.case_laws.proofs.own.OwnTold.{entity_told, links_told}
use Rattle.case_laws.proofs.entities_meet_their_cases.Goals as goal

pub returns-clause-meets : goal.returns-clause-meets
returns-clause-meets c basis is is_free decides state legal tables has s few entity links region held clear =
    meets is_free basis is decides state legal tables has s few entity links region held clear

pub returns-clause-entity : goal.returns-clause-entity
returns-clause-entity c basis is is_free decides state legal tables has s few entity links region held clear =
    entity_told is_free basis is decides state legal tables has s few entity links region held clear

pub returns-clause-links : goal.returns-clause-links
returns-clause-links c basis is is_free decides state legal tables has s few entity links region held clear =
    links_told is_free basis is decides state legal tables has s few entity links region held clear
