use Rattle.schema_laws.proofs.sound_demand.tuples.Tuples.{agrees_at_entities, agrees_at_hosts, shows_every_row}
use Rattle.schema_laws.proofs.sound_demand.tuples_are_decided_at_their_key.Goals as goal

pub returns-clause-entities : goal.returns-clause-entities
returns-clause-entities c schema sound state tables of owner pairing fragment table is =
    agrees_at_entities schema sound state of.legal tables of.are fragment is.mapped table is.is_table owner pairing is.owned

pub returns-clause-hosted : goal.returns-clause-hosted
returns-clause-hosted c schema sound state tables of owner pairing assoc fragment table is =
    agrees_at_hosts schema sound state of.legal tables of.are fragment is.to.mapped table is.to.is_table assoc is.to.is_assoc owner pairing is.owned

pub returns-clause-joined : goal.returns-clause-joined
returns-clause-joined c schema sound state tables of assoc fragment table is =
    shows_every_row schema sound state of.legal tables of.are fragment is.to.mapped table is.to.is_table assoc is.to.is_assoc is.joined
