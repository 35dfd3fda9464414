use Rattle.schema_laws.proofs.sound_demand.tuples.Tuples.{joined_tuple, same_link_tuple, same_tuple}
use Rattle.schema_laws.proofs.sound_demand.tuples_of_one_key_are_one.Goals as goal

pub returns-clause-entities : goal.returns-clause-entities
returns-clause-entities c schema sound state tables of owner pairing fragment table is =
    same_tuple schema sound state of.legal tables of.are fragment is.mapped table is.is_table owner pairing is.owned

pub returns-clause-hosted : goal.returns-clause-hosted
returns-clause-hosted c schema sound state tables of owner pairing assoc fragment table is =
    same_link_tuple schema sound state of.legal tables of.are fragment is.to.mapped table is.to.is_table assoc is.to.is_assoc owner pairing is.owned

pub returns-clause-joined : goal.returns-clause-joined
returns-clause-joined c schema sound state tables of assoc fragment table is =
    joined_tuple schema sound state of.legal tables of.are fragment is.to.mapped table is.to.is_table assoc is.to.is_assoc is.joined
