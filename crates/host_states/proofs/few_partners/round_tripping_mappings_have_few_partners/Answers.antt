-- Few partners, by the state of two.
use Rattle.round_trip.specs.declared.FailKind.TheVariants as kind
use Rattle.host_states.proofs.FewPartners.{few_by_clear, many_clash}
use Rattle.host_states.proofs.few_partners.round_tripping_mappings_have_few_partners.Goals as goal

pub returns-clause-clashes : goal.returns-clause-clashes
returns-clause-clashes c = many_clash

pub returns-clause-few : goal.returns-clause-few
returns-clause-few c = few_by_clear

pub returns-clause-round_trips : goal.returns-clause-round_trips
returns-clause-round_trips c basis is limits trips = few_by_clear basis is limits (trips kind.Clash)
