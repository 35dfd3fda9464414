use Rattle.host_states.proofs.Hosts.{states_host, states_leave, states_rival}
use Rattle.host_states.proofs.regions_have_states.Goals as goal

pub returns-clause-hosts : goal.returns-clause-hosts
returns-clause-hosts c = states_host

pub returns-clause-rivals : goal.returns-clause-rivals
returns-clause-rivals c = states_rival

pub returns-clause-leaves : goal.returns-clause-leaves
returns-clause-leaves c = states_leave
