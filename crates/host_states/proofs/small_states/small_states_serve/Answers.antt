use Rattle.host_states.proofs.small.SmallHosts.{small_host, small_leave, small_rival}
use Rattle.host_states.proofs.small_states.small_states_serve.Goals as goal

pub returns-clause-hosts : goal.returns-clause-hosts
returns-clause-hosts c = small_host

pub returns-clause-rivals : goal.returns-clause-rivals
returns-clause-rivals c = small_rival

pub returns-clause-leaves : goal.returns-clause-leaves
returns-clause-leaves c = small_leave
