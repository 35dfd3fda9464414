use Rattle.case_laws.proofs.candidate_laws.OwnView.{case_met}
use Rattle.case_laws.proofs.candidate_laws.SameCandidate.{same}
use Rattle.case_laws.proofs.candidate_laws.a_state_is_its_candidate.Goals as goal

pub returns-clause-met : goal.returns-clause-met
returns-clause-met c basis is limits round is_free decides state legal tables has s key = case_met basis is limits round is_free decides state legal tables has s key

pub returns-clause-same : goal.returns-clause-same
returns-clause-same c basis is limits round is_free decides state legal tables has candidate of_tables =
    same basis is limits round is_free decides tables candidate of_tables state legal has
