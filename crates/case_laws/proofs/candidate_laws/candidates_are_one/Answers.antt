use Rattle.case_laws.proofs.candidate_laws.OneCandidate.{one_candidate}
use Rattle.case_laws.proofs.candidate_laws.candidates_are_one.Goals as goal

pub returns : goal.returns
returns c = one_candidate
