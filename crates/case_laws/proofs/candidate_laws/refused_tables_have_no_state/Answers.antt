use Rattle.case_laws.proofs.candidate_laws.OwnView.{case_met}
use Rattle.case_laws.proofs.candidate_laws.SameCandidate.{legal_too, rows_same}
use Rattle.case_laws.proofs.candidate_laws.refused_tables_have_no_state.Goals as goal

pub returns-clause-lack : goal.returns-clause-lack
returns-clause-lack c basis is limits round is_free decides tables s key lacks state legal has =
    case_met basis is limits round is_free decides state legal tables has s key lacks

pub returns-clause-illegal : goal.returns-clause-illegal
returns-clause-illegal c basis is limits round is_free decides tables candidate of_tables illegal state legal has =
    illegal (legal_too basis is limits round is_free decides tables candidate of_tables state legal has)

pub returns-clause-differs : goal.returns-clause-differs
returns-clause-differs c basis is limits round is_free decides tables candidate of_tables fresh are differ state legal has =
    differ has.erased has.are_erased (rows_same basis is limits round is_free decides tables candidate of_tables state legal has fresh are)
