use Rattle.case_laws.proofs.own.OwnCase.{row_there, told_is_own}
use Rattle.case_laws.proofs.reading.Whole.{key_of_row}
use Rattle.case_laws.proofs.the_state_is_read_back.Goals as goal

pub returns-clause-keys : goal.returns-clause-keys
returns-clause-keys c basis is state legal tables has s key whole t held at = key_of_row basis is state legal tables has s key whole t held at

pub returns-clause-rows : goal.returns-clause-rows
returns-clause-rows c basis is limits round is_free decides state legal tables has s entity stands =
    row_there basis is limits round is_free decides state legal tables has s entity stands

pub returns-clause-told : goal.returns-clause-told
returns-clause-told c basis is limits round is_free decides state legal tables has s entity links region held other listed met it told are_told =
    told_is_own basis is limits round is_free decides state legal tables has s entity links region held other listed met it told are_told
