use Rattle.case_laws.proofs.own.OneCase.{one_case, reading}
use Rattle.case_laws.proofs.own.OwnCase.{own_case}
use Rattle.case_laws.proofs.reading.ReadBack.{alone_by_keys}
use Rattle.case_laws.proofs.reading.RoundTripping.{readable}
use Rattle.case_laws.proofs.no_other_case_is_met.Goals as goal

pub returns-clause-readable : goal.returns-clause-readable
returns-clause-readable c basis is limits round s region listed = readable basis is limits round s region listed

pub returns-clause-one : goal.returns-clause-one
returns-clause-one c basis is limits round is_free decides tables have s key one two has_one has_two met_one met_two =
    one_case basis is limits round is_free decides s tables key one two
    (reading basis is limits round is_free decides s tables key one has_one met_one
    (alone_by_keys is_free basis is decides s one (readable basis is limits round s one has_one) tables have key))
    (reading basis is limits round is_free decides s tables key two has_two met_two
    (alone_by_keys is_free basis is decides s two (readable basis is limits round s two has_two) tables have key))

pub returns-clause-own : goal.returns-clause-own
returns-clause-own c basis is limits round is_free decides state legal tables has s entity links region held other listed met =
    own_case basis is limits round is_free decides state legal tables has s entity links region held other listed met
