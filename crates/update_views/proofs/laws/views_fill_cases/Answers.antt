use Rattle.update_views.proofs.CaseRows.{entities_filled, joined_filled}
use Rattle.update_views.proofs.laws.views_fill_cases.Goals as goal

pub returns-clause-entities : goal.returns-clause-entities
returns-clause-entities c basis is limits round is_free decides views are state legal s entity links region held =
    entities_filled is_free basis is decides limits round state legal views are s entity links region held

pub returns-clause-joined : goal.returns-clause-joined
returns-clause-joined c basis is limits round is_free decides views are state legal a case is_case own link stands =
    joined_filled is_free basis is decides limits round state legal views are a case is_case own link stands
