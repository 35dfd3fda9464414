use Rattle.std.proofs.Common.{rules, ap, ◌∙◌, tests}
use Rattle.std.specs.List.{list_any}
use Rattle.std.proofs.lemmas.Iterator.{YieldsList-from_slice}
use Rattle.std.proofs.lemmas.Iterator.Search.{any_from_yields_List}
use Rattle.conflict_laws.specs.rival.RivalValues.{faces_null_in}
use Rattle.witness_state.proofs.region_values.facing.faces_null.Goals as goal

pub returns : goal.returns
returns c = λ basis is.
    (let test = faces_null_in basis c.args.rival.now.other.now c.args.property in
    any_from_yields_List test _ _ c.any.result c.any.ensures.ran (YieldsList-from_slice c.args.rival.now.pattern.now.rows (c.iter.ensures.rest ∙ c.as_slice.ensures.items)) (λ x b q k. search (rules, tests, is))
    ∙ ap (λ pattern. list_any test pattern.rows) is.own)
