use Rattle.std.proofs.Common.{◌==◌, rules, tests, Bool, ◌∙◌}
use Rattle.std.proofs.lemmas.Iterator.{YieldsList-from_slice}
use Rattle.std.proofs.lemmas.Iterator.Search.{any_from_yields_List}
use Rattle.round_trip.specs.Words.{Link, key_of}
use Rattle.schema_laws.specs.state_demand.Selecting.{same_key}
use Rattle.population.specs.Supported.{end_key}
use Rattle.population.specs.declared.placed.PlacedLink.{PlacedLink}
use Rattle.supported_states.specs.small_parts.Sides.{is_own_link}
use Rattle.supported_states.proofs.Lists.{any_of_some}
use Rattle.supported_states.proofs.small_parts.needs.has_own_link.Goals as goal

pub returns : goal.returns
returns c =
    let side = c.args.side.now in
    let model = c.args.model.now in
    let own : PlacedLink → Bool = λ placed. placed.assoc.index == side.id.index in
    let keyed : Link → Bool = λ link. same_key (end_key side.first link) (key_of model c.args.entity.now) in
    any_from_yields_List (is_own_link side.first side.id side.assoc.now model c.args.entity.now) _ _ c.any.result c.any.ensures.ran (YieldsList-from_slice c.args.links.now c.iter.ensures.rest) (λ x b q k. search (rules, tests))
    ∙ any_of_some keyed (λ (placed : PlacedLink). placed.link) own c.args.links.now
