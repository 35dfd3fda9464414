use Rattle.std.proofs.Common.{◌==◌, ◌&&◌, rules, tests, Bool, ◌∙◌, sym}
use Rattle.std.proofs.lemmas.Iterator.{YieldsList-from_slice}
use Rattle.std.proofs.lemmas.Iterator.Search.{any_from_yields_List}
use Rattle.round_trip.specs.Words.{Entity, key_of}
use Rattle.schema_laws.specs.state_demand.Selecting.{same_key}
use Rattle.population.specs.Supported.{given_in}
use Rattle.population.specs.declared.placed.Placed.{Placed}
use Rattle.supported_states.proofs.Lists.{any-map, any_of_some}
use Rattle.supported_states.proofs.levels.is_given.Goals as goal

pub returns : goal.returns
returns c =
    let placed = c.args.placed.now in
    let own : Placed → Bool = λ one. one.set.index == placed.set.index in
    let keyed : Entity → Bool = λ entity. same_key placed.key (key_of c.args.model.now entity) in
    let test : Placed → Bool = λ one. own one && keyed one.entity in
    any_from_yields_List test _ _ c.any.result c.any.ensures.ran (YieldsList-from_slice c.args.given.now c.iter.ensures.rest) (λ x b q k. search (rules, tests))
    ∙ any_of_some keyed (λ (one : Placed). one.entity) own c.args.given.now
    ∙ sym (any-map (same_key placed.key) (key_of c.args.model.now) (given_in c.args.given.now placed.set))
