use Rattle.std.proofs.Common.{◌≡◌, List, map, flat_map, sym, ap, ◌∙◌}
use Rattle.std.proofs.lemmas.List.Folds.{flat_map-map}
use mathlib.Core.List.{map-map}
use Rattle.population.specs.LinkStates.{PlainEnd, entity_at, placed_at}
use Rattle.population.specs.Principals.{principals}
use Rattle.population.specs.Support.{support}
use Rattle.population.specs.declared.placed.Placed.{Placed}
use Rattle.population.specs.declared.placed.PlacedKey.{PlacedKey}
use Rattle.witness_state.specs.SmallLinks.{plain_end}
use Rattle.witness_state.proofs.small_links.supporting.supporting.Goals as goal

pub returns : goal.returns
returns c =
    let model = c.args.model.now in
    let row = c.args.row in
    let ends : List PlainEnd = map plain_end c.args.ends.now in
    let of : Placed → List PlacedKey = λ placed. principals model placed.set placed.entity in
    let given_is : c.in_ok-given.given ≡ map (placed_at model row) ends = c.in_ok-given.ensures ∙ sym (map-map (placed_at model row) plain_end c.args.ends.now) in
    let wanted_is : c.in_ok-wanted.wanted ≡ flat_map (λ (one : PlainEnd). principals model one.end.set (entity_at model row one)) ends =
    c.in_ok-wanted.ensures ∙ ap (flat_map of) (c.as_slice.ensures.items ∙ given_is) ∙ flat_map-map of (placed_at model row) ends in
    let keys_are = c.in_ok-keys.ensures ∙ (λ j. support model row (given_is j) (wanted_is j)) in
    λ k. record { given = given_is k; keys = keys_are k; links = c.args.links }
