use Rattle.std.proofs.Common.{◌≡◌, List, refl, rules, sym, ◌∙◌}
use Rattle.std.proofs.lemmas.Option.{slice_get_read}
use Rattle.round_trip.specs.Words.{Entity, Value, values_of}
use Rattle.state_legality.proofs.link_legality.Holding.{holds_all, holds_more, holds_none}
use Rattle.state_legality.proofs.link_legality.principals.held_values.Goals as goal

pub loop-entity-init : goal.loop-entity-init
loop-entity-init c =
    let Has : Entity → List Value → Type 0 = λ entity values. values_of c.args.model.now entity c.args.props.now ≡ values in
    holds_none Has c.args.entities.now _ (search rules)

pub loop-entity-preserved : goal.loop-entity-preserved
loop-entity-preserved c =
    let Has : Entity → List Value → Type 0 = λ entity values. values_of c.args.model.now entity c.args.props.now ≡ values in
    let n = c.loop-entity.entity-index in
    holds_more Has c.args.entities.now c.loop-entity.held c.insert.new.self n c.entity-item.result c.in_ok-values.values
    (slice_get_read _ _ n _ refl c.loop-entity-test.true c.entity-item.is) c.loop-entity.invariant
    (λ values. (λ has. c.in_ok-values.ensures ∙ has, λ same. sym c.in_ok-values.ensures ∙ same)) c.in_ok-insert.ensures.updates

pub returns : goal.returns
returns c =
    let Has : Entity → List Value → Type 0 = λ entity values. values_of c.args.model.now entity c.args.props.now ≡ values in
    holds_all Has c.args.entities.now c.loop-entity.held c.loop-entity.entity-index c.loop-entity-test.false c.loop-entity.invariant
