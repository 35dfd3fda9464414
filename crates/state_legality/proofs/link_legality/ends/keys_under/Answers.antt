use Rattle.std.proofs.Common.{◌≡◌, ◌+◌, List, refl, rules, subst, sym, ◌∙◌}
use Rattle.std.specs.BTreeSet.{BTreeSet}
use Rattle.std.proofs.lemmas.Bool.{both_ways}
use Rattle.std.proofs.lemmas.Option.{slice_get_read}
use Rattle.round_trip.specs.Words.{Entity, Value, key_of}
use Rattle.state_legality.specs.link_legality.Ends.{IsMarked}
use Rattle.state_legality.proofs.link_legality.Holding.{HoldsTo, holds_all, holds_more, holds_none, holds_still}
use Rattle.state_legality.proofs.link_legality.ends.keys_under.Goals as goal
use Rattle.state_legality.proofs.link_legality.ends.keys_under.Goals.{then-is_marked+in_ok-key+in_ok-insert, else-is_marked}

pub loop-entity-init : goal.loop-entity-init
loop-entity-init c =
    let Has : Entity → List Value → Type 0 = λ entity key. IsMarked c.args.under.now entity.ty × (key_of c.args.model.now entity ≡ key) in
    holds_none Has c.args.entities.now _ (search rules)

pub loop-entity-preserved : goal.loop-entity-preserved
loop-entity-preserved c =
    let Has : Entity → List Value → Type 0 = λ entity key. IsMarked c.args.under.now entity.ty × (key_of c.args.model.now entity ≡ key) in
    let n = c.loop-entity.entity-index in
    let P : BTreeSet (List Value) → Type 0 = λ keys. HoldsTo Has c.args.entities.now keys (n + 1) in
    let here = slice_get_read _ _ n _ refl c.loop-entity-test.true c.entity-item.is in
    elim c.if-is_marked.branch [
      | then-is_marked+in_ok-key+in_ok-insert w ↦
          subst P (sym w.keys-is) (holds_more Has c.args.entities.now c.loop-entity.keys w.insert.new.self n c.entity-item.result w.in_ok-key.key here c.loop-entity.invariant
          (λ key. (λ has. w.in_ok-key.ensures ∙ has.1, λ same. (c.is_marked.ensures.0 w.if-is_marked.true, sym w.in_ok-key.ensures ∙ same))) w.in_ok-insert.ensures.updates)
      | else-is_marked w ↦
          subst P (sym w.keys-is) (holds_still Has c.args.entities.now c.loop-entity.keys n c.entity-item.result here c.loop-entity.invariant
          (λ key has. absurd (both_ways c.is_marked.result w.if-is_marked.false (c.is_marked.ensures.1 has.0))))
    ]

pub returns : goal.returns
returns c =
    let Has : Entity → List Value → Type 0 = λ entity key. IsMarked c.args.under.now entity.ty × (key_of c.args.model.now entity ≡ key) in
    holds_all Has c.args.entities.now c.loop-entity.keys c.loop-entity.entity-index c.loop-entity-test.false c.loop-entity.invariant
