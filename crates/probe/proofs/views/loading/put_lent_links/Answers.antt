use Rattle.std.proofs.Common.{◌≡◌, ◌<◌, ℕ, length, sym, ◌∙◌, arith}
use Rattle.std.proofs.lemmas.List.Elements.{All-contains}
use Rattle.emc_base.proofs.Lists.{item_at}
use Rattle.emc_base.proofs.Mapped.{contains_at}
use Rattle.query_views.specs.Lent.{lent_state}
use Rattle.round_trip.specs.Words.{Assoc, AssocId, At, EntityModel, IsLink, IsState, Link, State, links_in}
use Rattle.probe.proofs.views.loading.put_lent_links.Goals as goal

-- each link of an association in a state of the model is one of the association
link_there : (model : EntityModel) (state : State) → IsState model state → (a : AssocId) (assoc : Assoc) → At model.assocs a.index assoc → (i : ℕ) → i < length (links_in state a)
    → (link : Link) × At (links_in state a) i link × IsLink model assoc link
link_there model state shape a assoc here i within =
    let found = item_at (links_in state a) i within in
    (found.0, found.1, All-contains (IsLink model assoc) (links_in state a) found.0 (shape.links a assoc here) (contains_at (links_in state a) i found.0 found.1))

pub put_lent_key-requires : goal.put_lent_key-requires
put_lent_key-requires c =
    let state : State = lent_state c.args.loaded.now in
    let a : AssocId = record { index = 0 } in
    let below : c.loop-place.place < c.link_len-place-end.result = c.loop-place-test.true in
    let count : c.link_len-place-end.result ≡ length (links_in state a) = c.link_len-place-end.ensures in
    let found = link_there c.args.model.now state c.requires a c.in-Some.declared.now (sym c.in-Some.ensures.item) c.loop-place.place (omega (arith, below, count)) in
    (found.0, found.1, c.part_count-first_len.ensures ∙ sym found.2.first)

pub put_lent_key-requires-in-loop-place : goal.put_lent_key-requires-in-loop-place
put_lent_key-requires-in-loop-place c =
    let state : State = lent_state c.args.loaded.now in
    let a : AssocId = record { index = 0 } in
    let below : c.loop-place.place < c.link_len-place-end.result = c.loop-place-test.true in
    let count : c.link_len-place-end.result ≡ length (links_in state a) = c.link_len-place-end.ensures in
    let found = link_there c.args.model.now state c.requires a c.in-Some.declared.now (sym c.in-Some.ensures.item) c.loop-place.place (omega (arith, below, count)) in
    (found.0, found.1, c.part_count-second_len.ensures ∙ sym found.2.second)
