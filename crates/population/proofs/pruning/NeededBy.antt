-- What is needed by a key is what an entity of it asks for, and what ends `1` ask of it.
use Rattle.std.proofs.Common.{◌≡◌, ◌↔◌, ◌⊎◌, ⊎_elim, inl, inr, ◌==◌, ◌&&◌, List, [], map, filter, flat_map, Contains, Bool, true, false, not, sym, subst}
use Rattle.std.specs.List.{enumerate_from}
use Rattle.std.proofs.lemmas.Bool.{cond_both}
use Rattle.std.proofs.lemmas.Bool.Decides.{Decides-and}
use Rattle.std.proofs.lemmas.List.Elements.{Contains-append_cases}
use Rattle.emc_base.proofs.Joined.{in_flat_map}
use Rattle.emc_base.proofs.Members.{contains_nil, in_map}
use Rattle.emc_base.proofs.Numbered.{enumerated_at, filter_contains}
use Rattle.round_trip.specs.Words.{AssocId, EntityModel, Assoc, Link, State, At, entities_in, key_of, links_in}
use Rattle.round_trip.specs.soundness.models.Models.{IsSoundModel}
use Rattle.schema_laws.specs.state_demand.Selecting.{same_key}
use Rattle.schema_laws.proofs.state_demand.lists.Ids.{Decides-set}
use Rattle.schema_laws.proofs.state_demand.writings.Selecting.{Decides-key}
use Rattle.population.specs.Kept.{AsksAtKey, IsJoinedToOne, at_key, key_at_end, key_in, needs, partners_at, partners_by}
use Rattle.population.specs.Numbered.{end_of}
use Rattle.population.specs.Principals.{PlacedKey, principals}
use Rattle.population.specs.Supported.{end_key, is_one}
use Rattle.population.proofs.principals.Asked.{asked_of, of_asked}
use Rattle.population.proofs.pruning.Needed.{Decides-one, partner_needed, principal_needed}

module _ (model : EntityModel) (state : State) where
  -- a partner that is needed is joined by a link, and its end is `1`
  joined_by : (from : PlacedKey) (first : Bool) (a : AssocId) (assoc : Assoc) → At model.assocs a.index assoc → (to : PlacedKey)
      → Contains (partners_by model state from first a assoc) to → IsJoinedToOne model state from to
  joined_by from first a assoc here to =
      let far_one : Bool = is_one (end_of (not first) assoc).mult in
      let in_set : Bool = (end_of first assoc).set.index == from.set.index in
      let own : List Link = filter (λ link. same_key (end_key first link) from.key) (links_in state a) in
      cond_both (far_one && in_set) (map (key_at_end (not first) assoc) own) [] (λ list. Contains list to → IsJoinedToOne model state from to)
      (λ told has.
      let asked = (Decides-and far_one in_set (Decides-one (end_of (not first) assoc).mult) (Decides-set (end_of first assoc).set from.set)).0 told in
      let found = in_map (key_at_end (not first) assoc) own to has in
      let link = filter_contains (λ one. same_key (end_key first one) from.key) (links_in state a) found.0 found.1 in
      let keyed = (Decides-key (end_key first found.0) from.key).0 link.1 in
      record {
        a = a;
        assoc = assoc;
        is_assoc = here;
        link = found.0;
        is_link = link.0;
        first = first;
        one = asked.0;
        from_end = (λ k. record { set = sym asked.1 k; key = sym keyed k });
        to_end = sym found.2;
      })
      (λ told has. absurd (contains_nil to has))

  module _ (sound : IsSoundModel model) where
    asks_at : (from : PlacedKey) (to : PlacedKey) → Contains (flat_map (principals model from.set) (at_key model state from)) to → AsksAtKey model state from to
    asks_at from to has =
        let found = in_flat_map (principals model from.set) (at_key model state from) to has in
        let stands = filter_contains (λ entity. same_key (key_of model entity) from.key) (entities_in state from.set) found.0 found.1 in
        record { entity = found.0; stands = stands.0; keyed = (Decides-key (key_of model found.0) from.key).0 stands.1; asks = asked_of model sound from.set found.0 to found.2 }

    joined_at : (from : PlacedKey) (to : PlacedKey) → Contains (flat_map (partners_at model state from) (enumerate_from 0 model.assocs)) to → IsJoinedToOne model state from to
    joined_at from to has =
        let found = in_flat_map (partners_at model state from) (enumerate_from 0 model.assocs) to has in
        let a : AssocId = record { index = found.0.0 } in
        let here : At model.assocs a.index found.0.1 = enumerated_at model.assocs found.0 found.1 in
        ⊎_elim
        (joined_by from true a found.0.1 here to)
        (joined_by from false a found.0.1 here to)
        (Contains-append_cases (partners_by model state from true a found.0.1) (partners_by model state from false a found.0.1) to found.2)

    needed_where : (from to : PlacedKey) → AsksAtKey model state from to ⊎ IsJoinedToOne model state from to → Contains (needs model state from) to
    needed_where from to (inl asks) =
        let same : key_in model from.set asks.entity ≡ from = λ k. record { set = from.set; key = asks.keyed k } in
        subst (λ one. Contains (needs model state one) to) same
        (principal_needed model state from.set asks.entity asks.stands to (of_asked model sound from.set asks.entity to asks.asks))
    needed_where from to (inr joined) =
        subst (λ one. Contains (needs model state one) to) (sym joined.from_end)
        (subst (Contains (needs model state (key_at_end joined.first joined.assoc joined.link))) (sym joined.to_end)
        (partner_needed model state joined.a joined.assoc joined.is_assoc joined.first joined.one joined.link joined.is_link))

    pub needed_by : (from to : PlacedKey) → Contains (needs model state from) to ↔ (AsksAtKey model state from to ⊎ IsJoinedToOne model state from to)
    needed_by from to = (
      (λ has. ⊎_elim
          (λ (one : Contains (flat_map (principals model from.set) (at_key model state from)) to). inl (asks_at from to one))
          (λ (one : Contains (flat_map (partners_at model state from) (enumerate_from 0 model.assocs)) to). inr (joined_at from to one))
          (Contains-append_cases (flat_map (principals model from.set) (at_key model state from)) (flat_map (partners_at model state from) (enumerate_from 0 model.assocs)) to has)),
      needed_where from to,
    )

pub all_needed_by : (model : EntityModel) → IsSoundModel model → (state : State) (from to : PlacedKey)
    → Contains (needs model state from) to ↔ (AsksAtKey model state from to ⊎ IsJoinedToOne model state from to)
all_needed_by model sound state = needed_by model state sound
