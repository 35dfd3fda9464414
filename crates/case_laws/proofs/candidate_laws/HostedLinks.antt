-- What the query views give of hosted links are just the links of the legal state whose tables these are.
use Rattle.std.proofs.Common.{◌≡◌, List, Bool, true, false, Contains, refl, sym, ap, subst, ◌∙◌}
use Rattle.round_trip.specs.Words.{SetId, TableId, ColId, AssocId, Entity, EntitySet, At, Hosted, IsLegal, Link, RoundTrips, State, Tables, Value, entities_in, key_of, links_in}
use Rattle.cells.specs.Limits.{IsWithinLimits}
use Rattle.regions.specs.Basis.{Basis, Host, IsHostedLink, host_key, partner_key}
use Rattle.regions.specs.region_laws.IsBasis.{IsBasis}
use Rattle.regions.proofs.region_laws.pattern.symbols.Hosting.{one_host}
use Rattle.region_states.specs.focus.Given.{hosted_link}
use Rattle.case_laws.specs.candidates.Candidates.{AreViewed}
use Rattle.case_laws.specs.candidates.Viewed.{IsViewedLink}
use Rattle.case_laws.specs.candidates.ViewedLinks.{IsHostedView}
use Rattle.case_laws.specs.Reading.{DecidesFree, HasStateTables}
use Rattle.case_laws.proofs.candidate_laws.Candidate.{link_there}
use Rattle.case_laws.proofs.candidate_laws.OwnView.{entity_at, has_rows, links_are_own}

-- a link is told by its host's key and its partner's
pub joined_keys : (first : Bool) (link : Link) → hosted_link first (host_key first link) (partner_key first link) ≡ link
joined_keys true link = refl
joined_keys false link = refl

module _ (basis : Basis) (is : IsBasis basis) (limits : IsWithinLimits basis.schema) (round : RoundTrips basis.schema) (is_free : TableId → ColId → Bool)
    (decides : DecidesFree basis.schema is_free) (state : State) (legal : IsLegal basis.schema.model state) (tables : Tables) (has : HasStateTables basis.schema state tables) where
  pub hosted_stands : (a : AssocId) (link : Link) → IsHostedView basis is_free tables a link → Contains (links_in state a) link
  hosted_stands a link view =
      let found = entity_at basis is limits round is_free decides state legal tables has view.s view.key view.rows in
      let View : List Value → Type 0 = λ key. IsViewedLink basis is_free tables view.s key view.hosted in
      let there : View (key_of basis.schema.model found.0) = subst View (sym found.2) view.viewed in
      let by : IsHostedLink state (basis.hosts view.s) (key_of basis.schema.model found.0) view.hosted =
      (links_are_own basis is limits round is_free decides state legal tables has view.s found.0 found.1 there.case there.first_met view.hosted).0 there.told in
      let of_assoc : by.host.assoc ≡ a = sym (ap (λ (one : Hosted). one.assoc) by.seen) ∙ view.of_host in
      let hosts : by.host ≡ view.host = one_host basis is view.s by.host view.host by.is_host view.is_host (of_assoc ∙ sym view.of_assoc) in
      let partner : view.hosted.partner ≡ partner_key by.host.first_hosts by.link = ap (λ (one : Hosted). one.partner) by.seen in
      let key : view.key ≡ host_key by.host.first_hosts by.link = sym found.2 ∙ sym by.at_key in
      let same : by.link ≡ link =
      sym (joined_keys by.host.first_hosts by.link)
      ∙ (λ k. hosted_link (hosts k).first_hosts (sym key k) (sym partner k))
      ∙ sym view.is in
      let Stands : AssocId → Type 0 = λ b. Contains (links_in state b) by.link in
      subst (Contains (links_in state a)) same (subst Stands of_assoc by.stands)

  -- and each link of the state that is hosted is given at the key of its host
  module _ (s : SetId) (set : EntitySet) (is_set : At basis.schema.model.sets s.index set) (entities : List Entity) (viewed : AreViewed basis is_free tables s entities)
      (host : Host) (is_host : Contains (basis.hosts s) host) (link : Link) (stands : Contains (links_in state host.assoc) link) (entity : Entity)
      (among : Contains (entities_in state s) entity) (at_key : host_key host.first_hosts link ≡ key_of basis.schema.model entity) where
    abbrev seen : Hosted
    seen = record { assoc = host.assoc; partner = partner_key host.first_hosts link }

    pub hosted_view : IsHostedView basis is_free tables host.assoc link
    hosted_view =
        let view : IsViewedLink basis is_free tables s (key_of basis.schema.model entity) seen = link_there basis is limits round is_free decides state legal tables has s entities viewed entity among seen
        (record { host = host; link = link; is_host = is_host; stands = stands; at_key = at_key; seen = refl }) in
        record {
          s = s;
          key = key_of basis.schema.model entity;
          rows = has_rows basis is limits round is_free decides state legal tables has s entity among;
          host = host;
          is_host = is_host;
          of_assoc = refl;
          hosted = seen;
          viewed = view;
          of_host = refl;
          is = sym (ap (λ key. hosted_link host.first_hosts key (partner_key host.first_hosts link)) (sym at_key) ∙ joined_keys host.first_hosts link);
        }
