-- The links that are answered are just those that the mapping lets an entity host.
use Rattle.std.proofs.Common.{◌≡◌, ◌↔◌, ◌<◌, inl, inr, List, [], Bool, true, false, length, filter, Contains, Option, refl, sym, ap, subst, ◌∙◌, if◌then◌else◌, ◌==◌, arith}
use Rattle.std.specs.Option.{unwrap_or}
use Rattle.std.specs.Ordering.{eq_by_cmp}
use Rattle.std.specs.Cmp.Lexicographic.{slice_cmp}
use Rattle.std.proofs.lemmas.Bool.Decides.{Decides-eqb}
use Rattle.std.proofs.lemmas.Option.{slice_get_within}
use Rattle.std.specs.List.{enumerate_from}
use Rattle.emc_base.specs.Lists.{At}
use Rattle.emc_base.specs.Order.{value_cmp}
use Rattle.emc_base.proofs.Lists.{item_at}
use Rattle.emc_base.proofs.Mapped.{contains_enumerated, contains_filter, contains_map}
use Rattle.emc_base.proofs.Numbered.{enumerated_at, filter_contains, map_contains}
use Rattle.round_trip.specs.Words.{Assoc, AssocId, Hosted, LinkFragment, Link, Schema, SetId, State, Value, links_in}
use Rattle.round_trip.specs.FailsAt.{IsHostedAt}
use Rattle.round_trip.specs.soundness.mappings.Mappings.{IsSoundSchema}
use Rattle.table_owners.specs.declared.places.LinkPlace.{LinkPlace}
use Rattle.table_owners.specs.declared.places.LinkPlace.TheVariants as place
use Rattle.table_owners.specs.Places.{AreHosted, AreToldHosted}
use Rattle.table_owners.proofs.ownership.Hosting.{told_hosted}
use Rattle.schema_laws.proofs.state_demand.lists.Lists.{contains_flat_map, member_of_flat_map, none_in_nil}
use Rattle.schema_laws.proofs.state_demand.writings.Selecting.{Decides-key}
use Rattle.cells.specs.declared.cells.Cells.{Cells}
use Rattle.cells.specs.Cells.{TellsCells}
use Rattle.cells.specs.HostedLinks.{IsHostedLink, host_key, host_set, hosted_at, hosted_by, hosted_links, of_key, partner_key}

-- what stands in a list that is there under a test
given_if : {X : Type 0} (b : Bool) (xs : List X) (x : X) → Contains (if b then xs else []) x → (b ≡ true) × Contains xs x
given_if true xs x has = (refl, has)
given_if false xs x has = absurd (none_in_nil x has)

there_if : {X : Type 0} (b : Bool) (xs : List X) (x : X) → b ≡ true → Contains xs x → Contains (if b then xs else []) x
there_if true xs x is has = has
there_if false xs x is has = absurd cc

module _ (first_hosts : Bool) (a : AssocId) (key : List Value) (links : List Link) where
  abbrev of_this_key : Link → Bool
  of_this_key link = eq_by_cmp (slice_cmp value_cmp) (host_key first_hosts link) key

  abbrev seen : Link → Hosted
  seen link = record { assoc = a; partner = partner_key first_hosts link }

  -- a link of this key, as its hosting entity sees it
  key_link : (hosted : Hosted) → Contains (of_key first_hosts a key links) hosted → (link : Link) × Contains links link × (host_key first_hosts link ≡ key) × (seen link ≡ hosted)
  key_link hosted has =
      let image = map_contains seen (filter of_this_key links) hosted has in
      let kept = filter_contains of_this_key links image.0 image.1 in
      (image.0, kept.0, (Decides-key (host_key first_hosts image.0) key).0 kept.1, image.2)

  link_key : (link : Link) → Contains links link → host_key first_hosts link ≡ key → Contains (of_key first_hosts a key links) (seen link)
  link_key link has same = contains_map seen (filter of_this_key links) link (contains_filter of_this_key links link has ((Decides-key (host_key first_hosts link) key).1 same))

-- a link is hosted at the end of which the one or the other is said
module _ (schema : Schema) (state : State) (set : SetId) (key : List Value) (hosted : Hosted) where
  by_end : (first_hosts : Bool) (fragment : LinkFragment) (assoc : Assoc) (link : Link) → Contains schema.mapping.links fragment
      → At schema.model.assocs fragment.assoc.index assoc → Contains (links_in state fragment.assoc) link
      → IsHostedAt schema fragment.table (if first_hosts then fragment.first else fragment.second) → host_set first_hosts assoc ≡ set → host_key first_hosts link ≡ key
      → hosted.assoc ≡ fragment.assoc → partner_key first_hosts link ≡ hosted.partner → IsHostedLink schema state set key hosted
  by_end true fragment assoc link has here stands at of_set of_key is partner = record {
    fragment = fragment;
    assoc = assoc;
    link = link;
    is_fragment = has;
    is_assoc = here;
    stands = stands;
    of_assoc = is;
    end = inl (at, of_set, of_key, partner);
  }
  by_end false fragment assoc link has here stands at of_set of_key is partner = record {
    fragment = fragment;
    assoc = assoc;
    link = link;
    is_fragment = has;
    is_assoc = here;
    stands = stands;
    of_assoc = is;
    end = inr (at, of_set, of_key, partner);
  }

  -- which end it is
  record HasEnd (fragment : LinkFragment) (assoc : Assoc) (link : Link) : Type 0 where
    first_hosts : Bool
    at_end : IsHostedAt schema fragment.table (if first_hosts then fragment.first else fragment.second)
    of_set : host_set first_hosts assoc ≡ set
    at_key : host_key first_hosts link ≡ key
    partner : partner_key first_hosts link ≡ hosted.partner

  end_of : (is : IsHostedLink schema state set key hosted) → HasEnd is.fragment is.assoc is.link
  end_of is = elim is.end [
    | inl first ↦ record { first_hosts = true; at_end = first.0; of_set = first.1; at_key = first.2; partner = first.3 }
    | inr second ↦ record { first_hosts = false; at_end = second.0; of_set = second.1; at_key = second.2; partner = second.3 }
  ]

module _ (schema : Schema) (sound : IsSoundSchema schema) (cells : Cells) (tells : TellsCells schema cells) (state : State) (set : SetId) (key : List Value) (hosted : Hosted) where
  -- what is told of an association set
  place_there : (a : AssocId) (assoc : Assoc) → At schema.model.assocs a.index assoc → (told : LinkPlace) × At cells.places a.index told
  place_there a assoc here =
      let size : length cells.places ≡ length schema.model.assocs = tells.places.size in
      let known : a.index < length schema.model.assocs = slice_get_within schema.model.assocs a.index assoc here in
      item_at cells.places a.index (omega (arith, size, known))

  abbrev links_at : AssocId → List Link
  links_at a = links_in state a

  from_place : (a : AssocId) (assoc : Assoc) → At schema.model.assocs a.index assoc → (told : LinkPlace) → At cells.places a.index told
      → Contains (hosted_at told a assoc set key (links_at a)) hosted → IsHostedLink schema state set key hosted
  from_place a assoc here (place.Hosted first_hosts number) there has =
      let inside = given_if ((host_set first_hosts assoc).index == set.index) (of_key first_hosts a key (links_at a)) hosted has in
      let same : host_set first_hosts assoc ≡ set = (let index = (Decides-eqb (host_set first_hosts assoc).index set.index).0 inside.0 in λ i. record { index = index i }) in
      let of_link = key_link first_hosts a key (links_at a) hosted inside.1 in
      let are : AreHosted schema a first_hosts = (told_hosted schema sound cells.places tells.places a assoc here first_hosts).0 (number, there) in
      let Known : AssocId → Type 0 = λ id. At schema.model.assocs id.index assoc in
      let Stands : AssocId → Type 0 = λ id. Contains (links_at id) of_link.0 in
      by_end schema state set key hosted first_hosts are.fragment assoc of_link.0 are.is_fragment (subst Known (sym are.of_assoc) here) (subst Stands (sym are.of_assoc) of_link.1)
      are.hosted same of_link.2 (sym (ap (λ (one : Hosted). one.assoc) of_link.3) ∙ sym are.of_assoc) (ap (λ (one : Hosted). one.partner) of_link.3)
  from_place a assoc here (place.Joined number) there has = absurd (none_in_nil hosted has)
  from_place a assoc here place.Unmapped there has = absurd (none_in_nil hosted has)
  from_place a assoc here place.Constraint there has = absurd (none_in_nil hosted has)

  found : Contains (hosted_links schema.model cells state set key) hosted → IsHostedLink schema state set key hosted
  found has =
      let entry = member_of_flat_map (hosted_by cells state set key) (enumerate_from 0 schema.model.assocs) hosted has in
      let a : AssocId = record { index = (entry.0).0 } in
      let here = enumerated_at schema.model.assocs entry.0 entry.1 in
      let told = place_there a (entry.0).1 here in
      let P : LinkPlace → Type 0 = λ one. Contains (hosted_at one a (entry.0).1 set key (links_at a)) hosted in
      from_place a (entry.0).1 here told.0 told.1 (subst P (ap (λ (one : Option LinkPlace). unwrap_or one place.Unmapped) told.1) entry.2)

  answered : IsHostedLink schema state set key hosted → Contains (hosted_links schema.model cells state set key) hosted
  answered is =
      let a = is.fragment.assoc in
      let end = end_of schema state set key hosted is in
      let told : AreToldHosted cells.places a end.first_hosts = (told_hosted schema sound cells.places tells.places a is.assoc is.is_assoc end.first_hosts).1
      (record { fragment = is.fragment; is_fragment = is.is_fragment; of_assoc = refl; hosted = end.at_end }) in
      let links = links_at a in
      let test : ((host_set end.first_hosts is.assoc).index == set.index) ≡ true = (Decides-eqb (host_set end.first_hosts is.assoc).index set.index).1
      (ap (λ (s : SetId). s.index) end.of_set) in
      let stands = link_key end.first_hosts a key links is.link is.stands end.at_key in
      let same : seen end.first_hosts a key links is.link ≡ hosted = (let of_assoc = sym is.of_assoc in let partner = end.partner in λ i. record { assoc = of_assoc i; partner = partner i }) in
      let here : Contains (hosted_at (place.Hosted end.first_hosts told.0) a is.assoc set key links) hosted =
      there_if ((host_set end.first_hosts is.assoc).index == set.index) (of_key end.first_hosts a key links) hosted test
      (subst (λ (one : Hosted). Contains (of_key end.first_hosts a key links) one) same stands) in
      let P : LinkPlace → Type 0 = λ one. Contains (hosted_at one a is.assoc set key links) hosted in
      contains_flat_map (hosted_by cells state set key) (enumerate_from 0 schema.model.assocs) (a.index, is.assoc) hosted
      (contains_enumerated schema.model.assocs a.index is.assoc is.is_assoc)
      (subst P (sym (ap (λ (one : Option LinkPlace). unwrap_or one place.Unmapped) told.1)) here)

  pub hosted_here : Contains (hosted_links schema.model cells state set key) hosted ↔ IsHostedLink schema state set key hosted
  hosted_here = (found, answered)
