-- The associations that are told as hosted at a set are those that the mapping hosts there, in their order.
use Rattle.std.proofs.Common.{◌≡◌, ◌<◌, ◌==◌, ⊎_elim, ℕ, List, [], ◌∷◌, length, slice_get, AllPairs, Contains, Bool, true, false, Option, unwrap_or, if◌then◌else◌, refl, sym, ap, subst, ◌∙◌, arith}
use Rattle.std.specs.List.{enumerate_from}
use Rattle.std.proofs.lemmas.Bool.Decides.{Decides-eqb}
use Rattle.std.proofs.lemmas.List.Elements.{All-nil}
use Rattle.std.proofs.lemmas.List.Kept.{AllPairs-cons}
use Rattle.std.proofs.lemmas.Option.{slice_get_within}
use Rattle.emc_base.proofs.Lists.{item_at}
use Rattle.emc_base.proofs.Mapped.{contains_enumerated}
use Rattle.emc_base.proofs.Numbered.{enumerated_at}
use Rattle.round_trip.specs.Words.{Assoc, AssocId, At, Schema, SetId}
use Rattle.round_trip.specs.soundness.mappings.Mappings.{IsSoundSchema}
use Rattle.table_owners.specs.declared.places.LinkPlace.{LinkPlace}
use Rattle.table_owners.specs.declared.places.LinkPlace.TheVariants as place
use Rattle.table_owners.specs.Places.{AreHosted, AreToldHosted, TellPlaces}
use Rattle.table_owners.proofs.ownership.Hosting.{told_hosted}
use Rattle.schema_laws.proofs.state_demand.lists.Lists.{contains_flat_map, head_stands, member_cases, member_of_flat_map, none_in_nil}
use Rattle.regions.specs.Basis.{Host, host_end}
use Rattle.regions.specs.region_laws.IsBasis.{IsHostOf}
use Rattle.regions.proofs.region_laws.listing.Apart.{numbers_rise}
use Rattle.regions.proofs.region_laws.lists.Choices.{pairs_nil}
use Rattle.region_states.specs.region_basis.BasisOf.{host_at, host_by, hosts_in}
use Rattle.region_states.proofs.region_basis.Order.{pairs_joined}

abbrev Rise : Host → Host → Type 0
Rise one next = one.assoc.index < next.assoc.index

-- a host that is there under a test
module _ (host other : Host) where
  told_if : (b : Bool) → Contains (if b then host ∷ [] else []) other → (b ≡ true) × (other ≡ host)
  told_if true has = (refl, ⊎_elim (λ (here : other ≡ host). here) (λ (none : Contains [] other). absurd (none_in_nil other none)) (member_cases host [] other has))
  told_if false has = absurd (none_in_nil other has)

  there_if : (b : Bool) → b ≡ true → Contains (if b then host ∷ [] else []) host
  there_if true is = head_stands host []
  there_if false is = absurd cc

rise_if : (host : Host) (b : Bool) → AllPairs Rise (if b then host ∷ [] else [])
rise_if host true = AllPairs-cons Rise host [] (All-nil (Rise host)) (pairs_nil Rise)
rise_if host false = pairs_nil Rise

module _ (s : SetId) (a : AssocId) (assoc : Assoc) where
  -- one of the hosts by a place is the association, which is told as hosted at this end, at the set
  host_is : (told : LinkPlace) (host : Host) → Contains (host_by s a assoc told) host
      → (host.assoc ≡ a) × ((host_end host.first_hosts assoc).set ≡ s) × ((number : _) × (told ≡ place.Hosted host.first_hosts number))
  host_is (place.Hosted first_hosts number) host has =
      let is = told_if (record { assoc = a; first_hosts = first_hosts }) host ((host_end first_hosts assoc).set.index == s.index) has in
      let index = (Decides-eqb (host_end first_hosts assoc).set.index s.index).0 is.0 in
      let end : host.first_hosts ≡ first_hosts = ap (λ (h : Host). h.first_hosts) is.1 in
      let at_set : (host_end first_hosts assoc).set ≡ s = (λ i. record { index = index i }) in
      (ap (λ (h : Host). h.assoc) is.1, ap (λ b. (host_end b assoc).set) end ∙ at_set, (number, λ i. place.Hosted (sym end i) number))
  host_is (place.Joined number) host has = absurd (none_in_nil host has)
  host_is place.Unmapped host has = absurd (none_in_nil host has)
  host_is place.Constraint host has = absurd (none_in_nil host has)

  hosts_rise : (told : LinkPlace) → AllPairs Rise (host_by s a assoc told)
  hosts_rise (place.Hosted first_hosts number) = rise_if (record { assoc = a; first_hosts = first_hosts }) ((host_end first_hosts assoc).set.index == s.index)
  hosts_rise (place.Joined number) = pairs_nil Rise
  hosts_rise place.Unmapped = pairs_nil Rise
  hosts_rise place.Constraint = pairs_nil Rise

module _ (schema : Schema) (sound : IsSoundSchema schema) (places : List LinkPlace) (tell : TellPlaces schema places) (s : SetId) where
  told_place : (a : AssocId) (assoc : Assoc) → At schema.model.assocs a.index assoc → At places a.index (unwrap_or (slice_get places a.index) place.Unmapped)
  told_place a assoc here =
      let size : length places ≡ length schema.model.assocs = tell.size in
      let known : a.index < length schema.model.assocs = slice_get_within schema.model.assocs a.index assoc here in
      let there = item_at places a.index (omega (arith, size, known)) in
      let P : LinkPlace → Type 0 = λ one. At places a.index one in
      subst P (sym (ap (λ (one : Option LinkPlace). unwrap_or one place.Unmapped) there.1)) there.1

  pub hosted_is : (host : Host) → Contains (hosts_in schema.model places s) host → IsHostOf schema s host
  hosted_is host has =
      let entry = member_of_flat_map (host_at places s) (enumerate_from 0 schema.model.assocs) host has in
      let a : AssocId = record { index = entry.0.0 } in
      let assoc = entry.0.1 in
      let here = enumerated_at schema.model.assocs entry.0 entry.1 in
      let is = host_is s a assoc (unwrap_or (slice_get places a.index) place.Unmapped) host entry.2 in
      let P : LinkPlace → Type 0 = λ one. At places a.index one in
      let told : AreToldHosted places a host.first_hosts = (is.2.0, subst P is.2.1 (told_place a assoc here)) in
      let are : AreHosted schema a host.first_hosts = (told_hosted schema sound places tell a assoc here host.first_hosts).0 told in
      let Known : AssocId → Type 0 = λ id. At schema.model.assocs id.index assoc in
      record {
        assoc = assoc;
        fragment = are.fragment;
        is_assoc = subst Known (sym is.0) here;
        is_fragment = are.is_fragment;
        of_assoc = are.of_assoc ∙ sym is.0;
        hosted = are.hosted;
        at_set = is.1;
      }

  pub is_hosted : (host : Host) → IsHostOf schema s host → Contains (hosts_in schema.model places s) host
  is_hosted host is =
      let a = host.assoc in
      let told = (told_hosted schema sound places tell a is.assoc is.is_assoc host.first_hosts).1
      (record { fragment = is.fragment; is_fragment = is.is_fragment; of_assoc = is.of_assoc; hosted = is.hosted }) in
      let test : ((host_end host.first_hosts is.assoc).set.index == s.index) ≡ true = (Decides-eqb (host_end host.first_hosts is.assoc).set.index s.index).1
      (ap (λ (one : SetId). one.index) is.at_set) in
      let here : Contains (host_by s a is.assoc (place.Hosted host.first_hosts told.0)) host = there_if host host ((host_end host.first_hosts is.assoc).set.index == s.index) test in
      let P : LinkPlace → Type 0 = λ one. Contains (host_by s a is.assoc one) host in
      contains_flat_map (host_at places s) (enumerate_from 0 schema.model.assocs) (a.index, is.assoc) host
      (contains_enumerated schema.model.assocs a.index is.assoc is.is_assoc)
      (subst P (sym (ap (λ (one : Option LinkPlace). unwrap_or one place.Unmapped) told.1)) here)

  pub hosts_in_order : AllPairs (λ (one next : Host). one.assoc.index < next.assoc.index) (hosts_in schema.model places s)
  hosts_in_order = pairs_joined (λ (one : ℕ × Assoc) (next : ℕ × Assoc). one.0 < next.0) Rise (host_at places s) (enumerate_from 0 schema.model.assocs)
      (λ entry. hosts_rise s (record { index = entry.0 }) entry.1 (unwrap_or (slice_get places entry.0) place.Unmapped))
      (λ one next host other less first second.
      let at_one = ap (λ (a : AssocId). a.index) (host_is s (record { index = one.0 }) one.1 (unwrap_or (slice_get places one.0) place.Unmapped) host first).0 in
      let at_next = ap (λ (a : AssocId). a.index) (host_is s (record { index = next.0 }) next.1 (unwrap_or (slice_get places next.0) place.Unmapped) other second).0 in
      omega (arith, less, at_one, at_next))
      (numbers_rise schema.model.assocs)
