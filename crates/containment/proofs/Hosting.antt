-- Whether the links of an association are hosted at a set, by what is told of the association alone.
use Rattle.std.proofs.Common.{◌≡◌, ◌==◌, ⊎_elim, ℕ, List, [], ◌∷◌, slice_get, Any, Contains, Decides, Bool, true, false, is_some, None, Option, Some, unwrap_or, if◌then◌else◌, refl, sym, ap, subst, ◌∙◌}
use Rattle.std.specs.List.{enumerate_from, list_any}
use Rattle.std.proofs.lemmas.Bool.{false_from_ne_true}
use Rattle.std.proofs.lemmas.Option.{none-some}
use Rattle.emc_base.proofs.Lists.{at_once}
use Rattle.emc_base.proofs.Mapped.{contains_enumerated}
use Rattle.emc_base.proofs.Numbered.{enumerated_at}
use Rattle.round_trip.specs.Words.{Assoc, AssocId, At, EntityModel, SetId}
use Rattle.table_owners.specs.declared.places.LinkPlace.{LinkPlace}
use Rattle.table_owners.specs.declared.places.LinkPlace.TheVariants as place
use Rattle.schema_laws.proofs.state_demand.lists.Lists.{Decides-any, any_of, contains_flat_map, head_stands, member_cases, member_of_flat_map, none_in_nil, of_any}
use Rattle.regions.specs.Basis.{Host, host_end}
use Rattle.schema_laws.proofs.state_demand.lists.Ids.{Decides-assoc}
use Rattle.region_states.specs.region_basis.BasisOf.{host_at, host_by, hosts_in, hosts_told}

-- what is told by a place is of its association
module _ (s : SetId) (a : AssocId) (assoc : Assoc) where
  of_assoc_if : (first_hosts b : Bool) (host : Host) → Contains (if b then record { assoc = a; first_hosts = first_hosts } ∷ [] else []) host → host.assoc ≡ a
  of_assoc_if first_hosts true host has =
      let one : Host = record { assoc = a; first_hosts = first_hosts } in
      ⊎_elim (λ (here : host ≡ one). ap (λ (h : Host). h.assoc) here) (λ (none : Contains [] host). absurd (none_in_nil host none)) (member_cases one [] host has)
  of_assoc_if first_hosts false host has = absurd (none_in_nil host has)

  of_assoc : (told : LinkPlace) (host : Host) → Contains (host_by s a assoc told) host → host.assoc ≡ a
  of_assoc (place.Hosted first_hosts number) host has = of_assoc_if first_hosts ((host_end first_hosts assoc).set.index == s.index) host has
  of_assoc (place.Joined number) host has = absurd (none_in_nil host has)
  of_assoc place.Unmapped host has = absurd (none_in_nil host has)
  of_assoc place.Constraint host has = absurd (none_in_nil host has)

module _ (model : EntityModel) (places : List LinkPlace) (s : SetId) (a : AssocId) where
  abbrev hosts : List Host
  hosts = hosts_in model places s

  abbrev hosted : Bool
  hosted = list_any (λ host. host.assoc.index == a.index) hosts

  Decides-hosted : Decides hosted (Any (λ (host : Host). host.assoc ≡ a) hosts)
  Decides-hosted = Decides-any (λ (host : Host). host.assoc.index == a.index) (λ host. host.assoc ≡ a) (λ host. Decides-assoc host.assoc a) hosts

  -- a host of the association is told by its own place
  pub by_place : (host : Host) → Contains hosts host → host.assoc ≡ a → (assoc : Assoc) × At model.assocs a.index assoc × Contains (host_at places s (a.index, assoc)) host
  by_place host has same =
      let entry = member_of_flat_map (host_at places s) (enumerate_from 0 model.assocs) host has in
      let told : LinkPlace = unwrap_or (slice_get places entry.0.0) place.Unmapped in
      let number : entry.0.0 ≡ a.index = ap (λ (one : AssocId). one.index) (sym (of_assoc s (record { index = entry.0.0 }) entry.0.1 told host entry.2) ∙ same) in
      let P : ℕ → Type 0 = λ n. At model.assocs n entry.0.1 × Contains (host_at places s (n, entry.0.1)) host in
      let there = subst P number (enumerated_at model.assocs entry.0 entry.1, entry.2) in
      (entry.0.1, there.0, there.1)

  -- where there is no such association, its links aren't
  pub none_there : slice_get model.assocs a.index ≡ None → hosted ≡ false
  none_there none = false_from_ne_true hosted (λ told.
      let host = of_any (λ (host : Host). host.assoc ≡ a) hosts (Decides-hosted.0 told) in
      let by = by_place host.0 host.1 host.2 in
      none-some by.0 (sym none ∙ by.1))

  module _ (assoc : Assoc) (here : At model.assocs a.index assoc) (told : LinkPlace) (at : At places a.index told) where
    pub by_told : host_at places s (a.index, assoc) ≡ host_by s a assoc told
    by_told = ap (λ (found : Option LinkPlace). host_by s a assoc (unwrap_or found place.Unmapped)) at

    -- they are where an end is told
    pub hosted_told : (first_hosts : Option Bool) → host_by s a assoc told ≡ hosts_told a first_hosts → hosted ≡ is_some first_hosts
    hosted_told None is = false_from_ne_true hosted (λ told.
        let host = of_any (λ (host : Host). host.assoc ≡ a) hosts (Decides-hosted.0 told) in
        let by = by_place host.0 host.1 host.2 in
        let same : by.0 ≡ assoc = at_once model.assocs a.index by.0 assoc by.1 here in
        let P : Assoc → Type 0 = λ one. Contains (host_at places s (a.index, one)) host.0 in
        none_in_nil host.0 (subst (λ list. Contains list host.0) (by_told ∙ is) (subst P same by.2)))
    hosted_told (Some first_hosts) is =
        let host : Host = record { assoc = a; first_hosts = first_hosts } in
        let there : Contains (host_at places s (a.index, assoc)) host = subst (λ list. Contains list host) (sym (by_told ∙ is)) (head_stands host []) in
        Decides-hosted.1 (any_of (λ (host : Host). host.assoc ≡ a) hosts host
        (contains_flat_map (host_at places s) (enumerate_from 0 model.assocs) (a.index, assoc) host (contains_enumerated model.assocs a.index assoc here) there) refl)
