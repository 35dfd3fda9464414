-- What is computed of associations is so: that they let an entity have any number of partners, and that nothing maps them.
use Rattle.std.proofs.Common.{◌≡◌, ◌≢◌, ◌⊎◌, ⊎_elim, inl, inr, ◌==◌, ◌&&◌, ◌||◌, List, All, Contains, Bool, true, false, not, slice_get, Option, Some, None, Decides, IsTrue, refl, sym, ap, subst, ◌∙◌}
use Rattle.std.specs.List.{list_any}
use Rattle.std.specs.Option.{option_map_or}
use Rattle.std.proofs.lemmas.Bool.Decides.{Decides-and, Decides-like, Decides-not, Decides-or}
use Rattle.std.proofs.lemmas.List.Elements.{All-contains}
use Rattle.emc_base.proofs.Lists.{all_from_members}
use Rattle.edm_types.specs.declared.model.Mult.TheVariants.{One, ZeroOrOne, Many}
use Rattle.round_trip.specs.Words.{Assoc, AssocId, At, Constraint, End, IsIndependent, LinkFragment, Mult, SetId}
use Rattle.round_trip.specs.FailsAt.{IsUnmapped}
use Rattle.schema_laws.proofs.state_demand.lists.Ids.{Decides-assoc}
use Rattle.regions.specs.Basis.{Basis, Host, host_end, partner_end}
use Rattle.regions.specs.region_laws.IsBasis.{IsBasis, IsHostOf}
use Rattle.emc_base.proofs.Lists.{at_once}
use Rattle.region_states.specs.conflicts.Facts.{has_many_at, is_independent, is_many, is_many_links, is_unmapped}
use Rattle.conflict_laws.proofs.disagreement.Deciding.{Decides-some}
use Rattle.failure_laws.specs.Facts.{HasManyPartners}

Decides-many : (mult : Mult) → Decides (is_many mult) (mult ≡ Many)
Decides-many One = (λ told. cc, λ same. cc)
Decides-many ZeroOrOne = (λ told. cc, λ same. cc)
Decides-many Many = (λ told. refl, λ same. refl)

module _ (basis : Basis) (a : AssocId) where
  -- an association that is hosted at the set, with any number of partners
  abbrev IsManyHost : Assoc → Host → Type 0
  IsManyHost assoc host = (host.assoc ≡ a) × ((partner_end host.first_hosts assoc).mult ≡ Many)

  abbrev HasManyHost : Assoc → SetId → Type 0
  HasManyHost assoc s = (host : Host) × Contains (basis.hosts s) host × IsManyHost assoc host

  Decides-many_at : (assoc : Assoc) (s : SetId) → Decides (has_many_at basis a assoc s) (HasManyHost assoc s)
  Decides-many_at assoc s = Decides-some (λ (host : Host). (host.assoc.index == a.index) && is_many (partner_end host.first_hosts assoc).mult) (IsManyHost assoc)
      (λ host. Decides-and (host.assoc.index == a.index) (is_many (partner_end host.first_hosts assoc).mult)
      (Decides-assoc host.assoc a) (Decides-many (partner_end host.first_hosts assoc).mult)) (basis.hosts s)

  abbrev at_ends : Assoc → Bool
  at_ends assoc = has_many_at basis a assoc assoc.first.set || has_many_at basis a assoc assoc.second.set

  Decides-at_ends : (assoc : Assoc) → Decides (at_ends assoc) (HasManyHost assoc assoc.first.set ⊎ HasManyHost assoc assoc.second.set)
  Decides-at_ends assoc = Decides-or (has_many_at basis a assoc assoc.first.set) (has_many_at basis a assoc assoc.second.set)
      (Decides-many_at assoc assoc.first.set) (Decides-many_at assoc assoc.second.set)

  many_partners : (assoc : Assoc) → At basis.schema.model.assocs a.index assoc → (s : SetId) → HasManyHost assoc s → HasManyPartners basis a
  many_partners assoc here s (host, hosts, (of_assoc, many)) =
      let P : AssocId → Type 0 = λ b. At basis.schema.model.assocs b.index assoc in
      record { s = s; at = record { host = host; hosts = hosts; assoc = assoc; is_assoc = subst P (sym of_assoc) here }; of_assoc = of_assoc; many = many }

  pub many_so : IsTrue (is_many_links basis a) → HasManyPartners basis a
  many_so told = by (slice_get basis.schema.model.assocs a.index) refl told
    where
      by : (found : Option Assoc) → slice_get basis.schema.model.assocs a.index ≡ found → option_map_or at_ends found false ≡ true → HasManyPartners basis a
      by None none so = cc
      by (Some assoc) here so = ⊎_elim
          (λ (first : HasManyHost assoc assoc.first.set). many_partners assoc here assoc.first.set first)
          (λ (second : HasManyHost assoc assoc.second.set). many_partners assoc here assoc.second.set second)
          ((Decides-at_ends assoc).0 so)

  -- and the other way: the set is that of an end
  pub many_computed : IsBasis basis → HasManyPartners basis a → IsTrue (is_many_links basis a)
  many_computed is so =
      let host : Host = so.at.host in
      let assoc : Assoc = so.at.assoc in
      let P : AssocId → Type 0 = λ b. At basis.schema.model.assocs b.index assoc in
      let here : At basis.schema.model.assocs a.index assoc = subst P so.of_assoc so.at.is_assoc in
      let by : IsHostOf basis.schema so.s host = (is.hosts so.s host).0 so.at.hosts in
      let alike : by.assoc ≡ assoc = at_once basis.schema.model.assocs host.assoc.index by.assoc assoc by.is_assoc so.at.is_assoc in
      let S : Assoc → Type 0 = λ one. (host_end host.first_hosts one).set ≡ so.s in
      let at_set : (host_end host.first_hosts assoc).set ≡ so.s = subst S alike by.at_set in
      ap (λ found. option_map_or at_ends found false) here
      ∙ (Decides-at_ends assoc).1 (at host.first_hosts at_set (host, so.at.hosts, (so.of_assoc, so.many)))
    where
      at : (first : Bool) → (host_end first so.at.assoc).set ≡ so.s → HasManyHost so.at.assoc so.s
          → HasManyHost so.at.assoc so.at.assoc.first.set ⊎ HasManyHost so.at.assoc so.at.assoc.second.set
      at true at_set many = inl (subst (HasManyHost so.at.assoc) (sym at_set) many)
      at false at_set many = inr (subst (HasManyHost so.at.assoc) (sym at_set) many)

  -- no constraint is told
  Decides-none : (found : Option Constraint) → Decides (option_map_or (λ constraint. false) found true) (found ≡ None)
  Decides-none None = (λ told. refl, λ same. refl)
  Decides-none (Some constraint) = (λ told. cc, λ same. cc)

  abbrev mapped : Bool
  mapped = list_any (λ fragment. fragment.assoc.index == a.index) basis.schema.mapping.links

  abbrev AreOthers : Type 0
  AreOthers = All (λ fragment. fragment.assoc ≢ a) basis.schema.mapping.links

  Decides-unmapped : Decides (not mapped) AreOthers
  Decides-unmapped =
      let Of : LinkFragment → Type 0 = λ fragment. fragment.assoc ≡ a in
      Decides-like (not mapped)
      (λ (none : ¬ ((fragment : LinkFragment) × Contains basis.schema.mapping.links fragment × Of fragment)).
      all_from_members (λ fragment. fragment.assoc ≢ a) basis.schema.mapping.links (λ fragment has of. none (fragment, has, of)))
      (λ (all : AreOthers) found. All-contains (λ (fragment : LinkFragment). fragment.assoc ≢ a) basis.schema.mapping.links found.0 all found.1 found.2)
      (Decides-not mapped (Decides-some (λ (fragment : LinkFragment). fragment.assoc.index == a.index) Of (λ fragment. Decides-assoc fragment.assoc a) basis.schema.mapping.links))

  abbrev is_one : Assoc → Bool
  is_one assoc = is_independent assoc && not mapped

  Decides-is_one : (assoc : Assoc) → Decides (is_one assoc) (IsIndependent assoc × AreOthers)
  Decides-is_one assoc = Decides-and (is_independent assoc) (not mapped) (Decides-none assoc.constraint) Decides-unmapped

  pub unmapped_so : IsTrue (is_unmapped basis a) → (assoc : Assoc) × IsUnmapped basis.schema a assoc
  unmapped_so told = by (slice_get basis.schema.model.assocs a.index) refl told
    where
      by : (found : Option Assoc) → slice_get basis.schema.model.assocs a.index ≡ found → option_map_or is_one found false ≡ true
          → (assoc : Assoc) × IsUnmapped basis.schema a assoc
      by None none so = cc
      by (Some assoc) here so =
          let both = (Decides-is_one assoc).0 so in (assoc, record { is_assoc = here; independent = both.0; unmapped = both.1 })

  pub unmapped_computed : (assoc : Assoc) × IsUnmapped basis.schema a assoc → IsTrue (is_unmapped basis a)
  unmapped_computed (assoc, so) =
      ap (λ found. option_map_or is_one found false) so.is_assoc ∙ (Decides-is_one assoc).1 (so.independent, so.unmapped)
