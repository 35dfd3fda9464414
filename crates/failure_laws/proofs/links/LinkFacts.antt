-- What the answers on many links of one entity and on an association without a mapping tell.
use Rattle.std.proofs.Common.{◌≡◌, ◌≢◌, ◌⊎◌, inl, inr, ◌&&◌, ◌||◌, ◌==◌, slice_get, Contains, Bool, true, false, not, Option, Some, None, Decides, All, refl, sym, subst, ◌∙◌}
use Rattle.std.specs.List.{list_any}
use Rattle.std.specs.Option.{option_map_or}
use Rattle.std.proofs.lemmas.Bool.Decides.{Decides-and, Decides-like, Decides-not, Decides-or}
use Rattle.std.proofs.lemmas.List.Elements.{All-contains}
use Rattle.emc_base.proofs.Lists.{all_from_members, at_once}
use Rattle.round_trip.specs.Words.{AssocId, SetId, Assoc, LinkFragment, Mult, At, IsIndependent}
use Rattle.round_trip.specs.FailsAt.{IsUnmapped}
use Rattle.edm_types.specs.declared.model.Mult.TheVariants.{One, ZeroOrOne, Many}
use Rattle.schema_laws.proofs.state_demand.lists.Ids.{Decides-assoc}
use Rattle.regions.specs.Basis.{Basis, Host, host_end, partner_end}
use Rattle.regions.specs.region_laws.IsBasis.{IsBasis}
use Rattle.regions.proofs.region_laws.entities.Hosting.{at_set}
use Rattle.region_states.specs.conflicts.Facts.{has_many_at, is_independent, is_many, is_many_links, is_unmapped}
use Rattle.conflict_laws.proofs.disagreement.Deciding.{Decides-some}
use Rattle.failure_laws.specs.Facts.{HasManyPartners}

Decides-many : (mult : Mult) → Decides (is_many mult) (mult ≡ Many)
Decides-many One = (λ told. cc, λ is. cc)
Decides-many ZeroOrOne = (λ told. cc, λ is. cc)
Decides-many Many = (λ told. refl, λ is. refl)

Decides-independent : (assoc : Assoc) → Decides (is_independent assoc) (IsIndependent assoc)
Decides-independent assoc = by assoc.constraint
  where
    by : {X : Type 0} (found : Option X) → Decides (option_map_or (λ one. false) found true) (found ≡ None)
    by None = (λ told. refl, λ is. refl)
    by (Some one) = (λ told. cc, λ is. cc)

module _ (basis : Basis) (a : AssocId) where
  -- of the association at its place, if there is one
  of_place : (P : Assoc → Type 0) (test : Assoc → Bool) → ((assoc : Assoc) → At basis.schema.model.assocs a.index assoc → Decides (test assoc) (P assoc))
      → Decides (option_map_or test (slice_get basis.schema.model.assocs a.index) false) ((assoc : Assoc) × At basis.schema.model.assocs a.index assoc × P assoc)
  of_place P test each = by (slice_get basis.schema.model.assocs a.index) refl
    where
      by : (found : Option Assoc) → slice_get basis.schema.model.assocs a.index ≡ found
          → Decides (option_map_or test found false) ((assoc : Assoc) × At basis.schema.model.assocs a.index assoc × P assoc)
      by None none = (λ told. cc, λ has. let never = sym none ∙ has.1 in cc)
      by (Some assoc) here = (
        (λ told. (assoc, here, (each assoc here).0 told)),
        (λ has.
            let same : has.0 ≡ assoc = at_once basis.schema.model.assocs a.index has.0 assoc has.1 here in
            (each assoc here).1 (subst P same has.2)),
      )

  -- a set hosts the links of the association, and its end lets an entity have any number of partners
  abbrev HasHost : Assoc → SetId → Type 0
  HasHost assoc s = (host : Host) × Contains (basis.hosts s) host × ((host.assoc ≡ a) × ((partner_end host.first_hosts assoc).mult ≡ Many))

  Decides-host : (assoc : Assoc) (s : SetId) → Decides (has_many_at basis a assoc s) (HasHost assoc s)
  Decides-host assoc s = Decides-some (λ (host : Host). (host.assoc.index == a.index) && is_many (partner_end host.first_hosts assoc).mult)
      (λ (host : Host). (host.assoc ≡ a) × ((partner_end host.first_hosts assoc).mult ≡ Many))
      (λ host. Decides-and (host.assoc.index == a.index) (is_many (partner_end host.first_hosts assoc).mult) (Decides-assoc host.assoc a)
      (Decides-many (partner_end host.first_hosts assoc).mult)) (basis.hosts s)

  -- so it is at an end's set
  Decides-either : (assoc : Assoc) → Decides (has_many_at basis a assoc assoc.first.set || has_many_at basis a assoc assoc.second.set)
      (HasHost assoc assoc.first.set ⊎ HasHost assoc assoc.second.set)
  Decides-either assoc = Decides-or (has_many_at basis a assoc assoc.first.set) (has_many_at basis a assoc assoc.second.set)
      (Decides-host assoc assoc.first.set) (Decides-host assoc assoc.second.set)

  module _ (is : IsBasis basis) where
    -- a set that hosts links is that of an end
    at_end_set : (s : SetId) (host : Host) → Contains (basis.hosts s) host → host.assoc ≡ a → (assoc : Assoc) → At basis.schema.model.assocs a.index assoc
        → (host_end host.first_hosts assoc).set ≡ s
    at_end_set s host hosts of_assoc assoc here =
        let P : AssocId → Type 0 = λ b. At basis.schema.model.assocs b.index assoc in
        at_set basis is s host hosts assoc (subst P (sym of_assoc) here)

    -- many links of one entity are told just where partners are many
    pub Decides-many_links : Decides (is_many_links basis a) (HasManyPartners basis a)
    Decides-many_links = Decides-like (is_many_links basis a) there back
        (of_place (λ assoc. HasHost assoc assoc.first.set ⊎ HasHost assoc assoc.second.set)
        (λ assoc. has_many_at basis a assoc assoc.first.set || has_many_at basis a assoc assoc.second.set) (λ assoc here. Decides-either assoc))
      where
        Found : Type 0
        Found = (assoc : Assoc) × At basis.schema.model.assocs a.index assoc × (HasHost assoc assoc.first.set ⊎ HasHost assoc assoc.second.set)

        at_one : (assoc : Assoc) → At basis.schema.model.assocs a.index assoc → (s : SetId) → HasHost assoc s → HasManyPartners basis a
        at_one assoc here s (host, hosts, (of_assoc, many)) = record {
          s = s;
          at = record {
            host = host;
            hosts = hosts;
            assoc = assoc;
            is_assoc = (let P : AssocId → Type 0 = λ b. At basis.schema.model.assocs b.index assoc in subst P (sym of_assoc) here);
          };
          of_assoc = of_assoc;
          many = many;
        }

        there : Found → HasManyPartners basis a
        there (assoc, here, inl host) = at_one assoc here assoc.first.set host
        there (assoc, here, inr host) = at_one assoc here assoc.second.set host

        at_side : (assoc : Assoc) (s : SetId) (first : Bool) → (host_end first assoc).set ≡ s → HasHost assoc s → HasHost assoc assoc.first.set ⊎ HasHost assoc assoc.second.set
        at_side assoc s true same host = inl (subst (HasHost assoc) (sym same) host)
        at_side assoc s false same host = inr (subst (HasHost assoc) (sym same) host)

        back : HasManyPartners basis a → Found
        back has =
            let P : AssocId → Type 0 = λ b. At basis.schema.model.assocs b.index has.at.assoc in
            let here : P a = subst P has.of_assoc has.at.is_assoc in (
              has.at.assoc,
              here,
              at_side has.at.assoc has.s has.at.host.first_hosts (at_end_set has.s has.at.host has.at.hosts has.of_assoc has.at.assoc here)
                  (has.at.host, has.at.hosts, (has.of_assoc, has.many)),
            )

  -- the association is independent, and nothing maps it
  pub Decides-unmapped : Decides (is_unmapped basis a) ((assoc : Assoc) × IsUnmapped basis.schema a assoc)
  Decides-unmapped = Decides-like (is_unmapped basis a)
      (λ (found : (assoc : Assoc) × At basis.schema.model.assocs a.index assoc × (IsIndependent assoc × ¬ SomeMaps)).
      (found.0, record { is_assoc = found.1; independent = found.2.0; unmapped = none_maps found.2.1 }))
      (λ (has : (assoc : Assoc) × IsUnmapped basis.schema a assoc). (has.0, has.1.is_assoc, (has.1.independent, some_none has.0 has.1)))
      (of_place (λ assoc. IsIndependent assoc × ¬ SomeMaps)
      (λ assoc. is_independent assoc && not (list_any (λ fragment. fragment.assoc.index == a.index) basis.schema.mapping.links))
      (λ assoc here. Decides-and (is_independent assoc) (not (list_any (λ fragment. fragment.assoc.index == a.index) basis.schema.mapping.links))
      (Decides-independent assoc)
      (Decides-not (list_any (λ fragment. fragment.assoc.index == a.index) basis.schema.mapping.links)
      (Decides-some (λ (fragment : LinkFragment). fragment.assoc.index == a.index) (λ (fragment : LinkFragment). fragment.assoc ≡ a) (λ fragment. Decides-assoc fragment.assoc a)
      basis.schema.mapping.links))))
    where
      SomeMaps : Type 0
      SomeMaps = (fragment : LinkFragment) × Contains basis.schema.mapping.links fragment × (fragment.assoc ≡ a)

      none_maps : ¬ SomeMaps → All (λ fragment. fragment.assoc ≢ a) basis.schema.mapping.links
      none_maps none = all_from_members (λ (fragment : LinkFragment). fragment.assoc ≢ a) basis.schema.mapping.links (λ fragment mapped of_assoc. none (fragment, mapped, of_assoc))

      some_none : (assoc : Assoc) → IsUnmapped basis.schema a assoc → ¬ SomeMaps
      some_none assoc is some = All-contains (λ (fragment : LinkFragment). fragment.assoc ≢ a) basis.schema.mapping.links some.0 is.unmapped some.1 some.2
