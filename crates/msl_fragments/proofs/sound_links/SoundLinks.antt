-- The fragments of links that a document means are sound where it keeps the rules, and no association set is mapped twice.
use Rattle.std.proofs.Common.{◌≡◌, ◌≢◌, ℕ, ◌+◌, List, [], ◌∷◌, map, All, AllPairs, Some, ap, subst, ◌∙◌, arith}
use Rattle.std.specs.List.{enumerate_from}
use Rattle.std.proofs.lemmas.List.Elements.{All-contains}
use Rattle.std.proofs.lemmas.List.Kept.{AllPairs-cons}
use Rattle.std.proofs.lemmas.Option.{slice_get_within}
use Rattle.emc_base.specs.Lists.{At, AreApart}
use Rattle.emc_base.proofs.Lists.{all_from_members, at_once}
use Rattle.emc_base.proofs.Mapped.{contains_at}
use Rattle.emc_base.proofs.Numbered.{all_pairs_map}
use Rattle.round_trip.specs.Words.{Assoc, AssocId, EntityModel, LinkFragment, StoreModel}
use Rattle.round_trip.specs.soundness.mappings.Mappings.{HasLinkFragmentIds, IsSoundLinkFragment}
use Rattle.groupings.proofs.name_places.FirstPlaces.{first_has}
use Rattle.schema_names.specs.SchemaNames.{association_set_named}
use Rattle.emc_base.proofs.FoundItems.{pairs_found}
use Rattle.emc_base.proofs.Joined.{in_enumerated, pairs_head, pairs_tail}
use Rattle.msl_rules.specs.declared.msl_lists.raw.RawLinkMapping.{RawLinkMapping}
use Rattle.msl_rules.specs.declared.msl_lists.raw.RawMapping.{RawMapping}
use Rattle.msl_rules.specs.KeepsMapping.{KeepsMappingRules}
use Rattle.msl_rules.specs.MappingMeaning.{link_at, mapping_in, schema_in}
use Rattle.msl_rules.specs.Sites.{LinkSite, link_place, link_sites}
use Rattle.msl_fragments.proofs.sound_links.EndPairs.{first_key, pair_ids, pair_kinds, second_key, writes_once}
use Rattle.msl_fragments.proofs.sound_links.KeptLinks.{independent, links_apart, placed}
use Rattle.msl_fragments.proofs.sound_links.LinkConds.{barred, cond_ids, constants, no_key_column, no_prop}
use Rattle.msl_fragments.proofs.sound_links.MeantLinks.{IsMeantLink, found_link, meant_by, of_each_link}
use Rattle.msl_fragments.proofs.sound_links.OneName.{one_place}

-- items that go with one another go so with their numbers
numbered_pairs : {X : Type 0} (R : X → X → Type 0) (n : ℕ) (xs : List X) → AllPairs R xs → AllPairs (λ one other. R one.1 other.1) (enumerate_from n xs)
numbered_pairs R n [] pairs = λ i j d below within. absurd (omega arith)
numbered_pairs {X} R n (x ∷ xs) pairs =
    let S : ℕ × X → ℕ × X → Type 0 = λ one other. R one.1 other.1 in
    AllPairs-cons S (n, x) (enumerate_from (n + 1) xs)
    (all_from_members (S (n, x)) (enumerate_from (n + 1) xs) (λ entry has.
    let found = in_enumerated (n + 1) xs entry has in
    All-contains (R x) xs entry.1 (pairs_head R x xs pairs) (contains_at xs found.0 entry.1 found.2)))
    (numbered_pairs R (n + 1) xs (pairs_tail R x xs pairs))

module _ (model : EntityModel) (store : StoreModel) (raw : RawMapping) (keeps : KeepsMappingRules model store raw) where
  -- the ids are in range
  pub links_inside : All (HasLinkFragmentIds (schema_in model store raw)) (mapping_in model store raw).links
  links_inside = of_each_link model store raw (HasLinkFragmentIds (schema_in model store raw)) (λ it. record {
    assoc = slice_get_within model.assocs it.set it.assoc it.is_assoc;
    table = let table = first_has (λ table. table.name) store.tables it.link.table it.table it.is_table in slice_get_within store.tables it.table table.0 table.1;
    pairs = pair_ids model store raw keeps it;
    conds = cond_ids model store raw keeps it;
  })

  -- what a mapping of an association set means is sound
  sound_link : (it : IsMeantLink model store raw) → IsSoundLinkFragment (schema_in model store raw) (meant_by model store raw it) it.assoc
  sound_link it = record {
    kinds = pair_kinds model store raw keeps it;
    first = first_key model store raw keeps it;
    second = second_key model store raw keeps it;
    no_prop = no_prop model store raw keeps it;
    constants = constants model store raw keeps it;
    no_key_column = no_key_column model store raw keeps it;
    placed = placed model store raw keeps it;
    independent = independent model store raw keeps it;
    barred = barred model store raw keeps it;
    once = writes_once model store raw keeps it;
  }

  pub sound_links : All (λ fragment. (assoc : Assoc) → At model.assocs fragment.assoc.index assoc → IsSoundLinkFragment (schema_in model store raw) fragment assoc) (mapping_in model store raw).links
  sound_links = of_each_link model store raw (λ fragment. (assoc : Assoc) → At model.assocs fragment.assoc.index assoc → IsSoundLinkFragment (schema_in model store raw) fragment assoc)
      (λ it assoc here.
      let P : Assoc → Type 0 = λ assoc. IsSoundLinkFragment (schema_in model store raw) (meant_by model store raw it) assoc in
      subst P (at_once model.assocs it.set it.assoc assoc it.is_assoc here) (sound_link it))

  -- V6
  pub sets_once : AreApart (map (λ fragment. fragment.assoc) (mapping_in model store raw).links)
  sets_once = all_pairs_map (λ one other. one ≢ other) (λ (fragment : LinkFragment). fragment.assoc) (mapping_in model store raw).links
      (pairs_found (link_at model store) (λ one other. one.link.name ≢ other.link.name) (λ one other. one.assoc ≢ other.assoc) differ (link_sites raw) sites_apart)
    where
      set_of : (site : LinkSite) (fragment : LinkFragment) → link_at model store site ≡ Some fragment → association_set_named model site.link.name ≡ Some fragment.assoc.index
      set_of site fragment is = let found = found_link model store site fragment is in found.is_set ∙ ap (λ (fragment : LinkFragment). Some fragment.assoc.index) found.is

      site_of : ℕ × RawLinkMapping → LinkSite
      site_of entry = record { place = link_place entry.0; link = entry.1 }

      differ : (one other : LinkSite) (fragment next : LinkFragment) → link_at model store one ≡ Some fragment → link_at model store other ≡ Some next
          → one.link.name ≢ other.link.name → fragment.assoc ≢ next.assoc
      differ one other fragment next first second names same =
          names (one_place (λ assoc. assoc.set_name) model.assocs one.link.name other.link.name next.assoc.index
          (set_of one fragment first ∙ ap (λ (assoc : AssocId). Some assoc.index) same) (set_of other next second))

      sites_apart : AllPairs (λ one other. one.link.name ≢ other.link.name) (link_sites raw)
      sites_apart = all_pairs_map (λ one other. one.link.name ≢ other.link.name) site_of (enumerate_from 0 raw.links)
          (numbered_pairs (λ one other. one.name ≢ other.name) 0 raw.links (links_apart model store raw keeps))
