-- Each fragment has a place of its own, where the lists of the document are no longer than a `Seq` may be.
use Rattle.std.proofs.Common.{◌≡◌, ◌≢◌, ℕ, ◌+◌, ◌<◌, ◌^◌, List, [], ◌∷◌, ◌++◌, length, map, All, AllPairs, Contains, Some, refl, sym, ap, subst, ◌∙◌, arith, zero-add}
use Rattle.std.specs.List.{enumerate_from}
use Rattle.std.proofs.lemmas.List.Concat.{flat_map_single}
use Rattle.std.proofs.lemmas.List.Elements.{All-contains}
use Rattle.std.proofs.lemmas.Option.{slice_get_within}
use Rattle.emc_base.specs.Lists.{At, AreApart}
use Rattle.emc_base.proofs.Lists.{all_from_members, only_member}
use Rattle.emc_base.proofs.Mapped.{contains_at}
use Rattle.emc_base.proofs.Numbered.{enumerated_at}
use Rattle.emc_base.proofs.Members.{in_map}
use Rattle.json_form.specs.Pointers.{pointer_of}
use Rattle.round_trip.specs.Words.{EntityModel, Fragment, LinkFragment, StoreModel}
use Rattle.emc_base.proofs.FoundItems.{pairs_found}
use Rattle.emc_base.proofs.Joined.{apart-append, apart-map, in_flat_map}
use Rattle.msl_rules.specs.declared.msl_lists.raw.RawFragment.{RawFragment}
use Rattle.msl_rules.specs.declared.msl_lists.raw.RawLinkMapping.{RawLinkMapping}
use Rattle.msl_rules.specs.declared.msl_lists.raw.RawMapping.{RawMapping}
use Rattle.msl_rules.specs.declared.msl_lists.raw.RawSetMapping.{RawSetMapping}
use Rattle.msl_rules.specs.declared.msl_lists.raw.RawTypeMapping.{RawTypeMapping}
use Rattle.msl_rules.specs.MappingMeaning.{fragment_at, link_at, mapping_in}
use Rattle.msl_rules.specs.Sites.{LinkSite, Site, fragment_place, link_place, link_sites, sites, sites_of_set, sites_of_types}
use Rattle.msl_rules.specs.KeepsMapping.{HasFewItems, HasShortLists, IsShort}
use Rattle.msl_fragments.proofs.sound_owners.Fragments.{fragment_of, link_of, link_meant_at, meant_at, stands_in_types}
use Rattle.msl_fragments.proofs.sound_owners.places.NumberedLists.{numbered_pairs}
use Rattle.msl_fragments.proofs.sound_owners.places.PlaceTexts.{other_place, same_fragment_place, same_link_place}

-- an item of a short list stands at a small number
small : {X : Type 0} (items : List X) (i : ℕ) (item : X) → IsShort items → At items i item → i < 2 ^ 32
small items i item short here = let within : i < length items = slice_get_within items i item here in omega arith

-- numbered from nothing, an item has the number of its place
from_zero : {X : Type 0} (items : List X) (k m : ℕ) (item : X) → 0 + k ≡ m → At items k item → At items m item
from_zero items k m item number here = let P : ℕ → Type 0 = λ n. At items n item in subst P (sym (zero-add k) ∙ number) here

-- one item goes with all later ones, since there are none
single : {X : Type 0} (R : X → X → Type 0) (x : X) → AllPairs R (x ∷ [])
single R x i j d below within = absurd (omega arith)

-- a fragment stands at these numbers, which are small
record StandsAt (i j k : ℕ) (site : Site) : Type 0 where
  pub place : site.place ≡ fragment_place i j k
  pub few_i : i < 2 ^ 32
  pub few_j : j < 2 ^ 32
  pub few_k : k < 2 ^ 32

-- an association's mapping stands at this one
record LinkStandsAt (i : ℕ) (site : LinkSite) : Type 0 where
  pub place : site.place ≡ link_place i
  pub few : i < 2 ^ 32

-- the pointers of two places are different
abbrev Apart : Site → Site → Type 0
Apart one other = pointer_of one.place ≢ pointer_of other.place

abbrev LinksApart : LinkSite → LinkSite → Type 0
LinksApart one other = pointer_of one.place ≢ pointer_of other.place

-- fragments with one pointer have the same numbers
same_numbers : (i j k l m n : ℕ) (one other : Site) → StandsAt i j k one → StandsAt l m n other → pointer_of one.place ≡ pointer_of other.place
    → (i ≡ l) × (j ≡ m) × (k ≡ n)
same_numbers i j k l m n one other first second same =
    same_fragment_place i j k l m n first.few_i first.few_j first.few_k second.few_i second.few_j second.few_k
    (sym (ap pointer_of first.place) ∙ same ∙ ap pointer_of second.place)

module _ (i : ℕ) (few_i : i < 2 ^ 32) (set : RawSetMapping) where
  -- the fragments of a type mapping
  types_apart : (j : ℕ) (types : RawTypeMapping) → j < 2 ^ 32 → IsShort types.fragments → AllPairs Apart (sites_of_types i set j types)
  types_apart j types few_j short = subst (AllPairs Apart) (flat_map_single site_at (enumerate_from 0 types.fragments))
      (numbered_pairs Apart (λ entry. site_at entry ∷ []) (At types.fragments) (StandsAt i j) (λ k fragment here. single Apart (site_at (k, fragment))) comes
      (λ k n one other before first second same. let numbers = same_numbers i j k i j n one other first second same in let is : k ≡ n = numbers.2 in absurd (omega arith))
      0 types.fragments (from_zero types.fragments))
    where
      site_at : ℕ × RawFragment → Site
      site_at entry = record { place = fragment_place i j entry.0; set = set; types = types; fragment = entry.1 }

      comes : (k : ℕ) (fragment : RawFragment) → At types.fragments k fragment → (site : Site) → Contains (site_at (k, fragment) ∷ []) site → StandsAt i j k site
      comes k fragment here site has = record {
        place = ap (λ (site : Site). site.place) (only_member (site_at (k, fragment) ∷ []) (site_at (k, fragment)) site refl has);
        few_i = few_i;
        few_j = few_j;
        few_k = small types.fragments k fragment short here;
      }

  -- where a fragment of a set's mapping stands
  stands_in_set : IsShort set.types → All (λ types. IsShort types.fragments) set.types → (j : ℕ) (types : RawTypeMapping) → At set.types j types
      → (site : Site) → Contains (sites_of_types i set j types) site → (k : ℕ) × StandsAt i j k site
  stands_in_set few short j types here site has =
      let stands = stands_in_types i set j types site has in (
        stands.0,
        record {
          place = ap (λ (site : Site). site.place) (sym stands.3);
          few_i = few_i;
          few_j = small set.types j types few here;
          few_k = small types.fragments stands.0 stands.1 (All-contains (λ types. IsShort types.fragments) set.types types short (contains_at set.types j types here)) stands.2;
        },
      )

  -- the fragments of a set's mapping
  set_apart : IsShort set.types → All (λ types. IsShort types.fragments) set.types → AllPairs Apart (sites_of_set i set)
  set_apart few short =
      numbered_pairs Apart (λ entry. sites_of_types i set entry.0 entry.1) (At set.types) (λ j site. (k : ℕ) × StandsAt i j k site)
      (λ j types here. types_apart j types (small set.types j types few here)
      (All-contains (λ types. IsShort types.fragments) set.types types short (contains_at set.types j types here)))
      (stands_in_set few short)
      (λ j m one other before first second same. let numbers = same_numbers i j first.0 i m second.0 one other first.1 second.1 same in let is : j ≡ m = numbers.1 in absurd (omega arith))
      0 set.types (from_zero set.types)

module _ (raw : RawMapping) (few : HasFewItems raw) where
  -- the lists of a set's mapping are short
  short_types : (i : ℕ) (set : RawSetMapping) → At raw.sets i set → IsShort set.types
  short_types i set here = (All-contains HasShortLists raw.sets set few.each (contains_at raw.sets i set here)).types

  short_fragments : (i : ℕ) (set : RawSetMapping) → At raw.sets i set → All (λ types. IsShort types.fragments) set.types
  short_fragments i set here = (All-contains HasShortLists raw.sets set few.each (contains_at raw.sets i set here)).fragments

  -- where a fragment stands
  stands_in : (i : ℕ) (set : RawSetMapping) → At raw.sets i set → (site : Site) → Contains (sites_of_set i set) site → (j : ℕ) × (k : ℕ) × StandsAt i j k site
  stands_in i set here site has =
      let from = in_flat_map (λ (entry : ℕ × RawTypeMapping). sites_of_types i set entry.0 entry.1) (enumerate_from 0 set.types) site has in
      let stands = stands_in_set i (small raw.sets i set few.sets here) set (short_types i set here) (short_fragments i set here) from.0.0 from.0.1
      (enumerated_at set.types from.0 from.1) site from.2 in
      (from.0.0, stands.0, stands.1)

  -- all fragments
  sites_apart : AllPairs Apart (sites raw)
  sites_apart =
      numbered_pairs Apart (λ entry. sites_of_set entry.0 entry.1) (At raw.sets) (λ i site. (j : ℕ) × (k : ℕ) × StandsAt i j k site)
      (λ i set here. set_apart i (small raw.sets i set few.sets here) set (short_types i set here) (short_fragments i set here))
      stands_in
      (λ i m one other before first second same.
      let numbers = same_numbers i first.0 first.1 m second.0 second.1 one other first.2 second.2 same in let is : i ≡ m = numbers.0 in absurd (omega arith))
      0 raw.sets (from_zero raw.sets)

  -- and all mappings of associations
  links_apart : AllPairs LinksApart (link_sites raw)
  links_apart = subst (AllPairs LinksApart) (flat_map_single site_at (enumerate_from 0 raw.links))
      (numbered_pairs LinksApart (λ entry. site_at entry ∷ []) (At raw.links) LinkStandsAt (λ i link here. single LinksApart (site_at (i, link))) comes goes
      0 raw.links (from_zero raw.links))
    where
      site_at : ℕ × RawLinkMapping → LinkSite
      site_at entry = record { place = link_place entry.0; link = entry.1 }

      comes : (i : ℕ) (link : RawLinkMapping) → At raw.links i link → (site : LinkSite) → Contains (site_at (i, link) ∷ []) site → LinkStandsAt i site
      comes i link here site has = record {
        place = ap (λ (site : LinkSite). site.place) (only_member (site_at (i, link) ∷ []) (site_at (i, link)) site refl has);
        few = small raw.links i link few.links here;
      }

      goes : (i k : ℕ) (one other : LinkSite) → i < k → LinkStandsAt i one → LinkStandsAt k other → LinksApart one other
      goes i k one other before first second same =
          let is : i ≡ k = same_link_place i k first.few second.few (sym (ap pointer_of first.place) ∙ same ∙ ap pointer_of second.place) in
          absurd (omega arith)

  module _ (model : EntityModel) (store : StoreModel) where
    -- so it is of what the mapping has of them
    fragments_apart : AllPairs (λ one other. one.place ≢ other.place) (mapping_in model store raw).fragments
    fragments_apart = pairs_found (fragment_at model store) Apart (λ one other. one.place ≢ other.place)
        (λ site next one other is is_next apart same. apart (place_is site one is ∙ same ∙ sym (place_is next other is_next))) (sites raw) sites_apart
      where
        place_is : (site : Site) (fragment : Fragment) → fragment_at model store site ≡ Some fragment → pointer_of site.place ≡ fragment.place
        place_is site fragment is = ap (λ (fragment : Fragment). fragment.place) (meant_at model store site fragment is).is

    maps_apart : AllPairs (λ one other. one.place ≢ other.place) (mapping_in model store raw).links
    maps_apart = pairs_found (link_at model store) LinksApart (λ one other. one.place ≢ other.place)
        (λ site next one other is is_next apart same. apart (place_is site one is ∙ same ∙ sym (place_is next other is_next))) (link_sites raw) links_apart
      where
        place_is : (site : LinkSite) (fragment : LinkFragment) → link_at model store site ≡ Some fragment → pointer_of site.place ≡ fragment.place
        place_is site fragment is = ap (λ (fragment : LinkFragment). fragment.place) (link_meant_at model store site fragment is).is

    -- no fragment has the place of an association's mapping
    apart_from_links : (fragment : Fragment) (link : LinkFragment) → Contains (mapping_in model store raw).fragments fragment → Contains (mapping_in model store raw).links link
        → fragment.place ≢ link.place
    apart_from_links fragment link has has_link same =
        let one = fragment_of model store raw fragment has in
        let other = link_of model store raw link has_link in
        other_place one.here.i one.here.j one.here.k other.here.i
        (sym (ap pointer_of one.here.place) ∙ ap (λ (fragment : Fragment). fragment.place) one.meant.is ∙ same
        ∙ sym (ap (λ (fragment : LinkFragment). fragment.place) other.meant.is) ∙ ap pointer_of other.here.place)

    -- so all places are apart
    pub places_apart : AreApart (map (λ fragment. fragment.place) (mapping_in model store raw).fragments ++ map (λ fragment. fragment.place) (mapping_in model store raw).links)
    places_apart =
        let fragments = (mapping_in model store raw).fragments in
        let links = (mapping_in model store raw).links in
        let place_of : Fragment → List ℕ = λ fragment. fragment.place in
        let link_place_of : LinkFragment → List ℕ = λ fragment. fragment.place in
        apart-append (λ one other. one ≢ other) (map place_of fragments) (map link_place_of links)
        (apart-map place_of fragments fragments_apart) (apart-map link_place_of links maps_apart)
        (all_from_members (λ place. All (λ other. place ≢ other) (map link_place_of links)) (map place_of fragments) (λ place has.
        all_from_members (λ other. place ≢ other) (map link_place_of links) (λ other has_other same.
        let one = in_map place_of fragments place has in
        let next = in_map link_place_of links other has_other in
        apart_from_links one.0 next.0 one.1 next.1 (one.2 ∙ same ∙ sym next.2))))
