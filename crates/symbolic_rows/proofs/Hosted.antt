-- The one fragment that writes the links of an association which cells tell as hosted.
use Rattle.std.proofs.Common.{◌≡◌, ◌≢◌, ◌<◌, ℕ, List, [], ◌∷◌, ◌==◌, ◌&&◌, ◌++◌, AllPairs, Bool, true, false, length, map, not, Some, flat_map, sym, ap, ◌∙◌, subst, if◌then◌else◌, arith}
use Rattle.std.specs.List.{enumerate_from}
use Rattle.std.proofs.lemmas.List.{get_or-map, length-map}
use Rattle.emc_base.specs.Lists.{At, AreApart, AtMostOne}
use Rattle.emc_base.proofs.Lists.{same_place}
use Rattle.emc_base.proofs.Mapped.{contains_at}
use Rattle.emc_base.proofs.facts.Tests.{not_is}
use Rattle.round_trip.specs.Words.{Assoc, AssocId, LinkFragId, LinkFragment}
use Rattle.table_owners.specs.declared.places.LinkPlace.TheVariants as place
use Rattle.cells.specs.declared.parts.Parts.{Parts}
use Rattle.cells.specs.Parts.{AreParts}
use Rattle.regions.specs.declared.region.Region.{Region}
use Rattle.regions.specs.Basis.{Host, host_end}
use Rattle.regions.specs.Symbols.{SymbolWriting, fragment_writing, fragments_of, host_writings, is_linked, link_fragment_writing, link_fragments_of, region_writings}
use Rattle.region_states.specs.region_basis.BasisOf.{basis_of, host_at}
use Rattle.regions.proofs.region_laws.lists.Found.{filter_one}
use Rattle.schema_laws.proofs.state_demand.lists.Ids.{Decides-assoc}
use Rattle.symbolic_rows.specs.Written.{writings_at, writings_by}
use Rattle.symbolic_rows.proofs.Behind.{by_lists, one_passes}

module _ (parts : Parts) (are : AreParts parts) where
  abbrev links : List LinkFragment
  links = parts.mapping.now.links

  -- each association is mapped once
  once : (a : AssocId) → AtMostOne (λ (fragment : LinkFragment). fragment.assoc ≡ a) links
  once a i j one other at_one at_other of_one of_other =
      same_place (λ (fragment : LinkFragment). fragment.assoc) links i j one other images at_one at_other (of_one ∙ sym of_other)
    where
      images : AllPairs (λ (one other : LinkFragment). one.assoc ≢ other.assoc) links
      images i j d below within both =
          let inside : i < length links = omega (arith, below, within) in
          let Below : ℕ → Type 0 = λ n. j < n in
          let apart : AreApart (map (λ (fragment : LinkFragment). fragment.assoc) links) = are.sound.mapping.assocs in
          apart i j d.assoc below (subst Below (sym (length-map links (λ (fragment : LinkFragment). fragment.assoc))) within)
          (get_or-map (λ (fragment : LinkFragment). fragment.assoc) links i d d.assoc inside ∙ both
          ∙ sym (get_or-map (λ (fragment : LinkFragment). fragment.assoc) links j d d.assoc within))

  module _ (a : AssocId) (assoc : Assoc) (here : At parts.model.now.assocs a.index assoc) (first_hosts : Bool) (number : LinkFragId)
      (told : At parts.cells.now.places a.index (place.Hosted first_hosts number)) where
    -- the fragment of the number that is told is there
    pub fragment_there : (fragment : LinkFragment) × At links number.index fragment
    fragment_there = let tells = are.cells.places.each a assoc (place.Hosted first_hosts number) here told in (tells.0, (tells.1).is_fragment)

    module _ (fragment : LinkFragment) (there : At links number.index fragment) where
      maps : fragment.assoc ≡ a
      maps =
          let tells = are.cells.places.each a assoc (place.Hosted first_hosts number) here told in
          let same : tells.0 ≡ fragment = (let both : Some tells.0 ≡ Some fragment = sym (tells.1).is_fragment ∙ there in cc) in
          sym (ap (λ (f : LinkFragment). f.assoc) same) ∙ (tells.1).of_assoc

      -- and alone
      alone : link_fragments_of (basis_of parts) a ≡ fragment ∷ []
      alone = filter_one (λ (f : LinkFragment). f.assoc.index == a.index) (λ f. f.assoc ≡ a) (λ f. Decides-assoc f.assoc a) links (once a) fragment
          (contains_at links number.index fragment there) maps

      pub host_writes : (region : Region) → true ≡ (((host_end first_hosts assoc).set.index == region.set.index) && is_linked (basis_of parts) region.linked a)
          → writings_at (basis_of parts) region a assoc (place.Hosted first_hosts number) ≡ link_fragment_writing first_hosts (not first_hosts) fragment ∷ []
      host_writes region linked =
          let host : Host = record { assoc = a; first_hosts = first_hosts } in
          let at_set : Bool = (host_end first_hosts assoc).set.index == region.set.index in
          one_passes (host_writings (basis_of parts)) (λ h. is_linked (basis_of parts) region.linked h.assoc) host at_set linked
          ∙ ap (map (link_fragment_writing first_hosts (if first_hosts then false else true))) alone
          ∙ ap (λ second. link_fragment_writing first_hosts second fragment ∷ []) (sym (not_is first_hosts))

  -- what comes for the fragments of entities and then for the associations is what the region writes
  pub region_writes : (region : Region) (first own all : List SymbolWriting) → first ≡ [] → own ≡ first ++ map fragment_writing (fragments_of (basis_of parts) region)
      → all ≡ own ++ flat_map (writings_by (basis_of parts) parts.cells.now.places region) (enumerate_from 0 parts.model.now.assocs)
      → all ≡ region_writings (basis_of parts) region
  region_writes region first own all none entities hosted =
      let fragments = map fragment_writing (fragments_of (basis_of parts) region) in
      let links = flat_map (writings_by (basis_of parts) parts.cells.now.places region) (enumerate_from 0 parts.model.now.assocs) in
      hosted
      ∙ ap (λ before. before ++ links) (entities ∙ ap (λ none. none ++ fragments) none)
      ∙ ap (λ behind. fragments ++ behind)
      (sym (by_lists (host_writings (basis_of parts)) (λ host. is_linked (basis_of parts) region.linked host.assoc) (host_at parts.cells.now.places region.set)
      (enumerate_from 0 parts.model.now.assocs)))
