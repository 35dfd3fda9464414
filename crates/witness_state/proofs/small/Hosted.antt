-- The hosted associations of which a region has a link, while a loop passes those of the model.
use Rattle.std.proofs.Common.{◌≡◌, ℕ, ◌+◌, ◌≤◌, List, [], ◌∷◌, ◌++◌, map, filter, flat_map, take, length, Bool, Option, unwrap_or, refl, sym, ap, ◌∙◌}
use Rattle.std.specs.List.{cons_option, enumerate_from}
use Rattle.std.proofs.lemmas.List.{map-append}
use Rattle.std.proofs.lemmas.List.Elements.{filter-append}
use Rattle.std.proofs.lemmas.List.Folds.{flat_map-map}
use Rattle.emc_base.specs.Lists.{At}
use Rattle.emc_base.proofs.Loops.{take-enumerated}
use Rattle.emc_base.proofs.facts.Images.{one_more_gives}
use Rattle.round_trip.specs.Words.{AssocId, Assoc}
use Rattle.table_owners.specs.declared.places.LinkPlace.{LinkPlace}
use Rattle.table_owners.specs.declared.places.LinkPlace.TheVariants as place
use Rattle.cells.specs.declared.parts.Parts.{Parts}
use Rattle.regions.specs.declared.region.Region.{Region}
use Rattle.regions.specs.Basis.{Basis, Host}
use Rattle.regions.specs.Symbols.{is_linked}
use Rattle.region_states.specs.region_basis.BasisOf.{basis_of, host_at, host_by, hosts_told}
use Rattle.host_states.specs.FocusStates.{linked_hosts}
use Rattle.witness_state.specs.SmallRegions.{host_of, linked_at}
use Rattle.witness_state.specs.declared.small_regions.hosts.Hosting.{Hosting}

-- what passes of lists, list by list
filter_lists : {X Y : Type 0} (p : Y → Bool) (g : X → List Y) (xs : List X) → filter p (flat_map g xs) ≡ flat_map (λ x. filter p (g x)) xs
filter_lists p g [] = refl
filter_lists p g (x ∷ xs) = filter-append p (g x) (flat_map g xs) ∙ ap (λ ys. filter p (g x) ++ ys) (filter_lists p g xs)

module _ (parts : Parts) (region : Region) where
  -- those among the associations so far
  abbrev pub linked_before : ℕ → List Host
  linked_before i = flat_map (linked_at (basis_of parts) parts.cells.now.places region) (take i (enumerate_from 0 parts.model.now.assocs))

  -- one association more
  pub linked_more : (i : ℕ) (assoc : Assoc) → At parts.model.now.assocs i assoc → (hosts after : List Hosting) (found : Option Hosting) → map host_of hosts ≡ linked_before i
      → after ≡ hosts ++ cons_option found [] → map host_of (cons_option found []) ≡ linked_at (basis_of parts) parts.cells.now.places region (i, assoc)
      → map host_of after ≡ linked_before (i + 1)
  linked_more i assoc here hosts after found before is told =
      ap (map host_of) is ∙ map-append host_of hosts (cons_option found [])
      ∙ (λ k. before k ++ told k)
      ∙ sym (one_more_gives (linked_at (basis_of parts) parts.cells.now.places region) parts.model.now.assocs i assoc here)

  -- all of them
  pub linked_whole : (i : ℕ) → length parts.model.now.assocs ≤ i → linked_before i ≡ linked_hosts (basis_of parts) region
  linked_whole i end =
      ap (flat_map (linked_at (basis_of parts) parts.cells.now.places region)) (take-enumerated parts.model.now.assocs i end)
      ∙ sym (filter_lists (λ (host : Host). is_linked (basis_of parts) region.linked host.assoc) (host_at parts.cells.now.places region.set) (enumerate_from 0 parts.model.now.assocs))

  -- one by the place that is told
  pub linked_here : (a : AssocId) (assoc : Assoc) (told : LinkPlace) (end : Option Bool) → At parts.cells.now.places a.index told
      → ((id : AssocId) → host_by region.set id assoc told ≡ hosts_told id end)
      → filter (λ (host : Host). is_linked (basis_of parts) region.linked host.assoc) (hosts_told a end) ≡ linked_at (basis_of parts) parts.cells.now.places region (a.index, assoc)
  linked_here a assoc told end there is =
      ap (filter (λ (host : Host). is_linked (basis_of parts) region.linked host.assoc))
      (sym (ap (λ (o : Option LinkPlace). host_by region.set a assoc (unwrap_or o place.Unmapped)) there ∙ is a))

-- what is made of them
pub by_hosts : (basis : Basis) (region : Region) {X : Type 0} (make : Host → List X) (slice hosts : List Hosting) → slice ≡ hosts → map host_of hosts ≡ linked_hosts basis region
    → flat_map (λ hosting. make (host_of hosting)) slice ≡ flat_map make (linked_hosts basis region)
by_hosts basis region make slice hosts same are =
    sym (flat_map-map make host_of slice) ∙ ap (λ list. flat_map make (map host_of list)) same ∙ ap (flat_map make) are
