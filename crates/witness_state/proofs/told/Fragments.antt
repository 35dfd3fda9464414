-- The fragment of a name that disagrees with a region.
use Rattle.std.proofs.Common.{◌≡◌, ◌≢◌, ⊎_elim, ℕ, List, Contains, bytes_eq, find, None, Some, Bool, true, false, true≢false, IsTrue, sym, subst, ◌∙◌}
use Rattle.std.specs.List.{list_any}
use Rattle.std.proofs.lemmas.Bool.{and_parts}
use Rattle.std.proofs.lemmas.List.Folds.{Any-from_list_any, list_any-from_Any}
use Rattle.std.proofs.lemmas.Slice.Eq.{bytes_eq-Decides}
use Rattle.round_trip.specs.Words.{Fragment, LinkFragment}
use Rattle.schema_laws.proofs.state_demand.lists.Lists.{any_of, of_any}
use Rattle.cells.specs.declared.parts.Parts.{Parts}
use Rattle.regions.specs.Basis.{Basis}
use Rattle.regions.specs.Patterns.{pattern_of}
use Rattle.regions.specs.Shown.{shows_link_row}
use Rattle.regions.specs.Symbols.{is_linked}
use Rattle.regions.specs.declared.pattern.Focus.TheVariants as focus
use Rattle.regions.specs.declared.region.Region.{Region}
use Rattle.regions.specs.region_laws.IsBasis.{IsBasis}
use Rattle.regions.proofs.region_laws.pattern.Choices.{found_passes, none_passes}
use Rattle.region_states.specs.conflicts.Facts.{differ, differs_at_links, disagrees_at, is_hosted, shows_link_pattern}
use Rattle.region_states.specs.declared.conflicts.conflict.Conflict.TheVariants as conflict
use Rattle.region_states.specs.focus.Held.{HasRow}
use Rattle.region_states.specs.region_basis.BasisOf.{basis_of}
use Rattle.region_states.proofs.region_basis.Bases.{basis_is}
use Rattle.conflict_laws.proofs.disagreement.Deciding.{Decides-disagrees, Decides-hosted, SomeDiffers, SomeLinksDiffer}
use Rattle.conflict_laws.proofs.disagreement.OneOnly.{one_is_so}
use Rattle.conflict_laws.proofs.disagreement.PatternRows.{linked_row, shown_row}
use Rattle.failure_laws.proofs.witness.Computed.{fact_computed}
use Rattle.failure_laws.proofs.witness.regions.FragmentPlaces.{one_link_named}
use Rattle.witness_state.specs.FirstConflict.{IsFirstConflict}

module _ (basis : Basis) (is : IsBasis basis) (region : Region) (name : List ℕ) where
  abbrev has_name : Fragment → Bool
  has_name one = bytes_eq one.place name

  abbrev links_named : LinkFragment → Bool
  links_named one = bytes_eq one.place name

  -- a fragment of entities has the name
  pub named_there : list_any has_name basis.schema.mapping.fragments ≡ true → (fragment : Fragment) × Contains basis.schema.mapping.fragments fragment × (fragment.place ≡ name)
  named_there told =
      let found = of_any (λ one. has_name one ≡ true) basis.schema.mapping.fragments (Any-from_list_any has_name basis.schema.mapping.fragments told) in
      (found.0, found.1, (bytes_eq-Decides found.0.place name).0 found.2)

  -- where none has, a fragment of links that has it disagrees
  pub links_differ : list_any has_name basis.schema.mapping.fragments ≡ false → IsTrue (disagrees_at basis (focus.Entity region) name) → SomeLinksDiffer basis region name
  links_differ none told = ⊎_elim
      (λ (one : SomeDiffers basis region name). absurd (true≢false (sym
      (list_any-from_Any has_name basis.schema.mapping.fragments (any_of (λ other. has_name other ≡ true) basis.schema.mapping.fragments one.0 one.1 ((bytes_eq-Decides one.0.place name).1 one.2.0)))
      ∙ none)))
      (λ (links : SomeLinksDiffer basis region name). links)
      ((Decides-disagrees basis region name).0 told)

  -- so one is found
  pub links_found : SomeLinksDiffer basis region name → find links_named basis.schema.mapping.links ≢ None
  links_found (one, mapped, (named, told)) none = none_passes links_named basis.schema.mapping.links one none mapped ((bytes_eq-Decides one.place name).1 named)

  module _ (fragment : LinkFragment) (found : find links_named basis.schema.mapping.links ≡ Some fragment) where
    passes : Contains basis.schema.mapping.links fragment × (links_named fragment ≡ true)
    passes = let there = found_passes links_named basis.schema.mapping.links fragment found in (there.0, there.1)

    pub found_mapped : Contains basis.schema.mapping.links fragment
    found_mapped = passes.0

    pub found_named : fragment.place ≡ name
    found_named = (bytes_eq-Decides fragment.place name).0 passes.1

    -- and the region's pattern has a row of its table
    pub found_row : SomeLinksDiffer basis region name → HasRow (pattern_of basis (focus.Entity region)) fragment.table
    found_row (one, mapped, (named, told)) =
        let same : one ≡ fragment = one_link_named basis is one fragment mapped passes.0 (named ∙ sym found_named) in
        let differs : IsTrue (differs_at_links basis region fragment) = subst (λ f. IsTrue (differs_at_links basis region f)) same told in
        let flagged : Bool = is_linked basis region.linked fragment.assoc in
        let shown : Bool = shows_link_pattern basis (focus.Entity region) fragment in
        let parts = and_parts (is_hosted basis region fragment.assoc) (differ flagged shown) differs in
        let host = (Decides-hosted basis region fragment.assoc).0 parts.0 in
        ⊎_elim
        (λ (so : IsTrue flagged). linked_row basis is region host.0 host.1 fragment passes.0 host.2 so)
        (λ (so : IsTrue shown). shown_row basis (focus.Entity region) fragment.table (shows_link_row basis.schema.model region.atoms fragment) so)
        (one_is_so flagged shown parts.1)

-- that a region disagrees with the fragments of a name is computed
pub disagrees_so : (parts : Parts) (region : Region) (name : List ℕ) → IsFirstConflict parts (conflict.Disagree (focus.Entity region) name)
    → IsTrue (disagrees_at (basis_of parts) (focus.Entity region) name)
disagrees_so parts region name first =
    fact_computed (basis_of parts) (basis_is parts first.are) first.are.limits (conflict.Disagree (focus.Entity region) name) first.of_one first.earlier first.so
