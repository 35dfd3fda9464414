-- Fragments that disagree with a focus: what is computed of them, and what is so.
use Rattle.std.proofs.Common.{◌≡◌, ◌↔◌, ◌⊎◌, ⊎_elim, inl, inr, ◌==◌, ◌&&◌, ℕ, List, Bool, Contains, Decides, IsTrue, refl, sym, ap, subst, ◌∙◌, arith}
use Rattle.std.specs.List.{list_any}
use Rattle.std.proofs.lemmas.Bool.{and_from, and_parts}
use Rattle.std.proofs.lemmas.Bool.Decides.{Decides-eqb, Decides-like}
use Rattle.emc_base.proofs.Lists.{only_stands}
use Rattle.round_trip.specs.Words.{AssocId, Fragment, IsLegal, Link, LinkFragment, Row, Selects, SetId, Shows, ShowsLink, State, TableId}
use Rattle.round_trip.specs.declared.FailKind.TheVariants as kind
use Rattle.schema_laws.specs.sound_demand.Disagreeing.{IsOneOnly}
use Rattle.schema_laws.specs.state_demand.Owners.{IsJoinedTo}
use Rattle.schema_laws.proofs.state_demand.writings.Decisions.{so_or_not}
use Rattle.cells.specs.Limits.{IsWithinLimits}
use Rattle.regions.specs.declared.region.Region.{Region}
use Rattle.regions.specs.declared.pattern.Focus.{Focus}
use Rattle.regions.specs.declared.pattern.Focus.TheVariants as focus
use Rattle.regions.specs.declared.pattern.PatternRow.{PatternRow}
use Rattle.regions.specs.Basis.{Basis, Host}
use Rattle.regions.specs.Patterns.{Valuation, pattern_of}
use Rattle.regions.specs.Regions.{regions_of}
use Rattle.regions.specs.Shown.{shows_link_row, shows_row}
use Rattle.regions.specs.Symbols.{is_linked, selects_region}
use Rattle.regions.specs.region_laws.Held.{Holding}
use Rattle.regions.specs.region_laws.IsBasis.{IsBasis}
use Rattle.regions.specs.region_laws.pattern.Allowed.{AllowedFocus, IsAllowed, RegionValues, told_of}
use Rattle.regions.specs.region_laws.pattern.Described.{DescribedRow, HasNoClashes, row_for}
use Rattle.regions.proofs.region_laws.entities.Selected.{Decides-selected}
use Rattle.regions.proofs.region_laws.listing.Listed.{set_is}
use Rattle.regions.proofs.region_laws.pattern.Laws.{described}
use Rattle.regions.proofs.region_laws.pattern.rows.Shown.{link_shown, shown}
use Rattle.regions.proofs.region_laws.pattern.symbols.Origins.{linked_decided}
use Rattle.region_states.specs.Entities.{focus_entity}
use Rattle.region_states.specs.conflicts.Facts.{differ, differs_at, differs_at_links, disagrees_at, is_hosted, shows_link_pattern, shows_pattern}
use Rattle.region_states.specs.conflicts.There.{NoneFailsBy}
use Rattle.region_states.specs.defaults.Defaults.{default_valuation}
use Rattle.region_states.proofs.Held.{flag_links, flags_held}
use Rattle.region_states.proofs.defaults.Defaults.{default_admissible}
use Rattle.conflict_laws.proofs.clash.Clear.{region_clear}
use Rattle.conflict_laws.proofs.disagreement.Deciding.{Decides-disagrees, Decides-hosted, SomeDiffers, SomeLinksDiffer}
use Rattle.conflict_laws.proofs.disagreement.OneOnly.{differ_by, one_only_by}
use Rattle.conflict_laws.proofs.disagreement.PatternRows.{shown_by, shown_row}
use Rattle.conflict_laws.specs.States.{ClearStates}
use Rattle.failure_laws.specs.Facts.{Disagrees, FragmentDiffers, HidesLink, LinkFragmentDiffers, ShowsRow}
use Rattle.region_states.proofs.joined_laws.OneRow.{joined_row}
use Rattle.failure_laws.proofs.links.LinkHides.{Decides-hides, SomeHides}
use Rattle.failure_laws.proofs.links.LinkRows.{row_clear}
use Rattle.failure_laws.proofs.witness.facts.LinkValues.{plain_allowed}

-- a focus with allowed values, no row of whose pattern clashes
module _ (basis : Basis) (is : IsBasis basis) (told : AllowedFocus basis)
    (clear : (row : PatternRow) → Contains (pattern_of basis told.of).rows row → HasNoClashes basis.schema.model (told_of told.of) row) where
  abbrev described_by : (row : PatternRow) → Contains (pattern_of basis told.of).rows row → DescribedRow basis told
  described_by row has = record {
    pattern = row;
    clear = record { is_row = has; clear = clear row has };
    row = row_for told.values row;
    is_row = described basis is told row (record { is_row = has; clear = clear row has });
  }

  -- a test of the row of a table that tells of the described row what is asked
  module _ (t : TableId) (shows : PatternRow → Bool) (IsShown : Row → Type 0)
      (tells : (row : PatternRow) (has : Contains (pattern_of basis told.of).rows row) → row.table ≡ t → Decides (shows row) (IsShown (row_for told.values row))) where
    abbrev some_shown : Bool
    some_shown = list_any (λ row. (row.table.index == t.index) && shows row) (pattern_of basis told.of).rows

    Decides-shown : Decides some_shown (ShowsRow basis told.of told.values t IsShown)
    Decides-shown = (
      (λ any.
          let row = shown_row basis told.of t shows any in
          let is_shown : IsTrue (shows row.0) = (shown_by basis told.of t shows row.0 row.1 row.2).0 any in
          record { row = row.0; is_row = row.1; of_table = row.2; shown = (tells row.0 row.1 row.2).0 is_shown }),
      (λ so. (shown_by basis told.of t shows so.row so.is_row so.of_table).1 ((tells so.row so.is_row so.of_table).1 so.shown)),
    )

  Decides-row : (fragment : Fragment) → Contains basis.schema.mapping.fragments fragment
      → Decides (shows_pattern basis told.of fragment) (ShowsRow basis told.of told.values fragment.table (Shows fragment))
  Decides-row fragment mapped = Decides-shown fragment.table (shows_row basis.schema.model (told_of told.of) fragment) (Shows fragment)
      (λ row has to. shown basis is told (described_by row has) fragment mapped (sym to))

  pub Decides-link_row : (fragment : LinkFragment) → Contains basis.schema.mapping.links fragment
      → Decides (shows_link_pattern basis told.of fragment) (ShowsRow basis told.of told.values fragment.table (ShowsLink fragment))
  Decides-link_row fragment mapped = Decides-shown fragment.table (shows_link_row basis.schema.model (told_of told.of) fragment) (ShowsLink fragment)
      (λ row has to. link_shown basis is told (described_by row has) fragment mapped (sym to))

-- two answers of which each tells what is so differ where just one is so
module _ (One Other : Type 0) (one two : Bool) (first : Decides one One) (second : Decides two Other) where
  alike : (One ↔ Other) ↔ (IsTrue one ↔ IsTrue two)
  alike = (
    (λ same. ((λ so. second.1 (same.0 (first.0 so))), λ so. first.1 (same.1 (second.0 so)))),
    (λ same. ((λ so. second.0 (same.0 (first.1 so))), λ so. first.0 (same.1 (second.1 so)))),
  )

  Decides-one_only : Decides (differ one two) (IsOneOnly One Other)
  Decides-one_only = (one_only_by One Other one two alike (so_or_not one first) (so_or_not two second), differ_by One Other one two alike)

module _ (basis : Basis) (states : ClearStates basis) (s : SetId) (region : Region) (has : Contains (regions_of basis s) region) where
  module _ (values : Valuation) (allowed : IsAllowed basis region values) where
    abbrev told_region : AllowedFocus basis
    told_region = record { of = focus.Entity region; is_focus = (s, has); values = values; allowed = allowed }

    clear : (row : PatternRow) → Contains (pattern_of basis (focus.Entity region)).rows row → HasNoClashes basis.schema.model region.atoms row
    clear row is_row = region_clear basis states s region has row is_row

    abbrev holding : Holding basis
    holding = record {
      s = s;
      region = region;
      entity = focus_entity basis region values;
      links = flag_links region;
      listed = has;
      holds = flags_held basis states.given.is_basis (record { s = s; region = region; listed = has; values = values }) allowed;
    }

    -- of a fragment of entities
    decides : (fragment : Fragment) → Contains basis.schema.mapping.fragments fragment
        → Decides (differ (selects_region basis region fragment) (shows_pattern basis (focus.Entity region) fragment))
        (IsOneOnly (Selects basis.schema.model fragment (focus_entity basis region values)) (ShowsRow basis (focus.Entity region) values fragment.table (Shows fragment)))
    decides fragment mapped = Decides-one_only (Selects basis.schema.model fragment (focus_entity basis region values))
        (ShowsRow basis (focus.Entity region) values fragment.table (Shows fragment))
        (selects_region basis region fragment) (shows_pattern basis (focus.Entity region) fragment)
        (Decides-selected basis states.given.is_basis fragment mapped holding)
        (Decides-row basis states.given.is_basis told_region clear fragment mapped)

    -- and of one of hosted links
    decides_links : (fragment : LinkFragment) → Contains basis.schema.mapping.links fragment
        → Decides (differ (is_linked basis region.linked fragment.assoc) (shows_link_pattern basis (focus.Entity region) fragment))
        (IsOneOnly (Contains region.linked fragment.assoc) (ShowsRow basis (focus.Entity region) values fragment.table (ShowsLink fragment)))
    decides_links fragment mapped = Decides-one_only (Contains region.linked fragment.assoc) (ShowsRow basis (focus.Entity region) values fragment.table (ShowsLink fragment))
        (is_linked basis region.linked fragment.assoc) (shows_link_pattern basis (focus.Entity region) fragment)
        (linked_decided basis region.linked fragment.assoc)
        (Decides-link_row basis states.given.is_basis told_region clear fragment mapped)

  usual : IsAllowed basis region (default_valuation basis 0 region)
  usual = (default_admissible basis states.given.is_basis states.given.limits s region has 0 (omega arith)).allowed

  module _ (place : List ℕ) where
    fragment_so : SomeDiffers basis region place → FragmentDiffers basis region place
    fragment_so (fragment, mapped, (named, differs)) =
        let parts = and_parts (fragment.set.index == region.set.index)
        (differ (selects_region basis region fragment) (shows_pattern basis (focus.Entity region) fragment)) differs in
        let number = (Decides-eqb fragment.set.index region.set.index).0 parts.0 in
        record {
          fragment = fragment;
          mapped = mapped;
          at_place = named;
          of_set = λ k. record { index = number k };
          values = default_valuation basis 0 region;
          allowed = usual;
          one_only = (decides (default_valuation basis 0 region) usual fragment mapped).0 parts.1;
        }

    links_so : SomeLinksDiffer basis region place → LinkFragmentDiffers basis region place
    links_so (fragment, mapped, (named, differs)) =
        let parts = and_parts (is_hosted basis region fragment.assoc)
        (differ (is_linked basis region.linked fragment.assoc) (shows_link_pattern basis (focus.Entity region) fragment)) differs in
        let host = (Decides-hosted basis region fragment.assoc).0 parts.0 in
        record {
          fragment = fragment;
          mapped = mapped;
          at_place = named;
          host = host.0;
          hosted = host.1;
          of_assoc = host.2;
          values = default_valuation basis 0 region;
          allowed = usual;
          one_only = (decides_links (default_valuation basis 0 region) usual fragment mapped).0 parts.1;
        }

    pub region_differs_so : IsTrue (disagrees_at basis (focus.Entity region) place) → Disagrees basis (focus.Entity region) place
    region_differs_so told = ⊎_elim (λ (one : SomeDiffers basis region place). inl (fragment_so one)) (λ (one : SomeLinksDiffer basis region place). inr (links_so one))
        ((Decides-disagrees basis region place).0 told)

    fragment_computed : (so : FragmentDiffers basis region place) → SomeDiffers basis region place
    fragment_computed so =
        let number : so.fragment.set.index ≡ region.set.index = ap (λ (u : SetId). u.index) so.of_set in (
          so.fragment,
          so.mapped,
          (
            so.at_place,
            and_from (so.fragment.set.index == region.set.index)
                (differ (selects_region basis region so.fragment) (shows_pattern basis (focus.Entity region) so.fragment))
                ((Decides-eqb so.fragment.set.index region.set.index).1 number) ((decides so.values so.allowed so.fragment so.mapped).1 so.one_only),
          ),
        )

    links_computed : (so : LinkFragmentDiffers basis region place) → SomeLinksDiffer basis region place
    links_computed so = (
      so.fragment,
      so.mapped,
      (
        so.at_place,
        and_from (is_hosted basis region so.fragment.assoc)
            (differ (is_linked basis region.linked so.fragment.assoc) (shows_link_pattern basis (focus.Entity region) so.fragment))
            ((Decides-hosted basis region so.fragment.assoc).1 (so.host, so.hosted, so.of_assoc)) ((decides_links so.values so.allowed so.fragment so.mapped).1 so.one_only),
      ),
    )

    pub region_differs_computed : Disagrees basis (focus.Entity region) place → IsTrue (disagrees_at basis (focus.Entity region) place)
    region_differs_computed (inl so) = (Decides-disagrees basis region place).1 (inl (fragment_computed so))
    region_differs_computed (inr so) = (Decides-disagrees basis region place).1 (inr (links_computed so))
