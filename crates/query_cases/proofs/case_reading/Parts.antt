-- Where the parts of partners' keys stand in a case, and that links of which one is there are hosted.
use Rattle.std.proofs.Common.{◌≡◌, ◌≢◌, ◌<◌, ◌≤◌, ◌==◌, ℕ, List, position, get_or, length, All, Bool, true, false, true≢false, Contains, Option, None, Some, refl, sym, subst, ◌∙◌, arith}
use Rattle.std.proofs.lemmas.Bool.{and_from, and_parts}
use Rattle.std.proofs.lemmas.List.Quantifiers.{position-Some}
use Rattle.std.proofs.lemmas.Option.{slice_get-get_or, slice_get_within}
use Rattle.emc_base.proofs.Lists.{all_from_members, at_once}
use Rattle.emc_base.proofs.Mapped.{contains_at}
use Rattle.emc_base.proofs.Members.{none_passes}
use Rattle.emc_base.proofs.Numbered.{map_contains}
use Rattle.round_trip.specs.Words.{Assoc, AssocId, At, ColId, LinkFragId, PropId, SetId, TableId}
use Rattle.table_owners.specs.declared.places.LinkPlace.{LinkPlace}
use Rattle.table_owners.specs.declared.places.LinkPlace.TheVariants as place
use Rattle.table_owners.specs.Places.{AreToldHosted}
use Rattle.table_owners.proofs.ownership.Hosting.{told_hosted}
use Rattle.schema_laws.proofs.state_demand.lists.Ids.{Decides-assoc, Decides-prop}
use Rattle.cells.specs.declared.parts.Parts.{Parts}
use Rattle.cells.specs.Parts.{AreParts, schema_in}
use Rattle.regions.specs.declared.region.Region.{Region}
use Rattle.regions.specs.Basis.{Host}
use Rattle.regions.specs.Regions.{regions_of}
use Rattle.regions.specs.region_laws.IsBasis.{IsBasis, IsHostOf}
use Rattle.regions.proofs.region_laws.listing.Listed.{set_is}
use Rattle.regions.proofs.region_laws.listing.Possible.{linked_hosts}
use Rattle.region_states.specs.region_basis.BasisOf.{basis_of}
use Rattle.case_laws.specs.declared.region_cases.case.Case.{Case}
use Rattle.case_laws.specs.declared.region_cases.case.CaseCell.{CaseCell}
use Rattle.case_laws.specs.declared.region_cases.case.CaseCell.TheVariants as cell
use Rattle.case_laws.specs.declared.region_cases.case.CaseRow.{CaseRow}
use Rattle.case_laws.specs.region_cases.Cases.{case_of, cases_of}
use Rattle.query_cases.specs.declared.case_reading.reading.CellPlace.{CellPlace}
use Rattle.query_cases.specs.case_reading.Links.{IsHosted, ShowsPartAt, shows_part}
use Rattle.query_cases.proofs.case_reading.Turns.{Below}

-- what is no item is none
pub none_of : {X : Type 0} (o : Option X) → ((x : X) → o ≢ Some x) → o ≡ None
none_of None not = refl
none_of (Some x) not = absurd (not x refl)

module _ (a : AssocId) (p : PropId) where
  -- what passes the test shows the part
  part_told : (told : CaseCell) → shows_part a p told ≡ true → told ≡ cell.Partner a p
  part_told (cell.Const value) is = absurd (true≢false (sym is))
  part_told (cell.Prop q) is = absurd (true≢false (sym is))
  part_told cell.Free is = absurd (true≢false (sym is))
  part_told (cell.Partner b q) is =
      let both = and_parts (b.index == a.index) (q.index == p.index) is in
      let one : b ≡ a = (Decides-assoc b a).0 both.0 in
      let two : q ≡ p = (Decides-prop q p).0 both.1 in
      λ k. cell.Partner (one k) (two k)

  part_passes : shows_part a p (cell.Partner a p) ≡ true
  part_passes = and_from (a.index == a.index) (p.index == p.index) ((Decides-assoc a a).1 refl) ((Decides-prop p p).1 refl)

  pub part_found : (cells : List CaseCell) (col : ℕ) → position (shows_part a p) cells ≡ Some col → At cells col (cell.Partner a p)
  part_found cells col found =
      let so = position-Some (shows_part a p) cells col (cell.Partner a p) found in
      let here : At cells col (get_or cells col (cell.Partner a p)) = slice_get-get_or cells col (cell.Partner a p) so.0 in
      subst (λ told. At cells col told) (part_told (get_or cells col (cell.Partner a p)) so.1) here

  pub part_lacks : (cells : List CaseCell) → position (shows_part a p) cells ≡ None → (col : ℕ) → ¬ At cells col (cell.Partner a p)
  part_lacks cells none col here = true≢false (sym part_passes ∙ none_passes (shows_part a p) cells (cell.Partner a p) none (contains_at cells col (cell.Partner a p) here))

-- no cell of the row shows it
abbrev pub LacksPart : List CaseRow → AssocId → PropId → ℕ → Type 0
LacksPart rows a p row = (told : CaseRow) → At rows row told → (col : ℕ) → ¬ At told.cells col (cell.Partner a p)

pub row_lacks : (rows : List CaseRow) (a : AssocId) (p : PropId) (row : ℕ) (told : CaseRow) → At rows row told → position (shows_part a p) told.cells ≡ None
    → LacksPart rows a p row
row_lacks rows a p row told here none other at_other col =
    subst (λ (one : CaseRow). ¬ At one.cells col (cell.Partner a p)) (at_once rows row told other here at_other) (part_lacks a p told.cells none col)

-- where no row shows it, any place will do
pub none_shows : (case : Case) (a : AssocId) (p : PropId) (n : ℕ) → length case.rows ≤ n → Below (LacksPart case.rows a p) n → (other : CellPlace) → ¬ ShowsPartAt case a p other
none_shows case a p n end all other shows =
    let within = slice_get_within case.rows other.row shows.row shows.at_row in
    all other.row (omega (arith, within, end)) shows.row shows.at_row other.col shows.at_cell

-- a place tells one end
pub hosted_ends : (b d : Bool) (n m : LinkFragId) → place.Hosted b n ≡ place.Hosted d m → b ≡ d
hosted_ends b d n m same = cc

module _ (parts : Parts) (are : AreParts parts) (is : IsBasis (basis_of parts)) where
  module _ (s : SetId) (a : AssocId) (hosted : IsHosted (basis_of parts) s a) where
    abbrev host : Host
    host = hosted.0

    by : IsHostOf (schema_in parts) s host
    by = (is.hosts s host).0 hosted.1

    pub assoc_there : (assoc : Assoc) × At (schema_in parts).model.assocs a.index assoc
    assoc_there = (by.assoc, subst (λ (b : AssocId). At (schema_in parts).model.assocs b.index by.assoc) hosted.2 by.is_assoc)

    pub told_there : AreToldHosted parts.cells.now.places a host.first_hosts
    told_there =
        let told = (told_hosted (schema_in parts) are.sound parts.cells.now.places are.cells.places host.assoc by.assoc by.is_assoc host.first_hosts).1
        (record { fragment = by.fragment; is_fragment = by.is_fragment; of_assoc = by.of_assoc; hosted = by.hosted }) in
        subst (λ b. AreToldHosted parts.cells.now.places b host.first_hosts) hosted.2 told

    pub place_within : a.index < length parts.cells.now.places
    place_within = slice_get_within parts.cells.now.places a.index (place.Hosted host.first_hosts told_there.0) told_there.1

    -- the links are told as hosted
    pub is_told : (found : LinkPlace) → At parts.cells.now.places a.index found → found ≡ place.Hosted host.first_hosts told_there.0
    is_told found there = at_once parts.cells.now.places a.index found (place.Hosted host.first_hosts told_there.0) there told_there.1

  -- each flag of a case of a set is of an association whose links its entities host
  pub linked_hosted : (is_free : TableId → ColId → Bool) (s : SetId) (case : Case) → Contains (cases_of is_free (basis_of parts) s) case
      → All (IsHosted (basis_of parts) case.region.set) case.region.linked
  linked_hosted is_free s case listed =
      let of_region = map_contains (case_of is_free (basis_of parts)) (regions_of (basis_of parts) s) case listed in
      let region : Region = of_region.0 in
      let P : Case → Type 0 = λ one. All (IsHosted (basis_of parts) one.region.set) one.region.linked in
      subst P of_region.2 (all_from_members (IsHosted (basis_of parts) region.set) region.linked
      (λ a has.
      let found = linked_hosts (basis_of parts) is s region of_region.1 a has in
      (found.0, subst (λ u. Contains ((basis_of parts).hosts u) found.0) (sym (set_is (basis_of parts) s region of_region.1)) found.1, sym found.2)))
