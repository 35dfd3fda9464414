-- Two regions of one list that are rivals, by their rows.
use Rattle.std.proofs.Common.{◌≡◌, ◌≢◌, ⊎_elim, ◌==◌, ◌<◌, ◌&&◌, ℕ, List, option_map, map, All, AllPairs, Contains, IsTrue, Bool, true, false, not, sym, ap, subst, ◌∙◌}
use Rattle.std.specs.BTreeMap.{BTreeMap, IsOrdered, values}
use Rattle.std.specs.Global.{Vec}
use Rattle.std.proofs.lemmas.Bool.{and_from, and_parts, cases_eq}
use Rattle.std.proofs.lemmas.Bool.Decides.{Decides-eqb}
use Rattle.std.proofs.lemmas.List.Elements.{All-contains}
use Rattle.std.proofs.lemmas.Option.{slice_get-map}
use Rattle.emc_base.specs.Lists.{At}
use Rattle.emc_base.proofs.Lists.{at_once}
use Rattle.emc_base.proofs.Mapped.{contains_at, contains_map}
use Rattle.emc_base.proofs.Numbered.{map_contains}
use Rattle.emc_base.proofs.facts.Tests.{fails_by}
use Rattle.round_trip.specs.Words.{SetId, AssocId}
use Rattle.regions.specs.declared.region.Region.{Region}
use Rattle.regions.specs.declared.pattern.PatternRow.{PatternRow}
use Rattle.regions.specs.declared.pattern.Focus.TheVariants as focus
use Rattle.regions.specs.Basis.{Basis}
use Rattle.regions.specs.Patterns.{pattern_of}
use Rattle.regions.specs.Regions.{regions_of}
use Rattle.regions.specs.region_laws.IsBasis.{IsBasis}
use Rattle.regions.proofs.region_laws.listing.Apart.{regions_apart}
use Rattle.regions.proofs.region_laws.lists.Found.{place_of}
use Rattle.schema_laws.proofs.state_demand.lists.Ids.{Decides-assoc}
use Rattle.regions.proofs.region_laws.pattern.types.Regions.{parts_of}
use Rattle.region_states.specs.conflicts.SameFacts.{are_compatible, are_rivals, match_all, rows_match, same_region, settled_cells}
use Rattle.conflict_laws.proofs.rival.Clear.{compatible_back}
use Rattle.conflict_laws.proofs.rival.Matching.{match_same}
use Rattle.conflict_laws.proofs.rival.Told.{told_one, told_same}
use Rattle.containment.specs.declared.same_conflicts.forms.Form.{Form}
use Rattle.containment.specs.declared.same_conflicts.rivals.Rivals.{Rivals}
use Rattle.containment.specs.declared.same_conflicts.written.Written.{Written}
use Rattle.containment.specs.same_conflicts.Forms.{form_cmp, form_of}
use Rattle.containment.specs.same_conflicts.Matching.{rows_alike}
use Rattle.containment.specs.same_conflicts.Rivals.{AreGrouped, AreTwoOf, DifferAt}
use Rattle.containment.specs.same_conflicts.Written.{AreWritten, IsWritten, region_in}
use Rattle.containment.proofs.same_conflicts.Certain.{form_same}
use Rattle.containment.proofs.same_conflicts.Grouping.{places_rise, same_links, same_list}
use Rattle.containment.proofs.same_conflicts.Lists.{pair_at, pair_of}
use Rattle.containment.proofs.same_conflicts.Walked.{match_images, match_turned}

-- what isn't so is told so
not_told : (b : Bool) → b ≡ false → not b ≡ true
not_told b is = ap not is

-- rows that match do so the other way round
row_turned : (basis : Basis) (one two : Region) (row other : PatternRow) → rows_match basis one.atoms two.atoms row other ≡ true → rows_match basis two.atoms one.atoms other row ≡ true
row_turned basis one two row other told =
    let cells = settled_cells basis one.atoms row in
    let faced = settled_cells basis two.atoms other in
    let parts = and_parts (row.table.index == other.table.index) (match_all are_compatible cells faced) told in
    and_from (other.table.index == row.table.index) (match_all are_compatible faced cells)
    ((Decides-eqb other.table.index row.table.index).1 (sym ((Decides-eqb row.table.index other.table.index).0 parts.0)))
    (match_turned are_compatible are_compatible compatible_back cells faced parts.1)

module _ (basis : Basis) where
  abbrev same_links_of : Region → Region → Bool
  same_links_of one two = match_all (λ a b. a.index == b.index) one.linked two.linked

  abbrev rows_of : Region → Region → Bool
  rows_of one two = match_all (rows_match basis one.atoms two.atoms) (pattern_of basis (focus.Entity one)).rows (pattern_of basis (focus.Entity two)).rows

  -- the rows that are at hand are those of the patterns
  rows_are : (one two : Written) → IsWritten basis one → IsWritten basis two → rows_alike basis one two ≡ rows_of (region_in one) (region_in two)
  rows_are one two is is_too = λ k. match_all (rows_match basis (region_in one).atoms (region_in two).atoms) (is k).rows (is_too k).rows

  -- and can hold the same whichever is looked at first
  rows_turned : (one two : Region) → rows_of one two ≡ true → rows_of two one ≡ true
  rows_turned one two = match_turned (rows_match basis one.atoms two.atoms) (rows_match basis two.atoms one.atoms) (row_turned basis one two)
      (pattern_of basis (focus.Entity one)).rows (pattern_of basis (focus.Entity two)).rows

  module _ (is : IsBasis basis) (s : SetId) (written : List Written) (are : AreWritten basis (regions_of basis s) written) (groups : BTreeMap Form (Vec ℕ))
      (grouped : AreGrouped basis written groups) (ordered : IsOrdered form_cmp groups) where
    -- a region with its rows is one of the set
    of_set : (one : Written) → Contains (map region_in written) (region_in one) → Contains (regions_of basis s) (region_in one)
    of_set one has = subst (λ regions. Contains regions (region_in one)) are.of has

    region_at : (p : ℕ) (one : Written) → At written p one → At (regions_of basis s) p (region_in one)
    region_at p one at = subst (λ regions. At regions p (region_in one)) are.of (slice_get-map region_in written p ∙ ap (λ found. option_map region_in found) at)

    rows_at : (p : ℕ) (one : Written) → At written p one → IsWritten basis one
    rows_at p one at = All-contains (IsWritten basis) written one are.rows (contains_at written p one at)

    -- two that are found are rivals
    pub found_rivals : (list : Vec ℕ) → Contains (values groups) list → (rivals : Rivals) → AreTwoOf basis written list.items rivals
        → Contains (map region_in written) rivals.one.now × Contains (map region_in written) rivals.two.now × IsTrue (are_rivals basis rivals.one.now rivals.two.now)
    found_rivals list among rivals two = (
      subst (Contains (map region_in written)) (sym two.is_one) (contains_map region_in written two.one (contains_at written two.p two.one two.here)),
      subst (Contains (map region_in written)) (sym two.is_two) (contains_map region_in written two.two (contains_at written two.q two.two two.there)),
      (let R : Region → Region → Type 0 = λ one other. are_rivals basis one other ≡ true in
          subst (λ one. R one rivals.two.now) (sym two.is_one) (subst (R (region_in two.one)) (sym two.is_two) both)),
    )
      where
        one : Region
        one = region_in two.one

        other : Region
        other = region_in two.two

        at : At (regions_of basis s) two.p one
        at = region_at two.p two.one two.here

        there : At (regions_of basis s) two.q other
        there = region_at two.q two.two two.there

        different : same_region one other ≡ false
        different = fails_by (same_region one other) (λ told.
            let sets = (parts_of basis s one (contains_at (regions_of basis s) two.p one at)).of_set
            ∙ sym (parts_of basis s other (contains_at (regions_of basis s) two.q other there)).of_set in
            let rises = pair_at (λ p q. p < q) list.items (places_rise basis written groups grouped ordered list among) two.i two.j two.p two.q two.before two.first two.later in
            pair_at (λ a b. a ≢ b) (regions_of basis s) (regions_apart basis is s) two.p two.q one other rises at there (told_same one other sets told))

        links : same_links_of one other ≡ true
        links = match_images (λ (a b : AssocId). a.index == b.index) (λ (a : AssocId). a.index) (λ a b same. (Decides-eqb a.index b.index).1 same) one.linked other.linked
            (same_links basis written groups grouped ordered list among two.p two.q two.one two.two (contains_at list.items two.i two.p two.first)
            (contains_at list.items two.j two.q two.later) two.here two.there)

        both : are_rivals basis one other ≡ true
        both = and_from (not (same_region one other) && same_links_of one other) (rows_of one other)
            (and_from (not (same_region one other)) (same_links_of one other) (not_told (same_region one other) different) links)
            (sym (rows_are two.one two.two (rows_at two.p two.one two.here) (rows_at two.q two.two two.there)) ∙ two.alike)

    -- where none are found, none are
    pub no_rivals : All (λ list. AllPairs (DifferAt basis written) list.items) (values groups)
        → (one other : Region) → Contains (map region_in written) one → Contains (map region_in written) other → are_rivals basis one other ≡ false
    no_rivals clean one other has has_other = fails_by (are_rivals basis one other) (λ told. by told (map_contains region_in written one has) (map_contains region_in written other has_other))
      where
        by : are_rivals basis one other ≡ true → (first : Written) × Contains written first × (region_in first ≡ one) → (second : Written) × Contains written second × (region_in second ≡ other) → ⊥
        by told first second =
            let parts = and_parts (not (same_region one other) && same_links_of one other) (rows_of one other) told in
            let firsts = and_parts (not (same_region one other)) (same_links_of one other) parts.0 in
            let linked = match_same (λ (a b : AssocId). a.index == b.index) (λ a b. (Decides-assoc a b).0) one.linked other.linked firsts.1 in
            let in_set = subst (λ regions. Contains regions one) are.of has in
            let in_set_too = subst (λ regions. Contains regions other) are.of has_other in
            let form = form_same basis is s one other in_set in_set_too linked parts.1 in
            let here = place_of written first.0 first.1 in
            let there = place_of written second.0 second.1 in
            let forms = (λ k. form_of basis (first.2 k)) ∙ form ∙ sym (λ k. form_of basis (second.2 k)) in
            let list = same_list basis written groups grouped ordered here.0 there.0 first.0 second.0 here.1 there.1 forms in
            let pairs = All-contains (λ (one_list : Vec ℕ). AllPairs (DifferAt basis written) one_list.items) (values groups) list.0 clean list.1 in
            ⊎_elim
            (λ (same : here.0 ≡ there.0).
            let alike : one ≡ other = sym first.2
            ∙ ap region_in (at_once written there.0 first.0 second.0 (subst (λ place. At written place first.0) same here.1) there.1) ∙ second.2 in
            let never : not true ≡ true = sym (ap not (told_one other)) ∙ sym (ap (λ region. not (same_region region other)) alike) ∙ firsts.0 in
            cc)
            (λ (apart : here.0 ≢ there.0). ⊎_elim
            (λ (differ : DifferAt basis written here.0 there.0).
            let never : false ≡ true = sym (differ first.0 second.0 here.1 there.1) ∙ rows_are first.0 second.0 (rows_at here.0 first.0 here.1) (rows_at there.0 second.0 there.1)
            ∙ (λ k. rows_of (first.2 k) (second.2 k)) ∙ parts.1 in
            cc)
            (λ (differ : DifferAt basis written there.0 here.0).
            let never : false ≡ true = sym (differ second.0 first.0 there.1 here.1) ∙ rows_are second.0 first.0 (rows_at there.0 second.0 there.1) (rows_at here.0 first.0 here.1)
            ∙ (λ k. rows_of (second.2 k) (first.2 k)) ∙ rows_turned one other parts.1 in
            cc)
            (pair_of (DifferAt basis written) list.0.items pairs here.0 there.0 list.2 list.3 apart))
            (cases_eq here.0 there.0)
