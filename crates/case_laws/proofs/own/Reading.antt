-- Two regions whose cases the rows at a key meet write these rows alike.
use Rattle.std.proofs.Common.{◌≡◌, ◌&&◌, ◌==◌, List, [], ◌∷◌, Bool, true, false, true≢false, not, Contains, IsTrue, refl, sym, ap, subst, ◌∙◌}
use Rattle.std.proofs.lemmas.Bool.{and_from, not_from_false}
use Rattle.emc_base.proofs.Numbered.{map_contains}
use Rattle.round_trip.specs.Words.{SetId, TableId, ColId, AssocId, Entity, Hosted, Row, Tables, Value}
use Rattle.schema_laws.proofs.state_demand.lists.Lists.{head_stands, of_any}
use Rattle.regions.specs.declared.region.Region.{Region}
use Rattle.regions.specs.declared.pattern.Focus.TheVariants as focus
use Rattle.regions.specs.declared.pattern.Symbol.{Symbol}
use Rattle.regions.specs.Basis.{Basis}
use Rattle.regions.specs.Patterns.{Valuation, pattern_of}
use Rattle.regions.specs.Regions.{regions_of}
use Rattle.regions.specs.region_laws.IsBasis.{IsBasis}
use Rattle.regions.proofs.region_laws.listing.Listed.{set_is}
use Rattle.schema_laws.proofs.state_demand.lists.Ids.{Decides-assoc}
use Rattle.regions.specs.region_laws.pattern.Described.{value_in}
use Rattle.region_states.specs.focus.Held.{HasRow}
use Rattle.region_states.specs.conflicts.SameFacts.{are_rivals, match_all, same_region}
use Rattle.conflict_laws.specs.rival.Alike.{AreComparable, AreWrittenAlike, PatternsMatch, patterns_match}
use Rattle.conflict_laws.proofs.rival.Alike.{alike_match}
use Rattle.conflict_laws.proofs.rival.Matching.{match_self}
use Rattle.case_laws.specs.declared.region_cases.case.CaseRow.{CaseRow}
use Rattle.case_laws.specs.region_cases.Cases.{case_of, case_row}
use Rattle.case_laws.specs.region_cases.Meets.{StandsAtKey}
use Rattle.case_laws.specs.Reading.{DecidesFree}
use Rattle.case_laws.specs.Told.{AreTold, IsMet, IsReadable}
use Rattle.case_laws.proofs.shown.Cases.{IsCell, Stands}
use Rattle.case_laws.proofs.shown.Present.{present_cell, present_row}
use Rattle.case_laws.proofs.reading.ReadBack.{cell_value}
use Rattle.case_laws.proofs.shown.Settling.{listed_bound}
use Rattle.case_laws.proofs.shown.Shown.{AreAlone}
use Rattle.case_laws.proofs.reading.Values.{are_allowed, values}

-- an entity and links that the rows at a key tell by the case of a region
pub record IsReading (is_free : TableId → ColId → Bool) (basis : Basis) (is : IsBasis basis) (decides : DecidesFree basis.schema is_free) (s : SetId) (tables : Tables)
    (key : List Value) (region : Region) : Type 0 where
  pub can : IsReadable basis s region
  pub met : IsMet basis is_free s region tables key
  pub are_alone : AreAlone is_free basis is decides s region can.listed can.clear tables key
  pub entity : Entity
  pub links : List Hosted
  pub told : AreTold basis is_free s region tables key entity links

module _ (is_free : TableId → ColId → Bool) (basis : Basis) (is : IsBasis basis) (decides : DecidesFree basis.schema is_free) (s : SetId) (tables : Tables)
    (key : List Value) where
  abbrev pub Reading : Region → Type 0
  Reading = IsReading is_free basis is decides s tables key

  abbrev pub values_of : (region : Region) → Reading region → Valuation
  values_of region of = values is_free basis is decides s region of.can tables key of.met of.entity of.links of.told

  module _ (one two : Region) (of_one : Reading one) (of_two : Reading two) where
    -- a row stands at the key by either region
    stands_too : (t : TableId) (held : Row) → Stands is_free basis one tables key t held → Stands is_free basis two tables key t held
    stands_too t held stands =
        let P : SetId → Type 0 = λ u. StandsAtKey basis.schema tables u key t held in
        subst P (set_is basis s one of_one.can.listed ∙ sym (set_is basis s two of_two.can.listed)) stands

    pub row_too : (t : TableId) → HasRow (pattern_of basis (focus.Entity one)) t → HasRow (pattern_of basis (focus.Entity two)) t
    row_too t (row, has, to) =
        let held = present_row is_free basis one tables key of_one.met.meets row has in
        let P : TableId → Type 0 = λ u. Stands is_free basis two tables key u held.0 in
        let found = of_any (λ (it : CaseRow). it.table ≡ t) (case_of is_free basis two).rows
        (of_two.met.meets.absent t held.0 (subst P to (stands_too row.table held.0 held.1))) in
        let made = map_contains (case_row is_free basis.schema.model two.atoms) (pattern_of basis (focus.Entity two)).rows found.0 found.1 in
        (made.0, made.1, ap (λ (it : CaseRow). it.table) made.2 ∙ found.2)

    -- a free column lists nothing
    free_null : (region : Region) (valuation : Valuation) (t : TableId) (c : ColId) (symbols : List Symbol) → IsCell basis region t c symbols → is_free t c ≡ true
        → value_in valuation symbols ≡ value_in valuation []
    free_null region valuation t c [] has free = refl
    free_null region valuation t c (first ∷ rest) has free =
        absurd (true≢false (sym free ∙ listed_bound basis is is_free decides region t c (first ∷ rest) has first (head_stands first rest)))

    cells_alike : (t : TableId) (c : ColId) (symbols others : List Symbol) → IsCell basis one t c symbols → IsCell basis two t c others
        → value_in (values_of one of_one) symbols ≡ value_in (values_of two of_two) others
    cells_alike t c symbols others has too = by (is_free t c) refl
      where
        by : (b : Bool) → is_free t c ≡ b → value_in (values_of one of_one) symbols ≡ value_in (values_of two of_two) others
        by true free = free_null one (values_of one of_one) t c symbols has free ∙ sym (free_null two (values_of two of_two) t c others too free)
        by false bound =
            let held = present_cell is_free basis one tables key of_one.met.meets t c symbols has in
            sym (cell_value is_free basis is decides s one of_one.can tables key of_one.met of_one.are_alone of_one.entity of_one.links of_one.told t held.0 held.1 c symbols has bound)
            ∙ cell_value is_free basis is decides s two of_two.can tables key of_two.met of_two.are_alone of_two.entity of_two.links of_two.told t held.0
            (stands_too t held.0 held.1) c others too bound

  -- so both regions write the rows alike, and match
  module _ (one two : Region) (of_one : Reading one) (of_two : Reading two) where
    pub alike : AreWrittenAlike basis one two (values_of one of_one) (values_of two of_two)
    alike = record { rows = λ t. (row_too one two of_one of_two t, row_too two one of_two of_one t); cells = cells_alike one two of_one of_two }

    matching : one.linked ≡ two.linked → PatternsMatch basis one two
    matching linked =
        let comparable : AreComparable basis s one two =
        record { is_one = of_one.can.listed; is_two = of_two.can.listed; linked = linked; clear_one = of_one.can.clear; clear_two = of_two.can.clear } in
        alike_match basis is s one two (values_of one of_one) (values_of two of_two) (record {
          comparable = comparable;
          allowed = are_allowed is_free basis is decides s one of_one.can tables key of_one.met of_one.entity of_one.links of_one.told;
          others_allowed = are_allowed is_free basis is decides s two of_two.can tables key of_two.met of_two.entity of_two.links of_two.told;
          alike = alike;
        })

    pub rivals : one.linked ≡ two.linked → same_region one two ≡ false → IsTrue (are_rivals basis one two)
    rivals linked apart =
        let same_assoc : AssocId → AssocId → Bool = λ a b. a.index == b.index in
        let same_flags : Bool = match_all same_assoc one.linked two.linked in
        let flags : same_flags ≡ true = subst (λ list. match_all same_assoc one.linked list ≡ true) linked
        (match_self same_assoc (λ a. (Decides-assoc a a).1 refl) one.linked) in
        let differ : Bool = not (same_region one two) in
        and_from (differ && same_flags) (patterns_match basis one two)
        (and_from differ same_flags (not_from_false (same_region one two) apart) flags) (matching linked)
