-- Noting the first cell that shows each property, and its later twins.
use Rattle.std.proofs.Common.{◌≡◌, ◌⊎◌, ⊎_elim, ◌==◌, inl, inr, ℕ, List, [], ◌∷◌, ◌++◌, map, All, Bool, true, false, cond, Contains, Option, None, Some, refl, sym, ap, subst, ◌∙◌}
use Rattle.std.specs.List.{AllZip, enumerate_from}
use Rattle.std.specs.BTreeMap.{BTreeMap, get, Updates}
use Rattle.std.specs.Option.{option_map_or, unwrap_or}
use Rattle.std.specs.Ordering.{is_eq, nat_cmp}
use Rattle.std.proofs.lemmas.Bool.Decides.{Decides-and, Decides-eqb}
use Rattle.std.proofs.lemmas.List.Elements.{All-contains, Contains-append_left, Contains-push, Contains-push_cases}
use Rattle.std.proofs.lemmas.Option.{same_Some}
use Rattle.emc_base.proofs.Lists.{all_from_members}
use Rattle.emc_base.proofs.Mapped.{all_zip-map, contains_enumerated}
use Rattle.emc_base.proofs.Numbered.{enumerated_at}
use Rattle.emc_base.proofs.facts.Orderings.{tells_number}
use Rattle.round_trip.specs.Words.{At, Null, PropId, Value, props_of}
use Rattle.schema_laws.proofs.state_demand.lists.Lists.{contains_flat_map, head_stands, member_cases, member_of_flat_map, none_in_nil}
use Rattle.regions.specs.Basis.{Basis}
use Rattle.case_laws.specs.declared.region_cases.case.Case.{Case}
use Rattle.case_laws.specs.declared.region_cases.case.CaseCell.{CaseCell}
use Rattle.case_laws.specs.declared.region_cases.case.CaseCell.TheVariants as cell
use Rattle.case_laws.specs.declared.region_cases.case.CaseRow.{CaseRow}
use Rattle.query_cases.specs.contracts.case_reading.reading.CellPlacePartialEq.TheImpl as place_equal
use Rattle.query_cases.specs.declared.case_reading.reading.CellPlace.{CellPlace}
use Rattle.query_cases.specs.declared.case_reading.reading.Reading.{Reading}
use Rattle.query_cases.specs.declared.case_reading.reading.Source.TheVariants as source
use Rattle.query_cases.specs.declared.case_reading.reading.Twins.{Twins}
use Rattle.query_cases.specs.case_reading.Links.{IsLinkReading}
use Rattle.query_cases.specs.case_reading.Noted.{AreNoted, first_source, source_by}
use Rattle.query_cases.specs.case_reading.Reading.{IsReadAs, IsReadingOf, IsSource, ShowsAt, fixed_value}
use Rattle.query_cases.specs.case_reading.Shown.{shown_cell, shown_props, shown_row}

same_prop : (p q : PropId) → p.index ≡ q.index → p ≡ q
same_prop p q same = λ k. record { index = same k }

-- whether two places are one
abbrev pub place_eq : CellPlace → CellPlace → Bool
place_eq = (place_equal.ghosts).eq

pub one_place : (one other : CellPlace) → place_eq one other ≡ true → one ≡ other
one_place one other is =
    let both = (Decides-and (one.row == other.row) (one.col == other.col) (Decides-eqb one.row other.row) (Decides-eqb one.col other.col)).0 is in
    λ k. record { row = both.0 k; col = both.1 k }

-- both cells of twins are among these, with one property
abbrev AreListed : List (PropId × CellPlace) → Twins → Type 0
AreListed shown two = (p : PropId) × Contains shown (p, two.first) × Contains shown (p, two.later)

-- none is noted at first
pub none_noted : (firsts : BTreeMap ℕ CellPlace) (twins : List Twins) → ((k : ℕ) → get nat_cmp firsts k ≡ None) → twins ≡ [] → AreNoted [] firsts twins
none_noted firsts twins none no_twins = record {
  known = λ p place found. absurd (let not : get nat_cmp firsts p.index ≡ None = none p.index in cc);
  linked = λ p place has. absurd (let it : PropId × CellPlace = (p, place) in none_in_nil it has);
  pairs = let P : List Twins → Type 0 = All (AreListed []) in subst P (sym no_twins) (all_from_members (AreListed []) [] (λ two has. absurd (none_in_nil two has)));
}

-- one more cell is noted
module _ (shown : List (PropId × CellPlace)) (firsts after : BTreeMap ℕ CellPlace) (twins : List Twins) (so_far : AreNoted shown firsts twins)
    (p : PropId) (place first : CellPlace)
    (is_first : first ≡ unwrap_or (get nat_cmp firsts p.index) place) (updates : Updates nat_cmp firsts after p.index (Some first)) where
  abbrev pub more : List (PropId × CellPlace)
  more = shown ++ (p, place) ∷ []

  stays : (q : PropId) (other : CellPlace) → Contains shown (q, other) → Contains more (q, other)
  stays q other has = Contains-append_left shown ((p, place) ∷ []) (q, other) has

  -- the first cell of the property is one of them
  first_shown : Contains more (p, first)
  first_shown = by (get nat_cmp firsts p.index) refl is_first
    where
      by : (found : Option CellPlace) → get nat_cmp firsts p.index ≡ found → first ≡ unwrap_or found place → Contains more (p, first)
      by (Some old) found is = subst (λ (one : CellPlace). Contains more (p, one)) (sym is) (stays p old (so_far.known p old found))
      by None found is = subst (λ (one : CellPlace). Contains more (p, one)) (sym is) (Contains-push shown (p, place))

  known_more : (q : PropId) (other : CellPlace) → get nat_cmp after q.index ≡ Some other → Contains more (q, other)
  known_more q other found = by (is_eq (nat_cmp p.index q.index)) refl (sym (updates.0 q.index) ∙ found)
    where
      by : (b : Bool) → is_eq (nat_cmp p.index q.index) ≡ b → cond b (Some first) (get nat_cmp firsts q.index) ≡ Some other → Contains more (q, other)
      by true told is = subst (λ (e : PropId × CellPlace). Contains more e)
          (λ k. (same_prop p q ((tells_number p.index q.index).0 told) k, same_Some first other is k)) first_shown
      by false told is = stays q other (so_far.known q other is)

  -- where a first cell stood, it stays
  kept_first : (q : PropId) (old : CellPlace) → get nat_cmp firsts q.index ≡ Some old → get nat_cmp after q.index ≡ Some old
  kept_first q old found = updates.0 q.index ∙ by (is_eq (nat_cmp p.index q.index)) refl
    where
      by : (b : Bool) → is_eq (nat_cmp p.index q.index) ≡ b → cond b (Some first) (get nat_cmp firsts q.index) ≡ Some old
      by true told =
          let same : p.index ≡ q.index = (tells_number p.index q.index).0 told in
          ap Some (is_first ∙ ap (λ n. unwrap_or (get nat_cmp firsts n) place) same ∙ ap (λ found. unwrap_or found place) found)
      by false told = found

  now_first : get nat_cmp after p.index ≡ Some first
  now_first = updates.0 p.index ∙ ap (λ b. cond b (Some first) (get nat_cmp firsts p.index)) ((tells_number p.index p.index).1 refl)

  module _ (now : List Twins) (kept : (two : Twins) → Contains twins two → Contains now two)
      (this : (place ≡ first) ⊎ Contains now (record { first = first; later = place }))
      (only : (two : Twins) → Contains now two → Contains twins two ⊎ (two ≡ record { first = first; later = place })) where
    abbrev IsTwin : Twins → Type 0
    IsTwin two = (q : PropId) × Contains more (q, two.first) × Contains more (q, two.later)

    linked_more : (q : PropId) (other : CellPlace) → Contains more (q, other)
        → (one : CellPlace) × (get nat_cmp after q.index ≡ Some one) × ((other ≡ one) ⊎ Contains now (record { first = one; later = other }))
    linked_more q other has = ⊎_elim
        (λ (old : Contains shown (q, other)).
        let found = so_far.linked q other old in (
          found.0,
          kept_first q found.0 found.1,
          ⊎_elim (λ (same : other ≡ found.0). inl same)
              (λ (later : Contains twins (record { first = found.0; later = other })). inr (kept (record { first = found.0; later = other }) later)) found.2,
        ))
        (λ (last : (p, place) ≡ (q, other)).
        let P : PropId × CellPlace → Type 0 = λ e. (one : CellPlace) × (get nat_cmp after e.0.index ≡ Some one)
        × ((e.1 ≡ one) ⊎ Contains now (record { first = one; later = e.1 })) in
        subst P last (first, now_first, this))
        (Contains-push_cases shown (p, place) (q, other) has)

    twins_more : (two : Twins) → Contains now two → IsTwin two
    twins_more two has = ⊎_elim
        (λ (old : Contains twins two).
        let found = All-contains (AreListed shown) twins two so_far.pairs old in
        (found.0, stays found.0 two.first found.1, stays found.0 two.later found.2))
        (λ (new : two ≡ record { first = first; later = place }). subst IsTwin (sym new) (p, first_shown, Contains-push shown (p, place)))
        (only two has)

    pub more_noted : AreNoted more after now
    more_noted = record { known = known_more; linked = linked_more; pairs = all_from_members IsTwin now twins_more }

  -- it is the first of its property
  pub first_noted : first ≡ place → AreNoted more after twins
  first_noted same = more_noted twins (λ two has. has) (inl (sym same)) (λ two has. inl has)

  -- or a later twin
  pub later_noted : (now : List Twins) → now ≡ twins ++ record { first = first; later = place } ∷ [] → AreNoted more after now
  later_noted now is =
      let last : Twins = record { first = first; later = place } in
      more_noted now
      (λ two has. subst (λ (list : List Twins). Contains list two) (sym is) (Contains-append_left twins (last ∷ []) two has))
      (inr (subst (λ (list : List Twins). Contains list last) (sym is) (Contains-push twins last)))
      (λ two has. ⊎_elim (λ (old : Contains twins two). inl old) (λ (new : last ≡ two). inr (sym new))
      (Contains-push_cases twins last two (subst (λ (list : List Twins). Contains list two) is has)))

-- a cell that shows a property is listed, and the other way
module _ (case : Case) where
  cell_listed : (row : ℕ) (col : ℕ) (told : CaseCell) (p : PropId) (place : CellPlace) → Contains (shown_cell row (col, told)) (p, place)
      → (told ≡ cell.Prop p) × (place ≡ record { row = row; col = col })
  cell_listed row col (cell.Const value) p place has = absurd (none_in_nil (p, place) has)
  cell_listed row col (cell.Partner assoc q) p place has = absurd (none_in_nil (p, place) has)
  cell_listed row col cell.Free p place has = absurd (none_in_nil (p, place) has)
  cell_listed row col (cell.Prop q) p place has = ⊎_elim
      (λ (same : (p, place) ≡ (q, record { row = row; col = col })). (ap (λ (e : PropId × CellPlace). cell.Prop e.0) (sym same), ap (λ (e : PropId × CellPlace). e.1) same))
      (λ (never : Contains [] (p, place)). absurd (none_in_nil (p, place) never))
      (member_cases (q, record { row = row; col = col }) [] (p, place) has)

  pub listed_shows : (p : PropId) (place : CellPlace) → Contains (shown_props case.rows) (p, place) → ShowsAt case p place
  listed_shows p place has =
      let in_row = member_of_flat_map shown_row (enumerate_from 0 case.rows) (p, place) has in
      let entry : ℕ × CaseRow = in_row.0 in
      let in_cell = member_of_flat_map (shown_cell entry.0) (enumerate_from 0 entry.1.cells) (p, place) in_row.2 in
      let numbered : ℕ × CaseCell = in_cell.0 in
      let is = cell_listed entry.0 numbered.0 numbered.1 p place in_cell.2 in
      let at_cell : At entry.1.cells numbered.0 numbered.1 = enumerated_at entry.1.cells numbered in_cell.1 in
      subst (ShowsAt case p) (sym is.1) (record {
        row = entry.1;
        at_row = enumerated_at case.rows entry in_row.1;
        at_cell = subst (λ told. At entry.1.cells numbered.0 told) is.0 at_cell;
      })

  pub shows_listed : (p : PropId) (place : CellPlace) → ShowsAt case p place → Contains (shown_props case.rows) (p, place)
  shows_listed p place shows =
      contains_flat_map shown_row (enumerate_from 0 case.rows) (place.row, shows.row) (p, place) (contains_enumerated case.rows place.row shows.row shows.at_row)
      (contains_flat_map (shown_cell place.row) (enumerate_from 0 shows.row.cells) (place.col, cell.Prop p) (p, place)
      (contains_enumerated shows.row.cells place.col (cell.Prop p) shows.at_cell) (head_stands (p, place) []))

  -- what is noted of all cells is a reading
  module _ (basis : Basis) (reading : Reading) (firsts : BTreeMap ℕ CellPlace) (noted : AreNoted (shown_props case.rows) firsts reading.twins)
      (values : reading.values ≡ map (source_by case.region.atoms firsts) (props_of basis.schema.model case.region.ty))
      (links : AllZip (IsLinkReading basis case) case.region.linked reading.links) where
    abbrev first_place : PropId → CellPlace
    first_place p = unwrap_or (get nat_cmp firsts p.index) (record { row = 0; col = 0 })

    source_is : (p : PropId) → IsSource case p (source_by case.region.atoms firsts p)
    source_is p = by (fixed_value case p)
      where
        first_is : (found : Option CellPlace) → get nat_cmp firsts p.index ≡ found → IsReadAs case p None (option_map_or source.Cell found (source.Is Null))
        first_is (Some place) found = listed_shows p place (noted.known p place found)
        first_is None none = (
          refl,
          λ place shows.
              (let found = noted.linked p place (shows_listed p place shows) in
              let never : None ≡ Some found.0 = sym none ∙ found.1 in
              cc),
        )

        by : (one : Option Value) → IsReadAs case p one (option_map_or source.Is one (first_source firsts p))
        by (Some value) = refl
        by None = first_is (get nat_cmp firsts p.index) refl

    linked_is : (p : PropId) (place : CellPlace) → ShowsAt case p place → (place ≡ first_place p) ⊎ Contains reading.twins (record { first = first_place p; later = place })
    linked_is p place shows =
        let found = noted.linked p place (shows_listed p place shows) in
        let first : found.0 ≡ first_place p = ap (λ one. unwrap_or one (record { row = 0; col = 0 })) (sym found.1) in
        subst (λ (one : CellPlace). (place ≡ one) ⊎ Contains reading.twins (record { first = one; later = place })) first found.2

    pub reading_is : IsReadingOf basis case reading
    reading_is = record {
      values = subst (AllZip (IsSource case) (props_of basis.schema.model case.region.ty)) (sym values)
          (all_zip-map (λ (p : PropId). p ≡ p) (IsSource case) (source_by case.region.atoms firsts) (λ p same. source_is p) (props_of basis.schema.model case.region.ty)
          (all_from_members (λ (p : PropId). p ≡ p) (props_of basis.schema.model case.region.ty) (λ p has. refl)));
      twins = all_from_members (λ (two : Twins). (p : PropId) × ShowsAt case p two.first × ShowsAt case p two.later) reading.twins
          (λ two has.
          let found = All-contains (AreListed (shown_props case.rows)) reading.twins two noted.pairs has in
          (found.0, listed_shows found.0 two.first found.1, listed_shows found.0 two.later found.2));
      first = first_place;
      linked = linked_is;
      links = links;
    }
