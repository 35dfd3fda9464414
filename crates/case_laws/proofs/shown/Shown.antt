-- What the rows at a key show: each property and each part of a partner's key stands alone in its cell.
use Rattle.std.proofs.Common.{◌≡◌, List, [], ◌∷◌, length, All, Bool, not, Contains, refl, sym, ap, subst, ◌∙◌}
use Rattle.std.proofs.lemmas.List.Elements.{All-contains}
use Rattle.emc_base.proofs.Lists.{at_once}
use Rattle.round_trip.specs.Words.{SetId, TableId, ColId, AssocId, PropId, Hosted, Row, Tables, Value, At, cell_of, key_props, value_beside}
use Rattle.schema_laws.proofs.state_demand.lists.Lists.{head_stands}
use Rattle.schema_laws.proofs.sound_demand.Keys.{keys_apart}
use Rattle.regions.specs.declared.region.Region.{Region}
use Rattle.regions.specs.declared.pattern.Focus.TheVariants as focus
use Rattle.regions.specs.declared.pattern.Symbol.{Symbol}
use Rattle.regions.specs.declared.pattern.Symbol.TheVariants as symbol
use Rattle.regions.specs.Basis.{Basis, Host, partner_end}
use Rattle.regions.specs.Regions.{regions_of}
use Rattle.regions.specs.Settled.{free, multi, possible, settle}
use Rattle.regions.specs.region_laws.IsBasis.{IsBasis}
use Rattle.regions.proofs.region_laws.pattern.symbols.Hosting.{one_host}
use Rattle.regions.proofs.region_laws.pattern.Laws.{end_once}
use Rattle.conflict_laws.specs.rival.Alike.{IsClear}
use Rattle.conflict_laws.proofs.rival.Clear.{listed_free}
use Rattle.case_laws.specs.declared.region_cases.case.Case.{Case}
use Rattle.case_laws.specs.declared.region_cases.case.CaseCell.TheVariants as cell
use Rattle.case_laws.specs.region_cases.Cases.{by_settled, case_of}
use Rattle.case_laws.specs.region_cases.Meets.{IsLinkOf, ShowsPart, ShowsValue}
use Rattle.case_laws.specs.Reading.{DecidesFree}
use Rattle.case_laws.proofs.lists.Beside.{same_beside}
use Rattle.case_laws.proofs.shown.Cases.{IsCell, Stands, Tells, cell_of_told, told_of_row}
use Rattle.case_laws.proofs.shown.Links.{IsPartnersEnd, partners_end}
use Rattle.case_laws.proofs.shown.Settling.{alone, listed_bound, tells_part, tells_prop, told_settled}

module _ (is_free : TableId → ColId → Bool) (basis : Basis) (is : IsBasis basis) (decides : DecidesFree basis.schema is_free) (s : SetId) (region : Region)
    (listed : Contains (regions_of basis s) region) (clear : IsClear basis region) (tables : Tables) (key : List Value) where
  abbrev case : Case
  case = case_of is_free basis region

  -- no two rows of one table stand at the key
  abbrev pub AreAlone : Type 0
  AreAlone = (t : TableId) (one other : Row) → Stands is_free basis region tables key t one → Stands is_free basis region tables key t other → one ≡ other

  -- a row that stands at the key holds the value in a column where the symbol alone is listed, which may have several values
  pub record ShowsSymbol (one : Symbol) (value : Value) : Type 0 where
    pub t : TableId
    pub held : Row
    pub stands : Stands is_free basis region tables key t held
    pub col : ColId
    pub has : IsCell basis region t col (one ∷ [])
    pub nullable : Bool
    pub several : possible basis.schema.model region.atoms one ≡ multi nullable
    pub is_value : value ≡ cell_of held col

  settled_shows : (t : TableId) (held : Row) → Stands is_free basis region tables key t held → (col : ColId) (symbols : List Symbol) → IsCell basis region t col symbols
      → (one : Symbol) (n : Bool) → settle basis.schema.model region.atoms symbols ≡ free one n → (value : Value) → value ≡ cell_of held col → ShowsSymbol one value
  settled_shows t held stands col symbols has one n settled value is_value =
      let by = alone basis is region clear t col symbols has one n settled in
      record {
        t = t;
        held = held;
        stands = stands;
        col = col;
        has = subst (IsCell basis region t col) by.0 has;
        nullable = n;
        several = by.1;
        is_value = is_value;
      }

  -- where a listed symbol may have several values, its cell shows it
  pub shows : (t : TableId) (held : Row) → Stands is_free basis region tables key t held → (col : ColId) (symbols : List Symbol) → IsCell basis region t col symbols
      → (one : Symbol) → Contains symbols one → (n : Bool) → possible basis.schema.model region.atoms one ≡ multi n → ShowsSymbol one (cell_of held col)
  shows t held stands col symbols has one among n several = settled_shows t held stands col symbols has one n
      (listed_free basis region clear t col symbols has one among n several) (cell_of held col) refl

  -- a property that is shown
  pub prop_shown : (p : PropId) (value : Value) → ShowsValue basis tables key case p value → ShowsSymbol (symbol.Prop p) value
  prop_shown p value (t, held, col, has, is_value) =
      let found = cell_of_told is_free basis region tables key t held col (cell.Prop p) has in
      let told = tells_prop is_free basis region t col found.0 p (sym found.2) in
      settled_shows t held has.stands col found.0 found.1 (symbol.Prop p) told.1 told.2 value is_value

  -- a part of a partner's key
  pub part_shown : (a : AssocId) (p : PropId) (value : Value) → ShowsPart basis tables key case a p value → (first : Bool) × ShowsSymbol (symbol.End a first p) value
  part_shown a p value (t, held, col, has, is_value) =
      let found = cell_of_told is_free basis region tables key t held col (cell.Partner a p) has in
      let told = tells_part is_free basis region t col found.0 a p (sym found.2) in
      (told.1, settled_shows t held has.stands col found.0 found.1 (symbol.End a told.1 p) told.2 told.3 value is_value)

  told_shown : (one : Symbol) (value : Value) → (by : ShowsSymbol one value) → Tells is_free basis region tables key by.t by.held by.col (by_settled (free one by.nullable))
  told_shown one value by =
      let symbols : List Symbol = one ∷ [] in
      let bound = listed_bound basis is is_free decides region by.t by.col symbols by.has one (head_stands one []) in
      let settled = listed_free basis region clear by.t by.col symbols by.has one (head_stands one []) by.nullable by.several in
      subst (Tells is_free basis region tables key by.t by.held by.col) (told_settled is_free basis region by.t by.col symbols bound ∙ ap by_settled settled)
      (told_of_row is_free basis region tables key by.t by.held by.stands by.col symbols by.has)

  -- and the other way
  pub shows_value : (p : PropId) (value : Value) → ShowsSymbol (symbol.Prop p) value → ShowsValue basis tables key case p value
  shows_value p value by = (by.t, by.held, by.col, told_shown (symbol.Prop p) value by, by.is_value)

  pub shows_part : (a : AssocId) (first : Bool) (p : PropId) (value : Value) → ShowsSymbol (symbol.End a first p) value → ShowsPart basis tables key case a p value
  shows_part a first p value by = (by.t, by.held, by.col, told_shown (symbol.End a first p) value by, by.is_value)

  -- the end of a part that is shown
  pub end_shown : (a : AssocId) (first : Bool) (p : PropId) (value : Value) → ShowsSymbol (symbol.End a first p) value → IsPartnersEnd basis is s region listed a first p
  end_shown a first p value by = partners_end basis is s region listed by.t by.col (symbol.End a first p ∷ []) by.has a first p (head_stands (symbol.End a first p) [])

  pub same_host : (one other : Host) → Contains (basis.hosts region.set) one → Contains (basis.hosts region.set) other → one.assoc ≡ other.assoc → one ≡ other
  same_host one other has_one has_other same = one_host basis is region.set one other has_one has_other same

  module _ (are_alone : AreAlone) where
    one_end : (a : AssocId) (first : Bool) (p : PropId) (value other : Value) → ShowsSymbol (symbol.End a first p) value → ShowsSymbol (symbol.End a first p) other
        → value ≡ other
    one_end a first p value other by too =
        let one : Symbol = symbol.End a first p in
        let place = end_once basis is a first p
        (record { of = focus.Entity region; t = by.t; col = by.col; lists = (one ∷ [], by.has, head_stands one []) })
        (record { of = focus.Entity region; t = too.t; col = too.col; lists = (one ∷ [], too.has, head_stands one []) }) in
        let P : TableId → Type 0 = λ u. Stands is_free basis region tables key u by.held in
        let same : by.held ≡ too.held = are_alone too.t by.held too.held (subst P place.0 by.stands) too.stands in
        by.is_value ∙ (λ k. cell_of (same k) (place.1 k)) ∙ sym too.is_value

    -- one value is shown of a part
    pub one_part : (a : AssocId) (p : PropId) (value other : Value) → ShowsPart basis tables key case a p value → ShowsPart basis tables key case a p other → value ≡ other
    one_part a p value other shown too =
        let by = part_shown a p value shown in
        let also = part_shown a p other too in
        let end = end_shown a by.0 p value by.1 in
        let other_end = end_shown a also.0 p other also.1 in
        let same : end.host ≡ other_end.host = same_host end.host other_end.host end.is_host other_end.is_host (end.of_assoc ∙ sym other_end.of_assoc) in
        let sides : also.0 ≡ by.0 = other_end.partner ∙ ap (λ (host : Host). not host.first_hosts) (sym same) ∙ sym end.partner in
        let P : Bool → Type 0 = λ first. ShowsSymbol (symbol.End a first p) other in
        one_end a by.0 p value other by.1 (subst P sides also.1)

    -- and so one link of each association is told
    pub one_link : (x y : Hosted) → IsLinkOf basis tables key case x → IsLinkOf basis tables key case y → x.assoc ≡ y.assoc → x ≡ y
    one_link x y is_x is_y same =
        let hosts : is_x.host ≡ is_y.host = same_host is_x.host is_y.host is_x.is_host is_y.is_host (is_x.of_assoc ∙ same ∙ sym is_y.of_assoc) in
        let Here : Host → Type 0 = λ host. At basis.schema.model.assocs host.assoc.index is_x.assoc in
        let assocs : is_x.assoc ≡ is_y.assoc = at_once basis.schema.model.assocs is_y.host.assoc.index is_x.assoc is_y.assoc (subst Here hosts is_x.is_assoc) is_y.is_assoc in
        let keys : List PropId = key_props basis.schema.model (partner_end is_x.host.first_hosts is_x.assoc).ty in
        let others : List PropId = key_props basis.schema.model (partner_end is_y.host.first_hosts is_y.assoc).ty in
        let alike : others ≡ keys = λ k. key_props basis.schema.model (partner_end (sym hosts k).first_hosts (sym assocs k)).ty in
        let Long : List PropId → Type 0 = λ props. length y.partner ≡ length props in
        let Shown : Hosted → AssocId → List PropId → PropId → Type 0 = λ hosted a props p. ShowsPart basis tables key case a p (value_beside p props hosted.partner) in
        let Parts : List PropId → Type 0 = λ props. All (Shown y y.assoc props) props in
        let y_parts : Parts keys = subst Parts alike is_y.parts in
        let partners : x.partner ≡ y.partner = same_beside keys x.partner y.partner
        (keys_apart basis.schema.model is.sound.model (partner_end is_x.host.first_hosts is_x.assoc).ty) is_x.size (subst Long alike is_y.size)
        (λ p among.
        let first : Shown x x.assoc keys p = All-contains (Shown x x.assoc keys) keys p is_x.parts among in
        let second : Shown y y.assoc keys p = All-contains (Shown y y.assoc keys) keys p y_parts among in
        let P : AssocId → Type 0 = λ a. Shown y a keys p in
        one_part x.assoc p (value_beside p keys x.partner) (value_beside p keys y.partner) first (subst P (sym same) second)) in
        λ k. record { assoc = same k; partner = partners k }
