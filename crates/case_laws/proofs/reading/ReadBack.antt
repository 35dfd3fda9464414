-- What the rows at a key tell is an entity that the region holds, of this key, which demands these rows.
use Rattle.std.proofs.Common.{◌≡◌, ◌↔◌, List, [], ◌∷◌, length, map, Any, Bool, false, Contains, refl, sym, ap, subst, ◌∙◌}
use Rattle.std.specs.Option.{option_map_or}
use Rattle.emc_base.proofs.Lists.{all_from_members}
use Rattle.emc_base.specs.Lists.{AreApart}
use Rattle.round_trip.specs.Words.{SetId, TableId, ColId, AssocId, PropId, TypeId, Entity, EntityType, Hosted, IsEntity, Row, Tables, Value, At, cell_of, key_of, key_props, props_of, row_key, rows_in, value_beside, value_of}
use Rattle.round_trip.specs.soundness.Lookups.{set_key}
use Rattle.schema_laws.proofs.state_demand.lists.Lists.{any_of, head_stands, of_any, same_by_key}
use Rattle.schema_laws.proofs.state_demand.lists.Places.{map_agree}
use Rattle.schema_laws.proofs.sound_demand.Keys.{keys_apart}
use Rattle.regions.specs.declared.region.Region.{Region}
use Rattle.regions.specs.declared.pattern.Focus.TheVariants as focus
use Rattle.regions.specs.declared.pattern.PatternRow.{PatternRow}
use Rattle.regions.specs.declared.pattern.Symbol.{Symbol}
use Rattle.regions.specs.declared.pattern.Symbol.TheVariants as symbol
use Rattle.regions.specs.Basis.{Basis, Host}
use Rattle.regions.specs.Patterns.{Valuation, cell_symbols, pattern_of, value_under, writings_of}
use Rattle.regions.specs.Regions.{Holds, TellsLinks}
use Rattle.regions.specs.Settled.{Settled, free, known, settle}
use Rattle.regions.specs.region_laws.IsBasis.{IsBasis}
use Rattle.regions.proofs.region_laws.listing.Listed.{set_is}
use Rattle.regions.proofs.region_laws.listing.Possible.{type_fits}
use Rattle.regions.specs.region_laws.pattern.Described.{value_in}
use Rattle.regions.proofs.region_laws.pattern.types.Regions.{key_is, parts_of}
use Rattle.case_laws.proofs.filled_rows.Filled.{cell_is, cell_there, has_cell}
use Rattle.conflict_laws.proofs.rival.Clear.{known_value}
use Rattle.case_laws.specs.declared.region_cases.case.Case.{Case}
use Rattle.case_laws.specs.declared.region_cases.case.CaseCell.TheVariants as cell
use Rattle.case_laws.specs.region_cases.Cases.{by_settled, case_of}
use Rattle.case_laws.specs.region_cases.Meets.{ShowsPart, StandsAtKey}
use Rattle.case_laws.specs.Reading.{DecidesFree, HaveOneRowPerKey}
use Rattle.case_laws.specs.Told.{AreTold, IsMet, IsReadBack, IsReadable, StandsWith}
use Rattle.case_laws.proofs.lists.Beside.{all_beside}
use Rattle.case_laws.proofs.shown.Cases.{IsCell, Stands, Tells, told_of_row}
use Rattle.case_laws.proofs.Keys.{one_key}
use Rattle.case_laws.proofs.reading.Parts.{link_there, part_shows}
use Rattle.case_laws.proofs.shown.Present.{present_row}
use Rattle.case_laws.proofs.reading.Readable.{key_cell_there}
use Rattle.case_laws.proofs.shown.Settling.{alone, answered, listed_bound, told_settled}
use Rattle.case_laws.proofs.shown.Shown.{AreAlone, ShowsSymbol, end_shown, one_part, shows, shows_part}
use Rattle.case_laws.proofs.reading.Values.{are_allowed, shown_value, value_allowed, values}

-- tables with one row for each key have one row of each table at a key
pub alone_by_keys : (is_free : TableId → ColId → Bool) (basis : Basis) (is : IsBasis basis) (decides : DecidesFree basis.schema is_free) (s : SetId) (region : Region)
    (readable : IsReadable basis s region) (tables : Tables) → HaveOneRowPerKey basis.schema.store tables → (key : List Value)
    → AreAlone is_free basis is decides s region readable.listed readable.clear tables key
alone_by_keys is_free basis is decides s region readable tables have key t one other stands too =
    let same = one_key basis.schema is.sound region.set tables key t one stands other too in
    same_by_key (row_key stands.table) (rows_in tables t) one other (have.keys t stands.table stands.is_table) stands.stands too.stands same

module _ (is_free : TableId → ColId → Bool) (basis : Basis) (is : IsBasis basis) (decides : DecidesFree basis.schema is_free) (s : SetId) (region : Region)
    (readable : IsReadable basis s region) (tables : Tables) (key : List Value) (met : IsMet basis is_free s region tables key)
    (are_alone : AreAlone is_free basis is decides s region readable.listed readable.clear tables key)
    (entity : Entity) (links : List Hosted) (told : AreTold basis is_free s region tables key entity links) where
  abbrev case : Case
  case = case_of is_free basis region

  abbrev the_values : Valuation
  the_values = values is_free basis is decides s region readable tables key met entity links told

  -- what a symbol shows is its value
  symbol_shown : (one : Symbol) (value : Value) → ShowsSymbol is_free basis is decides s region readable.listed readable.clear tables key one value
      → value_under the_values one ≡ value
  symbol_shown symbol.Null value shown = (let never = shown.several in cc)
  symbol_shown (symbol.Const constant) value shown = (let never = shown.several in cc)
  symbol_shown (symbol.Prop p) value shown = shown_value is_free basis is decides s region readable tables key met entity links told p value shown
  symbol_shown (symbol.End a first p) value shown =
      let end = end_shown is_free basis is decides s region readable.listed readable.clear tables key a first p value shown in
      let part = part_shows is_free basis is decides s region readable tables key met links told.links_told end.host end.is_host end.linked end.assoc end.here p end.among in
      let P : AssocId → Bool → Type 0 = λ b side. ShowsPart basis tables key case b p (the_values.part b side p) in
      let moved : P a first = subst (λ b. P b first) end.of_assoc (subst (P end.host.assoc) (sym end.partner) part) in
      one_part is_free basis is decides s region readable.listed readable.clear tables key are_alone a p (the_values.part a first p) value moved
      (shows_part is_free basis is decides s region readable.listed readable.clear tables key a first p value shown)

  -- a cell that isn't free holds what the pattern says
  pub cell_value : (t : TableId) (held : Row) → Stands is_free basis region tables key t held → (col : ColId) (symbols : List Symbol) → IsCell basis region t col symbols
      → is_free t col ≡ false → cell_of held col ≡ value_in the_values symbols
  cell_value t held stands col symbols has bound = by (settle basis.schema.model region.atoms symbols) refl
    where
      by : (settled : Settled) → settle basis.schema.model region.atoms symbols ≡ settled → cell_of held col ≡ value_in the_values symbols
      by (known value) at =
          let tells : Tells is_free basis region tables key t held col (cell.Const value) =
          subst (Tells is_free basis region tables key t held col) (told_settled is_free basis region t col symbols bound ∙ ap by_settled at)
          (told_of_row is_free basis region tables key t held stands col symbols has) in
          met.meets.constants t held col value tells
          ∙ sym (known_value basis region readable.clear t col symbols has is s readable.listed the_values
          (are_allowed is_free basis is decides s region readable tables key met entity links told) value at)
      by (free one n) at =
          let single = alone basis is region readable.clear t col symbols has one n at in
          let lists : Contains symbols one = subst (λ list. Contains list one) (sym single.0) (head_stands one []) in
          sym (symbol_shown one (cell_of held col)
          (shows is_free basis is decides s region readable.listed readable.clear tables key t held stands col symbols has one lists n single.1))
          ∙ sym (ap (value_in the_values) single.0)

  -- the key
  pub keys_are : key_props basis.schema.model region.ty ≡ set_key basis.schema.model s
  keys_are = key_is basis is s region readable.listed ∙ ap (set_key basis.schema.model) (set_is basis s region readable.listed)

  pub part_of_key : (p : PropId) → Contains (key_props basis.schema.model region.ty) p → value_of basis.schema.model entity p ≡ value_beside p (set_key basis.schema.model s) key
  part_of_key p among =
      let at = key_cell_there is_free basis is decides s region readable tables key met p among in
      let symbols : List Symbol = symbol.Prop p ∷ [] in
      sym (cell_value at.t at.held at.stands at.col symbols at.has
      (listed_bound basis is is_free decides region at.t at.col symbols at.has (symbol.Prop p) (head_stands (symbol.Prop p) []))) ∙ at.is_part

  pub at_key : key_of basis.schema.model entity ≡ key
  at_key =
      let keys : List PropId = set_key basis.schema.model s in
      let P : List PropId → Type 0 = λ props. AreApart props in
      ap (λ t. map (value_of basis.schema.model entity) (key_props basis.schema.model t)) told.entity_told.typed
      ∙ ap (map (value_of basis.schema.model entity)) keys_are
      ∙ map_agree (value_of basis.schema.model entity) (λ (p : PropId). value_beside p keys key) keys
      (λ p among. part_of_key p (subst (λ props. Contains props p) (sym keys_are) among))
      ∙ all_beside keys key (subst P keys_are (keys_apart basis.schema.model is.sound.model region.ty)) met.whole

  -- the flags
  pub flag_told : (host : Host) → Contains (basis.hosts region.set) host → Contains region.linked host.assoc ↔ Any (λ hosted. hosted.assoc ≡ host.assoc) links
  flag_told host is_host = (
    (λ linked.
        let link = link_there is_free basis is decides s region readable tables key met host is_host linked in
        any_of (λ (hosted : Hosted). hosted.assoc ≡ host.assoc) links link.0 ((told.links_told.tells link.0).1 link.1) link.2),
    (λ any.
        let found = of_any (λ (hosted : Hosted). hosted.assoc ≡ host.assoc) links any in
        subst (Contains region.linked) found.2 ((told.links_told.tells found.0).0 found.1).linked),
  )

  pub holds : Holds basis region entity links
  holds = record {
    typed = told.entity_told.typed;
    atoms = (are_allowed is_free basis is decides s region readable tables key met entity links told).atoms;
    flags = all_from_members (TellsLinks basis region links) (basis.hosts region.set) (λ host is_host assoc here few. flag_told host is_host);
  }

  is_entity : IsEntity basis.schema.model entity
  is_entity =
      let parts = parts_of basis s region readable.listed in
      let type = (type_fits basis is s region readable.listed parts.set parts.is_set).0 in
      let HasType : TypeId → Type 0 = λ t. At basis.schema.model.types t.index type.0 in
      let here : HasType entity.ty = subst HasType (sym told.entity_told.typed) type.1 in
      (type.0, here, told.entity_told.size ∙ ap (λ found. length (option_map_or (λ (one : EntityType). one.props) found [])) here)

  row_stands : (pattern : PatternRow) → Contains (pattern_of basis (focus.Entity region)).rows pattern → StandsWith basis is_free s region tables key the_values pattern
  row_stands pattern has =
      let held = present_row is_free basis region tables key met.meets pattern has in
      let Here : SetId → Type 0 = λ u. StandsAtKey basis.schema tables u key pattern.table held.0 in
      record {
        held = held.0;
        stands = subst Here (set_is basis s region readable.listed) held.1;
        cells = λ table col column is_table is_column bound. (
            let symbols : List Symbol = cell_symbols (writings_of basis (focus.Entity region)) pattern.table col in
            cell_value pattern.table held.0 held.1 col symbols (has_cell basis (focus.Entity region) pattern has table is_table col column is_column)
            (answered basis is is_free decides pattern.table col bound)
            ∙ sym (cell_is basis (focus.Entity region) pattern has table is_table the_values col symbols
            (cell_there basis (focus.Entity region) pattern has table is_table col column is_column)));
      }

  pub read_back : IsReadBack basis is_free s region tables key entity links
  read_back = record {
    is_entity = is_entity;
    holds = holds;
    at_key = at_key;
    values = λ p declared among here. (let P : TypeId → Type 0 = λ t. Contains (props_of basis.schema.model t) p in
        value_allowed is_free basis is decides s region readable tables key met entity links told p declared (subst P told.entity_told.typed among) here);
    rows = all_from_members (StandsWith basis is_free s region tables key the_values) (pattern_of basis (focus.Entity region)).rows row_stands;
  }
