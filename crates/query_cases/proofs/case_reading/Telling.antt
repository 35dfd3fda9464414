-- The entity that rows at a key tell by a case that they meet is the one that is read.
use Rattle.std.proofs.Common.{◌≡◌, List, [], ◌∷◌, Bool, Contains, Option, None, Some, refl, sym, ap, subst, ◌∙◌}
use Rattle.std.specs.Option.{option_map_or}
use Rattle.std.specs.Prelude.{option_and_then}
use Rattle.std.proofs.lemmas.List.{length-map}
use Rattle.emc_base.proofs.Lists.{all_from_members}
use Rattle.emc_base.proofs.facts.Zipped.{zip_long}
use Rattle.round_trip.specs.Words.{SetId, TableId, ColId, PropId, Entity, EntityModel, Null, Row, Tables, Value, props_of, value_of}
use Rattle.schema_laws.proofs.state_demand.lists.Lists.{head_stands}
use Rattle.condition_logic.specs.declared.atoms.Atom.{Atom}
use Rattle.condition_logic.specs.declared.atoms.Atom.TheVariants as atom
use Rattle.condition_logic.specs.declared.atoms.AtomOf.{AtomOf}
use Rattle.regions.specs.declared.region.Region.{Region}
use Rattle.regions.specs.declared.pattern.Focus.TheVariants as focus
use Rattle.regions.specs.declared.pattern.Symbol.{Symbol}
use Rattle.regions.specs.declared.pattern.Symbol.TheVariants as symbol
use Rattle.regions.specs.Atoms.{atom_at}
use Rattle.regions.specs.Basis.{Basis}
use Rattle.regions.specs.Regions.{regions_of}
use Rattle.regions.specs.Settled.{Possible, free, is_nullable, multi, of_atom, possible, settle, settled_by, single}
use Rattle.regions.specs.region_laws.IsBasis.{IsBasis}
use Rattle.regions.proofs.region_laws.pattern.Laws.{listed_from}
use Rattle.regions.proofs.region_laws.pattern.symbols.Standing.{listed_prop}
use Rattle.region_states.proofs.defaults.Listed.{IsTold, told_found, told_is}
use Rattle.case_laws.specs.declared.region_cases.case.CaseCell.TheVariants as cell
use Rattle.case_laws.specs.region_cases.Meets.{IsEntityOf, MeetsCase}
use Rattle.case_laws.specs.candidates.Rows.{AreRowsAt}
use Rattle.case_laws.proofs.shown.Cases.{cell_of_told}
use Rattle.case_laws.proofs.shown.Settling.{tells_prop}
use Rattle.query_cases.specs.declared.case_reading.reading.CellPlace.{CellPlace}
use Rattle.query_cases.specs.declared.case_reading.reading.Reading.{Reading}
use Rattle.query_cases.specs.declared.case_reading.reading.Source.{Source}
use Rattle.query_cases.specs.declared.case_reading.reading.Source.TheVariants as source
use Rattle.query_cases.specs.case_reading.Reading.{IsReadAs, IsReadingOf, IsSource, ShowsAt, fixed_value, one_value}
use Rattle.query_cases.specs.case_reading.Sources.{cell_at, read_entity, source_value}
use Rattle.query_cases.proofs.case_reading.CellByCell.{Shows, besides, case, shown_at, shown_here}
use Rattle.query_cases.proofs.case_reading.Zips.{IsBeside, beside_item}

-- a symbol by which symbols are settled stands first, and may have several values
pub record StandsFirst (model : EntityModel) (atoms : List AtomOf) (symbols : List Symbol) (one : Symbol) : Type 0 where
  pub among : Contains symbols one
  pub nullable : Bool
  pub several : possible model atoms one ≡ multi nullable

module _ (model : EntityModel) (atoms : List AtomOf) where
  pub stands_first : (symbols : List Symbol) (one : Symbol) (n : Bool) → settle model atoms symbols ≡ free one n → StandsFirst model atoms symbols one
  stands_first [] one n settled = cc
  stands_first (first ∷ others) one n settled = by (possible model atoms first) refl settled
    where
      by : (can : Possible) → possible model atoms first ≡ can → settled_by first can ≡ free one n → StandsFirst model atoms (first ∷ others) one
      by (single value) is told = cc
      by (multi nullable) is told =
          let same : first ≡ one = cc in
          subst (StandsFirst model atoms (first ∷ others)) same (record { among = head_stands first others; nullable = nullable; several = is })

  -- a property that may have several values has no single one by its atom
  pub not_fixed : (p : PropId) (n : Bool) → possible model atoms (symbol.Prop p) ≡ multi n → option_and_then one_value (atom_at atoms p) ≡ None
  not_fixed p n several = by (atom_at atoms p) several
    where
      by : (found : Option Atom) → option_map_or of_atom found (multi (is_nullable model p)) ≡ multi n → option_and_then one_value found ≡ None
      by None is = refl
      by (Some atom.Null) is = cc
      by (Some (atom.Is value)) is = cc
      by (Some atom.Other) is = refl

module _ (is_free : TableId → ColId → Bool) (basis : Basis) (is : IsBasis basis) (s : SetId) (region : Region) (listed : Contains (regions_of basis s) region)
    (tables : Tables) (key : List Value) (rows : List (TableId × Row)) (here : AreRowsAt basis.schema tables region.set key rows)
    (met : MeetsCase basis tables key (case is_free basis region tables key rows here))
    (reading : Reading) (is_reading : IsReadingOf basis (case is_free basis region tables key rows here) reading) where
  abbrev props : List PropId
  props = props_of basis.schema.model region.ty

  abbrev the_entity : Entity
  the_entity = read_entity reading region.ty rows

  abbrev Source_of : PropId → Source → Type 0
  Source_of = IsSource (case is_free basis region tables key rows here)

  abbrev IsRead : PropId → Value → Type 0
  IsRead p value = IsBeside Source_of (source_value rows) p value

  -- a property of the type has the value of its source
  read_there : (p : PropId) → Contains props p → IsRead p (value_of basis.schema.model the_entity p)
  read_there p among = beside_item Source_of (source_value rows) props reading.values is_reading.values p among

  -- a property that is shown is one of the type, and has no single value
  pub record IsOpen (p : PropId) : Type 0 where
    pub of_type : Contains props p
    pub none : fixed_value (case is_free basis region tables key rows here) p ≡ None

  open_prop : (p : PropId) (value : Value) → Shows is_free basis region tables key rows here p value → IsOpen p
  open_prop p value (t, held, col, has, is_value) =
      let found = cell_of_told is_free basis region tables key t held col (cell.Prop p) has in
      let told = tells_prop is_free basis region t col found.0 p (sym found.2) in
      let first = stands_first basis.schema.model region.atoms found.0 (symbol.Prop p) told.1 told.2 in
      let from = listed_from basis is (focus.Entity region) t col (symbol.Prop p) (found.0, found.1, first.among) in
      record {
        of_type = listed_prop basis is s region listed t col p from;
        none = not_fixed basis.schema.model region.atoms p first.nullable first.several;
      }

  shown_is : (p : PropId) (value : Value) → Shows is_free basis region tables key rows here p value → value_of basis.schema.model the_entity p ≡ value
  shown_is p value shown =
      let open_there = open_prop p value shown in
      let read = read_there p open_there.of_type in
      let at = shown_at is_free basis region tables key rows here (besides is_free basis region tables key rows here met) p value shown in
      read.is ∙ by read.item (subst (λ found. IsReadAs (case is_free basis region tables key rows here) p found read.item) open_there.none read.so) at.place at.shows
    where
      by : (told : Source) → IsReadAs (case is_free basis region tables key rows here) p None told
          → (place : CellPlace) → ShowsAt (case is_free basis region tables key rows here) p place → source_value rows told ≡ value
      by (source.Is other) (null, never) place shows = absurd (never place shows)
      by (source.Cell first) first_shows place shows = met.one p (cell_at rows first) value
          (shown_here is_free basis region tables key rows here (besides is_free basis region tables key rows here met) p first first_shows) shown

  -- a single value is read
  fixed_is : (told : AtomOf) → Contains region.atoms told → (value : Value) → one_value told.atom ≡ Some value
      → value_of basis.schema.model the_entity told.prop ≡ value
  fixed_is told among value one =
      let of_type : IsTold basis is s region listed told.prop told.atom = told_is basis is s region listed told among in
      let read = read_there told.prop of_type.of_type in
      let fixed : fixed_value (case is_free basis region tables key rows here) told.prop ≡ Some value =
      ap (option_and_then one_value) (told_found basis is s region listed told among) ∙ one in
      let same : read.item ≡ source.Is value = subst (λ found. IsReadAs (case is_free basis region tables key rows here) told.prop found read.item) fixed read.so in
      read.is ∙ ap (source_value rows) same

  pub told_entity : IsEntityOf basis tables key (case is_free basis region tables key rows here) the_entity
  told_entity = record {
    typed = refl;
    size = length-map reading.values (source_value rows) ∙ sym (zip_long Source_of props reading.values is_reading.values);
    shown = shown_is;
    nulls = all_from_members (λ (told : AtomOf). told.atom ≡ atom.Null → value_of basis.schema.model the_entity told.prop ≡ Null) region.atoms
        (λ told among same. fixed_is told among Null (ap one_value same));
    single = λ value. all_from_members (λ (told : AtomOf). told.atom ≡ atom.Is value → value_of basis.schema.model the_entity told.prop ≡ value) region.atoms
        (λ told among same. fixed_is told among value (ap one_value same));
  }
