-- Where the rows at a key meet a case, each row of the pattern stands there.
use Rattle.std.proofs.Common.{List, Bool, Contains, subst}
use Rattle.std.proofs.lemmas.List.Elements.{All-contains}
use Rattle.emc_base.proofs.Mapped.{contains_map}
use Rattle.round_trip.specs.Words.{TableId, ColId, Row, Tables, Value}
use Rattle.regions.specs.declared.region.Region.{Region}
use Rattle.regions.specs.declared.pattern.Focus.TheVariants as focus
use Rattle.regions.specs.declared.pattern.PatternRow.{PatternRow}
use Rattle.regions.specs.declared.pattern.Symbol.{Symbol}
use Rattle.regions.specs.Basis.{Basis}
use Rattle.regions.specs.Patterns.{pattern_of}
use Rattle.case_laws.specs.declared.region_cases.case.CaseRow.{CaseRow}
use Rattle.case_laws.specs.region_cases.Cases.{case_of, case_row}
use Rattle.case_laws.specs.region_cases.Meets.{MeetsCase}
use Rattle.case_laws.proofs.shown.Cases.{IsCell, Stands}

module _ (is_free : TableId → ColId → Bool) (basis : Basis) (region : Region) (tables : Tables) (key : List Value)
    (met : MeetsCase basis tables key (case_of is_free basis region)) where
  abbrev row_of : PatternRow → CaseRow
  row_of = case_row is_free basis.schema.model region.atoms

  pub present_row : (row : PatternRow) → Contains (pattern_of basis (focus.Entity region)).rows row → (held : Row) × Stands is_free basis region tables key row.table held
  present_row row has =
      let Here : CaseRow → Type 0 = λ one. (held : Row) × Stands is_free basis region tables key one.table held in
      All-contains Here (case_of is_free basis region).rows (row_of row) met.present (contains_map row_of (pattern_of basis (focus.Entity region)).rows row has)

  -- and so the row of a cell does
  pub present_cell : (t : TableId) (col : ColId) (symbols : List Symbol) → IsCell basis region t col symbols → (held : Row) × Stands is_free basis region tables key t held
  present_cell t col symbols has =
      let P : TableId → Type 0 = λ u. (held : Row) × Stands is_free basis region tables key u held in
      subst P has.of_table (present_row has.row has.is_row)
