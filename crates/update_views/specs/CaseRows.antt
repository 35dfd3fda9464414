-- That rows are those of a case, with the values that it shows filled in.
-- Source: the update views of Melnik, Adya and Bernstein, SIGMOD 2007; what a free column gets is this project's choice.
use Rattle.std.specs.Prelude.{◌≡◌, List, Contains}
use Rattle.std.specs.List.{AllZip}
use Rattle.round_trip.specs.Words.{AssocId, PropId, Value, Null, Assoc, EntityModel, Entity, Hosted, Link, At, key_props, value_beside, value_of}
use Rattle.table_files.specs.declared.tables.TableRow.{TableRow}
use Rattle.population.specs.Supported.{end_key}
use Rattle.regions.specs.Basis.{Basis, Host, partner_end}
use Rattle.regions.specs.declared.region.Region.{Region}
use Rattle.regions.specs.region_laws.pattern.Allowed.{end_at}
use Rattle.case_laws.specs.declared.region_cases.case.Case.{Case}
use Rattle.case_laws.specs.declared.region_cases.case.CaseCell.{CaseCell}
use Rattle.case_laws.specs.declared.region_cases.case.CaseCell.TheVariants as cell
use Rattle.case_laws.specs.declared.region_cases.case.CaseRow.{CaseRow}
use Rattle.case_laws.specs.declared.region_cases.link_case.LinkCase.{LinkCase}
use Rattle.case_laws.specs.declared.region_cases.link_case.LinkCaseCell.{LinkCaseCell}
use Rattle.case_laws.specs.declared.region_cases.link_case.LinkCaseCell.TheVariants as link_cell

module _ (basis : Basis) (region : Region) (entity : Entity) (links : List Hosted) where
  -- the value is a part of the partner's key, of one of the entity's links
  pub record IsPartnersPart (a : AssocId) (p : PropId) (value : Value) : Type 0 where
    pub host : Host
    pub is_host : Contains (basis.hosts region.set) host
    pub of_assoc : host.assoc ≡ a
    pub assoc : Assoc
    pub is_assoc : At basis.schema.model.assocs host.assoc.index assoc
    pub hosted : Hosted
    pub among : Contains links hosted
    pub of_link : hosted.assoc ≡ a
    pub is : value ≡ value_beside p (key_props basis.schema.model (partner_end host.first_hosts assoc).ty) hosted.partner

  -- a cell holds the constant, the entity's value of the property, or the part of the partner's key; a free one holds null
  abbrev pub IsFilled : CaseCell → Value → Type 0
  IsFilled (cell.Const constant) value = value ≡ constant
  IsFilled (cell.Prop p) value = value ≡ value_of basis.schema.model entity p
  IsFilled (cell.Partner a p) value = IsPartnersPart a p value
  IsFilled cell.Free value = value ≡ Null

  pub record IsFilledRow (told : CaseRow) (placed : TableRow) : Type 0 where
    pub in_table : placed.table ≡ told.table
    pub cells : AllZip IsFilled told.cells placed.row.cells

  -- a row for each of the case, in their order
  abbrev pub AreFilledRows : Case → List TableRow → Type 0
  AreFilledRows case rows = AllZip IsFilledRow case.rows rows

module _ (model : EntityModel) (assoc : Assoc) (link : Link) where
  -- the same of a link: the part of the key at the end
  abbrev pub IsFilledEnd : LinkCaseCell → Value → Type 0
  IsFilledEnd (link_cell.Const constant) value = value ≡ constant
  IsFilledEnd (link_cell.End first p) value = value ≡ value_beside p (key_props model (end_at first assoc).ty) (end_key first link)
  IsFilledEnd link_cell.Free value = value ≡ Null

  pub record IsFilledLink (case : LinkCase) (placed : TableRow) : Type 0 where
    pub in_table : placed.table ≡ case.table
    pub cells : AllZip IsFilledEnd case.cells placed.row.cells
