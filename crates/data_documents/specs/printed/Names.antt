-- Names that are texts.
-- Source: RFC 8259, by which a document is UTF-8.
use Rattle.std.specs.Prelude.{All, IsUtf8}
use Rattle.round_trip.specs.Words.{EntityModel, StoreModel}

-- the names of tables and of columns are texts
pub record HasTextNames (store : StoreModel) : Type 0 where
  pub tables : All (λ table. IsUtf8 table.name) store.tables
  pub columns : All (λ table. All (λ column. IsUtf8 column.name) table.cols) store.tables

-- the names of types, properties, entity sets and association sets, the roles of both ends of associations, and the namespace, are texts
pub record HasTextModelNames (model : EntityModel) : Type 0 where
  pub namespace : IsUtf8 model.namespace
  pub types : All (λ type. IsUtf8 type.name) model.types
  pub props : All (λ prop. IsUtf8 prop.name) model.props
  pub sets : All (λ set. IsUtf8 set.name) model.sets
  pub assocs : All (λ assoc. IsUtf8 assoc.set_name) model.assocs
  pub roles : All (λ assoc. IsUtf8 assoc.first.role × IsUtf8 assoc.second.role) model.assocs
