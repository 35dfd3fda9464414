-- What the cells of a view's rows hold, by the symbols of a pattern.
-- Source: the update views of Melnik, Adya and Bernstein, SIGMOD 2007.
use Rattle.std.specs.Prelude.{◌==◌, List, [], ◌∷◌, map, position, slice_get, Bool, Option, option_map}
use Rattle.std.specs.Option.{option_map_or}
use Rattle.round_trip.specs.Words.{TypeId, PropId, AssocId, Null, EntityModel, Assoc, key_props, props_of}
use Rattle.regions.specs.declared.region.Region.{Region}
use Rattle.regions.specs.declared.pattern.Symbol.{Symbol}
use Rattle.regions.specs.declared.pattern.Symbol.TheVariants as symbol
use Rattle.regions.specs.declared.pattern.PatternRow.{PatternRow}
use Rattle.regions.specs.declared.pattern.Focus.TheVariants as focus
use Rattle.regions.specs.Basis.{Basis}
use Rattle.regions.specs.Patterns.{pattern_of}
use Rattle.regions.specs.region_laws.pattern.Allowed.{end_at}
use Rattle.update_views.specs.declared.view_rows.view_cells.ViewCell.{ViewCell}
use Rattle.update_views.specs.declared.view_rows.view_cells.ViewCell.TheVariants as cell
use Rattle.update_views.specs.declared.view_rows.link_cells.LinkCell.{LinkCell}
use Rattle.update_views.specs.declared.view_rows.link_cells.LinkCell.TheVariants as link
use Rattle.update_views.specs.declared.view_rows.rows.ViewRow.{ViewRow}
use Rattle.update_views.specs.declared.view_rows.link_rows.LinkRow.{LinkRow}

-- the entity's value of a property, by its place among those of the type
abbrev pub own_cell : PropId → List PropId → ViewCell
own_cell p props = option_map_or cell.Own (position (λ other. other.index == p.index) props) (cell.Const Null)

-- a part of the key to which a link of the association leads, by its place in this key
abbrev pub partner_cell : AssocId → PropId → List PropId → ViewCell
partner_cell a p key = option_map_or (cell.Partner a) (position (λ other. other.index == p.index) key) (cell.Const Null)

-- a part of the key at an end of an association
abbrev pub end_cell : EntityModel → AssocId → Bool → PropId → ViewCell
end_cell model a first p = option_map_or (λ assoc. partner_cell a p (key_props model (end_at first assoc).ty)) (slice_get model.assocs a.index) (cell.Const Null)

-- what a symbol says, for an entity of the type
abbrev pub symbol_cell : EntityModel → TypeId → Symbol → ViewCell
symbol_cell model t symbol.Null = cell.Const Null
symbol_cell model t (symbol.Const value) = cell.Const value
symbol_cell model t (symbol.Prop p) = own_cell p (props_of model t)
symbol_cell model t (symbol.End a first p) = end_cell model a first p

-- what the first symbol says; null where there is none
abbrev pub cell_of : EntityModel → TypeId → List Symbol → ViewCell
cell_of model t [] = cell.Const Null
cell_of model t (one ∷ others) = symbol_cell model t one

abbrev pub row_of : EntityModel → TypeId → PatternRow → ViewRow
row_of model t row = record { table = row.table; cells = map (cell_of model t) row.cells }

-- the rows of an entity of the region
abbrev pub rows_of_region : Basis → Region → List ViewRow
rows_of_region basis region = map (row_of basis.schema.model region.ty) (pattern_of basis (focus.Entity region)).rows

-- a part of the key at one end of a link, by its place in this key
abbrev pub part_cell : Bool → PropId → List PropId → LinkCell
part_cell first p key = option_map_or (link.Part first) (position (λ other. other.index == p.index) key) (link.Const Null)

-- what a symbol says of a link of the association; it has no properties of an entity
abbrev pub link_symbol_cell : EntityModel → Assoc → Symbol → LinkCell
link_symbol_cell model assoc symbol.Null = link.Const Null
link_symbol_cell model assoc (symbol.Const value) = link.Const value
link_symbol_cell model assoc (symbol.Prop p) = link.Const Null
link_symbol_cell model assoc (symbol.End a first p) = part_cell first p (key_props model (end_at first assoc).ty)

abbrev pub link_cell_of : EntityModel → Assoc → List Symbol → LinkCell
link_cell_of model assoc [] = link.Const Null
link_cell_of model assoc (one ∷ others) = link_symbol_cell model assoc one

abbrev pub link_row_of : EntityModel → Assoc → PatternRow → LinkRow
link_row_of model assoc row = record { table = row.table; cells = map (link_cell_of model assoc) row.cells }

-- the first row of a link's pattern; the pattern of a joined association has just one
abbrev pub first_link_row : Basis → AssocId → Assoc → Option LinkRow
first_link_row basis a assoc = option_map (link_row_of basis.schema.model assoc) (slice_get (pattern_of basis (focus.Link a)).rows 0)
