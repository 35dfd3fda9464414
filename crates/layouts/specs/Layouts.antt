-- What the layouts of CSDL, SSDL and MSL say of the members of an object. The tables themselves stand in the code, once, and are
-- cited here.
-- Source: CSDL, SSDL and MSL version 3, in the profile of this project.
use Rattle.std.specs.Prelude.{ℕ, List, Bool, ◌||◌, ◌==◌, if◌then◌else◌, map, Option, Some, None, option_map}
use Rattle.std.specs.Borrow.{Bor}
use Rattle.std.specs.Option.{option_or}
use Rattle.std.specs.List.{find, list_any}
use Rattle.std.specs.Str.{bytes_eq}
use Rattle.layouts.specs.declared.form.Shape.{Shape}
use Rattle.layouts.specs.declared.form.Shape.TheVariants as shape
use Rattle.layouts.specs.declared.form.Entry.{Entry}
use Rattle.layouts.specs.declared.form.Entry.TheVariants as entry
use Rattle.layouts.specs.declared.form.Form.TheVariants as form
use Rattle.layouts.specs.declared.form.Leaf.TheVariants as leaf
use Rattle.layouts.specs.declared.names.model_layout.TheConstants as model
use Rattle.layouts.specs.declared.names.store_layout.TheConstants as store
use Rattle.layouts.specs.declared.names.mapping_layout.TheConstants as mapping
use Rattle.layouts.specs.declared.names.TheConstants.{PASSED_OVER, LEFT_OUT}

-- a table of the code as a list of rows: a member's name, and what is said of it
abbrev pub read_rows : List (record { now : List ℕ } × Entry) → List (List ℕ × Entry)
read_rows rows = map (λ row. (row.0.now, row.1)) rows

-- the same of a table that is lent
abbrev pub as_rows : List (Bor (List ℕ) × Entry) → List (List ℕ × Entry)
as_rows rows = map (λ row. (row.0.now, row.1)) rows

-- the rows of an object's layout
abbrev pub rows_of : Shape → List (List ℕ × Entry)
rows_of shape.Model = read_rows model.MODEL.now
rows_of shape.ModelContainer = read_rows model.MODEL_CONTAINER.now
rows_of shape.EntitySet = read_rows model.ENTITY_SET.now
rows_of shape.AssociationSet = read_rows model.ASSOCIATION_SET.now
rows_of shape.AssociationSetEnd = read_rows model.ASSOCIATION_SET_END.now
rows_of shape.EntityType = read_rows model.ENTITY_TYPE.now
rows_of shape.EnumType = read_rows model.ENUM_TYPE.now
rows_of shape.EnumMember = read_rows model.ENUM_MEMBER.now
rows_of shape.Property = read_rows model.PROPERTY.now
rows_of shape.NavigationProperty = read_rows model.NAVIGATION_PROPERTY.now
rows_of shape.Association = read_rows model.ASSOCIATION.now
rows_of shape.AssociationEnd = read_rows model.ASSOCIATION_END.now
rows_of shape.Constraint = read_rows model.CONSTRAINT.now
rows_of shape.ConstraintRole = read_rows model.CONSTRAINT_ROLE.now
rows_of shape.Store = read_rows store.STORE.now
rows_of shape.StoreContainer = read_rows store.STORE_CONTAINER.now
rows_of shape.Table = read_rows store.TABLE.now
rows_of shape.TableType = read_rows store.TABLE_TYPE.now
rows_of shape.Column = read_rows store.COLUMN.now
rows_of shape.ForeignKey = read_rows store.FOREIGN_KEY.now
rows_of shape.ForeignKeyEnd = read_rows store.FOREIGN_KEY_END.now
rows_of shape.StoreConstraint = read_rows store.STORE_CONSTRAINT.now
rows_of shape.StoreConstraintRole = read_rows store.STORE_CONSTRAINT_ROLE.now
rows_of shape.Mapping = read_rows mapping.MAPPING.now
rows_of shape.ContainerMapping = read_rows mapping.CONTAINER_MAPPING.now
rows_of shape.EntitySetMapping = read_rows mapping.ENTITY_SET_MAPPING.now
rows_of shape.EntityTypeMapping = read_rows mapping.ENTITY_TYPE_MAPPING.now
rows_of shape.MappingFragment = read_rows mapping.MAPPING_FRAGMENT.now
rows_of shape.ScalarProperty = read_rows mapping.SCALAR_PROPERTY.now
rows_of shape.Condition = read_rows mapping.CONDITION.now
rows_of shape.AssociationSetMapping = read_rows mapping.ASSOCIATION_SET_MAPPING.now
rows_of shape.EndProperty = read_rows mapping.END_PROPERTY.now

-- what the first row of this name says
abbrev pub row_of : List (List ℕ × Entry) → List ℕ → Option Entry
row_of rows name = option_map (λ row. row.1) (find (λ row. bytes_eq row.0 name) rows)

-- the name holds a colon, or is one of those that are passed over wherever they stand
abbrev pub is_passed_over : List ℕ → Bool
is_passed_over name = list_any (λ byte. byte == 58) name || list_any (λ other. bytes_eq other.now name) PASSED_OVER.now

-- it is one of those that are left out wherever they stand
abbrev pub is_left_out : List ℕ → Bool
is_left_out name = list_any (λ other. bytes_eq other.now name) LEFT_OUT.now

-- what is said of a name wherever it stands
abbrev pub everywhere : List ℕ → Option Entry
everywhere name = if is_passed_over name then Some (entry.Optional (form.One leaf.Any)) else if is_left_out name then Some entry.LeftOut else None

-- what a layout says of the member of a name; nothing where the member is unknown
abbrev pub entry_of : Shape → List ℕ → Option Entry
entry_of shape name = option_or (row_of (rows_of shape) name) (everywhere name)
