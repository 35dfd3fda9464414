-- The rows of a region hold the values of an entity with the keys of its partners, and the row of an association those of a link.
use Rattle.std.proofs.Common.{◌≡◌, ◌==◌, ◌∙◌, refl, sym, ap, ℕ, suc, ◌+◌, arith, cond, nat_lt, not, length, List, [], ◌∷◌, map, find, position, slice_get, unwrap_or, Option, Some, None, option_map, option_and_then, Bool, true, false, if◌then◌else◌}
use Rattle.std.specs.List.{position_or_len}
use Rattle.std.proofs.lemmas.Bool.Decides.{nat_tests}
use Rattle.std.specs.Option.{option_map_or}
use Rattle.round_trip.specs.Words.{PropId, AssocId, Value, Null, EntityModel, Assoc, Entity, Hosted, Link, key_props, props_of, value_beside}
use Rattle.regions.specs.declared.pattern.Symbol.{Symbol}
use Rattle.regions.specs.declared.pattern.Symbol.TheVariants as symbol
use Rattle.regions.specs.declared.pattern.PatternRow.{PatternRow}
use Rattle.regions.specs.Patterns.{by_entity, by_link}
use Rattle.regions.specs.region_laws.pattern.Allowed.{end_at, partner_parts}
use Rattle.regions.specs.region_laws.pattern.Described.{row_for, value_in}
use Rattle.update_views.specs.declared.view_rows.view_cells.ViewCell.TheVariants as cell
use Rattle.update_views.specs.declared.view_rows.link_cells.LinkCell.TheVariants as link
use Rattle.update_views.specs.view_rows.Held.{held_by_entity, held_by_link, part_held, row_by_entity, row_by_link}
use Rattle.update_views.specs.view_rows.Made.{cell_of, end_cell, link_cell_of, link_row_of, link_symbol_cell, row_of, symbol_cell}

-- a number that may be told, and the next
next_of : (n : ℕ) (told : Bool) → cond told (Some (1 + n)) None ≡ option_map suc (cond told (Some n) None)
next_of n true = let next : 1 + n ≡ suc n = omega arith in ap Some next
next_of n false = refl

-- one is below another where the next of it is below the next of the other
below_next : (n m : ℕ) → nat_lt (1 + n) (suc m) ≡ nat_lt n m
below_next n m = grind (arith, nat_tests)

module _ {X : Type 0} (test : X → Bool) (x : X) (xs : List X) where
  -- the position by what the test says of the first item
  abbrev by_first : Bool → Option ℕ
  by_first said = let n = cond (not said) (1 + position_or_len test xs) 0 in cond (nat_lt n (length (x ∷ xs))) (Some n) None

  -- where the first stands of which it is so, behind one of which it isn't
  position_next : test x ≡ false → position test (x ∷ xs) ≡ option_map suc (position test xs)
  position_next isnt = let p = position_or_len test xs in
      ap by_first isnt ∙ ap (λ told. cond told (Some (1 + p)) None) (below_next p (length xs)) ∙ next_of p (nat_lt p (length xs))

  -- and where it is so of the first
  position_here : test x ≡ true → position test (x ∷ xs) ≡ Some 0
  position_here is = let below : nat_lt 0 (length (x ∷ xs)) ≡ true = grind (arith, nat_tests) in ap by_first is ∙ ap (λ told. cond told (Some 0) None) below

-- where a property stands first
abbrev place_in : PropId → List PropId → Option ℕ
place_in p props = position (λ other. other.index == p.index) props

-- the value at a place that may be told
abbrev at_place : List Value → Option ℕ → Value
at_place values place = unwrap_or (option_and_then (slice_get values) place) Null

none_at : (place : Option ℕ) → Null ≡ at_place [] place
none_at None = refl
none_at (Some i) = refl

at_next : (value : Value) (values : List Value) (place : Option ℕ) → at_place values place ≡ at_place (value ∷ values) (option_map suc place)
at_next value values None = refl
at_next value values (Some i) = refl

-- one property more before the others
place_next : (p other : PropId) (props : List PropId) → (other.index == p.index) ≡ false → place_in p (other ∷ props) ≡ option_map suc (place_in p props)
place_next p other props isnt = position_next (λ other. other.index == p.index) other props isnt

place_here : (p other : PropId) (props : List PropId) → (other.index == p.index) ≡ true → place_in p (other ∷ props) ≡ Some 0
place_here p other props is = position_here (λ other. other.index == p.index) other props is

-- the same behind one property more
beside_next : (p other : PropId) (props : List PropId) (value : Value) (values : List Value) → value_beside p props values ≡ at_place values (place_in p props)
    → (same : Bool) → (other.index == p.index) ≡ same → (if same then value else value_beside p props values) ≡ at_place (value ∷ values) (place_in p (other ∷ props))
beside_next p other props value values before true is = sym (ap (at_place (value ∷ values)) (place_here p other props is))
beside_next p other props value values before false isnt = before ∙ at_next value values (place_in p props) ∙ sym (ap (at_place (value ∷ values)) (place_next p other props isnt))

-- the value beside a property is that at its place
pub beside_place : (p : PropId) (props : List PropId) (values : List Value) → value_beside p props values ≡ at_place values (place_in p props)
beside_place p [] values = refl
beside_place p (other ∷ props) [] = none_at (place_in p (other ∷ props))
beside_place p (other ∷ props) (value ∷ values) = beside_next p other props value values (beside_place p props values) (other.index == p.index) refl

-- the entity's own cell
own_at : (entity : Entity) (links : List Hosted) (place : Option ℕ) → held_by_entity entity links (option_map_or cell.Own place (cell.Const Null)) ≡ at_place entity.values place
own_at entity links None = refl
own_at entity links (Some place) = refl

-- the part of a partner's key, where the partner and the part's place may be told
partner_at : (p : PropId) (keys : List PropId) (found : Option Hosted) (place : Option ℕ) → place_in p keys ≡ place
    → option_map_or (λ part. unwrap_or (option_and_then (λ hosted. slice_get hosted.partner part) found) Null) place Null
    ≡ option_map_or (λ hosted. value_beside p keys hosted.partner) found Null
partner_at p keys None None is = refl
partner_at p keys None (Some part) is = refl
partner_at p keys (Some hosted) None is = sym (beside_place p keys hosted.partner ∙ ap (at_place hosted.partner) is)
partner_at p keys (Some hosted) (Some part) is = sym (beside_place p keys hosted.partner ∙ ap (at_place hosted.partner) is)

module _ (model : EntityModel) (entity : Entity) (links : List Hosted) where
  part_at : (a : AssocId) (place : Option ℕ)
      → held_by_entity entity links (option_map_or (cell.Partner a) place (cell.Const Null)) ≡ option_map_or (λ part. unwrap_or (part_held links a part) Null) place Null
  part_at a None = refl
  part_at a (Some part) = refl

  no_part : (found : Option Hosted) → Null ≡ option_map_or (λ hosted. Null) found Null
  no_part None = refl
  no_part (Some hosted) = refl

  end_held : (a : AssocId) (first : Bool) (p : PropId) → held_by_entity entity links (end_cell model a first p) ≡ partner_parts model links a first p
  end_held a first p = go (slice_get model.assocs a.index)
    where
      found : Option Hosted
      found = find (λ hosted. hosted.assoc.index == a.index) links

      go : (declared : Option Assoc)
          → held_by_entity entity links (option_map_or
          (λ assoc. option_map_or (cell.Partner a) (place_in p (key_props model (end_at first assoc).ty)) (cell.Const Null)) declared (cell.Const Null))
          ≡ option_map_or (λ hosted. option_map_or (λ assoc. value_beside p (key_props model (end_at first assoc).ty) hosted.partner) declared Null) found Null
      go None = no_part found
      go (Some assoc) = let keys = key_props model (end_at first assoc).ty in
          part_at a (place_in p keys) ∙ partner_at p keys found (place_in p keys) refl

  symbol_held : (one : Symbol) → held_by_entity entity links (symbol_cell model entity.ty one) ≡ value_in (by_entity model entity (partner_parts model links)) (one ∷ [])
  symbol_held symbol.Null = refl
  symbol_held (symbol.Const value) = refl
  symbol_held (symbol.Prop p) = own_at entity links (place_in p (props_of model entity.ty)) ∙ sym (beside_place p (props_of model entity.ty) entity.values)
  symbol_held (symbol.End a first p) = end_held a first p

  cell_held : (symbols : List Symbol) → held_by_entity entity links (cell_of model entity.ty symbols) ≡ value_in (by_entity model entity (partner_parts model links)) symbols
  cell_held [] = refl
  cell_held (one ∷ others) = symbol_held one

  -- the cells of a row
  cells_held : (cells : List (List Symbol)) → map (held_by_entity entity links) (map (cell_of model entity.ty) cells)
      ≡ map (value_in (by_entity model entity (partner_parts model links))) cells
  cells_held [] = refl
  cells_held (symbols ∷ cells) = λ i. cell_held symbols i ∷ cells_held cells i

  -- the rows of the entity's region are filled with its values and the keys of its partners
  pub rows_held : (rows : List PatternRow) → map (row_by_entity entity links) (map (row_of model entity.ty) rows)
      ≡ map (λ row. record { table = row.table; row = row_for (by_entity model entity (partner_parts model links)) row }) rows
  rows_held [] = refl
  rows_held (row ∷ rows) = λ i. record { table = row.table; row = record { cells = cells_held row.cells i } } ∷ rows_held rows i

module _ (model : EntityModel) (assoc : Assoc) (given : Link) where
  end_at_place : (first : Bool) (p : PropId) (place : Option ℕ)
      → held_by_link given (option_map_or (link.Part first) place (link.Const Null)) ≡ at_place (if first then given.first else given.second) place
  end_at_place first p None = refl
  end_at_place first p (Some part) = refl

  link_end : (a : AssocId) (first : Bool) (p : PropId) → held_by_link given (link_symbol_cell model assoc (symbol.End a first p)) ≡ (by_link model assoc given).part a first p
  link_end a true p = let keys = key_props model assoc.first.ty in end_at_place true p (place_in p keys) ∙ sym (beside_place p keys given.first)
  link_end a false p = let keys = key_props model assoc.second.ty in end_at_place false p (place_in p keys) ∙ sym (beside_place p keys given.second)

  link_symbol : (one : Symbol) → held_by_link given (link_symbol_cell model assoc one) ≡ value_in (by_link model assoc given) (one ∷ [])
  link_symbol symbol.Null = refl
  link_symbol (symbol.Const value) = refl
  link_symbol (symbol.Prop p) = refl
  link_symbol (symbol.End a first p) = link_end a first p

  link_cell : (symbols : List Symbol) → held_by_link given (link_cell_of model assoc symbols) ≡ value_in (by_link model assoc given) symbols
  link_cell [] = refl
  link_cell (one ∷ others) = link_symbol one

  link_cells : (cells : List (List Symbol)) → map (held_by_link given) (map (link_cell_of model assoc) cells) ≡ map (value_in (by_link model assoc given)) cells
  link_cells [] = refl
  link_cells (symbols ∷ cells) = λ i. link_cell symbols i ∷ link_cells cells i

  -- the row of an association is filled with the keys of a link
  pub link_row_held : (row : PatternRow) → row_by_link (link_row_of model assoc row) given ≡ record { table = row.table; row = row_for (by_link model assoc given) row }
  link_row_held row = λ i. record { table = row.table; row = record { cells = link_cells row.cells i } }
