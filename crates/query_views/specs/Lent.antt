-- The entities and links that are lent from tables.
-- Source: the query views of Melnik, Adya and Bernstein, SIGMOD 2007.
use Rattle.std.specs.Prelude.{ℕ, List, map, take, drop, Bool, if◌then◌else◌}
use Rattle.std.specs.Borrow.{Bor}
use Rattle.round_trip.specs.Words.{Entity, Link, State, Value}
use Rattle.case_laws.specs.candidates.Rows.{shown_rows}
use Rattle.keyed_rows.specs.row_groups.Shown.{shown_cells}
use Rattle.query_cases.specs.case_reading.Sources.{read_entity}
use Rattle.query_views.specs.declared.loaded.Loaded.{Loaded}
use Rattle.query_views.specs.declared.lending.LentEntity.{LentEntity}
use Rattle.query_views.specs.declared.links.lent.LentLinks.{LentLinks}

-- the entity that is lent
abbrev pub lent_entity : LentEntity → Entity
lent_entity lent = read_entity lent.met.reading.now lent.met.case.now.region.ty (shown_rows lent.rows.items)

-- the link of two keys that stand one behind the other, the first of so many parts
abbrev pub link_of : ℕ → List Value → Link
link_of n both = record { first = take n both; second = drop n both }

-- the key of a link at an end
abbrev pub key_at : Bool → Link → List Value
key_at first link = if first then link.first else link.second

-- the links of an association that are lent
abbrev pub shown_links : LentLinks → List Link
shown_links lent = map (λ group. link_of lent.first_len (shown_cells group.key)) lent.keys.items

-- the state of all entities and links that are lent
abbrev pub lent_state : Loaded → State
lent_state loaded = record {
  entities = map (λ of_set. map lent_entity of_set.items) loaded.sets.items;
  links = map shown_links loaded.links.items;
}

-- the values that are lent
abbrev pub shown_values : List (Bor Value) → List Value
shown_values values = map (λ value. value.now) values
