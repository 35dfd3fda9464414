-- The stores of the examples are sound.
use Rattle.std.proofs.Common.{◌≡◌, [], ◌∷◌, refl, arith, ap}
use Rattle.std.specs.Prelude.{◌==◌, ℕ, List, map, option_map, Some, false, codes}
use Rattle.std.specs.List.{AllByRecursion}
use Rattle.round_trip.specs.Words.{TableId, ColId, Column, StoreModel, Table, At, key_columns}
use Rattle.emc_base.specs.declared.value.Kind.TheVariants as kind
use Rattle.worked_examples.specs.Ids.{table_id, col_id, needed_column, optional_column}
use Rattle.worked_examples.specs.people.People.{people_table, people_store}
use Rattle.worked_examples.specs.bosses.Bosses.{boss_column, boss_key, bossed_table, bossed_store}
use Rattle.worked_examples.specs.staff.Salary.{staff_table, staff_store}
use Rattle.worked_examples.specs.staff.ByKind.{optional_salaries}
use Rattle.worked_examples.specs.staff.Owners.{orders_table, shop_store}
use Rattle.worked_examples.specs.bosses.JoinedBosses.{joined_table, joined_store}
use Rattle.worked_examples.specs.LevelLost.{ids_table, item_store}
use Rattle.worked_examples.specs.Seats.{seats_table, seats_store}
use Rattle.round_trip.specs.soundness.Kinds.{without_bound}
use Rattle.round_trip.specs.soundness.Lookups.{column_kind}
use Rattle.round_trip.specs.soundness.Stores.{IsKeyColumn, IsSoundColumn, IsSoundTable, IsSoundForeignKey, IsSoundStore}
use Rattle.worked_examples.proofs.sound_examples.Names.{other_col, other_number}
use Rattle.worked_examples.proofs.sound_examples.Lists.{head_same}
use Rattle.worked_examples.proofs.sound_examples.stores.Stores.{store_from, table_from, single, single_sound}

-- columns of whole numbers
module _ (name : List ℕ) where
  needed_whole : IsSoundColumn (needed_column name kind.Int32)
  needed_whole = record { kind = tt; simple = λ e. e }

  optional_whole : IsSoundColumn (optional_column name kind.Int32)
  optional_whole = record { kind = tt; simple = λ e. e }

name_column : IsSoundColumn (optional_column (codes "Name") (kind.Text (Some 20)))
name_column = record { kind = (omega arith, omega arith); simple = λ e. e }

kind_column : IsSoundColumn (needed_column (codes "Kind") (kind.Text (Some 1)))
kind_column = record { kind = (omega arith, omega arith); simple = λ e. e }

-- a column of whole numbers that is part of a key
needed_key : (table : Table) (col : ColId) (name : List ℕ) → At table.cols col.index (needed_column name kind.Int32) → IsKeyColumn table col
needed_key table col name at = record { column = needed_column name kind.Int32; is_column = at; needed = refl; kind = tt }

-- the first column is the key's
id_key : (name : List ℕ) (columns : List Column) (id : List ℕ) → AllByRecursion IsSoundColumn columns
    → IsSoundTable (record { name = name; cols = needed_column id kind.Int32 ∷ columns; key = col_id 0 ∷ [] })
id_key name columns id sound =
    let table : Table = record { name = name; cols = needed_column id kind.Int32 ∷ columns; key = col_id 0 ∷ [] } in
    table_from table (λ e. absurd (cc)) (omega arith) (tt, tt) (needed_key table (col_id 0) id refl, tt) (needed_whole id, sound)

-- a table of ids alone
ids_only : (name : List ℕ) → IsSoundTable (ids_table name)
ids_only name = id_key name [] (codes "Id") tt

sound_people_table : IsSoundTable people_table
sound_people_table = id_key (codes "People") (optional_column (codes "Name") (kind.Text (Some 20)) ∷ []) (codes "Id") (name_column, tt)

pub people : IsSoundStore people_store
people = store_from people_store refl (sound_people_table, tt) tt

sound_staff_table : IsSoundTable (staff_table optional_salaries)
sound_staff_table = id_key (codes "People") (optional_column (codes "Name") (kind.Text (Some 20)) ∷ needed_column (codes "Kind") (kind.Text (Some 1)) ∷ optional_salaries ∷ []) (codes "Id")
    (name_column, (kind_column, (optional_whole (codes "Salary"), tt)))

pub staff : IsSoundStore (staff_store optional_salaries)
staff = store_from (staff_store optional_salaries) refl (sound_staff_table, tt) tt

-- a boss is one of the people: two columns of one table
boss_points : IsSoundForeignKey bossed_store boss_key
boss_points = single_sound bossed_store (codes "FK_Boss") (table_id 0) (table_id 0) (col_id 2) (col_id 0) refl refl
    (λ itself. other_col (col_id 2) (col_id 0) refl (head_same itself.1))

sound_bossed_table : IsSoundTable bossed_table
sound_bossed_table = id_key (codes "People") (optional_column (codes "Name") (kind.Text (Some 20)) ∷ boss_column ∷ []) (codes "Id") (name_column, (optional_whole (codes "BossId"), tt))

pub bossed : IsSoundStore bossed_store
bossed = store_from bossed_store refl (sound_bossed_table, tt) (boss_points, tt)

-- from one table to another
points_away : (store : StoreModel) (name : List ℕ) (from to : ℕ) (from_col to_col : ColId) → (from == to) ≡ false → key_columns store (table_id to) ≡ to_col ∷ []
    → map (λ col. option_map without_bound (column_kind store (table_id from) col)) (from_col ∷ []) ≡ map (λ col. option_map without_bound (column_kind store (table_id to) col)) (to_col ∷ [])
    → IsSoundForeignKey store (single store name (table_id from) (table_id to) from_col to_col)
points_away store name from to from_col to_col other whole kinds = single_sound store name (table_id from) (table_id to) from_col to_col whole kinds
    (λ itself. other_number from to other (ap (λ (t : TableId). t.index) itself.0))

sound_orders_table : IsSoundTable orders_table
sound_orders_table = id_key (codes "Orders") (needed_column (codes "OwnerId") kind.Int32 ∷ []) (codes "Id") (needed_whole (codes "OwnerId"), tt)

pub shop : IsSoundStore shop_store
shop = store_from shop_store refl (sound_people_table, (ids_only (codes "Employees"), (sound_orders_table, tt)))
    (points_away shop_store (codes "FK_Person") 1 0 (col_id 0) (col_id 0) refl refl refl, (points_away shop_store (codes "FK_Owner") 2 1 (col_id 1) (col_id 0) refl refl refl, tt))

-- two columns of whole numbers, which are the key in this order
module _ (name one other : List ℕ) (first second : ℕ) where
  abbrev two_numbers : Table
  two_numbers = record { name = name; cols = needed_column one kind.Int32 ∷ needed_column other kind.Int32 ∷ []; key = col_id first ∷ col_id second ∷ [] }

  whole_key : (first == second) ≡ false → IsKeyColumn two_numbers (col_id first) → IsKeyColumn two_numbers (col_id second) → IsSoundTable two_numbers
  whole_key differ is_first is_second = table_from two_numbers (λ e. absurd (cc)) (omega arith) ((other_col (col_id first) (col_id second) differ, tt), (tt, tt))
      (is_first, (is_second, tt)) (needed_whole one, (needed_whole other, tt))

sound_joined_table : IsSoundTable joined_table
sound_joined_table = whole_key (codes "Bosses") (codes "StaffId") (codes "ManagerId") 0 1 refl
    (needed_key joined_table (col_id 0) (codes "StaffId") refl) (needed_key joined_table (col_id 1) (codes "ManagerId") refl)

-- the number stands first in the key of seats
sound_seats_table : IsSoundTable seats_table
sound_seats_table = whole_key (codes "Seats") (codes "Row") (codes "Number") 1 0 refl
    (needed_key seats_table (col_id 1) (codes "Number") refl) (needed_key seats_table (col_id 0) (codes "Row") refl)

pub joined : IsSoundStore joined_store
joined = store_from joined_store refl (sound_people_table, (sound_joined_table, tt))
    (points_away joined_store (codes "FK_Staff") 1 0 (col_id 0) (col_id 0) refl refl refl, (points_away joined_store (codes "FK_Manager") 1 0 (col_id 1) (col_id 0) refl refl refl, tt))

pub items : IsSoundStore item_store
items = store_from item_store refl (ids_only (codes "LevelOne"), (ids_only (codes "LevelTwo"), tt)) tt

pub seats : IsSoundStore seats_store
seats = store_from seats_store refl (sound_seats_table, tt) tt
