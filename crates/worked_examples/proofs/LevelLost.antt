-- An item of level 3 is written nowhere, so its tables are those of no item.
use Rattle.std.proofs.Common.{◌≡◌, ◌≢◌, inl, ℕ, List, [], ◌∷◌, length, refl, arith}
use Rattle.std.specs.Prelude.{Contains, pos, false}
use Rattle.std.specs.List.{AllByRecursion}
use Rattle.std.proofs.lemmas.List.Elements.{All-nil}
use Rattle.std.proofs.lemmas.List.Sorted.{IsPermutation-refl, Contains-permutation}
use Rattle.round_trip.specs.Words.{Null, Whole, Entity, Row, State, Tables, rows_in, Selects, IsLegal, Writing, Writes, TablesAre}
use Rattle.worked_examples.specs.Ids.{set_id, table_id}
use Rattle.worked_examples.specs.LevelLost.{items, item_model, items_set, item, only_items, level_is, of_level, level_one_table, level_two_table, LevelIsLost}
use Rattle.worked_examples.proofs.facts.Small.{PairsByRecursion}
use Rattle.worked_examples.proofs.facts.Values.{whole_fits}
use Rattle.worked_examples.proofs.facts.Entities.{MayStand, two_values_stand, HaveOwnKeys}
use Rattle.worked_examples.proofs.facts.Writings.{each_writing, no_row}
use Rattle.worked_examples.proofs.facts.States.{legal_set_alone, stored_by_tables}

abbrev third : Entity
third = item (pos 1) (pos 3)

abbrev no_rows : Tables
no_rows = [] ∷ [] ∷ []

stands : MayStand item_model items_set third
stands = two_values_stand (Whole (pos 1)) (Whole (pos 3)) (whole_fits false 1 (omega arith)) (whole_fits false 3 (omega arith))

legal : (entities : List Entity) → AllByRecursion (MayStand item_model items_set) entities → PairsByRecursion (HaveOwnKeys item_model) entities
    → IsLegal item_model (only_items entities)
legal entities each own = legal_set_alone item_model items_set entities refl refl each own

not_selected : (place : List ℕ) (table level : ℕ) → 3 ≢ level → ¬ Selects item_model (of_level place table (pos level)) third
not_selected place table level other selects =
    let passes : (Whole (pos 3) ≡ Whole (pos level)) × (Whole (pos 3) ≢ Null) = selects.meets 0 (level_is (pos level)) (omega arith) in
    other (cc (passes.0))

third_unwritten : (writing : Writing) → ¬ Writes items (only_items (third ∷ [])) writing
third_unwritten writing by = each_writing items (only_items (third ∷ [])) (λ w. ⊥)
    ((λ selects. not_selected _ 0 1 (omega arith) selects, tt), ((λ selects. not_selected _ 1 2 (omega arith) selects, tt), tt)) tt writing by

nothing_written : (writing : Writing) → ¬ Writes items (only_items []) writing
nothing_written writing by = each_writing items (only_items []) (λ w. ⊥) (tt, (tt, tt)) tt writing by

abbrev HasOneCell : Row → Type 0
HasOneCell row = length row.cells ≡ 1

-- a state that writes nothing has no rows
stored : (state : State) → ((writing : Writing) → ¬ Writes items state writing) → TablesAre items state no_rows
stored state none = stored_by_tables items state no_rows refl (λ t key col one two by_one by_two. absurd (none by_one.0 by_one.1.writes)) (
  record { shape = All-nil HasOneCell; rows = no_row items state (table_id 0) level_one_table (λ writing by to. none writing by) },
  (record { shape = All-nil HasOneCell; rows = no_row items state (table_id 1) level_two_table (λ writing by to. none writing by) }, tt),
)

nowhere : ¬ Contains [] third
nowhere among = absurd (omega (arith, among.1))

pub level_is_lost : LevelIsLost
level_is_lost = record {
  legal = legal (third ∷ []) (stands, tt) (tt, tt);
  fails = record {
    tables = no_rows;
    other_tables = no_rows;
    defined = stored (only_items (third ∷ [])) third_unwritten;
    other_defined = stored (only_items []) nothing_written;
    same_tables = λ t. IsPermutation-refl (rows_in no_rows t);
    other_legal = legal [] tt tt;
    different = λ equal. nowhere (Contains-permutation (third ∷ []) [] third (equal.entities (set_id 0)) (0, omega arith, refl));
    differ = inl (set_id 0, items_set, Whole (pos 1) ∷ [], refl, inl (third, (0, omega arith, refl), refl, nowhere), refl);
  };
}
