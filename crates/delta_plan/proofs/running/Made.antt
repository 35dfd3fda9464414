-- What no change does to rows, and the tables that what is told makes.
use Rattle.std.proofs.Common.{◌≡◌, ◌<◌, ℕ, List, [], ◌∷◌, map, length, refl, sym, subst, ◌∙◌}
use Rattle.std.specs.List.{enumerate_from}
use Rattle.std.proofs.lemmas.List.{length-map, length-set}
use Rattle.std.proofs.lemmas.List.FromFn.{length-enumerate_from}
use Rattle.round_trip.specs.Words.{Row, StoreModel, Tables, rows_in}
use Rattle.row_changes.specs.declared.change.RowChange.{RowChange}
use Rattle.row_changes.specs.Changes.{after, after_one, rows_after, table_of}
use Rattle.entity_changes.specs.declared.making.fates.Fates.{Fates}
use Rattle.entity_changes.specs.making.Fates.{IsFresh}
use Rattle.entity_changes.proofs.Fresh.{stays}
use Rattle.entity_changes.proofs.Kept.{numbered_at, same_lists}
use Rattle.delta_plan.specs.Running.{Foretells, row_spot, rows_left}

module _ (store : StoreModel) where
  -- changes leave as many tables
  lengths_after : (changes : List RowChange) (tables : Tables) → length (after store tables changes) ≡ length tables
  lengths_after [] tables = refl
  lengths_after (one ∷ changes) tables = lengths_after changes (after_one store tables one)
      ∙ length-set tables (table_of one).index (rows_after store one (rows_in tables (table_of one)))

  module _ (fates : Fates Row) where
    pub foretells_none : (count : ℕ) → IsFresh count fates → Foretells store [] fates
    foretells_none count fresh = λ tables size t. sym (stays fates count fresh (row_spot store t) t.index (rows_in tables t))

    -- what becomes of each list is what stands there afterwards
    pub tables_made : (tables : Tables) (changes : List RowChange) → Foretells store changes fates → length fates.behind.items ≡ length tables
        → map (rows_left store fates) (enumerate_from 0 tables) ≡ after store tables changes
    tables_made tables changes told size =
        let count : length (map (rows_left store fates) (enumerate_from 0 tables)) ≡ length tables =
        length-map (enumerate_from 0 tables) (rows_left store fates) ∙ length-enumerate_from 0 tables in
        same_lists (map (rows_left store fates) (enumerate_from 0 tables)) (after store tables changes)
        (count ∙ sym (lengths_after changes tables))
        (λ i within. numbered_at (rows_left store fates) tables i [] [] (subst (λ n. i < n) count within)
        ∙ sym (told tables (sym size) (record { index = i })))
