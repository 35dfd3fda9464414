-- In which order the new rows stand plays no part for what changes to them.
use Rattle.std.proofs.Common.{⊎_elim, inl, inr, List, All}
use Rattle.std.proofs.lemmas.List.Elements.{All-weaker}
use Rattle.std.proofs.lemmas.List.Sorted.{Contains-permutation, IsPermutation-sym}
use Rattle.round_trip.specs.Words.{AreSameTables, ForeignKey, Row, StoreModel, TableId, Tables, Value, rows_in}
use Rattle.row_changes.specs.declared.change.RowChange.{RowChange}
use Rattle.row_changes.specs.declared.change.RowChange.TheVariants.{Insert, Update, Delete}
use Rattle.row_changes.specs.Changes.{HasRow}
use Rattle.row_changes.specs.Differences.{AreDifference, IsChange}
use Rattle.row_changes.specs.Orders.{InsertsFor, IsCycle, LeavesFor, MustPrecede}

-- tables with the same rows in another order
pub turned : (one other : Tables) → AreSameTables one other → AreSameTables other one
turned one other same t = IsPermutation-sym (rows_in one t) (rows_in other t) (same t)

module _ (store : StoreModel) (old new other : Tables) (same : AreSameTables new other) where
  has_too : (t : TableId) (key : List Value) (row : Row) → HasRow store new t key row → HasRow store other t key row
  has_too t key row has = (Contains-permutation (rows_in new t) (rows_in other t) row (same t) has.0, has.1)

  has_back : (t : TableId) (key : List Value) (row : Row) → HasRow store other t key row → HasRow store new t key row
  has_back t key row has = (Contains-permutation (rows_in other t) (rows_in new t) row (turned new other same t) has.0, has.1)

  -- the same changes lead to them
  change_too : (change : RowChange) → IsChange store old new change → IsChange store old other change
  change_too (Insert t row) is = (Contains-permutation (rows_in new t) (rows_in other t) row (same t) is.0, is.1)
  change_too (Update t row) is = (Contains-permutation (rows_in new t) (rows_in other t) row (same t) is.0, is.1)
  change_too (Delete t key) is = (is.0, λ row has. is.1 row (has_back t key row has))

  -- and the same have to come before others
  inserts_too : (key : ForeignKey) (one two : RowChange) → InsertsFor store old new key one two → InsertsFor store old other key one two
  inserts_too key one two for = record {
    target = for.target;
    inserts = for.inserts;
    from = for.from;
    row = for.row;
    stands = has_too key.from _ for.row for.stands;
    refers = for.refers;
    did_not = for.did_not;
  }

  leaves_too : (key : ForeignKey) (one two : RowChange) → LeavesFor store old new key one two → LeavesFor store old other key one two
  leaves_too key one two for = record {
    target = for.target;
    held = for.held;
    deletes = for.deletes;
    from = for.from;
    row = for.row;
    stood = for.stood;
    refers = for.refers;
    does_not = λ now has. for.does_not now (has_back key.from _ now has);
  }

  precedes_too : (one two : RowChange) → MustPrecede store old new one two → MustPrecede store old other one two
  precedes_too one two must = record {
    apart = must.apart;
    key = must.key;
    is_key = must.is_key;
    by_key = ⊎_elim
        (λ (for : InsertsFor store old new must.key one two). inl (inserts_too must.key one two for))
        (λ (for : LeavesFor store old new must.key one two). inr (leaves_too must.key one two for))
        must.by_key;
  }

  pub cycle_too : (ring : List RowChange) → IsCycle store old new ring → IsCycle store old other ring
  cycle_too ring cycle = record {
    two = cycle.two;
    once = cycle.once;
    next = λ i one two here there. precedes_too one two (cycle.next i one two here there);
    closes = λ first last i here there size. precedes_too last first (cycle.closes first last i here there size);
  }

  pub changes_too : (changes : List RowChange) → All (IsChange store old new) changes → All (IsChange store old other) changes
  changes_too changes are = All-weaker (IsChange store old new) (IsChange store old other) change_too changes are

pub difference_too : (store : StoreModel) (old new other : Tables) → AreSameTables new other → (changes : List RowChange)
    → AreDifference store old new changes → AreDifference store old other changes
difference_too store old new other same changes are = record {
  only = changes_too store old new other same changes are.only;
  all = λ change is. are.all change (change_too store old other new (turned new other same) change is);
  once = are.once;
}
