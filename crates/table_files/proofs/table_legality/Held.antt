-- A set that grows with what rows hold, and the references that it answers for.
use Rattle.std.proofs.Common.{◌≡◌, ◌↔◌, ⊎_elim, ℕ, ◌+◌, ◌<◌, ◌≤◌, List, length, Option, Some, None, Bool, true, false, cond, IsTrue, slice_get, refl, sym, ap, subst, ◌∙◌, arith}
use Rattle.std.specs.BTreeSet.{BTreeSet, contains, Updates}
use Rattle.std.specs.Cmp.Lexicographic.{slice_cmp}
use Rattle.std.specs.Ordering.{eq_by_cmp}
use Rattle.std.proofs.lemmas.Bool.{both_ways, cases_eq}
use Rattle.std.proofs.lemmas.Option.{get_or_from_slice_get, none-some, slice_get-get_or, slice_get_within}
use Rattle.emc_base.specs.Lists.{At}
use Rattle.emc_base.specs.Order.{value_cmp}
use Rattle.emc_base.proofs.Lists.{at_once}
use Rattle.emc_base.proofs.facts.Keys.{tied_keys}
use Rattle.emc_base.proofs.facts.Tests.{by_new, by_old}
use Rattle.groupings.specs.least_fault.Least.{Among, IsLeast}
use Rattle.groupings.proofs.least_fault.Leasts.{least_same}
use Rattle.round_trip.specs.Words.{Value, ColId, StoreModel, Table, ForeignKey, Row, Tables, rows_in, cells_of, FindsRow}
use Rattle.entity_state.specs.breach_order.Founds.{found_cmp}
use Rattle.entity_state.specs.declared.breach_order.found.Found.{Found}
use Rattle.table_files.specs.table_legality.References.{HoldsCells, IsLost, IsLostByKey}

module _ (rows : List Row) (cols : List ColId) where
  -- one of the first so many rows holds the cells
  pub record HoldsBefore (n : ℕ) (cells : List Value) : Type 0 where
    pub place : ℕ
    pub row : Row
    pub before : place < n
    pub here : At rows place row
    pub same : cells_of row cols ≡ cells

  -- the set has just what these hold
  abbrev pub HoldsTo : BTreeSet (List Value) → ℕ → Type 0
  HoldsTo held n = (cells : List Value) → IsTrue (contains (slice_cmp value_cmp) held cells) ↔ HoldsBefore n cells

  pub held_none : (held : BTreeSet (List Value)) → ((cells : List Value) → contains (slice_cmp value_cmp) held cells ≡ false) → HoldsTo held 0
  held_none held empty = λ cells. (
    λ has. absurd (both_ways (contains (slice_cmp value_cmp) held cells) (empty cells) has),
    λ some. absurd (let below : some.place < 0 = some.before in omega arith),
  )

  pub held_more : (held after : BTreeSet (List Value)) (n : ℕ) (row : Row) (added : List Value) → At rows n row → HoldsTo held n → added ≡ cells_of row cols
      → Updates (slice_cmp value_cmp) held after added true → HoldsTo after (n + 1)
  held_more held after n row added here so_far is updates = λ cells. (
    λ has. by cells (eq_by_cmp (slice_cmp value_cmp) added cells) (contains (slice_cmp value_cmp) held cells) ((tied_keys added cells).0) ((so_far cells).0)
        (sym (updates.0 cells) ∙ has),
    λ some. updates.0 cells ∙ ⊎_elim
        (λ (last : some.place ≡ n).
        let same : some.row ≡ row = at_once rows n some.row row (subst (λ (k : ℕ). At rows k some.row) last some.here) here in
        by_new (eq_by_cmp (slice_cmp value_cmp) added cells) (contains (slice_cmp value_cmp) held cells)
        ((tied_keys added cells).1 (is ∙ ap (λ (r : Row). cells_of r cols) (sym same) ∙ some.same)))
        (λ other.
        let below : some.place < n + 1 = some.before in
        by_old (eq_by_cmp (slice_cmp value_cmp) added cells) (contains (slice_cmp value_cmp) held cells)
        ((so_far cells).1 (record { place = some.place; row = some.row; before = omega arith; here = some.here; same = some.same })))
        (cases_eq some.place n),
  )
    where
      by : (cells : List Value) (tied had : Bool) → (tied ≡ true → added ≡ cells) → (had ≡ true → HoldsBefore n cells) → cond tied true had ≡ true → HoldsBefore (n + 1) cells
      by cells true had same earlier has = record { place = n; row = row; before = omega arith; here = here; same = sym is ∙ same refl }
      by cells false had same earlier has =
          let some = earlier has in
          record { place = some.place; row = some.row; before = (let below : some.place < n = some.before in omega arith); here = some.here; same = some.same }

  pub held_all : (held : BTreeSet (List Value)) (n : ℕ) → length rows ≤ n → HoldsTo held n → HoldsCells rows cols held
  held_all held n end all = λ cells. (
    λ has.
        (let some = (all cells).0 has in
        (some.place, some.row, slice_get_within rows some.place some.row some.here, get_or_from_slice_get rows some.place some.row some.row some.here, some.same)),
    λ some. (all cells).1 (let within : some.0 < length rows = some.2 in record {
      place = some.0;
      row = some.1;
      before = omega arith;
      here = slice_get-get_or rows some.0 some.1 some.2 ∙ ap Some some.3;
      same = some.4;
    }),
  )

-- what isn't found by one word isn't by an equal one
lost_as : (F G : Row → Type 0) → ((row : Row) → G row → F row) → (table : Table) (k : ℕ) (key : ForeignKey) (rows : List Row) (found : Found)
    → Among (IsLost F table k key) rows found → Among (IsLost G table k key) rows found
lost_as F G to table k key rows found some = record {
  i = some.i;
  item = some.item;
  here = some.here;
  holds = record { refers = some.holds.refers; broken = λ finds. some.holds.broken (to some.item finds); found_is = some.holds.found_is };
}

module _ (store : StoreModel) (tables : Tables) (k : ℕ) (key : ForeignKey) where
  -- a table that isn't there has no rows that refer
  pub no_table_lost : slice_get store.tables key.from.index ≡ None → IsLeast found_cmp (IsLostByKey store tables k key) None
  no_table_lost none = λ found some. none-some some.table (sym none ∙ some.is_table)

  module _ (table : Table) (held : BTreeSet (List Value)) where
    abbrev HasTarget : Row → Type 0
    HasTarget row = IsTrue (contains (slice_cmp value_cmp) held (cells_of row key.from_cols))

    pub lost_by_key : (found : Option Found) → At store.tables key.from.index table → HoldsCells (rows_in tables key.to) key.to_cols held
        → IsLeast found_cmp (Among (IsLost HasTarget table k key) (rows_in tables key.from)) found → IsLeast found_cmp (IsLostByKey store tables k key) found
    lost_by_key found here holds = least_same found_cmp (Among (IsLost HasTarget table k key) (rows_in tables key.from)) (IsLostByKey store tables k key) found
        (λ other some. record {
          table = table;
          is_table = here;
          lost = lost_as HasTarget (FindsRow tables key) (λ row. (holds (cells_of row key.from_cols)).1) table k key (rows_in tables key.from) other some;
        })
        (λ other some.
        let same : some.table ≡ table = at_once store.tables key.from.index some.table table some.is_table here in
        let P : Table → Type 0 = λ one. Among (IsLost (FindsRow tables key) one k key) (rows_in tables key.from) other in
        lost_as (FindsRow tables key) HasTarget (λ row. (holds (cells_of row key.from_cols)).0) table k key (rows_in tables key.from) other (subst P same some.lost))
