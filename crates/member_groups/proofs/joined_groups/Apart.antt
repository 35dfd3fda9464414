-- The places of properties and columns: each is below their count, and no two are the same.
use Rattle.std.proofs.Common.{◌≡◌, ⊎_elim, ℕ, zero, suc, ◌+◌, ◌<◌, ◌≤◌, List, [], ◌∷◌, length, take, ap, arith}
use Rattle.std.specs.Prelude.{sum_by}
use Rattle.std.proofs.lemmas.Bool.{cases_eq, cases_lt}
use Rattle.std.proofs.lemmas.List.Sums.{sum_by-cons}
use Rattle.std.proofs.lemmas.Option.{slice_get_within}
use Rattle.round_trip.specs.Words.{ColId, PropId, Schema, Table, TableId, At}
use Rattle.round_trip.specs.soundness.mappings.Joined.{IsNoKey, Member, col, prop}
use Rattle.member_groups.specs.joined_groups.Places.{place_in, start_of}
use Rattle.member_groups.proofs.joined_groups.Placed.{table_of}

-- the columns of a table, with those of the tables before it, are among those before a later one
columns_rise : (tables : List Table) (t u : ℕ) (table : Table) → At tables t table → t < u
    → sum_by (λ (each : Table). length each.cols) (take t tables) + length table.cols ≤ sum_by (λ (each : Table). length each.cols) (take u tables)
columns_rise [] t u table at below = absurd cc
columns_rise (x ∷ xs) t zero table at below = absurd (omega arith)
columns_rise (x ∷ xs) zero (suc u) table at below =
    let same : x ≡ table = cc in
    let size : length x.cols ≡ length table.cols = ap (λ (each : Table). length each.cols) same in
    let parts = sum_by-cons (λ (each : Table). length each.cols) x (take u xs) in
    omega (arith, size, parts)
columns_rise (x ∷ xs) (suc t) (suc u) table at below =
    let front = sum_by-cons (λ (each : Table). length each.cols) x (take t xs) in
    let parts = sum_by-cons (λ (each : Table). length each.cols) x (take u xs) in
    let rest = columns_rise xs t u table at (omega (arith, below)) in
    omega (arith, front, parts, rest)

module _ (schema : Schema) where
  abbrev start : ℕ → ℕ
  start = start_of schema.model schema.store.tables

  -- a column's place is before the start of each later table
  before_start : (t : TableId) (c : ColId) (u : ℕ) → IsNoKey schema (col t c) → t.index < u → start t.index + c.index < start u
  before_start t c u (column, at, free) below =
      let table = table_of schema.store t c.index column at in
      let rise = columns_rise schema.store.tables t.index u table.0 table.1 below in
      let within : c.index < length table.0.cols = slice_get_within table.0.cols c.index column table.2 in
      omega (arith, rise, within)

  pub place_within : (member : Member) → IsNoKey schema member → place_in schema member < start (length schema.store.tables)
  place_within (prop p) (declared, at, free) =
      let within : p.index < length schema.model.props = slice_get_within schema.model.props p.index declared at in
      omega (arith, within)
  place_within (col t c) (column, at, free) =
      let table = table_of schema.store t c.index column at in
      before_start t c (length schema.store.tables) (column, at, free) (slice_get_within schema.store.tables t.index table.0 table.1)

  -- a property's place is before that of each column
  prop_before : (p : PropId) (t : TableId) (c : ColId) → IsNoKey schema (prop p) → p.index < start t.index + c.index
  prop_before p t c (declared, at, free) =
      let within : p.index < length schema.model.props = slice_get_within schema.model.props p.index declared at in
      omega (arith, within)

  same_col : (t u : TableId) (c d : ColId) → IsNoKey schema (col t c) → IsNoKey schema (col u d) → start t.index + c.index ≡ start u.index + d.index → col t c ≡ col u d
  same_col t u c d free other same = ⊎_elim
      (λ (here : t.index ≡ u.index).
      let starts : start t.index ≡ start u.index = ap start here in
      let column : c.index ≡ d.index = omega (arith, starts, same) in
      λ i. col (record { index = here i }) (record { index = column i }))
      (λ apart. ⊎_elim
      (λ (below : t.index < u.index). absurd (let less = before_start t c u.index free below in omega (arith, less, same)))
      (λ (past : u.index ≤ t.index). absurd (let less = before_start u d t.index other (omega (arith, past, apart)) in omega (arith, less, same)))
      (cases_lt t.index u.index))
      (cases_eq t.index u.index)

  pub place_once : (one other : Member) → IsNoKey schema one → IsNoKey schema other → place_in schema one ≡ place_in schema other → one ≡ other
  place_once (prop p) (prop q) free_one free_other same = λ i. prop (record { index = same i })
  place_once (prop p) (col t c) free_one free_other same = absurd (let less = prop_before p t c free_one in omega (arith, less, same))
  place_once (col t c) (prop p) free_one free_other same = absurd (let less = prop_before p t c free_other in omega (arith, less, same))
  place_once (col t c) (col u d) free_one free_other same = same_col t u c d free_one free_other same
