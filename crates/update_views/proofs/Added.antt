-- Rows that are added to tables one after another.
use Rattle.std.proofs.Common.{◌≡◌, ◌∙◌, ◌+◌, refl, sym, ap, ℕ, List, [], ◌∷◌, ◌++◌, map, take, flat_map, length}
use Rattle.std.specs.List.{enumerate_from}
use Rattle.std.proofs.lemmas.List.{length-set, map-append}
use Rattle.emc_base.proofs.Loops.{take_item}
use Rattle.emc_base.proofs.Numbered.{numbered_at}
use Rattle.round_trip.specs.Words.{At, Row, TableId, Tables, rows_in}
use Rattle.region_partition.proofs.region_lists.Taken.{flat_map_taken}
use Rattle.table_files.specs.declared.tables.TableRow.{TableRow}
use Rattle.table_files.specs.Lists.{with_row}
use Rattle.update_views.specs.Placed.{with_rows}

-- rows added behind others
pub with_more : (tables : Tables) (one other : List TableRow) → with_rows tables (one ++ other) ≡ with_rows (with_rows tables one) other
with_more tables [] other = refl
with_more tables (placed ∷ one) other = with_more (with_row tables placed.table placed.row) one other

-- there are as many tables as before
pub size_row : (tables : Tables) (t : TableId) (row : Row) → length (with_row tables t row) ≡ length tables
size_row tables t row = length-set tables t.index (rows_in tables t ++ row ∷ [])

-- one row more is added
pub row_added : (first before now : Tables) (rows : List TableRow) (placed : TableRow) → before ≡ with_rows first rows → now ≡ with_row before placed.table placed.row
    → now ≡ with_rows first (rows ++ placed ∷ [])
row_added first before now rows placed was is = is ∙ ap (λ tables. with_row tables placed.table placed.row) was ∙ sym (with_more first rows (placed ∷ []))

-- and some rows more are
pub rows_added : (first before now : Tables) (rows more : List TableRow) → before ≡ with_rows first rows → now ≡ with_rows before more → now ≡ with_rows first (rows ++ more)
rows_added first before now rows more was is = is ∙ ap (λ tables. with_rows tables more) was ∙ sym (with_more first rows more)

module _ {X Y : Type 0} where
  -- the image of one item more
  pub next_image : (f : X → Y) (xs : List X) (i : ℕ) (x : X) → At xs i x → map f (take i xs) ++ f x ∷ [] ≡ map f (take (i + 1) xs)
  next_image f xs i x here = sym (ap (map f) (take_item xs i x here) ∙ map-append f (take i xs) (x ∷ []))

  -- the lists that items give, with those of one more
  pub next_lists : (f : X → List Y) (xs : List X) (i : ℕ) (x : X) → At xs i x → flat_map f (take i xs) ++ f x ≡ flat_map f (take (i + 1) xs)
  next_lists f xs i x here = sym (flat_map_taken f xs i x here)

  -- the same of numbered items
  pub next_numbered : (f : ℕ × X → List Y) (xs : List X) (i : ℕ) (x : X) → At xs i x
      → flat_map f (take i (enumerate_from 0 xs)) ++ f (i, x) ≡ flat_map f (take (i + 1) (enumerate_from 0 xs))
  next_numbered f xs i x here = sym (flat_map_taken f (enumerate_from 0 xs) i (i, x) (numbered_at xs i x here))
