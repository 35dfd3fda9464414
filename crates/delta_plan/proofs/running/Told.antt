-- What one change of a row more does, before those whose doings are told.
use Rattle.std.proofs.Common.{◌≡◌, ◌≢◌, ◌<◌, ⊎_elim, List, ◌∷◌, map, filter, length, not, if◌then◌else◌, refl, sym, ap, subst, ◌∙◌}
use Rattle.std.proofs.lemmas.Bool.{cases_eq}
use Rattle.std.proofs.lemmas.List.{length-map, length-set}
use Rattle.round_trip.specs.Words.{Row, StoreModel, TableId, Tables, Value, rows_in}
use Rattle.row_changes.specs.declared.change.RowChange.{RowChange}
use Rattle.row_changes.specs.declared.change.RowChange.TheVariants.{Insert, Update, Delete}
use Rattle.row_changes.specs.Changes.{after, after_one, key_in, rows_after, table_of}
use Rattle.entity_changes.specs.declared.making.fates.Fates.{Fates}
use Rattle.entity_changes.specs.making.Fates.{AddsItem, RemovesItems, ReplacesItems, becomes}
use Rattle.entity_changes.proofs.Become.{added, added_elsewhere, removed, removed_elsewhere, replaced, replaced_elsewhere, same_size}
use Rattle.entity_changes.proofs.Kept.{put_elsewhere, put_here}
use Rattle.entity_changes.proofs.SpotOrder.{apart_spots, key_spot_same}
use Rattle.delta_plan.specs.Running.{Foretells, ForetellsOneMore, key_spot, row_spot}

-- tables of one number are one
same_table : (t u : TableId) → t.index ≡ u.index → t ≡ u
same_table t u same = λ i. record { index = same i }

module _ (store : StoreModel) where
  module _ (one : RowChange) (old new : Fates Row) (size : length new.behind.items ≡ length old.behind.items)
      (within : (table_of one).index < length old.behind.items)
      (own : (xs : List Row) → becomes new (row_spot store (table_of one)) (table_of one).index xs
      ≡ becomes old (row_spot store (table_of one)) (table_of one).index (rows_after store one xs))
      (others : (t : TableId) → t.index ≢ (table_of one).index → (xs : List Row)
      → becomes new (row_spot store t) t.index xs ≡ becomes old (row_spot store t) t.index xs) where
    -- a change is told where it tells of its own table, and leaves others
    tells : ForetellsOneMore store one old new
    tells = record { size = size; told = each }
      where
        each : (changes : List RowChange) → Foretells store changes old → (tables : Tables) → length tables ≡ length new.behind.items → (t : TableId)
            → rows_in (after store tables (one ∷ changes)) t ≡ becomes new (row_spot store t) t.index (rows_in tables t)
        each changes told tables count t =
            let s : TableId = table_of one in
            let now : List Row = rows_after store one (rows_in tables s) in
            told (after_one store tables one) (length-set tables s.index now ∙ count ∙ size) t
            ∙ ⊎_elim
            (λ (same : t.index ≡ s.index).
            let P : TableId → Type 0 = λ u. becomes old (row_spot store u) u.index (rows_in (after_one store tables one) u)
            ≡ becomes new (row_spot store u) u.index (rows_in tables u) in
            subst P (same_table s t (sym same))
            (ap (becomes old (row_spot store s) s.index) (put_here tables s.index now (subst (λ n. s.index < n) (sym (count ∙ size)) within)) ∙ sym (own (rows_in tables s))))
            (λ (apart : t.index ≢ s.index).
            ap (becomes old (row_spot store t) t.index) (put_elsewhere tables s.index now t.index apart) ∙ sym (others t apart (rows_in tables t)))
            (cases_eq t.index s.index)

  module _ (t : TableId) (old new : Fates Row) (within : t.index < length old.behind.items) where
    pub inserts : (row : Row) → AddsItem t.index (row_spot store t row) row old new → ForetellsOneMore store (Insert t row) old new
    inserts row one = tells (Insert t row) old new (same_size t.index row (row_spot store t row) old new one) within
        (λ xs. added (row_spot store t row) old new (row_spot store t) t.index row one
        (subst (λ n. t.index < n) (sym (length-map old.behind.items (λ list. map (λ x. x.now) list.items))) within) refl xs)
        (λ u apart xs. added_elsewhere (row_spot store t row) old new (row_spot store u) t.index row one u.index apart xs)

    pub updates : (row : Row) → ReplacesItems (row_spot store t row) row old new → ForetellsOneMore store (Update t row) old new
    updates row one = tells (Update t row) old new (ap (λ list. length list.items) one.behind) within
        (λ xs. replaced (row_spot store t row) old new (row_spot store t) t.index row one refl xs
        ∙ ap (λ f. becomes old (row_spot store t) t.index (map f xs))
        (λ i other. if key_spot_same (record { index = t.index }) (key_in store t row) (key_in store t other) i then row else other))
        (λ u apart xs. replaced_elsewhere (row_spot store t row) old new (row_spot store u) u.index row one
        (λ x. apart_spots (row_spot store t row) (row_spot store u x) (λ same. apart (sym same))) xs)

    pub deletes : (key : List Value) → RemovesItems (key_spot t key) old new → ForetellsOneMore store (Delete t key) old new
    deletes key one = tells (Delete t key) old new (ap (λ list. length list.items) one.behind) within
        (λ xs. removed (key_spot t key) old new (row_spot store t) t.index one xs
        ∙ ap (λ p. becomes old (row_spot store t) t.index (filter p xs)) (λ i other. not (key_spot_same (record { index = t.index }) key (key_in store t other) i)))
        (λ u apart xs. removed_elsewhere (key_spot t key) old new (row_spot store u) u.index one
        (λ x. apart_spots (key_spot t key) (row_spot store u x) (λ same. apart (sym same))) xs)
