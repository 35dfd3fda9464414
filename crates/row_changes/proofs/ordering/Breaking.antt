-- Where one of two changes that has to come first isn't made, and the other is, a row refers to nothing.
use Rattle.std.proofs.Common.{◌≡◌, ⊎_elim, List, All, Contains, sym, ap, subst, ◌∙◌}
use Rattle.round_trip.specs.Words.{ForeignKey, KeepsForeignKey, StoreModel, TableId, Tables, Value, rows_in}
use Rattle.row_changes.specs.declared.change.RowChange.{RowChange}
use Rattle.row_changes.specs.declared.change.RowChange.TheVariants.{Insert, Delete}
use Rattle.row_changes.specs.Changes.{key_in, key_of_change, table_of}
use Rattle.row_changes.specs.Differences.{AreBothLegal, IsChange}
use Rattle.row_changes.specs.Orders.{InsertsFor, LeavesFor, MustPrecede}
use Rattle.row_changes.proofs.leading.Stepping.{AreBetween, IsAt, IsChanged, one_at}
use Rattle.row_changes.proofs.ordering.Targets.{finds_target, one_key}

module _ (store : StoreModel) (old new : Tables) (both : AreBothLegal store old new) (done : List RowChange) (tables : Tables) (between : AreBetween store old new both done tables)
    (are : (change : RowChange) → Contains done change → IsChange store old new change) (one other : RowChange) (is_one : IsChange store old new one) (is_other : IsChange store old new other)
    (not_made : ¬ Contains done one) (made : Contains done other) where
  -- the place of a change that isn't made isn't changed
  unchanged : (t : TableId) (key : List Value) → IsAt store one t key → ¬ IsChanged store done t key
  unchanged t key at (change, has, there) =
      let same : change ≡ one = one_at store old new both change one (are change has) is_one (there.0 ∙ sym at.0) (there.1 ∙ sym at.1) in
      not_made (subst (Contains done) same has)

  module _ (key : ForeignKey) (is_key : Contains store.keys key) (keeps : All (KeepsForeignKey tables) store.keys) where
    inserts_break : InsertsFor store old new key one other → ⊥
    inserts_break by =
        let P : TableId → Type 0 = λ t. Contains (rows_in tables t) by.row in
        let changed : IsChanged store done key.from (key_in store key.from by.row) = (other, made, (by.from, sym by.stands.1)) in
        let stands : Contains (rows_in tables key.from) by.row = between.brings key.from by.row by.stands.0 changed in
        let found = finds_target store tables keeps key is_key by.row stands by.refers.0 in
        let same_key : key_in store key.to found.0 ≡ key_in store key.to by.target = one_key store both.sound key is_key found.0 by.target (found.2.1 ∙ sym by.refers.1) in
        let is : IsChange store old new (Insert key.to by.target) = subst (IsChange store old new) by.inserts is_one in
        let at : IsAt store one key.to (key_in store key.to by.target) = (ap table_of by.inserts, ap (key_of_change store) by.inserts) in
        ⊎_elim
        (λ (is_old : Contains (rows_in old key.to) found.0 × (¬ IsChanged store done key.to (key_in store key.to found.0))). is.1 found.0 (is_old.0, same_key))
        (λ (is_new : Contains (rows_in new key.to) found.0 × IsChanged store done key.to (key_in store key.to found.0)).
        unchanged key.to (key_in store key.to by.target) at (subst (IsChanged store done key.to) same_key is_new.1))
        (between.stands key.to found.0 found.1)

    leaves_break : LeavesFor store old new key one other → ⊥
    leaves_break by =
        let at : IsAt store one key.from (key_in store key.from by.row) = (by.from, sym by.stood.1) in
        let stands : Contains (rows_in tables key.from) by.row = between.keeps key.from by.row by.stood.0 (unchanged key.from (key_in store key.from by.row) at) in
        let found = finds_target store tables keeps key is_key by.row stands by.refers.0 in
        let same_key : key_in store key.to found.0 ≡ key_in store key.to by.target = one_key store both.sound key is_key found.0 by.target (found.2.1 ∙ sym by.refers.1) in
        let is : IsChange store old new (Delete key.to (key_in store key.to by.target)) = subst (IsChange store old new) by.deletes is_other in
        let changed : IsChanged store done key.to (key_in store key.to found.0) = (other, made, (ap table_of by.deletes, ap (key_of_change store) by.deletes ∙ sym same_key)) in
        ⊎_elim
        (λ (is_old : Contains (rows_in old key.to) found.0 × (¬ IsChanged store done key.to (key_in store key.to found.0))). is_old.1 changed)
        (λ (is_new : Contains (rows_in new key.to) found.0 × IsChanged store done key.to (key_in store key.to found.0)). is.1 found.0 (is_new.0, same_key))
        (between.stands key.to found.0 found.1)

  -- so no key is kept
  pub breaks : MustPrecede store old new one other → ¬ All (KeepsForeignKey tables) store.keys
  breaks must keeps = ⊎_elim (inserts_break must.key must.is_key keeps) (leaves_break must.key must.is_key keeps) must.by_key
