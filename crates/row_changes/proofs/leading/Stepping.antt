-- The tables between: the rows at some keys are the new ones, all others the old ones; and each change of a difference makes it so at one key more.
use Rattle.std.proofs.Common.{◌≡◌, ◌≢◌, ◌⊎◌, ⊎_elim, inl, inr, ◌<◌, List, [], ◌∷◌, length, length-set, AllPairs, Contains, refl, sym, ap, subst, ◌∙◌, arith}
use Rattle.std.proofs.lemmas.Bool.{cases_eq}
use Rattle.std.proofs.lemmas.List.{get_or-set_other, get_or-set_same}
use Rattle.std.proofs.lemmas.Option.{unwrap_or-slice_get}
use Rattle.emc_base.proofs.Members.{contains_cons_cases, contains_head, contains_nil, contains_tail}
use Rattle.round_trip.specs.Words.{Row, StoreModel, TableId, Tables, Value, rows_in}
use Rattle.schema_laws.specs.state_demand.Selecting.{same_key}
use Rattle.schema_laws.proofs.state_demand.writings.Selecting.{Decides-key}
use Rattle.row_changes.specs.declared.change.RowChange.{RowChange}
use Rattle.row_changes.specs.declared.change.RowChange.TheVariants.{Insert, Update, Delete}
use Rattle.row_changes.specs.Changes.{FindsItsRow, HasNoRow, HasRow, after_one, key_in, key_of_change, rows_after, table_of}
use Rattle.row_changes.specs.Differences.{AreBothLegal, IsChange}
use Rattle.row_changes.proofs.leading.Primary.{AreApartBy, either, legal_apart, one_row, row_within}
use Rattle.row_changes.proofs.leading.Replaced.{AreReplaced, Brings, rows_replaced}

module _ (store : StoreModel) where
  -- the change is that of the row of a key
  abbrev pub IsAt : RowChange → TableId → List Value → Type 0
  IsAt change t key = (table_of change ≡ t) × (key_of_change store change ≡ key)

  -- one of these is
  abbrev pub IsChanged : List RowChange → TableId → List Value → Type 0
  IsChanged done t key = (change : RowChange) × Contains done change × IsAt change t key

  -- the rows of another table stay
  pub rows_elsewhere : (tables : Tables) (change : RowChange) (t : TableId) → t.index ≢ (table_of change).index → rows_in (after_one store tables change) t ≡ rows_in tables t
  rows_elsewhere tables change t other =
      unwrap_or-slice_get (after_one store tables change) t.index [] ∙ get_or-set_other tables (table_of change).index t.index (rows_after store change (rows_in tables (table_of change))) [] other
      ∙ sym (unwrap_or-slice_get tables t.index [])

  -- and those of its own are these
  pub rows_here : (tables : Tables) (change : RowChange) → (table_of change).index < length tables
      → rows_in (after_one store tables change) (table_of change) ≡ rows_after store change (rows_in tables (table_of change))
  rows_here tables change within =
      unwrap_or-slice_get (after_one store tables change) (table_of change).index []
      ∙ get_or-set_same tables (table_of change).index (rows_after store change (rows_in tables (table_of change))) [] within

  -- that none has a key, and that one has it, can't both be
  clash : (tables : Tables) (t u : TableId) → t ≡ u → (key other : List Value) → key ≡ other → HasNoRow store tables t key → (row : Row) → HasRow store tables u other row → ⊥
  clash tables t u same_table key other same_keys none row has =
      let P : TableId × List Value → Type 0 = λ at. HasRow store tables at.0 at.1 row in
      none row (subst P (λ k. (sym same_table k, sym same_keys k)) has)

  -- whether one of them is at a row is decided
  pub changed_or_not : (t : TableId) (key : List Value) (done : List RowChange) → IsChanged done t key ⊎ ¬ IsChanged done t key
  changed_or_not t key [] = inr (λ changed. contains_nil changed.0 changed.1)
  changed_or_not t key (change ∷ done) = ⊎_elim
      (λ (here : IsAt change t key). inl (change, contains_head change done, here))
      (λ (not_here : ¬ IsAt change t key). ⊎_elim
      (λ (changed : IsChanged done t key). inl (changed.0, contains_tail change done changed.0 changed.1, changed.2))
      (λ (unchanged : ¬ IsChanged done t key). inr (λ changed. ⊎_elim
      (λ (is : changed.0 ≡ change). not_here (subst (λ (c : RowChange). IsAt c t key) is changed.2))
      (λ (later : Contains done changed.0). unchanged (changed.0, later, changed.2))
      (contains_cons_cases change done changed.0 changed.1)))
      (changed_or_not t key done))
      (at_or_not change t key)
    where
      at_or_not : (change : RowChange) (t : TableId) (key : List Value) → IsAt change t key ⊎ ¬ IsAt change t key
      at_or_not change t key = ⊎_elim
          (λ (same : (table_of change).index ≡ t.index). ⊎_elim
          (λ (keys : key_of_change store change ≡ key). inl (λ k. record { index = same k }, keys))
          (λ (other : key_of_change store change ≢ key). inr (λ at. other at.1))
          (either (same_key (key_of_change store change) key) (Decides-key (key_of_change store change) key)))
          (λ (other : (table_of change).index ≢ t.index). inr (λ at. other (ap (λ (u : TableId). u.index) at.0)))
          (cases_eq (table_of change).index t.index)

module _ (store : StoreModel) (old new : Tables) (both : AreBothLegal store old new) where
  pub old_apart : (t : TableId) → AreApartBy store old t
  old_apart = legal_apart store old both.old_legal

  pub new_apart : (t : TableId) → AreApartBy store new t
  new_apart = legal_apart store new both.new_legal

  -- rows of the new tables at one key are one
  same_row : (t u : TableId) → t ≡ u → (row other : Row) → Contains (rows_in new t) row → Contains (rows_in new u) other → key_in store t row ≡ key_in store u other → row ≡ other
  same_row t u same row other has also keys =
      let P : TableId → Type 0 = λ v. Contains (rows_in new v) other × (key_in store t row ≡ key_in store v other) in
      let there : P t = subst P (sym same) (also, keys) in
      one_row store new t (new_apart t) (key_in store t row) row other (has, refl) (there.0, sym there.1)

  -- changes of the difference at one row are one
  pub one_at : (one other : RowChange) → IsChange store old new one → IsChange store old new other → table_of one ≡ table_of other → key_of_change store one ≡ key_of_change store other → one ≡ other
  one_at (Insert t row) (Insert u other) first second tables keys = let same = same_row t u tables row other first.0 second.0 keys in λ k. Insert (tables k) (same k)
  one_at (Insert t row) (Update u other) first second tables keys = absurd (clash store old t u tables (key_in store t row) (key_in store u other) keys first.1 second.1.0 second.1.1)
  one_at (Insert t row) (Delete u key) first second tables keys = absurd (clash store old t u tables (key_in store t row) key keys first.1 second.0.0 second.0.1)
  one_at (Update t row) (Insert u other) first second tables keys = absurd (clash store old u t (sym tables) (key_in store u other) (key_in store t row) (sym keys) second.1 first.1.0 first.1.1)
  one_at (Update t row) (Update u other) first second tables keys = let same = same_row t u tables row other first.0 second.0 keys in λ k. Update (tables k) (same k)
  one_at (Update t row) (Delete u key) first second tables keys = absurd (clash store new u t (sym tables) key (key_in store t row) (sym keys) second.1 row (first.0, refl))
  one_at (Delete t key) (Insert u other) first second tables keys = absurd (clash store old u t (sym tables) (key_in store u other) key (sym keys) second.1 first.0.0 first.0.1)
  one_at (Delete t key) (Update u other) first second tables keys = absurd (clash store new t u tables key (key_in store u other) keys first.1 other (second.0, refl))
  one_at (Delete t key) (Delete u other) first second tables keys = λ k. Delete (tables k) (keys k)

  -- the rows at the keys of these changes are the new ones, all others the old ones
  pub record AreBetween (done : List RowChange) (tables : Tables) : Type 0 where
    pub size : length tables ≡ length old
    pub stands : (t : TableId) (row : Row) → Contains (rows_in tables t) row
        → (Contains (rows_in old t) row × (¬ IsChanged store done t (key_in store t row))) ⊎ (Contains (rows_in new t) row × IsChanged store done t (key_in store t row))
    pub keeps : (t : TableId) (row : Row) → Contains (rows_in old t) row → ¬ IsChanged store done t (key_in store t row) → Contains (rows_in tables t) row
    pub brings : (t : TableId) (row : Row) → Contains (rows_in new t) row → IsChanged store done t (key_in store t row) → Contains (rows_in tables t) row
    pub apart : (t : TableId) → AreApartBy store tables t

  none_changed : (t : TableId) (key : List Value) → ¬ IsChanged store [] t key
  none_changed t key (change, has, at) = contains_nil change has

  -- before the first they are the old ones
  pub none_made : AreBetween [] old
  none_made = record {
    size = refl;
    stands = λ t row has. inl (has, none_changed t (key_in store t row));
    keeps = λ t row has unchanged. has;
    brings = λ t row has changed. absurd (none_changed t (key_in store t row) changed);
    apart = old_apart;
  }

  -- it matters which changes these are, and not their order
  pub same_done : (done more : List RowChange) (tables : Tables) → ((change : RowChange) → Contains done change → Contains more change) → ((change : RowChange) → Contains more change → Contains done change)
      → AreBetween done tables → AreBetween more tables
  same_done done more tables to back between =
      let more_changed : (t : TableId) (key : List Value) → IsChanged store done t key → IsChanged store more t key = λ t key changed. (changed.0, to changed.0 changed.1, changed.2) in
      let done_changed : (t : TableId) (key : List Value) → IsChanged store more t key → IsChanged store done t key = λ t key changed. (changed.0, back changed.0 changed.1, changed.2) in
      record {
        size = between.size;
        stands = λ t row has. ⊎_elim
            (λ (is_old : Contains (rows_in old t) row × (¬ IsChanged store done t (key_in store t row))). inl (is_old.0, λ changed. is_old.1 (done_changed t (key_in store t row) changed)))
            (λ (is_new : Contains (rows_in new t) row × IsChanged store done t (key_in store t row)). inr (is_new.0, more_changed t (key_in store t row) is_new.1))
            (between.stands t row has);
        keeps = λ t row has unchanged. between.keeps t row has (λ changed. unchanged (more_changed t (key_in store t row) changed));
        brings = λ t row has changed. between.brings t row has (done_changed t (key_in store t row) changed);
        apart = between.apart;
      }

  -- a change at a row that isn't changed yet finds what it needs
  pub finds_at : (done : List RowChange) (tables : Tables) → AreBetween done tables → (change : RowChange) → IsChange store old new change
      → ¬ IsChanged store done (table_of change) (key_of_change store change) → FindsItsRow store tables change
  finds_at done tables between (Insert t row) is unchanged = λ one has. ⊎_elim
      (λ (is_old : Contains (rows_in old t) one × (¬ IsChanged store done t (key_in store t one))). is.1 one (is_old.0, has.1))
      (λ (is_new : Contains (rows_in new t) one × IsChanged store done t (key_in store t one)). unchanged (subst (IsChanged store done t) has.1 is_new.1))
      (between.stands t one has.0)
  finds_at done tables between (Update t row) is unchanged =
      (is.1.0, (between.keeps t is.1.0 is.1.1.0 (λ changed. unchanged (subst (IsChanged store done t) is.1.1.1 changed)), is.1.1.1))
  finds_at done tables between (Delete t key) is unchanged =
      (is.0.0, (between.keeps t is.0.0 is.0.1.0 (λ changed. unchanged (subst (IsChanged store done t) is.0.1.1 changed)), is.0.1.1))

  -- what a change brings is new, and what is new at its key it brings
  brought_new : (change : RowChange) → IsChange store old new change → (row : Row) → Brings change row → Contains (rows_in new (table_of change)) row × (key_in store (table_of change) row ≡ key_of_change store change)
  brought_new (Insert t one) is row brought = (subst (Contains (rows_in new t)) (sym brought) is.0, ap (key_in store t) brought)
  brought_new (Update t one) is row brought = (subst (Contains (rows_in new t)) (sym brought) is.0, ap (key_in store t) brought)
  brought_new (Delete t key) is row brought = absurd brought

  new_brought : (change : RowChange) → IsChange store old new change → (row : Row) → Contains (rows_in new (table_of change)) row → key_in store (table_of change) row ≡ key_of_change store change → Brings change row
  new_brought (Insert t one) is row has key = one_row store new t (new_apart t) (key_in store t one) row one (has, key) (is.0, refl)
  new_brought (Update t one) is row has key = one_row store new t (new_apart t) (key_in store t one) row one (has, key) (is.0, refl)
  new_brought (Delete t one) is row has key = absurd (is.1 row (has, key))

  -- its table is there
  change_within : (change : RowChange) → IsChange store old new change → (table_of change).index < length old
  change_within (Insert t row) is = let within = row_within new t row is.0 in let old_size = both.old_legal.shape.each in let new_size = both.new_legal.shape.each in omega (arith, within, old_size, new_size)
  change_within (Update t row) is = row_within old t is.1.0 is.1.1.0
  change_within (Delete t key) is = row_within old t is.0.0 is.0.1.0

  -- one change more
  module _ (done : List RowChange) (tables : Tables) (between : AreBetween done tables) (change : RowChange) (is : IsChange store old new change)
      (unchanged : ¬ IsChanged store done (table_of change) (key_of_change store change)) where
    abbrev t : TableId
    t = table_of change

    abbrev key : List Value
    key = key_of_change store change

    abbrev rows : List Row
    rows = rows_in tables t

    abbrev more : List RowChange
    more = change ∷ done

    replaced : AreReplaced store t key (Brings change) rows (rows_after store change rows)
    replaced = rows_replaced store tables change (between.apart t) (finds_at done tables between change is unchanged)

    later : (u : TableId) (at : List Value) → IsChanged store done u at → IsChanged store more u at
    later u at changed = (changed.0, contains_tail change done changed.0 changed.1, changed.2)

    changed_cases : (u : TableId) (at : List Value) → IsChanged store more u at → IsAt store change u at ⊎ IsChanged store done u at
    changed_cases u at (one, has, is_at) = ⊎_elim
        (λ (same : one ≡ change). inl (subst (λ (c : RowChange). IsAt store c u at) same is_at))
        (λ (among : Contains done one). inr (one, among, is_at))
        (contains_cons_cases change done one has)

    -- in its own table
    stands_here : (row : Row) → Contains (rows_after store change rows) row
        → (Contains (rows_in old t) row × (¬ IsChanged store more t (key_in store t row))) ⊎ (Contains (rows_in new t) row × IsChanged store more t (key_in store t row))
    stands_here row has = ⊎_elim
        (λ (stays : Contains rows row × (key_in store t row ≢ key)). ⊎_elim
        (λ (is_old : Contains (rows_in old t) row × (¬ IsChanged store done t (key_in store t row))). inl (
          is_old.0,
          λ changed. ⊎_elim
              (λ (at : IsAt store change t (key_in store t row)). stays.1 (sym at.1))
              is_old.1 (changed_cases t (key_in store t row) changed),
        ))
        (λ (is_new : Contains (rows_in new t) row × IsChanged store done t (key_in store t row)). inr (is_new.0, later t (key_in store t row) is_new.1))
        (between.stands t row stays.0))
        (λ (brought : Brings change row). let found = brought_new change is row brought in inr (found.0, (change, contains_head change done, (refl, sym found.1))))
        (replaced.only row has)

    keeps_here : (row : Row) → Contains (rows_in old t) row → ¬ IsChanged store more t (key_in store t row) → Contains (rows_after store change rows) row
    keeps_here row has not_changed = replaced.keeps row (between.keeps t row has (λ changed. not_changed (later t (key_in store t row) changed)))
        (λ same. not_changed (change, contains_head change done, (refl, sym same)))

    brings_here : (row : Row) → Contains (rows_in new t) row → IsChanged store more t (key_in store t row) → Contains (rows_after store change rows) row
    brings_here row has changed = ⊎_elim
        (λ (at : IsAt store change t (key_in store t row)). replaced.brings row (new_brought change is row has (sym at.1)))
        (λ (before : IsChanged store done t (key_in store t row)).
        replaced.keeps row (between.brings t row has before) (λ same. unchanged (subst (IsChanged store done t) same before)))
        (changed_cases t (key_in store t row) changed)

    -- in a table
    record IsSoIn (u : TableId) (now : List Row) : Type 0 where
      stands : (row : Row) → Contains now row
          → (Contains (rows_in old u) row × (¬ IsChanged store more u (key_in store u row))) ⊎ (Contains (rows_in new u) row × IsChanged store more u (key_in store u row))
      keeps : (row : Row) → Contains (rows_in old u) row → ¬ IsChanged store more u (key_in store u row) → Contains now row
      brings : (row : Row) → Contains (rows_in new u) row → IsChanged store more u (key_in store u row) → Contains now row
      apart : AllPairs (λ row other. key_in store u row ≢ key_in store u other) now

    so_here : IsSoIn t (rows_after store change rows)
    so_here = record { stands = stands_here; keeps = keeps_here; brings = brings_here; apart = replaced.apart }

    so_elsewhere : (u : TableId) → u.index ≢ t.index → IsSoIn u (rows_in tables u)
    so_elsewhere u other =
        let not_at : (at : List Value) → ¬ IsAt store change u at = λ at is_at. other (ap (λ (v : TableId). v.index) (sym is_at.0)) in
        let back : (at : List Value) → IsChanged store more u at → IsChanged store done u at = λ at changed. ⊎_elim (λ (here : IsAt store change u at). absurd (not_at at here)) (λ (before : IsChanged store done u at). before) (changed_cases u at changed) in
        record {
          stands = λ row has. ⊎_elim
              (λ (is_old : Contains (rows_in old u) row × (¬ IsChanged store done u (key_in store u row))). inl (is_old.0, λ changed. is_old.1 (back (key_in store u row) changed)))
              (λ (is_new : Contains (rows_in new u) row × IsChanged store done u (key_in store u row)). inr (is_new.0, later u (key_in store u row) is_new.1))
              (between.stands u row has);
          keeps = λ row has not_changed. between.keeps u row has (λ changed. not_changed (later u (key_in store u row) changed));
          brings = λ row has changed. between.brings u row has (back (key_in store u row) changed);
          apart = between.apart u;
        }

    so_in : (u : TableId) → IsSoIn u (rows_in (after_one store tables change) u)
    so_in u = ⊎_elim
        (λ (same : u.index ≡ t.index).
        let is_t : t ≡ u = λ k. record { index = sym same k } in
        let within = change_within change is in
        let size = between.size in
        subst (λ (v : TableId). IsSoIn v (rows_in (after_one store tables change) v)) is_t (subst (IsSoIn t) (sym (rows_here store tables change (omega (arith, within, size)))) so_here))
        (λ (other : u.index ≢ t.index). subst (IsSoIn u) (sym (rows_elsewhere store tables change u other)) (so_elsewhere u other))
        (cases_eq u.index t.index)

    pub one_more_made : AreBetween more (after_one store tables change)
    one_more_made = record {
      size = length-set tables t.index (rows_after store change rows) ∙ between.size;
      stands = λ u. (so_in u).stands;
      keeps = λ u. (so_in u).keeps;
      brings = λ u. (so_in u).brings;
      apart = λ u. (so_in u).apart;
    }
