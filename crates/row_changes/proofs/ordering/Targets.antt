-- A foreign key points to a whole primary key: rows that show the same there have one key, and rows with one key show the same.
use Rattle.std.proofs.Common.{◌≡◌, ⊎_elim, List, [], ◌∷◌, map, All, Any, Contains, refl, sym, ap, ◌∙◌}
use Rattle.std.proofs.lemmas.List.Elements.{All-contains}
use Rattle.emc_base.specs.Lists.{HoldsEachOnce}
use Rattle.emc_base.proofs.Lists.{all_from_members}
use Rattle.emc_base.proofs.Members.{contains_cons_cases, contains_head, contains_nil, contains_tail}
use Rattle.round_trip.specs.Words.{ColId, ForeignKey, KeepsForeignKey, Refers, Row, StoreModel, Tables, cell_of, cells_of, key_columns, rows_in}
use Rattle.round_trip.specs.soundness.Stores.{IsSoundForeignKey, IsSoundStore}
use Rattle.schema_laws.proofs.state_demand.lists.Lists.{any_of, of_any}
use Rattle.row_changes.specs.Changes.{key_in}
use Rattle.row_changes.specs.Orders.{RefersTo}

-- where two functions agree on a list, they do on each of its items, and on each list of these
agree_at : {X Y : Type 0} (f g : X → Y) (xs : List X) → map f xs ≡ map g xs → (x : X) → Contains xs x → f x ≡ g x
agree_at f g [] same x has = absurd (contains_nil x has)
agree_at f g (z ∷ xs) same x has = ⊎_elim
    (λ (is : x ≡ z). ap f is ∙ heads f g z xs same ∙ ap g (sym is))
    (λ (later : Contains xs x). agree_at f g xs (tails f g z xs same) x later)
    (contains_cons_cases z xs x has)
  where
    heads : {X Y : Type 0} (f g : X → Y) (z : X) (xs : List X) → map f (z ∷ xs) ≡ map g (z ∷ xs) → f z ≡ g z
    heads f g z xs same = let both : f z ∷ map f xs ≡ g z ∷ map g xs = same in cc

    tails : {X Y : Type 0} (f g : X → Y) (z : X) (xs : List X) → map f (z ∷ xs) ≡ map g (z ∷ xs) → map f xs ≡ map g xs
    tails f g z xs same = let both : f z ∷ map f xs ≡ g z ∷ map g xs = same in cc

agree_on : {X Y : Type 0} (f g : X → Y) (ys : List X) → ((y : X) → Contains ys y → f y ≡ g y) → map f ys ≡ map g ys
agree_on f g [] each = refl
agree_on f g (y ∷ ys) each =
    let first = each y (contains_head y ys) in
    let rest = agree_on f g ys (λ z has. each z (contains_tail y ys z has)) in
    λ k. first k ∷ rest k

alike : (one other : Row) (cols more : List ColId) → cells_of one cols ≡ cells_of other cols → All (Contains cols) more → cells_of one more ≡ cells_of other more
alike one other cols more same inside =
    agree_on (cell_of one) (cell_of other) more (λ col has. agree_at (cell_of one) (cell_of other) cols same col (All-contains (Contains cols) more col inside has))

module _ (store : StoreModel) (sound : IsSoundStore store) (key : ForeignKey) (is_key : Contains store.keys key) where
  whole : HoldsEachOnce (key_columns store key.to) key.to_cols
  whole = (All-contains (IsSoundForeignKey store) store.keys key sound.keys is_key).columns.whole

  pub one_key : (one other : Row) → cells_of one key.to_cols ≡ cells_of other key.to_cols → key_in store key.to one ≡ key_in store key.to other
  one_key one other same = alike one other key.to_cols (key_columns store key.to) same whole.all

  pub one_target : (one other : Row) → key_in store key.to one ≡ key_in store key.to other → cells_of one key.to_cols ≡ cells_of other key.to_cols
  one_target one other same = alike one other (key_columns store key.to) key.to_cols same whole.only

-- in tables that keep the key, a row that refers finds one
pub finds_target : (store : StoreModel) (tables : Tables) → All (KeepsForeignKey tables) store.keys → (key : ForeignKey) → Contains store.keys key → (row : Row) → Contains (rows_in tables key.from) row → Refers key row
    → (target : Row) × Contains (rows_in tables key.to) target × RefersTo key row target
finds_target store tables keeps key is_key row has refers =
    let P : Row → Type 0 = λ one. Refers key one → Any (λ target. cells_of target key.to_cols ≡ cells_of one key.from_cols) (rows_in tables key.to) in
    let some = All-contains P (rows_in tables key.from) row (All-contains (KeepsForeignKey tables) store.keys key keeps is_key) has refers in
    let found = of_any (λ (target : Row). cells_of target key.to_cols ≡ cells_of row key.from_cols) (rows_in tables key.to) some in
    (found.0, found.1, (refers, found.2))

-- and the other way round
pub keeps_key : (tables : Tables) (key : ForeignKey) → ((row : Row) → Contains (rows_in tables key.from) row → Refers key row → (target : Row) × Contains (rows_in tables key.to) target × RefersTo key row target)
    → KeepsForeignKey tables key
keeps_key tables key finds = all_from_members P (rows_in tables key.from)
    (λ row has refers. (let found = finds row has refers in any_of (λ (target : Row). cells_of target key.to_cols ≡ cells_of row key.from_cols) (rows_in tables key.to) found.0 found.1 found.2.1))
  where
    P : Row → Type 0
    P one = Refers key one → Any (λ target. cells_of target key.to_cols ≡ cells_of one key.from_cols) (rows_in tables key.to)
