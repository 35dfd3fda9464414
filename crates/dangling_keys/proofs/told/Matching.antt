-- Columns of a foreign key beside those to which they point, and rows that hold the same in both.
use Rattle.std.proofs.Common.{◌≡◌, ⊎_elim, ◌==◌, List, [], ◌∷◌, map, length, Contains, Option, Some, None, option_map, Decides, false, refl, sym, ap, subst, ◌∙◌, arith}
use Rattle.std.proofs.lemmas.Bool.{cond-true, cond_both}
use Rattle.std.proofs.lemmas.Bool.Decides.{Decides-eqb, Decides-like, not_from_Decides}
use Rattle.std.proofs.lemmas.List.Elements.{All-contains}
use Rattle.std.proofs.lemmas.Option.{same_Some}
use Rattle.std.proofs.lemmas.List.{length-map}
use Rattle.emc_base.specs.Lists.{AreApart}
use Rattle.emc_base.proofs.Members.{apart_head, apart_tail, contains_cons_cases, contains_head, contains_nil, contains_tail}
use Rattle.round_trip.specs.Words.{ColId, ForeignKey, Kind, Pair, Row, StoreModel, TableId, Value, cell_of, cells_of, key_columns}
use Rattle.round_trip.specs.soundness.Kinds.{without_bound}
use Rattle.round_trip.specs.soundness.Lookups.{column_kind}
use Rattle.round_trip.specs.soundness.Stores.{IsSoundForeignKey}
use Rattle.dangling_keys.specs.Showing.{col_beside}

pub Decides-col : (one two : ColId) → Decides (one.index == two.index) (one ≡ two)
Decides-col one two = Decides-like (one.index == two.index) (λ same i. record { index = same i }) (λ same. ap (λ (c : ColId). c.index) same) (Decides-eqb one.index two.index)

-- a column of the first list has one of the second beside it, where there are as many
pub record HasBeside (cols others : List ColId) (col : ColId) : Type 0 where
  pub from : ColId
  pub is : col_beside col cols others ≡ Some from
  pub among : Contains others from

pub has_beside : (cols others : List ColId) → length cols ≡ length others → (col : ColId) → Contains cols col → HasBeside cols others col
has_beside [] others count col has = absurd (contains_nil col has)
has_beside (one ∷ cols) [] count col has = absurd (omega (arith, count))
has_beside (one ∷ cols) (other ∷ others) count col has =
    let P : Option ColId → Type 0 = λ found. (from : ColId) × (found ≡ Some from) × Contains (other ∷ others) from in
    let rest : (one.index == col.index) ≡ false → P (col_beside col cols others) = λ told. ⊎_elim
    (λ (here : col ≡ one). absurd (not_from_Decides (one.index == col.index) (Decides-col one col) told (sym here)))
    (λ (later : Contains cols col). let found = has_beside cols others (let tails : length cols ≡ length others = cc in tails) col later in
    (found.from, found.is, contains_tail other others found.from found.among))
    (contains_cons_cases one cols col has) in
    let found = cond_both (one.index == col.index) (Some other) (col_beside col cols others) P (λ told. (other, refl, contains_head other others)) rest in
    record { from = found.0; is = found.1; among = found.2 }

-- lists that agree item by item agree at a column and at what stands beside it
pub alike_beside : (f g : ColId → Value) (cols others : List ColId) → map f cols ≡ map g others → (col from : ColId) → col_beside col cols others ≡ Some from → f col ≡ g from
alike_beside f g [] others same col from is = absurd (let never : None ≡ Some from = is in cc)
alike_beside f g (one ∷ cols) [] same col from is = absurd (let never : None ≡ Some from = is in cc)
alike_beside f g (one ∷ cols) (other ∷ others) same col from is =
    let P : Option ColId → Type 0 = λ found. found ≡ Some from → f col ≡ g from in
    let heads : f one ≡ g other = cc in
    let tails : map f cols ≡ map g others = cc in
    cond_both (one.index == col.index) (Some other) (col_beside col cols others) P
    (λ told found. ap f (sym ((Decides-col one col).0 told)) ∙ heads ∙ ap g (same_Some other from found))
    (λ told found. alike_beside f g cols others tails col from found) is

-- and the other way, where no column of the first list stands there twice
pub all_alike : (f g : ColId → Value) (cols others : List ColId) → AreApart cols → length cols ≡ length others
    → ((col from : ColId) → Contains cols col → col_beside col cols others ≡ Some from → f col ≡ g from) → map f cols ≡ map g others
all_alike f g [] [] apart count each = refl
all_alike f g [] (other ∷ others) apart count each = absurd (omega (arith, count))
all_alike f g (one ∷ cols) [] apart count each = absurd (omega (arith, count))
all_alike f g (one ∷ cols) (other ∷ others) apart count each =
    let head : f one ≡ g other = each one other (contains_head one cols) (cond-true (one.index == one.index) (Some other) (col_beside one cols others) ((Decides-col one one).1 refl)) in
    let tail : map f cols ≡ map g others = all_alike f g cols others (apart_tail one cols apart) (let tails : length cols ≡ length others = cc in tails) (λ col from has is.
    each col from (contains_tail one cols col has)
    (let P : Option ColId → Type 0 = λ found. found ≡ Some from in
    cond_both (one.index == col.index) (Some other) (col_beside col cols others) P
    (λ told. absurd (apart_head one cols apart (subst (Contains cols) (sym ((Decides-col one col).0 told)) has)))
    (λ told. is))) in
    λ k. head k ∷ tail k

-- what holds of the columns of pairs by a list holds pair by pair
pub pair_alike : (f : ColId → Value) (g : Pair → Value) (pairs : List Pair) → map f (map (λ pair. pair.col) pairs) ≡ map g pairs → (pair : Pair) → Contains pairs pair → f pair.col ≡ g pair
pair_alike f g [] same pair has = absurd (contains_nil pair has)
pair_alike f g (one ∷ pairs) same pair has =
    let heads : f one.col ≡ g one = cc in
    let tails : map f (map (λ (p : Pair). p.col) pairs) ≡ map g pairs = cc in
    ⊎_elim
    (λ (here : pair ≡ one). ap (λ (p : Pair). f p.col) here ∙ heads ∙ ap g (sym here))
    (λ (later : Contains pairs pair). pair_alike f g pairs tails pair later)
    (contains_cons_cases one pairs pair has)

pub pairs_alike : (f : ColId → Value) (g : Pair → Value) (pairs : List Pair) → ((pair : Pair) → Contains pairs pair → f pair.col ≡ g pair) → map f (map (λ pair. pair.col) pairs) ≡ map g pairs
pairs_alike f g [] each = refl
pairs_alike f g (one ∷ pairs) each =
    let head : f one.col ≡ g one = each one (contains_head one pairs) in
    let tail = pairs_alike f g pairs (λ pair has. each pair (contains_tail one pairs pair has)) in
    λ k. head k ∷ tail k

module _ (store : StoreModel) (key : ForeignKey) (sound : IsSoundForeignKey store key) where
  -- there are as many columns as those to which they point
  pub as_many : length key.to_cols ≡ length key.from_cols
  as_many =
      let bare : TableId → ColId → Option Kind = λ t col. option_map without_bound (column_kind store t col) in
      sym (length-map key.to_cols (bare key.to)) ∙ sym (ap length sound.columns.kinds) ∙ length-map key.from_cols (bare key.from)

  -- each column of the primary key has one that points to it
  pub from_there : (col : ColId) → Contains (key_columns store key.to) col → HasBeside key.to_cols key.from_cols col
  from_there col has = has_beside key.to_cols key.from_cols as_many col (All-contains (Contains key.to_cols) (key_columns store key.to) col sound.columns.whole.all has)

  -- a row that is found holds what the row that refers holds beside
  pub found_alike : (target row : Row) → cells_of target key.to_cols ≡ cells_of row key.from_cols → (col from : ColId) → col_beside col key.to_cols key.from_cols ≡ Some from
      → cell_of target col ≡ cell_of row from
  found_alike target row same col from is = alike_beside (cell_of target) (cell_of row) key.to_cols key.from_cols same col from is

  pub alike_found : (target row : Row) → ((col from : ColId) → Contains (key_columns store key.to) col → col_beside col key.to_cols key.from_cols ≡ Some from → cell_of target col ≡ cell_of row from)
      → cells_of target key.to_cols ≡ cells_of row key.from_cols
  alike_found target row each = all_alike (cell_of target) (cell_of row) key.to_cols key.from_cols sound.columns.whole.once as_many (λ col from has is.
      each col from (All-contains (Contains (key_columns store key.to)) key.to_cols col sound.columns.whole.only has) is)
