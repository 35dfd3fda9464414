-- The pairs of a key among those that are found; a pair whose column isn't named like one of the key is none.
use Rattle.std.proofs.Common.{◌≡◌, ℕ, ◌==◌, List, [], ◌∷◌, ◌&&◌, ◌||◌, Bool, true, false, Option, Some, None, slice_get, if◌then◌else◌, refl, sym, ap, ◌∙◌}
use Rattle.std.specs.List.{cons_option, filter_map, list_any}
use Rattle.std.specs.Option.{option_and_then, option_map, option_map_or}
use Rattle.std.specs.Str.{bytes_eq}
use Rattle.std.proofs.lemmas.Bool.Decides.{Decides-eqb}
use Rattle.std.proofs.lemmas.Slice.Eq.{bytes_eq-Decides}
use Rattle.emc_base.specs.Lists.{At}
use Rattle.groupings.specs.name_places.GivenNames.{first_place}
use Rattle.groupings.proofs.name_places.FirstPlaces.{first_has}
use Rattle.round_trip.specs.Words.{PropId, ColId, EntityModel, StoreModel, Table, Pair}
use Rattle.schema_names.specs.SchemaNames.{column_named}
use Rattle.msl_rules.specs.declared.msl_lists.raw.RawPair.{RawPair}
use Rattle.msl_rules.specs.Found.{col_numbered, pair_in}
use Rattle.msl_rules.specs.OwnerRules.{is_among_cols, is_among_props, key_pairs}
use Rattle.msl_fragments.specs.msl_owners.KeyPairs.{is_column_named, of_key}

-- the pairs of a key among those that are found
pub key_pairs_found : {X : Type 0} (key : List PropId) (cols : List ColId) (found : X → Option Pair) (xs : List X)
    → filter_map (λ x. of_key key cols (found x)) xs ≡ key_pairs key cols (filter_map found xs)
key_pairs_found key cols found [] = refl
key_pairs_found {X} key cols found (x ∷ xs) = by (found x) (key_pairs_found key cols found xs)
  where
    Kept : List Pair
    Kept = filter_map (λ (y : X). of_key key cols (found y)) xs

    tested : (pair : Pair) (test : Bool) → Kept ≡ key_pairs key cols (filter_map found xs)
        → cons_option (if test then Some pair else None) Kept ≡ (if test then pair ∷ key_pairs key cols (filter_map found xs) else key_pairs key cols (filter_map found xs))
    tested pair true same = ap (λ (rest : List Pair). pair ∷ rest) same
    tested pair false same = same

    by : (one : Option Pair) → Kept ≡ key_pairs key cols (filter_map found xs) → cons_option (of_key key cols one) Kept ≡ key_pairs key cols (cons_option one (filter_map found xs))
    by None same = same
    by (Some pair) same = tested pair (is_among_props key pair.prop && is_among_cols cols pair.col) same

-- where one test passes only what another does, and that passes nothing, it passes nothing
none_pass : {X : Type 0} (p q : X → Bool) → ((x : X) → p x ≡ true → q x ≡ true) → (xs : List X) → list_any q xs ≡ false → list_any p xs ≡ false
none_pass p q to [] none = refl
none_pass p q to (x ∷ xs) none = by (p x) (q x) (to x) (none_pass p q to xs) none
  where
    by : (one other : Bool) → (one ≡ true → other ≡ true) → (list_any q xs ≡ false → list_any p xs ≡ false) → (other || list_any q xs) ≡ false → (one || list_any p xs) ≡ false
    by true true passes rest none_is = absurd cc
    by true false passes rest none_is = absurd (let is = passes refl in cc)
    by false true passes rest none_is = absurd cc
    by false false passes rest none_is = rest none_is

-- the column that a name stands for is none of those that are named otherwise
not_among : (table : Table) (name : List ℕ) (cols : List ColId) (c : ℕ) → first_place (λ col. col.name) table.cols name ≡ Some c
    → list_any (is_column_named table name) cols ≡ false → is_among_cols cols (col_numbered c) ≡ false
not_among table name cols c is none = none_pass (λ (other : ColId). other.index == c) (is_column_named table name) to cols none
  where
    to : (other : ColId) → (other.index == c) ≡ true → is_column_named table name other ≡ true
    to other same =
        let first = first_has (λ col. col.name) table.cols name c is in
        let place : other.index ≡ c = (Decides-eqb other.index c).0 same in
        ap (λ (k : ℕ). option_map_or (λ column. bytes_eq name column.name) (slice_get table.cols k) false) place
        ∙ ap (λ known. option_map_or (λ column. bytes_eq name column.name) known false) first.1
        ∙ (bytes_eq-Decides name first.0.name).1 (sym first.2)

second_false : (one other : Bool) → other ≡ false → (one && other) ≡ false
second_false true other is = is
second_false false other is = refl

module _ (model : EntityModel) (store : StoreModel) (named : List ℕ → Option PropId) (t : ℕ) (key : List PropId) (cols : List ColId) (pair : RawPair) where
  -- the pair, by what its names stand for
  abbrev pair_of : Option PropId → Option ℕ → Option Pair
  pair_of prop col = option_and_then (λ p. option_map (λ c. record { prop = p; col = col_numbered c }) col) prop

  -- where the column is named otherwise than all columns of the key
  pub no_column : (table : Table) → At store.tables t table → list_any (is_column_named table pair.col) cols ≡ false → of_key key cols (pair_in model store named t pair) ≡ None
  no_column table here none =
      ap (λ (col : Option ℕ). of_key key cols (pair_of (named pair.prop) col)) (ap (option_and_then (λ one. first_place (λ col. col.name) one.cols pair.col)) here)
      ∙ by (named pair.prop) (first_place (λ col. col.name) table.cols pair.col) refl
    where
      by : (prop : Option PropId) (col : Option ℕ) → first_place (λ one. one.name) table.cols pair.col ≡ col → of_key key cols (pair_of prop col) ≡ None
      by None col is = refl
      by (Some p) None is = refl
      by (Some p) (Some c) is =
          ap (λ (test : Bool). if test then Some (record { prop = p; col = col_numbered c }) else None)
          (second_false (is_among_props key p) (is_among_cols cols (col_numbered c)) (not_among table pair.col cols c is none))
