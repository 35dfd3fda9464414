-- What the tests of writers tell: an id stands among others, and the columns of pairs are exactly a primary key.
use Rattle.std.proofs.Common.{◌≡◌, ℕ, ◌==◌, ◌&&◌, Bool, true, List, map, get_or, All, Contains, ap, subst}
use Rattle.std.specs.Bool.{Decides}
use Rattle.std.specs.List.{list_all, list_any}
use Rattle.std.proofs.lemmas.Bool.Decides.{Decides-eqb}
use Rattle.std.proofs.lemmas.List.Folds.{Any-from_list_any, list_any_at}
use Rattle.std.proofs.lemmas.List.Sums.{list_all-from_AllPass}
use Rattle.emc_base.proofs.Mapped.{contains_filter}
use Rattle.emc_base.proofs.Numbered.{filter_contains}
use Rattle.round_trip.specs.Words.{ColId, Pair, PropId, Schema, TableId, key_columns}
use Rattle.round_trip.specs.FailsAt.{IsHostedAt}
use Rattle.msl_rules.specs.OwnerRules.{are_exactly, is_among_cols, is_among_props, key_pairs}

-- an item with a number stands among others, where numbers tell items apart
among_tells : {X : Type 0} (number : X → ℕ) → ((x y : X) → number x ≡ number y → x ≡ y) → (xs : List X) (x : X)
    → Decides (list_any (λ other. number other == number x) xs) (Contains xs x)
among_tells {X} number one xs x = (to, back)
  where
    to : list_any (λ other. number other == number x) xs ≡ true → Contains xs x
    to is =
        let some = Any-from_list_any (λ other. number other == number x) xs is in
        subst (Contains xs) (one some.1 x ((Decides-eqb (number some.1) (number x)).0 some.4)) (some.0, some.2, some.3)

    back : Contains xs x → list_any (λ other. number other == number x) xs ≡ true
    back has = list_any_at (λ other. number other == number x) xs has.0 x has.1 ((Decides-eqb (number (get_or xs has.0 x)) (number x)).1 (ap number has.2))

-- so it is of properties, and of columns
pub props_tell : (props : List PropId) (prop : PropId) → Decides (is_among_props props prop) (Contains props prop)
props_tell = among_tells (λ prop. prop.index) (λ x y same i. record { index = same i })

pub cols_tell : (cols : List ColId) (col : ColId) → Decides (is_among_cols cols col) (Contains cols col)
cols_tell = among_tells (λ col. col.index) (λ x y same i. record { index = same i })

-- a test that passes for each of a list
all_pass : {X : Type 0} (P : X → Type 0) (test : X → Bool) → ((x : X) → P x → test x ≡ true) → (xs : List X) → All P xs → list_all test xs ≡ true
all_pass P test passes xs all = list_all-from_AllPass test xs (λ k d within. passes (get_or xs k d) (all k d within))

-- where the columns of pairs are exactly the primary key, the test says so
pub hosted_tells : (schema : Schema) (table : TableId) (pairs : List Pair) → IsHostedAt schema table pairs → are_exactly (key_columns schema.store table) pairs ≡ true
hosted_tells schema table pairs hosted =
    let cols : List ColId = key_columns schema.store table in
    let each = all_pass (λ (pair : Pair). Contains cols pair.col) (λ pair. is_among_cols cols pair.col) (λ pair has. (cols_tell cols pair.col).1 has) pairs hosted.all in
    let whole = all_pass (λ (col : ColId). Contains (map (λ pair. pair.col) pairs) col) (is_among_cols (map (λ pair. pair.col) pairs))
    (λ col has. (cols_tell (map (λ pair. pair.col) pairs) col).1 has) cols hosted.whole in
    λ i. each i && whole i

-- a pair of a property of the key with a column of the primary key is one of the pairs of both, and each of these is one of all pairs
module _ (key : List PropId) (cols : List ColId) (pairs : List Pair) (pair : Pair) where
  pub key_pair : Contains pairs pair → Contains key pair.prop → Contains cols pair.col → Contains (key_pairs key cols pairs) pair
  key_pair has prop col =
      let of_key = (props_tell key pair.prop).1 prop in
      let of_cols = (cols_tell cols pair.col).1 col in
      contains_filter (λ pair. is_among_props key pair.prop && is_among_cols cols pair.col) pairs pair has (λ i. of_key i && of_cols i)

  pub pair_of_key : Contains (key_pairs key cols pairs) pair → Contains pairs pair
  pair_of_key has = (filter_contains (λ pair. is_among_props key pair.prop && is_among_cols cols pair.col) pairs pair has).0
