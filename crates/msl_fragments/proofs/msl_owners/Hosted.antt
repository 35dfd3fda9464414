-- What the tests of columns say: whether links are hosted at an end, or joined.
use Rattle.std.proofs.Common.{◌≡◌, ◌≢◌, ◌↔◌, ◌==◌, ◌&&◌, ◌++◌, List, map, All, Contains, Bool, true, false, not, IsTrue, refl, sym, subst}
use Rattle.std.specs.List.{list_all}
use Rattle.std.proofs.lemmas.Bool.{and_parts}
use Rattle.std.proofs.lemmas.Bool.Decides.{Decides-eqb}
use Rattle.std.proofs.lemmas.List.Elements.{All-weaker}
use Rattle.std.proofs.lemmas.List.Folds.{Any-from_list_any, list_any-from_Any}
use Rattle.std.proofs.lemmas.List.Sums.{AllPass-from_list_all, list_all-from_AllPass}
use Rattle.round_trip.specs.Words.{ColId, TableId, Assoc, LinkFragment, Mult, Pair, Schema, key_columns}
use Rattle.round_trip.specs.FailsAt.{IsHostedAt}
use Rattle.edm_types.specs.declared.model.Mult.TheVariants.{One, ZeroOrOne, Many}
use Rattle.round_trip.specs.soundness.mappings.Owners.{IsJoined}
use Rattle.msl_rules.specs.OwnerRules.{are_exactly, is_among_cols, is_one}

-- two tests of one fact answer alike
pub same_answer : {P : Type 0} (one other : Bool) → (IsTrue one ↔ P) → (IsTrue other ↔ P) → one ≡ other
same_answer true true tells says = refl
same_answer true false tells says = sym (says.1 (tells.0 refl))
same_answer false true tells says = tells.1 (says.0 refl)
same_answer false false tells says = refl

-- two tests, of two facts
tells_both : {P Q : Type 0} (one other : Bool) → (IsTrue one ↔ P) → (IsTrue other ↔ Q) → (IsTrue (one && other) ↔ (P × Q))
tells_both one other tells says = (
  λ is. let parts = and_parts one other is in (tells.0 parts.0, says.0 parts.1),
  λ both. λ k. tells.1 both.0 k && says.1 both.1 k,
)

-- a test of each item
tells_all : {X : Type 0} (p : X → Bool) (P : X → Type 0) → ((x : X) → IsTrue (p x) ↔ P x) → (xs : List X) → IsTrue (list_all p xs) ↔ All P xs
tells_all {X} p P tells xs = (
  λ is. All-weaker (λ x. p x ≡ true) P (λ x. (tells x).0) xs (AllPass-from_list_all p xs is),
  λ all. list_all-from_AllPass p xs (All-weaker P (λ x. p x ≡ true) (λ x. (tells x).1) xs all),
)

-- the search for a column
tells_among : (cols : List ColId) (col : ColId) → IsTrue (is_among_cols cols col) ↔ Contains cols col
tells_among cols col = (to, back)
  where
    to : IsTrue (is_among_cols cols col) → Contains cols col
    to is =
        let some = Any-from_list_any (λ other. other.index == col.index) cols is in
        let index : some.1.index ≡ col.index = (Decides-eqb some.1.index col.index).0 some.4 in
        let same : some.1 ≡ col = λ k. record { index = index k } in
        let P : ColId → Type 0 = Contains cols in
        subst P same (some.0, some.2, some.3)

    back : Contains cols col → IsTrue (is_among_cols cols col)
    back has = list_any-from_Any (λ other. other.index == col.index) cols (has.0, col, has.1, has.2, (Decides-eqb col.index col.index).1 refl)

module _ (schema : Schema) where
  -- the columns of the pairs are exactly the primary key
  pub tells_hosted : (table : TableId) (pairs : List Pair) → IsTrue (are_exactly (key_columns schema.store table) pairs) ↔ IsHostedAt schema table pairs
  tells_hosted table pairs =
      let cols = key_columns schema.store table in
      let within = tells_all (λ pair. is_among_cols cols pair.col) (λ pair. Contains cols pair.col) (λ pair. tells_among cols pair.col) pairs in
      let whole = tells_all (is_among_cols (map (λ pair. pair.col) pairs)) (Contains (map (λ pair. pair.col) pairs)) (tells_among (map (λ pair. pair.col) pairs)) cols in
      let both = tells_both (list_all (λ pair. is_among_cols cols pair.col) pairs) (list_all (is_among_cols (map (λ pair. pair.col) pairs)) cols) within whole in
      (λ is. let told = both.0 is in record { all = told.0; whole = told.1 }, λ hosted. both.1 (hosted.all, hosted.whole))

  -- an end that may be without a partner
  tells_loose : (mult : Mult) → IsTrue (not (is_one mult)) ↔ (mult ≢ One)
  tells_loose One = (λ is. absurd cc, λ other. absurd (other refl))
  tells_loose ZeroOrOne = (λ is same. absurd cc, λ other. refl)
  tells_loose Many = (λ is same. absurd cc, λ other. refl)

  -- the links are joined
  pub tells_joined : (fragment : LinkFragment) (assoc : Assoc)
      → IsTrue (are_exactly (key_columns schema.store fragment.table) (fragment.first ++ fragment.second) && not (is_one assoc.first.mult) && not (is_one assoc.second.mult))
      ↔ IsJoined schema fragment assoc
  tells_joined fragment assoc =
      let exactly = are_exactly (key_columns schema.store fragment.table) (fragment.first ++ fragment.second) in
      let first = not (is_one assoc.first.mult) in
      let second = not (is_one assoc.second.mult) in
      let told = tells_both (exactly && first) second
      (tells_both exactly first (tells_hosted fragment.table (fragment.first ++ fragment.second)) (tells_loose assoc.first.mult)) (tells_loose assoc.second.mult) in
      (λ is. let all = told.0 is in record { columns = all.0.0; first = all.0.1; second = all.1 }, λ joined. told.1 ((joined.columns, joined.first), joined.second))
