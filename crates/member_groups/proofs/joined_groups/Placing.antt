-- Places given one after another: to the properties or the columns of one list, and to those of all tables.
use Rattle.std.proofs.Common.{◌≡◌, ◌↔◌, ⊎_elim, ℕ, ◌+◌, ◌<◌, ◌≤◌, Bool, true, false, not, List, [], ◌∷◌, ◌++◌, length, take, slice_get, get_or, Option, Some, None, Contains, IsTrue, IsSome, refl, sym, ap, subst, ◌∙◌, arith}
use Rattle.std.specs.Bool.{then_some}
use Rattle.std.specs.Prelude.{sum_by, unwrap_or}
use Rattle.std.proofs.lemmas.Bool.{cases_lt}
use Rattle.std.proofs.lemmas.List.{length_push}
use Rattle.std.proofs.lemmas.List.Sums.{sum_by_more}
use Rattle.std.proofs.lemmas.Option.{get_or_from_slice_get, slice_get_past, slice_get_within}
use Rattle.round_trip.specs.Words.{EntityModel, StoreModel, Prop, Table, At, key_props}
use Rattle.emc_base.proofs.Lists.{at_once}
use Rattle.emc_base.proofs.Joined.{at_left}
use Rattle.member_groups.specs.declared.joined_groups.places.Places.{Places}
use Rattle.member_groups.specs.joined_groups.Places.{ArePlacesUpTo, HavePlaces, IsAdded, IsColumnOfKey, IsPropOfKey, held_at, start_of}
use Rattle.member_groups.proofs.joined_groups.Lists.{at_end}

module _ (IsOfKey : ℕ → Type 0) (first : ℕ) where
  pub none_placed : HavePlaces IsOfKey 0 first []
  none_placed = record { size = refl; keys = λ i within. absurd (omega arith); others = λ i within. absurd (omega arith) }

  -- one more, whose test tells whether it is part of a key
  pub one_placed : (n : ℕ) (places : List (Option ℕ)) (is_key : Bool) → HavePlaces IsOfKey n first places → IsTrue is_key ↔ IsOfKey n
      → HavePlaces IsOfKey (n + 1) first (places ++ then_some (not is_key) (first + n) ∷ [])
  one_placed n places is_key so_far tells = record {
    size = let longer = length_push places (then_some (not is_key) (first + n)) in let size : length places ≡ n = so_far.size in omega (arith, longer, size);
    keys = λ i within key. ⊎_elim
        (λ (below : i < n). at_left places more i None (so_far.keys i below key))
        (λ (past : n ≤ i). let last : n ≡ i = omega (arith, within, past) in
        let P : ℕ → Type 0 = λ k. IsOfKey k → At (places ++ more) k None in
        subst P last (λ own. by_key is_key (tells.1 own)) key)
        (cases_lt i n);
    others = λ i within free. ⊎_elim
        (λ (below : i < n). at_left places more i (Some (first + i)) (so_far.others i below free))
        (λ (past : n ≤ i). let last : n ≡ i = omega (arith, within, past) in
        let P : ℕ → Type 0 = λ k. ¬ IsOfKey k → At (places ++ more) k (Some (first + k)) in
        subst P last (λ own. by_none is_key tells.0 own) free)
        (cases_lt i n);
  }
    where
      more : List (Option ℕ)
      more = then_some (not is_key) (first + n) ∷ []

      by_key : (b : Bool) → IsTrue b → At (places ++ then_some (not b) (first + n) ∷ []) n None
      by_key true is = at_end places None n so_far.size
      by_key false is = absurd cc

      by_none : (b : Bool) → (IsTrue b → IsOfKey n) → ¬ IsOfKey n → At (places ++ then_some (not b) (first + n) ∷ []) n (Some (first + n))
      by_none true told free = absurd (free (told refl))
      by_none false told free = at_end places (Some (first + n)) n so_far.size

  module _ (count : ℕ) (places : List (Option ℕ)) (have : HavePlaces IsOfKey count first places) where
    -- what is no part of a key has its place
    pub held_some : (i : ℕ) → i < count → ¬ IsOfKey i → held_at places i ≡ Some (first + i)
    held_some i within free = ap (λ (o : Option (Option ℕ)). unwrap_or o None) (have.others i within free)

    -- and nothing else has
    pub held_only : (i : ℕ) → IsSome (held_at places i) → (i < count) × ¬ IsOfKey i
    held_only i some = ⊎_elim
        (λ (below : i < count). (below, λ key. nothing (have.keys i below key)))
        (λ (past : count ≤ i). let size : length places ≡ count = have.size in
        let out : slice_get places i ≡ None = slice_get_past places i (omega (arith, past, size)) in
        absurd (let none : held_at places i ≡ None = ap (λ (o : Option (Option ℕ)). unwrap_or o None) out in cc))
        (cases_lt i count)
      where
        nothing : At places i None → ⊥
        nothing at = let none : held_at places i ≡ None = ap (λ (o : Option (Option ℕ)). unwrap_or o None) at in cc

-- whether a property that is declared is part of its owner's key
pub prop_tells : (model : EntityModel) (i : ℕ) (declared : Prop) (is_key : Bool) → At model.props i declared
    → IsTrue is_key ↔ Contains (key_props model declared.owner) (record { index = i }) → IsTrue is_key ↔ IsPropOfKey model i
prop_tells model i declared is_key at tells = (
  λ is. (declared, at, tells.0 is),
  λ key.
      (let P : Prop → Type 0 = λ each. Contains (key_props model each.owner) (record { index = i }) in
      tells.1 (subst P (at_once model.props i key.0 declared key.1 at) key.2)),
)

module _ (model : EntityModel) (store : StoreModel) where
  -- the table behind begins where the one before ends
  pub start_next : (t : ℕ) (table : Table) → At store.tables t table → start_of model store.tables (t + 1) ≡ start_of model store.tables t + length table.cols
  start_next t table at =
      let columns : Table → ℕ = λ each. length each.cols in
      let more : sum_by columns (take (t + 1) store.tables) ≡ sum_by columns (take t store.tables) + columns (get_or store.tables t table) =
      sum_by_more columns store.tables t table (slice_get_within store.tables t table at) in
      let last : columns (get_or store.tables t table) ≡ length table.cols = ap columns (get_or_from_slice_get store.tables t table table at) in
      omega (arith, more, last)

  -- before the first table only the properties have places
  pub props_placed : (props : List (Option ℕ)) (count : ℕ) → HavePlaces (IsPropOfKey model) (length model.props) 0 props → count ≡ length props
      → ArePlacesUpTo model store 0 (record { props = props; tables = []; count = count })
  props_placed props count have is = record {
    props = have;
    size = refl;
    count = let same : length model.props ≡ length model.props + 0 = omega arith in is ∙ have.size ∙ same;
    columns = λ t table within at. absurd (omega arith);
  }

  -- one table more
  pub table_placed : (n : ℕ) (table : Table) (before after : Places) → ArePlacesUpTo model store n before → At store.tables n table → IsAdded table before after
      → ArePlacesUpTo model store (n + 1) after
  table_placed n table before after so_far here added = record {
    props = let P : List (Option ℕ) → Type 0 = λ props. HavePlaces (IsPropOfKey model) (length model.props) 0 props in subst P (sym added.props) so_far.props;
    size = let longer = length_push before.tables added.columns in
        let size : length before.tables ≡ n = so_far.size in
        let is : length after.tables ≡ length (before.tables ++ added.columns ∷ []) = ap length added.tables in
        omega (arith, longer, size, is);
    count = let is : after.count ≡ before.count + length table.cols = added.count in
        let count : before.count ≡ start_of model store.tables n = so_far.count in
        is ∙ ap (λ k. k + length table.cols) count ∙ sym (start_next n table here);
    columns = λ t one within at. ⊎_elim
        (λ (below : t < n).
        let old = so_far.columns t one below at in
        let P : List (List (Option ℕ)) → Type 0 = λ tables. At tables t old.0 in
        (old.0, subst P (sym added.tables) (at_left before.tables (added.columns ∷ []) t old.0 old.1), old.2))
        (λ (past : n ≤ t). let last : n ≡ t = omega (arith, within, past) in
        let Q : ℕ → Type 0 = λ k. At store.tables k one → (columns : List (Option ℕ)) × At after.tables k columns
        × HavePlaces (IsColumnOfKey one) (length one.cols) (start_of model store.tables k) columns in
        subst Q last (λ at_n. new one (at_once store.tables n table one here at_n)) at)
        (cases_lt t n);
  }
    where
      new : (one : Table) → table ≡ one → (columns : List (Option ℕ)) × At after.tables n columns
          × HavePlaces (IsColumnOfKey one) (length one.cols) (start_of model store.tables n) columns
      new one same =
          let P : List (List (Option ℕ)) → Type 0 = λ tables. At tables n added.columns in
          let Q : ℕ → Type 0 = λ start. HavePlaces (IsColumnOfKey table) (length table.cols) start added.columns in
          let R : Table → Type 0 = λ each. HavePlaces (IsColumnOfKey each) (length each.cols) (start_of model store.tables n) added.columns in
          (added.columns, subst P (sym added.tables) (at_end before.tables added.columns n so_far.size), subst R same (subst Q so_far.count added.places))
