-- The rows of tables whose key no row of others has.
use Rattle.std.proofs.Common.{◌≡◌, ◌≢◌, ◌⊎◌, ◌<◌, ◌≤◌, ◌∙◌, ⊎_elim, inl, inr, ℕ, List, [], map, filter, not, length, Any, Bool, true, false, true≢false}
use Rattle.std.proofs.Common.{Contains, Decides, unwrap_or, refl, sym, ap, subst}
use Rattle.std.specs.List.{enumerate_from, list_any}
use Rattle.std.proofs.lemmas.Bool.{cases_lt}
use Rattle.std.proofs.lemmas.List.{length-map}
use Rattle.std.proofs.lemmas.List.FromFn.{length-enumerate_from}
use Rattle.emc_base.proofs.FoundItems.{member_of, some_member}
use Rattle.emc_base.proofs.Joined.{at_map}
use Rattle.emc_base.proofs.Lists.{item_at}
use Rattle.emc_base.proofs.Mapped.{contains_filter}
use Rattle.emc_base.proofs.Numbered.{filter_contains, numbered_at}
use Rattle.edm_types.proofs.Lookups.{rows_beyond}
use Rattle.round_trip.specs.Words.{Row, StoreModel, TableId, Tables, rows_in}
use Rattle.schema_laws.proofs.state_demand.lists.Lists.{Decides-any}
use Rattle.schema_laws.proofs.state_demand.writings.Selecting.{Decides-key}
use Rattle.schema_laws.specs.state_demand.Selecting.{same_key}
use Rattle.row_changes.specs.Changes.{key_in}

module _ (store : StoreModel) (others : Tables) where
  -- some other row has the key
  abbrev has_its_key : TableId → Row → Bool
  has_its_key t row = list_any (λ one. same_key (key_in store t one) (key_in store t row)) (rows_in others t)

  abbrev left_in : ℕ × List Row → List Row
  left_in entry = filter (λ row. not (has_its_key (record { index = entry.0 }) row)) entry.1

  -- the rows that are left
  abbrev pub left_of : Tables → Tables
  left_of tables = map left_in (enumerate_from 0 tables)

  has_key-decides : (t : TableId) (row : Row) → Decides (has_its_key t row) (Any (λ one. key_in store t one ≡ key_in store t row) (rows_in others t))
  has_key-decides t row = Decides-any (λ (one : Row). same_key (key_in store t one) (key_in store t row))
      (λ (one : Row). key_in store t one ≡ key_in store t row)
      (λ one. Decides-key (key_in store t one) (key_in store t row)) (rows_in others t)

  module _ (tables : Tables) where
    long : length (left_of tables) ≡ length tables
    long = length-map (enumerate_from 0 tables) left_in ∙ length-enumerate_from 0 tables

    left_rows : (t : TableId) → rows_in (left_of tables) t ≡ filter (λ row. not (has_its_key t row)) (rows_in tables t)
    left_rows t = ⊎_elim
        (λ (inside : t.index < length tables). (
        let found = item_at tables t.index inside in
        ap (λ one. unwrap_or one []) (at_map left_in (enumerate_from 0 tables) t.index (t.index, found.0) (numbered_at tables t.index found.0 found.1))
        ∙ ap (λ one. filter (λ row. not (has_its_key t row)) (unwrap_or one [])) (sym found.1)))
        (λ (past : length tables ≤ t.index).
        rows_beyond (left_of tables) t (subst (λ (n : ℕ). n ≤ t.index) (sym long) past)
        ∙ ap (filter (λ row. not (has_its_key t row))) (sym (rows_beyond tables t past)))
        (cases_lt t.index (length tables))

    -- a row has the key of another, or it is left
    pub left_or_not : (t : TableId) (row : Row) → Contains (rows_in tables t) row
        → ((one : Row) × Contains (rows_in others t) one × (key_in store t one ≡ key_in store t row)) ⊎ Contains (rows_in (left_of tables) t) row
    left_or_not t row has = by (has_its_key t row) refl
      where
        by : (b : Bool) → has_its_key t row ≡ b
            → ((one : Row) × Contains (rows_in others t) one × (key_in store t one ≡ key_in store t row)) ⊎ Contains (rows_in (left_of tables) t) row
        by true is = inl (member_of (λ (one : Row). key_in store t one ≡ key_in store t row) (rows_in others t) ((has_key-decides t row).0 is))
        by false is = inr (subst (λ (list : List Row). Contains list row) (sym (left_rows t))
            (contains_filter (λ (one : Row). not (has_its_key t one)) (rows_in tables t) row has (ap not is)))

    is_left : (t : TableId) (row : Row) → Contains (rows_in (left_of tables) t) row → Contains (rows_in tables t) row × (not (has_its_key t row) ≡ true)
    is_left t row has = filter_contains (λ (one : Row). not (has_its_key t one)) (rows_in tables t) row
        (subst (λ (list : List Row). Contains list row) (left_rows t) has)

    -- what is left was there
    pub left_within : (t : TableId) (row : Row) → Contains (rows_in (left_of tables) t) row → Contains (rows_in tables t) row
    left_within t row has = (is_left t row has).0

    -- and has the key of no other
    pub left_apart : (t : TableId) (row : Row) → Contains (rows_in (left_of tables) t) row → (one : Row) → Contains (rows_in others t) one
        → key_in store t one ≢ key_in store t row
    left_apart t row has one there same =
        let told : has_its_key t row ≡ true = (has_key-decides t row).1
        (some_member (λ (some : Row). key_in store t some ≡ key_in store t row) (rows_in others t) one there same) in
        true≢false (sym (is_left t row has).1 ∙ ap not told)
