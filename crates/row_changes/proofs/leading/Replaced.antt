-- The rows of a table after a change: those at other keys, and what it brings.
use Rattle.std.proofs.Common.{◌≡◌, ◌≢◌, ◌⊎◌, ⊎_elim, inl, inr, List, [], ◌∷◌, ◌++◌, map, filter, AllPairs, Contains, Bool, true, false, not, if◌then◌else◌, get_or, Decides, refl, sym, ap, subst, ◌∙◌, arith}
use Rattle.std.proofs.lemmas.Bool.{cond_both}
use Rattle.std.proofs.lemmas.Bool.Decides.{not_from_Decides}
use Rattle.std.proofs.lemmas.List.Kept.{AllPairs-filter}
use Rattle.std.proofs.lemmas.List.Elements.{Contains-append_cases, Contains-append_left, Contains-append_right}
use Rattle.emc_base.proofs.Mapped.{contains_filter, contains_map}
use Rattle.emc_base.proofs.Members.{contains_head, contains_nil, contains_cons_cases}
use Rattle.emc_base.proofs.Numbered.{all_pairs_map, filter_contains, map_contains}
use Rattle.emc_base.proofs.facts.Pairs.{pairs_append}
use Rattle.round_trip.specs.Words.{Row, StoreModel, TableId, Tables, Value, rows_in}
use Rattle.schema_laws.specs.state_demand.Selecting.{same_key}
use Rattle.schema_laws.proofs.state_demand.writings.Selecting.{Decides-key}
use Rattle.row_changes.specs.declared.change.RowChange.{RowChange}
use Rattle.row_changes.specs.declared.change.RowChange.TheVariants.{Insert, Update, Delete}
use Rattle.row_changes.specs.Changes.{FindsItsRow, key_in, key_of_change, rows_after, table_of}
use Rattle.row_changes.proofs.leading.Primary.{AreApartBy, either}

-- the row that a change brings
abbrev pub Brings : RowChange → Row → Type 0
Brings (Insert t row) one = one ≡ row
Brings (Update t row) one = one ≡ row
Brings (Delete t key) one = ⊥

module _ (store : StoreModel) (t : TableId) (key : List Value) (IsNew : Row → Type 0) where
  -- rows at other keys stay, and what is new comes at this key
  pub record AreReplaced (xs ys : List Row) : Type 0 where
    pub only : (row : Row) → Contains ys row → (Contains xs row × (key_in store t row ≢ key)) ⊎ IsNew row
    pub keeps : (row : Row) → Contains xs row → key_in store t row ≢ key → Contains ys row
    pub brings : (row : Row) → IsNew row → Contains ys row
    pub apart : AllPairs (λ row other. key_in store t row ≢ key_in store t other) ys

module _ (store : StoreModel) (t : TableId) (xs : List Row) (apart : AllPairs (λ row other. key_in store t row ≢ key_in store t other) xs) where
  abbrev key_of : Row → List Value
  key_of row = key_in store t row

  abbrev Apart : Row → Row → Type 0
  Apart row other = key_of row ≢ key_of other

  -- an insert, where no row has its key
  inserted : (row : Row) → ((old : Row) → Contains xs old → key_of old ≢ key_of row) → AreReplaced store t (key_of row) (λ one. one ≡ row) xs (xs ++ row ∷ [])
  inserted row none = record {
    only = λ one has. ⊎_elim
        (λ (old : Contains xs one). inl (old, none one old))
        (λ (last : Contains (row ∷ []) one). ⊎_elim (λ (is : one ≡ row). inr is) (λ (never : Contains [] one). absurd (contains_nil one never)) (contains_cons_cases row [] one last))
        (Contains-append_cases xs (row ∷ []) one has);
    keeps = λ one has other. Contains-append_left xs (row ∷ []) one has;
    brings = λ one is. Contains-append_right xs (row ∷ []) one (subst (Contains (row ∷ [])) (sym is) (contains_head row []));
    apart = pairs_append Apart xs (row ∷ []) apart (λ i j d below within. absurd (omega (arith, below, within)))
        (λ one other has last. ⊎_elim (λ (is : other ≡ row). subst (λ (it : Row). key_of one ≢ key_of it) (sym is) (none one has))
        (λ (never : Contains [] other). absurd (contains_nil other never)) (contains_cons_cases row [] other last));
  }

  -- an update, where one has it
  module _ (row : Row) where
    abbrev put : Row → Row
    put old = if same_key (key_of old) (key_of row) then row else old

    put_same : (old : Row) → key_of old ≡ key_of row → put old ≡ row
    put_same old same = cond_both (same_key (key_of old) (key_of row)) row old (λ found. found ≡ row)
        (λ told. refl)
        (λ told. absurd (not_from_Decides (same_key (key_of old) (key_of row)) (Decides-key (key_of old) (key_of row)) told same))

    put_other : (old : Row) → key_of old ≢ key_of row → put old ≡ old
    put_other old other = cond_both (same_key (key_of old) (key_of row)) row old (λ found. found ≡ old)
        (λ told. absurd (other ((Decides-key (key_of old) (key_of row)).0 told)))
        (λ told. refl)

    put_key : (old : Row) → key_of (put old) ≡ key_of old
    put_key old = ⊎_elim
        (λ (same : key_of old ≡ key_of row). ap key_of (put_same old same) ∙ sym same)
        (λ (other : key_of old ≢ key_of row). ap key_of (put_other old other))
        (either (same_key (key_of old) (key_of row)) (Decides-key (key_of old) (key_of row)))

    updated : (old : Row) → Contains xs old → key_of old ≡ key_of row → AreReplaced store t (key_of row) (λ one. one ≡ row) xs (map put xs)
    updated old has is = record {
      only = λ one among.
          (let found = map_contains put xs one among in
          ⊎_elim
          (λ (same : key_of found.0 ≡ key_of row). inr (sym found.2 ∙ put_same found.0 same))
          (λ (other : key_of found.0 ≢ key_of row).
          let itself : found.0 ≡ one = sym (put_other found.0 other) ∙ found.2 in
          inl (subst (Contains xs) itself found.1, subst (λ (it : Row). key_of it ≢ key_of row) itself other))
          (either (same_key (key_of found.0) (key_of row)) (Decides-key (key_of found.0) (key_of row))));
      keeps = λ one among other. subst (Contains (map put xs)) (put_other one other) (contains_map put xs one among);
      brings = λ one is_row. subst (Contains (map put xs)) (put_same old is ∙ sym is_row) (contains_map put xs old has);
      apart = all_pairs_map Apart put xs (λ i j d below within same. apart i j d below within (sym (put_key (get_or xs i d)) ∙ same ∙ put_key (get_or xs j d)));
    }

  -- a delete
  deleted : (key : List Value) → AreReplaced store t key (λ one. ⊥) xs (filter (λ old. not (same_key (key_of old) key)) xs)
  deleted key =
      let stays : Row → Bool = λ old. not (same_key (key_of old) key) in
      record {
        only = λ one has.
            (let kept = filter_contains stays xs one has in
            inl (kept.0, λ same. absurd (never (same_key (key_of one) key) kept.1 ((Decides-key (key_of one) key).1 same))));
        keeps = λ one has other. contains_filter stays xs one has (other_told one key other);
        brings = λ one never. absurd never;
        apart = AllPairs-filter Apart stays xs apart;
      }
    where
      never : (b : Bool) → not b ≡ true → b ≡ true → ⊥
      never true kept same = absurd (let nothing : false ≡ true = kept in cc)
      never false kept same = absurd (let nothing : false ≡ true = same in cc)

      other_told : (one : Row) (key : List Value) → key_of one ≢ key → not (same_key (key_of one) key) ≡ true
      other_told one key other = ap not (told (same_key (key_of one) key) (Decides-key (key_of one) key) other)
        where
          told : {P : Type 0} (b : Bool) → Decides b P → ¬ P → b ≡ false
          told true decides other = absurd (other (decides.0 refl))
          told false decides other = refl

-- so it is with each change that finds its row
pub rows_replaced : (store : StoreModel) (tables : Tables) (change : RowChange) → AreApartBy store tables (table_of change) → FindsItsRow store tables change
    → AreReplaced store (table_of change) (key_of_change store change) (Brings change) (rows_in tables (table_of change)) (rows_after store change (rows_in tables (table_of change)))
rows_replaced store tables (Insert t row) apart finds = inserted store t (rows_in tables t) apart row (λ old has same. finds old (has, same))
rows_replaced store tables (Update t row) apart finds = updated store t (rows_in tables t) apart row finds.0 finds.1.0 finds.1.1
rows_replaced store tables (Delete t key) apart finds = deleted store t (rows_in tables t) apart key
