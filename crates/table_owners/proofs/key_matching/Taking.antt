-- One more column is taken, or none is left to take.
use Rattle.std.proofs.Common.{◌≡◌, ◌≢◌, ◌↔◌, suc, ◌<◌, ◌≤◌, ◌-◌, take, drop, get_or, List, [], ◌∷◌, ◌++◌, append-nil, map, length, All, Contains, inl, inr, refl, sym, ap, subst, arith}
use Rattle.std.proofs.lemmas.List.{append_assoc, take_all}
use Rattle.std.proofs.lemmas.List.Elements.{All-nil, All-cons, All-head, All-tail, All-contains, Contains-append_left, Contains-push, Contains-push_cases}
use Rattle.std.proofs.lemmas.List.Kept.{AllPairs-cons}
use Rattle.emc_base.specs.Lists.{AreApart}
use Rattle.emc_base.proofs.Lists.{all_from_members}
use Rattle.edm_types.specs.Types.{PropId, ColId}
use Rattle.edm_types.specs.declared.mapping.Pair.{Pair}
use Rattle.table_owners.specs.key_matching.Completions.{Completes, MayTake}

-- a list of no length has no item
pub no_items : {X : Type 0} (xs : List X) → length xs < 1 → xs ≡ []
no_items [] none = refl
no_items (x ∷ xs) none = absurd (omega (arith, none))

-- a list is its first item and the others
pub first_and_others : {X : Type 0} (xs : List X) (d : X) → 1 ≤ length xs → get_or xs 0 d ∷ take (length xs - 1) (drop 1 xs) ≡ xs
first_and_others [] d some = absurd (omega (arith, some))
first_and_others (x ∷ xs) d some = ap (λ others. x ∷ others) (take_all (suc (length xs) - 1) xs (omega arith))

-- the columns of some pairs
abbrev pub cols_of : List Pair → List ColId
cols_of pairs = map (λ pair. pair.col) pairs

-- the properties of some pairs
abbrev pub props_of : List Pair → List PropId
props_of pairs = map (λ pair. pair.prop) pairs

-- with no property left, each column is taken already
module _ (cols taken : List ColId) (pairs : List Pair) where
  nothing_chosen : (chosen : List Pair) → props_of chosen ≡ [] → All (Contains (taken ++ cols_of chosen)) cols → All (Contains taken) cols
  nothing_chosen [] named all = let P : List ColId → Type 0 = λ xs. All (Contains xs) cols in subst P (append-nil taken) all
  nothing_chosen (q ∷ qs) named all = cc

  pub none_left : All (Contains taken) cols ↔ Completes [] cols taken pairs
  none_left = (
    λ all. record {
      chosen = [];
      among = All-nil (Contains pairs);
      named = refl;
      inside = All-nil (Contains cols);
      free = All-nil (λ col. ¬ Contains taken col);
      once = λ i j d below within. absurd (omega arith);
      all = let P : List ColId → Type 0 = λ xs. All (Contains xs) cols in subst P (sym (append-nil taken)) all;
    },
    λ whole. nothing_chosen whole.chosen whole.named whole.all,
  )

module _ (prop : PropId) (others : List PropId) (cols taken : List ColId) (pairs : List Pair) where
  -- the first property can take the column, and the others can take those that are left then
  abbrev pub Takes : ColId → Type 0
  Takes col = MayTake pairs taken (record { prop = prop; col = col }) × Completes others cols (taken ++ col ∷ []) pairs

  abbrev Free : ColId → Type 0
  Free col = ¬ Contains taken col

  -- the column is taken
  pub one_taken : (col : ColId) → Contains cols col → Takes col → Completes (prop ∷ others) cols taken pairs
  one_taken col inside (may, rest) =
      let left = cols_of rest.chosen in
      let FreeThen : ColId → Type 0 = λ other. ¬ Contains (taken ++ col ∷ []) other in
      let Held : List ColId → Type 0 = λ xs. All (Contains xs) cols in
      record {
        chosen = record { prop = prop; col = col } ∷ rest.chosen;
        among = All-cons (Contains pairs) (record { prop = prop; col = col }) rest.chosen may.0 rest.among;
        named = ap (λ props. prop ∷ props) rest.named;
        inside = All-cons (Contains cols) col left inside rest.inside;
        free = All-cons Free col left may.1 (all_from_members Free left (λ other has before.
            All-contains FreeThen left other rest.free has (Contains-append_left taken (col ∷ []) other before)));
        once = AllPairs-cons (λ x y. x ≢ y) col left (all_from_members (λ other. col ≢ other) left (λ other has same.
            All-contains FreeThen left other rest.free has (let P : ColId → Type 0 = Contains (taken ++ col ∷ []) in subst P same (Contains-push taken col)))) rest.once;
        all = subst Held (append_assoc taken (col ∷ []) left) rest.all;
      }

  same_head : (p : PropId) (ps : List PropId) → p ∷ ps ≡ prop ∷ others → (p ≡ prop) × (ps ≡ others)
  same_head p ps same = (cc, cc)

  -- where the first of the chosen pairs names the property, that property takes its column
  first_takes : (chosen : List Pair) → All (Contains pairs) chosen → props_of chosen ≡ prop ∷ others → All (Contains cols) (cols_of chosen)
      → All Free (cols_of chosen) → AreApart (cols_of chosen) → All (Contains (taken ++ cols_of chosen)) cols → (col : ColId) × Contains cols col × Takes col
  first_takes [] among named inside free once all = cc
  first_takes (q ∷ qs) among named inside free once all =
      let left = cols_of qs in
      let heads = same_head q.prop (props_of qs) named in
      let is : q ≡ record { prop = prop; col = q.col } = λ i. record { prop = heads.0 i; col = q.col } in
      let There : Pair → Type 0 = Contains pairs in
      let FreeThen : ColId → Type 0 = λ other. ¬ Contains (taken ++ q.col ∷ []) other in
      let Held : List ColId → Type 0 = λ xs. All (Contains xs) cols in
      let apart : All (λ other. q.col ≢ other) left = λ k d within. once 0 (suc k) d (omega arith) (omega arith) in
      let rest : Completes others cols (taken ++ q.col ∷ []) pairs = record {
        chosen = qs;
        among = All-tail (Contains pairs) q qs among;
        named = heads.1;
        inside = All-tail (Contains cols) q.col left inside;
        free = all_from_members FreeThen left (λ other has later. elim (Contains-push_cases taken q.col other later) [
          | inl old ↦ All-contains Free left other (All-tail Free q.col left free) has old
          | inr last ↦ All-contains (λ x. q.col ≢ x) left other apart has last
        ]);
        once = λ i j d below within. once (suc i) (suc j) d (omega arith) (omega arith);
        all = subst Held (sym (append_assoc taken (q.col ∷ []) left)) all;
      } in
      (q.col, All-head (Contains cols) q.col left inside, ((subst There is (All-head (Contains pairs) q qs among), All-head Free q.col left free), rest))

  -- and where none of the columns can be taken, nothing completes
  pub none_takes : All (λ col. ¬ Takes col) cols → ¬ Completes (prop ∷ others) cols taken pairs
  none_takes none whole =
      let first = first_takes whole.chosen whole.among whole.named whole.inside whole.free whole.once whole.all in
      All-contains (λ col. ¬ Takes col) cols first.0 none first.1 first.2
