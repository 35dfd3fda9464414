-- Lists of which an item is put elsewhere, and states with other lists.
use Rattle.std.proofs.Common.{◌≡◌, ◌≢◌, ◌<◌, ◌≤◌, ◌+◌, ℕ, zero, suc, take, zero-add, arith, List, [], ◌∷◌, ◌++◌, map, reverse, length, slice_get, get_or, Option, None, Some, unwrap_or, refl, sym, ap, subst, ◌∙◌}
use Rattle.std.proofs.Math.ListN.{set}
use Rattle.emc_base.specs.Lists.{At}
use Rattle.emc_base.proofs.Loops.{at_enumerated, take_item}
use Rattle.emc_base.proofs.Members.{at_push_last}
use Rattle.emc_base.proofs.Turns.{found_more}
use Rattle.std.proofs.lemmas.List.FromFn.{get_or-enumerate_from, length-enumerate_from}
use Rattle.std.specs.Borrow.{Bor}
use Rattle.std.specs.Global.{Vec}
use Rattle.std.specs.List.{cons_option, enumerate_from, filter_map}
use Rattle.std.proofs.lemmas.List.{length-take-le, append_assoc, append-nil, ext_get_or, get_or-map, length-map, map-set, set-get_or, map-append, reverse-append, get_or-set_other, get_or-set_same}
use Rattle.std.proofs.lemmas.Option.{slice_get-get_or, slice_get_past, slice_get_within, unwrap_or-slice_get}

module _ {X : Type 0} (lists : List (List X)) (place : ℕ) (now : List X) where
  -- what is put at a place, and what stands at others
  pub put_here : place < length lists → unwrap_or (slice_get (set lists place now) place) [] ≡ now
  put_here within = unwrap_or-slice_get (set lists place now) place [] ∙ get_or-set_same lists place now [] within

  pub put_elsewhere : (other : ℕ) → other ≢ place → unwrap_or (slice_get (set lists place now) other) [] ≡ unwrap_or (slice_get lists other) []
  put_elsewhere other apart = unwrap_or-slice_get (set lists place now) other [] ∙ get_or-set_other lists place other now [] apart
      ∙ sym (unwrap_or-slice_get lists other [])

-- past the lists is nothing
pub nothing_past : {X : Type 0} (lists : List (List X)) (place : ℕ) → length lists ≤ place → unwrap_or (slice_get lists place) [] ≡ []
nothing_past lists place past = ap (λ found. unwrap_or found []) (slice_get_past lists place past)

-- lists are the same that are so at each place
pub same_lists : {X : Type 0} (lists others : List (List X)) → length lists ≡ length others
    → ((i : ℕ) → i < length lists → unwrap_or (slice_get lists i) [] ≡ unwrap_or (slice_get others i) []) → lists ≡ others
same_lists lists others size each = ext_get_or [] lists others size
    (λ i within. sym (unwrap_or-slice_get lists i []) ∙ each i within ∙ unwrap_or-slice_get others i [])

-- the last of some lent items stands first when they are turned round
pub one_turned : {X : Type 0} (items : List X) (rest : List (Bor X)) (x : Bor X)
    → (items ++ x.now ∷ []) ++ reverse (map (λ item. item.now) rest) ≡ items ++ reverse (map (λ item. item.now) (rest ++ x ∷ []))
one_turned items rest x =
    append_assoc items (x.now ∷ []) (reverse (map (λ item. item.now) rest))
    ∙ ap (λ list. items ++ list) (sym (reverse-append (map (λ item. item.now) rest) (x.now ∷ [])))
    ∙ ap (λ list. items ++ reverse list) (sym (map-append (λ item. item.now) rest (x ∷ [])))

-- lists of lent items
abbrev pub shown_lists : {X : Type 0} → List (Vec (Bor X)) → List (List X)
shown_lists lists = map (λ list. map (λ item. item.now) list.items) lists

module _ {X : Type 0} (lists : List (Vec (Bor X))) (place : ℕ) where
  -- where nothing is added, each stays
  pub lent_kept : (found : Option X) → None ≡ found → place < length lists
      → shown_lists lists ≡ set (shown_lists lists) place (unwrap_or (slice_get (shown_lists lists) place) [] ++ cons_option found [])
  lent_kept found none within =
      sym (set-get_or (shown_lists lists) place [])
      ∙ ap (set (shown_lists lists) place) (sym (unwrap_or-slice_get (shown_lists lists) place [])
      ∙ sym (append-nil (unwrap_or (slice_get (shown_lists lists) place) [])))
      ∙ ap (λ (one : Option X). set (shown_lists lists) place (unwrap_or (slice_get (shown_lists lists) place) [] ++ cons_option one [])) none

  -- one item more
  pub lent_more : (found : Option X) (was now : Vec (Bor X)) (item : Bor X) → Some item.now ≡ found → place < length lists → was ≡ get_or lists place was
      → now.items ≡ was.items ++ item ∷ []
      → shown_lists (set lists place now) ≡ set (shown_lists lists) place (unwrap_or (slice_get (shown_lists lists) place) [] ++ cons_option found [])
  lent_more found was now item one within here more =
      map-set (λ (list : Vec (Bor X)). map (λ x. x.now) list.items) lists place now
      ∙ ap (set (shown_lists lists) place)
      (ap (map (λ x. x.now)) more ∙ map-append (λ x. x.now) was.items (item ∷ [])
      ∙ ap (λ list. list ++ item.now ∷ [])
      (ap (λ (list : Vec (Bor X)). map (λ x. x.now) list.items) here
      ∙ sym (get_or-map (λ (list : Vec (Bor X)). map (λ x. x.now) list.items) lists place was (map (λ x. x.now) was.items) within)
      ∙ same_default (shown_lists lists) place (map (λ x. x.now) was.items) (subst (λ n. place < n)
      (sym (length-map lists (λ list. map (λ x. x.now) list.items))) within)))
      ∙ ap (λ (some : Option X). set (shown_lists lists) place (unwrap_or (slice_get (shown_lists lists) place) [] ++ cons_option some [])) one
    where
      same_default : (all : List (List X)) (i : ℕ) (d : List X) → i < length all → get_or all i d ≡ unwrap_or (slice_get all i) []
      same_default all i d inside = ap (λ found. unwrap_or found []) (sym (slice_get-get_or all i d inside))

-- what is found of one item more stands behind what stands there
pub found_behind : {X Y : Type 0} (h : X → Option Y) (items : List X) (i : ℕ) (item : X) (first made : List Y) (found : Option Y)
    → made ≡ first ++ filter_map h (take i items) → At items i item → found ≡ h item → made ++ cons_option found [] ≡ first ++ filter_map h (take (i + 1) items)
found_behind h items i item first made found is here told =
    ap (λ list. list ++ cons_option found []) is ∙ append_assoc first (filter_map h (take i items)) (cons_option found [])
    ∙ ap (λ list. first ++ list) (found_more h items i item (filter_map h (take i items)) found refl here told)

module _ {X Y : Type 0} (f : ℕ × X → Y) (lists : List X) where
  -- one numbered item more is mapped
  pub numbered_more : (i : ℕ) (list : X) (made : List Y) (item : Y) → made ≡ map f (take i (enumerate_from 0 lists)) → i < length lists → list ≡ get_or lists i list
      → item ≡ f (i, list) → made ++ item ∷ [] ≡ map f (take (i + 1) (enumerate_from 0 lists))
  numbered_more i list made item is within here one =
      (λ k. is k ++ one k ∷ [])
      ∙ sym (map-append f (take i (enumerate_from 0 lists)) ((i, list) ∷ []))
      ∙ ap (map f) (sym (take_item (enumerate_from 0 lists) i (i, list) (at_enumerated lists i list within here)))

  -- what stands at a place of what numbered items are mapped to
  pub numbered_at : (i : ℕ) (d : X) (e : Y) → i < length lists → unwrap_or (slice_get (map f (enumerate_from 0 lists)) i) e ≡ f (i, unwrap_or (slice_get lists i) d)
  numbered_at i d e within =
      let numbered : i < length (enumerate_from 0 lists) = subst (λ n. i < n) (sym (length-enumerate_from 0 lists)) within in
      unwrap_or-slice_get (map f (enumerate_from 0 lists)) i e
      ∙ get_or-map f (enumerate_from 0 lists) i (0, d) e numbered
      ∙ ap f (get_or-enumerate_from 0 lists i (0, d) within ∙ (λ k. (zero-add i k, sym (unwrap_or-slice_get lists i d) k)))

le_from_lt : (i n : ℕ) → i < n → i ≤ n
le_from_lt i n below = omega (arith, below)

le_refl : (i : ℕ) → i ≤ i
le_refl i = omega arith

module _ {X : Type 0} where
  -- the last of some lists, and those before it
  pub last_list : (lists : List (List X)) (list : List X) (i : ℕ) → i ≡ length lists → unwrap_or (slice_get (lists ++ list ∷ []) i) [] ≡ list
  last_list lists list i is = ap (λ k. unwrap_or (slice_get (lists ++ list ∷ []) k) []) is ∙ ap (λ found. unwrap_or found []) (at_push_last lists list)

  pub list_before : (lists : List (List X)) (list : List X) (i : ℕ) → i ≢ length lists
      → unwrap_or (slice_get (lists ++ list ∷ []) i) [] ≡ unwrap_or (slice_get lists i) []
  list_before [] list zero apart = absurd (apart refl)
  list_before [] list (suc i) apart = refl
  list_before (first ∷ lists) list zero apart = refl
  list_before (first ∷ lists) list (suc i) apart = list_before lists list i (λ same. apart (ap suc same))

  -- the lists so far, and one more
  pub list_now : (lists : List (List X)) (list : List X) (i : ℕ) → At lists i list → unwrap_or (slice_get (take (i + 1) lists) i) [] ≡ list
  list_now lists list i here =
      ap (λ all. unwrap_or (slice_get all i) []) (take_item lists i list here)
      ∙ last_list (take i lists) list i (sym (length-take-le i lists (le_from_lt i (length lists) (slice_get_within lists i list here))))

  pub list_then : (lists : List (List X)) (list : List X) (i j : ℕ) → At lists i list → j ≢ i
      → unwrap_or (slice_get (take (i + 1) lists) j) [] ≡ unwrap_or (slice_get (take i lists) j) []
  list_then lists list i j here apart =
      ap (λ all. unwrap_or (slice_get all j) []) (take_item lists i list here)
      ∙ list_before (take i lists) list j (λ same. apart (same ∙ length-take-le i lists (le_from_lt i (length lists) (slice_get_within lists i list here))))

  pub list_not_yet : (lists : List (List X)) (i : ℕ) → i ≤ length lists → unwrap_or (slice_get (take i lists) i) [] ≡ []
  list_not_yet lists i within = nothing_past (take i lists) i (subst (λ n. n ≤ i) (sym (length-take-le i lists within)) (le_refl i))
