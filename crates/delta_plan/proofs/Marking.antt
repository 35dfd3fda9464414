-- One item more, of a list that is gone over.
use Rattle.std.proofs.Common.{◌≡◌, ◌∙◌, ◌+◌, ◌<◌, ◌≤◌, append-nil, append_assoc, subst, sym, ap, ℕ, List, [], ◌∷◌, ◌++◌, map, take, flat_map, filter, Bool, length, get_or, Some}
use Rattle.std.specs.List.{enumerate_from}
use Rattle.std.proofs.lemmas.List.Concat.{flat_map-append}
use Rattle.std.proofs.lemmas.List.{map-append}
use Rattle.std.proofs.lemmas.List.Elements.{filter-append}
use Rattle.std.proofs.lemmas.Option.{slice_get-get_or}
use Rattle.emc_base.specs.Lists.{At}
use Rattle.emc_base.proofs.Loops.{take_item, take-enumerated}
use Rattle.emc_base.proofs.Numbered.{numbered_at}

-- what stands at a place that a loop has reached
pub reached : {X : Type 0} (xs : List X) (i : ℕ) (x : X) → i < length xs → x ≡ get_or xs i x → At xs i x
reached xs i x inside is = slice_get-get_or xs i x inside ∙ ap Some (sym is)

-- of mapped items those that pass
pub next_kept : {X Y : Type 0} (p : Y → Bool) (f : X → Y) (xs : List X) (i : ℕ) (x : X) → At xs i x
    → filter p (map f (take i xs)) ++ filter p (f x ∷ []) ≡ filter p (map f (take (i + 1) xs))
next_kept p f xs i x here =
    sym (filter-append p (map f (take i xs)) (f x ∷ [])) ∙ ap (filter p) (sym (map-append f (take i xs) (x ∷ [])) ∙ ap (map f) (sym (take_item xs i x here)))

-- the lists that items give
pub next_lists : {X Y : Type 0} (f : X → List Y) (xs : List X) (i : ℕ) (x : X) → At xs i x → flat_map f (take i xs) ++ f x ≡ flat_map f (take (i + 1) xs)
next_lists f xs i x here =
    ap (λ own. flat_map f (take i xs) ++ own) (sym (append-nil (f x))) ∙ sym (flat_map-append f (take i xs) (x ∷ [])) ∙ ap (flat_map f) (sym (take_item xs i x here))

-- of lists of items those that pass
pub next_flat : {X Y : Type 0} (p : Y → Bool) (f : ℕ × X → List Y) (xs : List X) (i : ℕ) (x : X) → At xs i x
    → filter p (flat_map f (take i (enumerate_from 0 xs))) ++ filter p (f (i, x)) ≡ filter p (flat_map f (take (i + 1) (enumerate_from 0 xs)))
next_flat p f xs i x here =
    sym (filter-append p (flat_map f (take i (enumerate_from 0 xs))) (f (i, x)))
    ∙ ap (filter p) (next_lists f (enumerate_from 0 xs) i (i, x) (numbered_at xs i x here))

-- the same behind others
pub next_after : {X Y : Type 0} (p : Y → Bool) (f : X → Y) (xs : List X) (i : ℕ) (x : X) → At xs i x → (first before now : List Y)
    → before ≡ first ++ filter p (map f (take i xs)) → now ≡ before ++ filter p (f x ∷ []) → now ≡ first ++ filter p (map f (take (i + 1) xs))
next_after p f xs i x here first before now was is =
    let own = filter p (f x ∷ []) in
    let so_far = filter p (map f (take i xs)) in
    is ∙ ap (λ list. list ++ own) was ∙ append_assoc first so_far own ∙ ap (λ list. first ++ list) (next_kept p f xs i x here)

module _ {X Y : Type 0} (p : Y → Bool) (f : ℕ × List X → List Y) (lists items : List (List X)) (is : items ≡ lists) (i : ℕ) where
  -- of numbered lists, with one more
  pub next_numbered : (xs own : List X) (number : ℕ) (before now : List Y) → At items i xs → number ≡ i → own ≡ xs
      → before ≡ filter p (flat_map f (take i (enumerate_from 0 lists))) → now ≡ before ++ filter p (f (number, own))
      → now ≡ filter p (flat_map f (take (i + 1) (enumerate_from 0 lists)))
  next_numbered xs own number before now here numbered shown was step =
      let Here : List (List X) → Type 0 = λ all. At all i xs in
      let so_far = filter p (flat_map f (take i (enumerate_from 0 lists))) in
      step ∙ ap (λ list. list ++ filter p (f (number, own))) was ∙ (λ k. so_far ++ filter p (f (numbered k, shown k)))
      ∙ next_flat p f lists i xs (subst Here is here)

  -- after the last
  pub numbered_all : (before : List Y) → length items ≤ i → before ≡ filter p (flat_map f (take i (enumerate_from 0 lists)))
      → before ≡ filter p (flat_map f (enumerate_from 0 lists))
  numbered_all before end was =
      let End : List (List X) → Type 0 = λ all. length all ≤ i in
      was ∙ ap (λ all. filter p (flat_map f all)) (take-enumerated lists i (subst End is end))

module _ {X Y : Type 0} (f : ℕ × X → Y) (list items : List X) (is : items ≡ list) (i : ℕ) where
  -- of numbered items, with one more
  pub next_mapped : (x : X) (before now : List Y) → At items i x → before ≡ map f (take i (enumerate_from 0 list)) → now ≡ before ++ f (i, x) ∷ []
      → now ≡ map f (take (i + 1) (enumerate_from 0 list))
  next_mapped x before now here was step =
      let Here : List X → Type 0 = λ all. At all i x in
      step ∙ ap (λ all. all ++ f (i, x) ∷ []) was ∙ sym (map-append f (take i (enumerate_from 0 list)) ((i, x) ∷ []))
      ∙ ap (map f) (sym (take_item (enumerate_from 0 list) i (i, x) (numbered_at list i x (subst Here is here))))

  -- after the last
  pub mapped_all : (before : List Y) → length items ≤ i → before ≡ map f (take i (enumerate_from 0 list)) → before ≡ map f (enumerate_from 0 list)
  mapped_all before end was =
      let End : List X → Type 0 = λ all. length all ≤ i in
      was ∙ ap (map f) (take-enumerated list i (subst End is end))
