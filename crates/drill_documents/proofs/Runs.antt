-- Draws and lists by one Id more.
use Rattle.std.proofs.Common.{◌≡◌, ◌<◌, ◌++◌, ◌∷◌, ◌+◌, ◌-◌, ℕ, zero, suc, List, [], Bool, Option, None, Some, arith, ap, sym, refl, ◌∙◌, cond, filter, filter_map, map, option_map, option_to_list, true, false, if◌then◌else◌}
use Rattle.std.proofs.lemmas.List.{append-nil, map-id, map-append}
use Rattle.std.proofs.lemmas.List.Elements.{filter-append, filter_map-append}
use Rattle.std.proofs.lemmas.List.FromFn.{map-range_with_len_more}
use Rattle.std.specs.List.{cons_option, last_or}
use Rattle.drill_documents.specs.Draws.{draw, draw_after}
use Rattle.drill_documents.specs.Objects.{document, is_employee, link, person}
use Rattle.drill_documents.specs.Lists.{documents, ids, last_employee, link_of, links, people, seeks_manager}

-- a draw is below the modulus
pub draw_small : (seed i : ℕ) → draw seed i < 65537
draw_small seed zero = omega arith
draw_small seed (suc i) = omega arith

pub draw_more : (seed i : ℕ) → draw seed (i + 1) ≡ draw_after (draw seed i)
draw_more seed i = let next : i + 1 ≡ suc i = omega arith in ap (draw seed) next

-- one Id more
pub ids_more : (n : ℕ) → ids (n + 1) ≡ ids n ++ (n + 1) ∷ []
ids_more n =
    sym (map-id (ids (n + 1)))
    ∙ map-range_with_len_more (λ k. k) 1 n (n + 1) (omega arith)
    ∙ ap (λ run. run ++ (n + 1) ∷ []) (map-id (ids n))

pub people_more : (seed n : ℕ) → people seed (n + 1) ≡ people seed n ++ person (n + 1) (draw seed (n + 1)) ∷ []
people_more seed n = map-range_with_len_more (λ i. person i (draw seed i)) 1 n (n + 1) (omega arith)

pub documents_more : (seed n : ℕ) → documents seed (n + 1) ≡ documents seed n ++ document (n + 1) (draw seed (n + 1)) ∷ []
documents_more seed n = map-range_with_len_more (λ i. document i (draw seed i)) 1 n (n + 1) (omega arith)

-- what is made of the Ids that pass a test, by one Id more
module _ {X : Type 0} (f : ℕ → X) (p : ℕ → Bool) (n : ℕ) where
  kept_or_left : map f (filter p (ids (n + 1))) ≡ map f (filter p (ids n)) ++ map f (cond (p (n + 1)) ((n + 1) ∷ []) [])
  kept_or_left =
      ap (λ run. map f (filter p run)) (ids_more n)
      ∙ ap (map f) (filter-append p (ids n) ((n + 1) ∷ []))
      ∙ map-append f (filter p (ids n)) (cond (p (n + 1)) ((n + 1) ∷ []) [])

  -- of one that passes
  pub kept_more : p (n + 1) ≡ true → map f (filter p (ids (n + 1))) ≡ map f (filter p (ids n)) ++ f (n + 1) ∷ []
  kept_more passes = kept_or_left ∙ ap (λ b. map f (filter p (ids n)) ++ map f (cond b ((n + 1) ∷ []) [])) passes

  -- and of one that doesn't
  pub left_more : p (n + 1) ≡ false → map f (filter p (ids (n + 1))) ≡ map f (filter p (ids n))
  left_more fails = kept_or_left ∙ (ap (λ b. map f (filter p (ids n)) ++ map f (cond b ((n + 1) ∷ []) [])) fails ∙ append-nil (map f (filter p (ids n))))

-- the last of a list with an item behind it
last_of_push : {X : Type 0} (start : Option X) (xs : List X) (x : X) → last_or start (xs ++ x ∷ []) ≡ Some x
last_of_push start [] x = refl
last_of_push start (y ∷ xs) x = last_of_push (Some y) xs x

last_by : (seed n : ℕ) (b : Bool) → is_employee (draw seed (n + 1)) ≡ b
    → last_or None (filter (λ k. is_employee (draw seed k)) (ids n) ++ cond b ((n + 1) ∷ []) []) ≡ (if b then Some (n + 1) else last_employee seed n)
last_by seed n true is = last_of_push None (filter (λ k. is_employee (draw seed k)) (ids n)) (n + 1)
last_by seed n false is = ap (last_or None) (append-nil (filter (λ k. is_employee (draw seed k)) (ids n)))

-- the last Employee, once a further person has come
pub last_employee_more : (seed n : ℕ) → last_employee seed (n + 1) ≡ (if is_employee (draw seed (n + 1)) then Some (n + 1) else last_employee seed n)
last_employee_more seed n =
    let test : ℕ → Bool = λ k. is_employee (draw seed k) in
    ap (λ run. last_or None (filter test run)) (ids_more n)
    ∙ ap (last_or None) (filter-append test (ids n) ((n + 1) ∷ []))
    ∙ last_by seed n (test (n + 1)) refl

option_as_list : {X : Type 0} (x : Option X) → cons_option x [] ≡ option_to_list x
option_as_list None = refl
option_as_list (Some x) = refl

-- the links, once a further person has come
pub links_more : (seed n : ℕ) → links seed (n + 1) ≡ links seed n
    ++ option_to_list (if seeks_manager (draw seed (n + 1)) then option_map (link (n + 1)) (last_employee seed n) else None)
links_more seed n =
    let before : n + 1 - 1 ≡ n = omega arith in
    ap (filter_map (link_of seed)) (ids_more n)
    ∙ filter_map-append (link_of seed) (ids n) ((n + 1) ∷ [])
    ∙ ap (λ more. links seed n ++ more) (option_as_list (link_of seed (n + 1))
    ∙ ap (λ k. option_to_list (if seeks_manager (draw seed (n + 1)) then option_map (link (n + 1)) (last_employee seed k) else None)) before)
