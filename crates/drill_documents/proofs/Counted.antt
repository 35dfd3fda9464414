-- How many objects there are, and whom a manager is.
use Rattle.std.proofs.Common.{◌≡◌, ◌<◌, ◌≤◌, ◌++◌, ◌∷◌, ◌+◌, ◌/◌, ◌%◌, ◌==◌, ℕ, zero, suc, List, [], Bool, Option, None, Some, true, false, arith, ap, sym, refl, subst, ◌∙◌, cond, filter, length, if◌then◌else◌, nat_lt, rules}
use Rattle.std.proofs.lemmas.List.{append-nil, length-append, length-map}
use Rattle.std.proofs.lemmas.List.Elements.{filter-append}
use Rattle.std.proofs.lemmas.List.FromFn.{length-range_with_len}
use Rattle.json_form.specs.TreeParts.{items_in}
use Rattle.json_form.specs.Trees.{array_of}
use Rattle.serde_json.specs.Data.{Data}
use Rattle.drill_documents.specs.Counts.{change_count}
use Rattle.drill_documents.specs.Draws.{draw}
use Rattle.drill_documents.specs.Lists.{changes, documents, ids, last_employee, people, renamings}
use Rattle.drill_documents.specs.Nearest.{IsNearestIfAny, NoEmployeeBetween}
use Rattle.drill_documents.specs.Objects.{document, first_document_gone, hired, is_employee, person, renamed}
use Rattle.drill_documents.proofs.Runs.{ids_more, last_employee_more}

pub people_counted : (seed count : ℕ) → length (people seed count) ≡ count
people_counted seed count = length-map (ids count) (λ i. person i (draw seed i)) ∙ length-range_with_len 1 count

pub documents_counted : (seed count : ℕ) → length (documents seed count) ≡ count
documents_counted seed count = length-map (ids count) (λ i. document i (draw seed i)) ∙ length-range_with_len 1 count

-- the items of an array are the trees that it was made of
pub items_of_array : (trees : List Data) → items_in (array_of trees) ≡ trees
items_of_array [] = refl
items_of_array (tree ∷ trees) = ap (λ rest. tree ∷ rest) (items_of_array trees)

abbrev is_even : ℕ → Bool
is_even i = i % 2 == 0

one_or_none : (n : ℕ) (b : Bool) → is_even (n + 1) ≡ b → length (filter is_even (ids n)) ≡ n / 2
    → length (filter is_even (ids n) ++ cond b ((n + 1) ∷ []) []) ≡ (n + 1) / 2
one_or_none n true is half =
    let even : (n + 1) % 2 ≡ 0 = search (rules, is) in
    length-append (filter is_even (ids n)) ((n + 1) ∷ []) ∙ omega (arith, half, even)
one_or_none n false is half =
    let odd : (n + 1) % 2 ≡ 1 = search (rules, is) in
    ap length (append-nil (filter is_even (ids n))) ∙ omega (arith, half, odd)

-- half of the Ids are even, rounded down
pub even_counted : (n : ℕ) → length (filter is_even (ids n)) ≡ n / 2
even_counted zero = refl
even_counted (suc n) =
    let next : suc n ≡ n + 1 = omega arith in
    let P : ℕ → Type 0 = λ k. length (filter is_even (ids k)) ≡ k / 2 in
    subst P (sym next)
    (ap (λ run. length (filter is_even run)) (ids_more n)
    ∙ ap length (filter-append is_even (ids n) ((n + 1) ∷ []))
    ∙ one_or_none n (is_even (n + 1)) refl (even_counted n))

last_counted : (seed count : ℕ) (b : Bool) → length (renamings seed count ++ hired (count + 1) ∷ (if b then [] else first_document_gone ∷ []))
    ≡ length (renamings seed count) + 1 + (if b then 0 else 1)
last_counted seed count true = length-append (renamings seed count) (hired (count + 1) ∷ []) ∙ omega arith
last_counted seed count false = length-append (renamings seed count) (hired (count + 1) ∷ first_document_gone ∷ []) ∙ omega arith

pub changes_counted : (seed count : ℕ) → length (changes seed count) ≡ change_count count
changes_counted seed count =
    last_counted seed count (count == 0)
    ∙ ap (λ k. k + 1 + (if count == 0 then 0 else 1)) (length-map (filter is_even (ids count)) (λ i. renamed i (draw seed i)) ∙ even_counted count)

-- a further person is nobody's manager yet, or everybody's
nearest_by : (seed n : ℕ) (b : Bool) → is_employee (draw seed (n + 1)) ≡ b → IsNearestIfAny seed n (last_employee seed n)
    → IsNearestIfAny seed (n + 1) (if b then Some (n + 1) else last_employee seed n)
nearest_by seed n true is before = record { positive = omega arith; within = omega arith; employed = is; behind = λ k low high. absurd (omega arith) }
nearest_by seed n false is before = kept (last_employee seed n) before
  where
    none_more : (low : ℕ) → NoEmployeeBetween seed low n → NoEmployeeBetween seed low (n + 1)
    none_more low none k above within = by (nat_lt n k) refl
      where
        by : (b : Bool) → nat_lt n k ≡ b → is_employee (draw seed k) ≡ false
        by true behind = let high_enough : n < k = search (rules, behind) in let here : n + 1 ≡ k = omega (arith, high_enough, within) in ap (λ i. is_employee (draw seed i)) (sym here) ∙ is
        by false inside = let low_enough : k ≤ n = search (rules, inside) in none k above low_enough

    kept : (last : Option ℕ) → IsNearestIfAny seed n last → IsNearestIfAny seed (n + 1) last
    kept None none = none_more 0 none
    kept (Some manager) it = record { positive = it.positive; within = omega (arith, it.within); employed = it.employed; behind = none_more manager it.behind }

-- the last Employee is the nearest
pub last_is_nearest : (seed i : ℕ) → IsNearestIfAny seed i (last_employee seed i)
last_is_nearest seed zero = λ k low high. absurd (omega arith)
last_is_nearest seed (suc n) =
    let next : suc n ≡ n + 1 = omega arith in
    let P : ℕ → Type 0 = λ k. IsNearestIfAny seed k (last_employee seed k) in
    let Q : Option ℕ → Type 0 = IsNearestIfAny seed (n + 1) in
    subst P (sym next) (subst Q (sym (last_employee_more seed n)) (nearest_by seed n (is_employee (draw seed (n + 1))) refl (last_is_nearest seed n)))
