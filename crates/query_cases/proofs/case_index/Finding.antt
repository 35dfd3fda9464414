-- What a map from codes to places finds.
use Rattle.std.proofs.Common.{◌≡◌, ◌<◌, ◌⊎◌, ⊎_elim, inl, inr, ℕ, List, [], ◌∷◌, length, map, filter, cond, All, AllPairs, Contains, Bool, true, false, Option, Some, None, refl, sym, ap, subst, ◌∙◌, arith}
use Rattle.std.specs.BTreeMap.{BTreeMap, get_by}
use Rattle.std.specs.Cmp.Lexicographic.{nat_list_cmp_total, slice_cmp}
use Rattle.std.specs.Global.{Vec}
use Rattle.std.specs.List.{enumerate_from}
use Rattle.std.specs.Option.{option_map_or}
use Rattle.std.specs.Ordering.{is_eq, nat_cmp}
use Rattle.std.specs.declared.cmp.Ordering.{Ordering}
use Rattle.std.proofs.lemmas.Cmp.{tied_itself}
use Rattle.std.proofs.lemmas.List.Elements.{All-nil}
use Rattle.std.proofs.lemmas.Map.Entries.{place_from_lookup}
use Rattle.std.proofs.lemmas.Map.Lookups.{exact_bytes}
use Rattle.std.proofs.lemmas.Option.{slice_get_within}
use Rattle.emc_base.specs.Lists.{At, places_of}
use Rattle.emc_base.proofs.Lists.{all_from_members}
use Rattle.emc_base.proofs.Mapped.{contains_enumerated, contains_map}
use Rattle.emc_base.proofs.Numbered.{at_places, map_contains, places_contain, places_rise}
use Rattle.emc_base.proofs.facts.Orderings.{is_equal}
use Rattle.groupings.specs.item_groups.Groups.{items_at, items_of}
use Rattle.case_laws.specs.declared.region_cases.case.Case.{Case}
use Rattle.query_cases.specs.declared.case_index.telling.Column.{Column}
use Rattle.query_cases.specs.case_index.Codes.{case_code}
use Rattle.query_cases.specs.case_index.Found.{AreCoded, numbered_code, places_at, shown_code}

-- the order of codes
abbrev pub code_cmp : Vec ℕ → Vec ℕ → Ordering
code_cmp one two = slice_cmp nat_cmp one.items two.items

-- images of items that pass are those of the items whose images pass
module _ {X Y Z : Type 0} (g : Y → Z) (test : Y → Bool) (h : X → Y) where
  one_kept : (b : Bool) (x : X) (xs : List X) (ys : List Y) → map g ys ≡ map (λ x. g (h x)) xs
      → map g (cond b (h x ∷ ys) ys) ≡ map (λ x. g (h x)) (cond b (x ∷ xs) xs)
  one_kept true x xs ys same = ap (λ zs. g (h x) ∷ zs) same
  one_kept false x xs ys same = same

  kept_images : (xs : List X) → map g (filter test (map h xs)) ≡ map (λ x. g (h x)) (filter (λ x. test (h x)) xs)
  kept_images [] = refl
  kept_images (x ∷ xs) = one_kept (test (h x)) x (filter (λ x. test (h x)) xs) (filter test (map h xs)) (kept_images xs)

module _ (telling : BTreeMap ℕ (Vec Column)) (cases : List Case) where
  -- whether a case has a code
  abbrev has_code : List ℕ → Case → Bool
  has_code code case = is_eq (slice_cmp nat_cmp (case_code telling case) code)

  -- the places of the cases with a code
  abbrev pub coded_places : List ℕ → List ℕ
  coded_places code = places_of (has_code code) cases

  module _ (coded : List (Vec ℕ × ℕ)) (are : AreCoded telling cases coded) where
    -- the items of a code are these places
    items_placed : (key : Vec ℕ) → items_of code_cmp coded key ≡ coded_places key.items
    items_placed key =
        let Of : List ℕ × ℕ → Bool = λ one. is_eq (slice_cmp nat_cmp one.0 key.items) in
        sym (kept_images (λ (one : List ℕ × ℕ). one.1) Of shown_code coded)
        ∙ ap (λ (ones : List (List ℕ × ℕ)). map (λ (one : List ℕ × ℕ). one.1) (filter Of ones)) are
        ∙ kept_images (λ (one : List ℕ × ℕ). one.1) Of (numbered_code telling) (enumerate_from 0 cases)

    module _ (by_code : BTreeMap (Vec ℕ) (Vec ℕ)) (grouped : (key : Vec ℕ) → items_at code_cmp by_code key ≡ items_of code_cmp coded key) where
      -- what is found by a code that a key has
      by_key : (key : Vec ℕ) → places_at by_code key.items ≡ coded_places key.items
      by_key key = grouped key ∙ items_placed key

      -- nothing is found by a code, or the places of the cases with it
      found : (code : List ℕ) → (places_at by_code code ≡ []) ⊎ (places_at by_code code ≡ coded_places code)
      found code = by (get_by compare by_code) refl
        where
          compare : Vec ℕ → Ordering
          compare key = slice_cmp nat_cmp code key.items

          by : (list : Option (Vec ℕ)) → get_by compare by_code ≡ list → (places_at by_code code ≡ []) ⊎ (places_at by_code code ≡ coded_places code)
          by None is = inl (ap (λ (list : Option (Vec ℕ)). option_map_or (λ (places : Vec ℕ). places.items) list []) is)
          by (Some list) is =
              let place = place_from_lookup (λ key. is_eq (compare key)) by_code.entries list is in
              let same : code ≡ place.1.items = exact_bytes code place.1.items (is_equal (compare place.1) place.3) in
              let P : List ℕ → Type 0 = λ one. places_at by_code one ≡ coded_places one in
              inr (subst P (sym same) (by_key place.1))

      -- places of cases, in rising order
      pub found_within : (code : List ℕ) → All (λ i. i < length cases) (places_at by_code code)
      found_within code = ⊎_elim
          (λ (none : places_at by_code code ≡ []). subst (All (λ i. i < length cases)) (sym none) (All-nil (λ i. i < length cases)))
          (λ (some : places_at by_code code ≡ coded_places code). subst (All (λ i. i < length cases)) (sym some)
          (all_from_members (λ i. i < length cases) (coded_places code)
          (λ i has. (let one = at_places (has_code code) cases i has in slice_get_within cases i one.0 one.1))))
          (found code)

      pub found_rising : (code : List ℕ) → AllPairs (λ i j. i < j) (places_at by_code code)
      found_rising code = ⊎_elim
          (λ (none : places_at by_code code ≡ []). subst (AllPairs (λ i j. i < j)) (sym none) (λ i j d below within. absurd (omega arith)))
          (λ (some : places_at by_code code ≡ coded_places code). subst (AllPairs (λ i j. i < j)) (sym some) (places_rise (has_code code) cases))
          (found code)

      -- among them that of each case with the code
      pub found_all : (i : ℕ) (case : Case) → At cases i case → Contains (places_at by_code (case_code telling case)) i
      found_all i case here =
          let code = case_code telling case in
          let stands : Contains (map shown_code coded) (code, i) = subst (λ (ones : List (List ℕ × ℕ)). Contains ones (code, i)) (sym are)
          (contains_map (numbered_code telling) (enumerate_from 0 cases) (i, case) (contains_enumerated cases i case here)) in
          let one = map_contains shown_code coded (code, i) stands in
          let same : one.0.0.items ≡ code = ap (λ (p : List ℕ × ℕ). p.0) one.2 in
          let P : List ℕ → Type 0 = λ list. places_at by_code list ≡ coded_places list in
          let is : places_at by_code code ≡ coded_places code = subst P same (by_key one.0.0) in
          subst (λ list. Contains list i) (sym is)
          (places_contain (has_code code) cases i case here (ap is_eq (tied_itself nat_list_cmp_total code)))
