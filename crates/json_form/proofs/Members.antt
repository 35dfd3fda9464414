-- Objects made member by member: loops over the items that pass a test, and what stands in such an object.
use Rattle.std.proofs.Common.{◌≡◌, ◌≢◌, ◌⊎◌, ⊎_elim, ◌+◌, ℕ, zero, suc, List, [], ◌∷◌, ◌++◌, map, take, filter, cond, Bool, true, false, true≢false, Some, IsSome, slice_get, All, AllPairs, Contains, inl, inr, refl, sym, ap, subst, ◌∙◌, arith}
use Rattle.std.proofs.lemmas.List.{map-append, append-nil}
use Rattle.std.proofs.lemmas.List.Elements.{All-tail, Contains-append_right, filter_more}
use Rattle.std.proofs.lemmas.Option.{slice_get_within, get_or_from_slice_get}
use Rattle.std.proofs.lemmas.Slice.Eq.{bytes_eq-Decides}
use Rattle.std.specs.Str.{bytes_eq}
use Rattle.serde_json.specs.Data.{Data, Members, put}
use Rattle.serde_json.specs.Find.{get_member}
use Rattle.serde_json.proofs.Views.{get_member-put, get_member-put_other}
use Rattle.json_form.specs.Trees.{put_all}
use Rattle.json_form.proofs.Objects.{put_all-append}

-- members put in two runs
pub put_all-both : (start : Members) (first second : List (List ℕ × Data)) → put_all start (first ++ second) ≡ put_all (put_all start first) second
put_all-both start [] second = refl
put_all-both start (entry ∷ first) second = put_all-both (put entry.0 entry.1 start) first second

module _ {X : Type 0} (start : Members) (f : X → List ℕ × Data) (p : X → Bool) (xs : List X) (i : ℕ) (x : X) (here : slice_get xs i ≡ Some x) where
  kept_or_left : filter p (take (i + 1) xs) ≡ filter p (take i xs) ++ cond (p x) (x ∷ []) []
  kept_or_left = filter_more p xs i x (slice_get_within xs i x here)
      ∙ ap (λ y. filter p (take i xs) ++ cond (p y) (y ∷ []) []) (get_or_from_slice_get xs i x x here)

  -- one more turn of a loop that puts a member for each item that passes the test, at one that does
  pub put_all-kept : p x ≡ true → put_all start (map f (filter p (take (i + 1) xs))) ≡ put (f x).0 (f x).1 (put_all start (map f (filter p (take i xs))))
  put_all-kept passes =
      ap (λ kept. put_all start (map f kept)) (kept_or_left ∙ ap (λ b. filter p (take i xs) ++ cond b (x ∷ []) []) passes)
      ∙ ap (put_all start) (map-append f (filter p (take i xs)) (x ∷ [])) ∙ put_all-append start (map f (filter p (take i xs))) (f x)

  -- and at one that doesn't
  pub put_all-left : p x ≡ false → put_all start (map f (filter p (take (i + 1) xs))) ≡ put_all start (map f (filter p (take i xs)))
  put_all-left fails =
      ap (λ kept. put_all start (map f kept))
      (kept_or_left ∙ (ap (λ b. filter p (take i xs) ++ cond b (x ∷ []) []) fails ∙ append-nil (filter p (take i xs))))

-- a name that none of them has keeps its value
pub get_member-put_all_other : (name : List ℕ) (start : Members) (entries : List (List ℕ × Data)) → All (λ other. name ≢ other) (map (λ entry. entry.0) entries)
    → get_member name (put_all start entries) ≡ get_member name start
get_member-put_all_other name start [] apart = refl
get_member-put_all_other name start (entry ∷ entries) apart =
    get_member-put_all_other name (put entry.0 entry.1 start) entries (All-tail (λ other. name ≢ other) entry.0 (map (λ e. e.0) entries) apart)
    ∙ get_member-put_other name entry.0 entry.1 start (apart 0 name (omega arith))

-- where the names are apart, each stands with its value
pub get_member-put_all : (start : Members) (entries : List (List ℕ × Data)) (entry : List ℕ × Data)
    → AllPairs (λ one other. one ≢ other) (map (λ e. e.0) entries) → Contains entries entry
    → get_member entry.0 (put_all start entries) ≡ Some entry.1
get_member-put_all start [] entry apart (k, within, is) = absurd (omega arith)
get_member-put_all start (first ∷ entries) entry apart (zero, within, is) =
    let P : List ℕ × Data → Type 0 = λ e. get_member e.0 (put_all start (first ∷ entries)) ≡ Some e.1 in
    subst P is
    (get_member-put_all_other first.0 (put first.0 first.1 start) entries (λ k d inside. apart 0 (suc k) d (omega arith) (omega arith))
    ∙ get_member-put first.0 first.1 start)
get_member-put_all start (first ∷ entries) entry apart (suc k, within, is) =
    get_member-put_all (put first.0 first.1 start) entries entry (λ i j d below inside. apart (suc i) (suc j) d (omega arith) (omega arith)) (k, omega arith, is)

put_or_before : (name other : List ℕ) (d : Data) (start : Members) (others : List (List ℕ)) (b : Bool) → bytes_eq name other ≡ b
    → IsSome (get_member name (put other d start)) → IsSome (get_member name start) ⊎ Contains (other ∷ others) name
put_or_before name other d start others true same some = inr (0, omega arith, sym ((bytes_eq-Decides name other).0 same))
put_or_before name other d start others false apart some =
    inl (subst IsSome (get_member-put_other name other d start (λ same. absurd (true≢false (sym ((bytes_eq-Decides name other).1 same) ∙ apart)))) some)

-- no other name stands there than before
pub names-put_all : (name : List ℕ) (start : Members) (entries : List (List ℕ × Data)) → IsSome (get_member name (put_all start entries))
    → IsSome (get_member name start) ⊎ Contains (map (λ entry. entry.0) entries) name
names-put_all name start [] some = inl some
names-put_all name start (entry ∷ entries) some =
    ⊎_elim (put_or_before name entry.0 entry.1 start (map (λ e. e.0) entries) (bytes_eq name entry.0) refl)
    (λ has. inr (Contains-append_right (entry.0 ∷ []) (map (λ e. e.0) entries) name has))
    (names-put_all name (put entry.0 entry.1 start) entries some)
