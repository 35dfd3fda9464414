-- Rows whose keys are apart, and those that repeat one.
use Rattle.std.proofs.Common.{◌≡◌, ◌≢◌, ⊎_elim, ℕ, ◌+◌, ◌<◌, ◌≤◌, List, length, get_or, AllPairs, subst, arith}
use Rattle.std.proofs.lemmas.Bool.{cases_eq}
use Rattle.std.proofs.lemmas.Option.{get_or_from_slice_get, slice_get-get_or, slice_get_within}
use Rattle.emc_base.specs.Lists.{At}
use Rattle.emc_base.proofs.Lists.{at_once}
use Rattle.entity_state.specs.breach_order.Repeats.{IsRepeat}

module _ {X Y : Type 0} (f : X → Y) (items : List X) where
  abbrev pub Alike : X → X → Type 0
  Alike one other = f one ≡ f other

  -- where nothing repeats, all are apart
  pub apart_all : ((place : ℕ) → ¬ IsRepeat Alike items place) → AllPairs (λ one other. f one ≢ f other) items
  apart_all never = λ i j d before within same.
      let inside : i < length items = omega arith in
      never j (record {
        earlier = i;
        before = before;
        item = get_or items j d;
        other = get_or items i d;
        here = slice_get-get_or items j d within;
        there = slice_get-get_or items i d inside;
        like = same;
      })

  -- and where all are apart nothing does
  pub apart_none : AllPairs (λ one other. f one ≢ f other) items → (place : ℕ) → ¬ IsRepeat Alike items place
  apart_none apart place repeat =
      let within : place < length items = slice_get_within items place repeat.item repeat.here in
      let P : X → Type 0 = λ x. f x ≢ f (get_or items place repeat.item) in
      let Q : X → Type 0 = λ x. f repeat.other ≢ f x in
      subst Q (get_or_from_slice_get items place repeat.item repeat.item repeat.here)
      (subst P (get_or_from_slice_get items repeat.earlier repeat.other repeat.item repeat.there) (apart repeat.earlier place repeat.item repeat.before within)) repeat.like

  -- none of the first so many items repeats
  abbrev pub ApartTo : ℕ → Type 0
  ApartTo n = (place : ℕ) → place < n → ¬ IsRepeat Alike items place

  pub apart_start : ApartTo 0
  apart_start place before = absurd (omega arith)

  pub apart_more : (n : ℕ) → ¬ IsRepeat Alike items n → ApartTo n → ApartTo (n + 1)
  apart_more n not passed place before repeat = ⊎_elim
      (λ (same : place ≡ n). let P : ℕ → Type 0 = λ k. IsRepeat Alike items k in not (subst P same repeat))
      (λ (other : place ≢ n). passed place (omega arith) repeat)
      (cases_eq place n)

  pub apart_end : (n : ℕ) → length items ≤ n → ApartTo n → AllPairs (λ one other. f one ≢ f other) items
  apart_end n end passed = apart_all (λ place repeat.
      let within : place < length items = slice_get_within items place repeat.item repeat.here in
      passed place (omega arith) repeat)

  -- no item before the place is alike, as far as was looked
  abbrev pub OtherTo : ℕ → ℕ → Type 0
  OtherTo i n = (item : X) → At items i item → (k : ℕ) (other : X) → At items k other → k < n → f other ≢ f item

  pub other_start : (i : ℕ) → OtherTo i 0
  other_start i item here k other there before = absurd (omega arith)

  pub other_more : (i n : ℕ) (item other : X) → At items i item → At items n other → f other ≢ f item → OtherTo i n → OtherTo i (n + 1)
  other_more i n item other here there differ passed x at_i k y at_k before = ⊎_elim
      (λ (same : k ≡ n).
      let at_n : At items n y = subst (λ (m : ℕ). At items m y) same at_k in
      let is_y : other ≡ y = at_once items n other y there at_n in
      let is_x : item ≡ x = at_once items i item x here at_i in
      let P : X → Type 0 = λ z. f z ≢ f x in
      let Q : X → Type 0 = λ z. f other ≢ f z in
      subst P is_y (subst Q is_x differ))
      (λ (apart : k ≢ n). passed x at_i k y at_k (omega arith))
      (cases_eq k n)

  pub other_end : (i n : ℕ) → i ≤ n → OtherTo i n → ¬ IsRepeat Alike items i
  other_end i n end passed repeat =
      let before : repeat.earlier < i = repeat.before in
      passed repeat.item repeat.here repeat.earlier repeat.other repeat.there (omega arith) repeat.like

  pub repeat_here : (i k : ℕ) (item other : X) → At items i item → At items k other → k < i → f other ≡ f item → IsRepeat Alike items i
  repeat_here i k item other here there before same = record { earlier = k; before = before; item = item; other = other; here = here; there = there; like = same }
