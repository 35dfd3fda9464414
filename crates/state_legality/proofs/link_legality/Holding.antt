-- A set that grows with what the items of a list have.
use Rattle.std.proofs.Common.{◌≡◌, ◌↔◌, ◌⊎◌, ⊎_elim, inl, inr, ℕ, ◌+◌, ◌<◌, ◌≤◌, List, length, Some, Bool, true, false, cond, IsTrue, refl, sym, ap, subst, ◌∙◌, arith}
use Rattle.std.specs.BTreeSet.{BTreeSet, contains, Updates}
use Rattle.std.specs.Cmp.Lexicographic.{slice_cmp}
use Rattle.std.specs.Ordering.{eq_by_cmp}
use Rattle.std.proofs.lemmas.Bool.{both_ways, cases_eq}
use Rattle.std.proofs.lemmas.Option.{get_or_from_slice_get, slice_get-get_or, slice_get_within}
use Rattle.emc_base.specs.Lists.{At}
use Rattle.emc_base.specs.Order.{value_cmp}
use Rattle.emc_base.proofs.Lists.{at_once}
use Rattle.emc_base.proofs.facts.Keys.{tied_keys}
use Rattle.emc_base.proofs.facts.Tests.{by_new, by_old}
use Rattle.round_trip.specs.Words.{Value}
use Rattle.state_legality.specs.link_legality.Ends.{HoldsJust}

-- a set has one list of values more
pub updated : (held after : BTreeSet (List Value)) (added : List Value) → Updates (slice_cmp value_cmp) held after added true → (values : List Value)
    → IsTrue (contains (slice_cmp value_cmp) after values) ↔ ((added ≡ values) ⊎ IsTrue (contains (slice_cmp value_cmp) held values))
updated held after added updates values = (
  λ has. by (eq_by_cmp (slice_cmp value_cmp) added values) (contains (slice_cmp value_cmp) held values) ((tied_keys added values).0) (sym (updates.0 values) ∙ has),
  λ either. updates.0 values ∙ ⊎_elim
      (λ same. by_new (eq_by_cmp (slice_cmp value_cmp) added values) (contains (slice_cmp value_cmp) held values) ((tied_keys added values).1 same))
      (λ had. by_old (eq_by_cmp (slice_cmp value_cmp) added values) (contains (slice_cmp value_cmp) held values) had)
      either,
)
  where
    by : (tied had : Bool) → (tied ≡ true → added ≡ values) → cond tied true had ≡ true → (added ≡ values) ⊎ (had ≡ true)
    by true had same has = inl (same refl)
    by false had same has = inr has

module _ {X : Type 0} (Has : X → List Value → Type 0) (items : List X) where
  -- one of the first so many items has the values
  pub record HasBefore (n : ℕ) (values : List Value) : Type 0 where
    pub place : ℕ
    pub item : X
    pub before : place < n
    pub here : At items place item
    pub has : Has item values

  -- the set has just what these have
  abbrev pub HoldsTo : BTreeSet (List Value) → ℕ → Type 0
  HoldsTo held n = (values : List Value) → IsTrue (contains (slice_cmp value_cmp) held values) ↔ HasBefore n values

  later : (n : ℕ) (values : List Value) → HasBefore n values → HasBefore (n + 1) values
  later n values some = record {
    place = some.place;
    item = some.item;
    before = (let below : some.place < n = some.before in omega arith);
    here = some.here;
    has = some.has;
  }

  last_or : (n : ℕ) (item : X) (values : List Value) → At items n item → HasBefore (n + 1) values → Has item values ⊎ HasBefore n values
  last_or n item values at some = ⊎_elim
      (λ (last : some.place ≡ n).
      let same : some.item ≡ item = at_once items n some.item item (subst (λ (k : ℕ). At items k some.item) last some.here) at in
      inl (subst (λ (x : X). Has x values) same some.has))
      (λ other.
      let below : some.place < n + 1 = some.before in
      inr (record { place = some.place; item = some.item; before = omega arith; here = some.here; has = some.has }))
      (cases_eq some.place n)

  pub holds_none : (held : BTreeSet (List Value)) → ((values : List Value) → contains (slice_cmp value_cmp) held values ≡ false) → HoldsTo held 0
  holds_none held empty = λ values. (
    λ has. absurd (both_ways (contains (slice_cmp value_cmp) held values) (empty values) has),
    λ some. absurd (let below : some.place < 0 = some.before in omega arith),
  )

  -- what one item has is added
  pub holds_more : (held after : BTreeSet (List Value)) (n : ℕ) (item : X) (added : List Value) → At items n item → HoldsTo held n
      → ((values : List Value) → Has item values ↔ (added ≡ values)) → Updates (slice_cmp value_cmp) held after added true → HoldsTo after (n + 1)
  holds_more held after n item added at so_far is updates = λ values. (
    λ has. ⊎_elim
        (λ (same : added ≡ values). record { place = n; item = item; before = omega arith; here = at; has = (is values).1 same })
        (λ had. later n values ((so_far values).0 had))
        ((updated held after added updates values).0 has),
    λ some. (updated held after added updates values).1 (⊎_elim (λ new. inl ((is values).0 new)) (λ old. inr ((so_far values).1 old)) (last_or n item values at some)),
  )

  -- what the item has is there
  pub holds_still : (held : BTreeSet (List Value)) (n : ℕ) (item : X) → At items n item → HoldsTo held n
      → ((values : List Value) → Has item values → IsTrue (contains (slice_cmp value_cmp) held values)) → HoldsTo held (n + 1)
  holds_still held n item at so_far there = λ values. (
    λ has. later n values ((so_far values).0 has),
    λ some. ⊎_elim (there values) ((so_far values).1) (last_or n item values at some),
  )

  pub holds_all : (held : BTreeSet (List Value)) (n : ℕ) → length items ≤ n → HoldsTo held n → HoldsJust Has items held
  holds_all held n end all = λ values. (
    λ has.
        (let some = (all values).0 has in
        (some.place, some.item, slice_get_within items some.place some.item some.here, get_or_from_slice_get items some.place some.item some.item some.here, some.has)),
    λ some. (all values).1 (let within : some.0 < length items = some.2 in record {
      place = some.0;
      item = some.1;
      before = omega arith;
      here = slice_get-get_or items some.0 some.1 some.2 ∙ ap Some some.3;
      has = some.4;
    }),
  )
