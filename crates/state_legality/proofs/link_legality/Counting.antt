-- Which keys several links have, and how many partners they make.
use Rattle.std.proofs.Common.{◌≡◌, ◌≢◌, ◌↔◌, ⊎_elim, inl, inr, ℕ, ◌+◌, ◌<◌, ◌≤◌, List, length, Bool, true, false, not, ◌&&◌, IsTrue, refl, sym, subst, ◌∙◌, arith}
use Rattle.std.specs.BTreeSet.{BTreeSet, contains, Updates}
use Rattle.std.specs.Cmp.Lexicographic.{slice_cmp}
use Rattle.std.proofs.lemmas.Bool.{both_ways, cases_eq, cases_lt}
use Rattle.std.proofs.lemmas.Option.{slice_get_within}
use Rattle.emc_base.specs.Lists.{At, AtMostOne}
use Rattle.emc_base.specs.Order.{value_cmp}
use Rattle.emc_base.proofs.Lists.{at_once}
use Rattle.round_trip.specs.Words.{Value, Link, Mult, HasCount}
use Rattle.edm_types.specs.declared.model.Mult.TheVariants.{One, ZeroOrOne, Many}
use Rattle.state_legality.specs.declared.link_legality.counts.Partners.{Partners}
use Rattle.state_legality.specs.declared.link_legality.side.Side.{Side}
use Rattle.state_legality.specs.link_legality.Sides.{key_at}
use Rattle.state_legality.specs.link_legality.Counts.{IsTwice, ArePartners, fits}
use Rattle.state_legality.proofs.link_legality.Holding.{HoldsTo, updated}

module _ {X : Type 0} (key : X → List Value) (items : List X) where
  abbrev Keyed : X → List Value → Type 0
  Keyed x q = key x ≡ q

  -- two of the first so many items have the key
  pub record TwiceBefore (n : ℕ) (q : List Value) : Type 0 where
    pub twice : IsTwice (λ x. key x ≡ q) items
    pub within : twice.k < n

  -- the set has just the keys of these
  abbrev pub SeveralTo : BTreeSet (List Value) → ℕ → Type 0
  SeveralTo several n = (q : List Value) → IsTrue (contains (slice_cmp value_cmp) several q) ↔ TwiceBefore n q

  later : (n : ℕ) (q : List Value) → TwiceBefore n q → TwiceBefore (n + 1) q
  later n q some = record { twice = some.twice; within = (let below : some.twice.k < n = some.within in omega arith) }

  pub several_none : (several : BTreeSet (List Value)) → ((q : List Value) → contains (slice_cmp value_cmp) several q ≡ false) → SeveralTo several 0
  several_none several empty = λ q. (
    λ has. absurd (both_ways (contains (slice_cmp value_cmp) several q) (empty q) has),
    λ some. absurd (let below : some.twice.k < 0 = some.within in omega arith),
  )

  module _ (some : BTreeSet (List Value)) (n : ℕ) (x : X) (at : At items n x) (so_far : HoldsTo Keyed items some n) where
    -- one of the two is the last
    is_last : (q : List Value) (some_twice : TwiceBefore (n + 1) q) → some_twice.twice.k ≡ n → (key x ≡ q) × IsTrue (contains (slice_cmp value_cmp) some q)
    is_last q some_twice last =
        let twice = some_twice.twice in
        let same : twice.other ≡ x = at_once items n twice.other x (subst (λ (k : ℕ). At items k twice.other) last twice.second) at in
        let before : twice.j < twice.k = twice.before in (
          subst (λ (y : X). key y ≡ q) same twice.again,
          (so_far q).1 (record { place = twice.j; item = twice.one; before = omega arith; here = twice.first; has = twice.holds }),
        )

    -- an item with the key of one before it
    pub several_again : (several after : BTreeSet (List Value)) (added : List Value) → added ≡ key x → IsTrue (contains (slice_cmp value_cmp) some added)
        → SeveralTo several n → Updates (slice_cmp value_cmp) several after added true → SeveralTo after (n + 1)
    several_again several after added is had twices updates = λ q. (
      λ has. ⊎_elim
          (λ (same : added ≡ q).
          let earlier = (so_far q).0 (subst (λ (k : List Value). IsTrue (contains (slice_cmp value_cmp) some k)) same had) in
          record {
            twice = record { j = earlier.place; k = n; one = earlier.item; other = x; before = earlier.before; first = earlier.here; second = at; holds = earlier.has; again = sym is ∙ same };
            within = omega arith;
          })
          (λ old. later n q ((twices q).0 old))
          ((updated several after added updates q).0 has),
      λ twice. (updated several after added updates q).1 (⊎_elim
          (λ (last : twice.twice.k ≡ n). inl (is ∙ (is_last q twice last).0))
          (λ other.
          let below : twice.twice.k < n + 1 = twice.within in
          inr ((twices q).1 (record { twice = twice.twice; within = omega arith })))
          (cases_eq twice.twice.k n)),
    )

    -- an item with a key of its own
    pub several_new : (several : BTreeSet (List Value)) (added : List Value) → added ≡ key x → contains (slice_cmp value_cmp) some added ≡ false
        → SeveralTo several n → SeveralTo several (n + 1)
    several_new several added is new twices = λ q. (
      λ has. later n q ((twices q).0 has),
      λ twice. ⊎_elim
          (λ (last : twice.twice.k ≡ n).
          let there = is_last q twice last in
          absurd (both_ways (contains (slice_cmp value_cmp) some added) new (subst (λ (k : List Value). IsTrue (contains (slice_cmp value_cmp) some k)) (sym (is ∙ there.0)) there.1)))
          (λ other.
          let below : twice.twice.k < n + 1 = twice.within in
          (twices q).1 (record { twice = twice.twice; within = omega arith }))
          (cases_eq twice.twice.k n),
    )

  pub several_all : (several : BTreeSet (List Value)) (n : ℕ) → length items ≤ n → SeveralTo several n
      → (q : List Value) → IsTrue (contains (slice_cmp value_cmp) several q) ↔ IsTwice (λ x. key x ≡ q) items
  several_all several n end all q = (
    λ has. ((all q).0 has).twice,
    λ twice. (all q).1 (record { twice = twice; within = (let below : twice.k < length items = slice_get_within items twice.k twice.other twice.second in omega arith) }),
  )

-- what holds of two items isn't held by one at most
module _ {X : Type 0} (P : X → Type 0) (items : List X) where
  pub once_not_twice : AtMostOne P items → ¬ IsTwice P items
  once_not_twice once twice =
      let same : twice.j ≡ twice.k = once twice.j twice.k twice.one twice.other twice.first twice.second twice.holds twice.again in
      let before : twice.j < twice.k = twice.before in
      absurd (omega arith)

  -- and the other way
  pub not_twice_once : ¬ IsTwice P items → AtMostOne P items
  not_twice_once never i j x y here there one other = ⊎_elim
      (λ (same : i ≡ j). same)
      (λ (differ : i ≢ j). ⊎_elim
      (λ (below : i < j). absurd (never (record { j = i; k = j; one = x; other = y; before = below; first = here; second = there; holds = one; again = other })))
      (λ (above : j ≤ i). absurd (never (record { j = j; k = i; one = y; other = x; before = omega arith; first = there; second = here; holds = other; again = one })))
      (cases_lt i j))
      (cases_eq i j)

-- the test by two sets says how many partners there are
module _ (side : Side) (links : List Link) (partners : Partners) (are : ArePartners side links partners) (q : List Value) where
  abbrev Joins : Link → Type 0
  Joins link = key_at link side ≡ q

  only : (several : Bool) → contains (slice_cmp value_cmp) partners.several q ≡ several → AtMostOne Joins links → not several ≡ true
  only true is one = absurd (once_not_twice Joins links one ((are.several q).0 is))
  only false is one = refl

  once : (several : Bool) → contains (slice_cmp value_cmp) partners.several q ≡ several → not several ≡ true → AtMostOne Joins links
  once true is fine = absurd cc
  once false is fine = not_twice_once Joins links (λ twice. both_ways (contains (slice_cmp value_cmp) partners.several q) is ((are.several q).1 twice))

  both_true : (some several : Bool) → some ≡ true → not several ≡ true → (some && not several) ≡ true
  both_true true several is fine = fine
  both_true false several is fine = cc

  first_true : (some several : Bool) → (some && not several) ≡ true → (some ≡ true) × (not several ≡ true)
  first_true true several is = (refl, is)
  first_true false several is = cc

  pub count_fits : (mult : Mult) → HasCount mult Joins links → IsTrue (fits mult partners q)
  count_fits One count = both_true (contains (slice_cmp value_cmp) partners.some q) (contains (slice_cmp value_cmp) partners.several q)
      ((are.some q).1 count.0) (only (contains (slice_cmp value_cmp) partners.several q) refl count.1)
  count_fits ZeroOrOne count = only (contains (slice_cmp value_cmp) partners.several q) refl count
  count_fits Many count = refl

  pub fits_count : (mult : Mult) → IsTrue (fits mult partners q) → HasCount mult Joins links
  fits_count One fine =
      let parts = first_true (contains (slice_cmp value_cmp) partners.some q) (contains (slice_cmp value_cmp) partners.several q) fine in
      ((are.some q).0 parts.0, once (contains (slice_cmp value_cmp) partners.several q) refl parts.1)
  fits_count ZeroOrOne fine = once (contains (slice_cmp value_cmp) partners.several q) refl fine
  fits_count Many fine = tt
