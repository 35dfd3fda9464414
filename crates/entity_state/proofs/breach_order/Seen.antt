-- A set that grows with the items of a list, until one is like one before it.
use Rattle.std.proofs.Common.{◌≡◌, ⊎_elim, ℕ, ◌+◌, ◌<◌, ◌≤◌, List, length, get_or, Bool, true, false, cond, IsTrue, Option, Some, None, refl, sym, ap, subst, ◌∙◌, arith}
use Rattle.std.specs.Cmp.{Equal-is, IsTotalOrder, tied_itself}
use Rattle.std.specs.FinMap.{IsAntisymmetric}
use Rattle.std.specs.Ordering.{eq_by_cmp, is_eq}
use Rattle.std.specs.declared.cmp.Ordering.{Ordering}
use Rattle.std.proofs.lemmas.Bool.{both_ways, cases_eq}
use Rattle.std.proofs.lemmas.Option.{slice_get-get_or}
use Rattle.emc_base.specs.Lists.{At}
use Rattle.emc_base.proofs.Lists.{at_once}
use Rattle.entity_state.specs.breach_order.Repeats.{IsRepeat, IsFirstRepeat}

module _ {X : Type 0} (eq : X → X → Bool) (items : List X) where
  abbrev pub Like : X → X → Type 0
  Like one other = IsTrue (eq one other)

  -- an item before the place is like q
  pub record IsBefore (n : ℕ) (q : X) : Type 0 where
    pub place : ℕ
    pub item : X
    pub before : place < n
    pub here : At items place item
    pub like : Like item q

  -- just what is like an item before the place was seen, and none before the place is a repeat
  pub record HasSeen (seen : X → Bool) (n : ℕ) : Type 0 where
    pub known : (q : X) → IsTrue (seen q) → IsBefore n q
    pub found : (q : X) → IsBefore n q → IsTrue (seen q)
    pub apart : (place : ℕ) → IsRepeat Like items place → n ≤ place

  -- nothing yet
  pub seen_none : (seen : X → Bool) → ((q : X) → seen q ≡ false) → HasSeen seen 0
  seen_none seen empty = record {
    known = λ q is. absurd (both_ways (seen q) (empty q) is);
    found = λ q some. absurd (let below : some.place < 0 = some.before in omega arith);
    apart = λ place repeat. omega arith;
  }

  -- an item that was seen is the first repeat
  pub seen_hit : (seen : X → Bool) (n : ℕ) (x : X) → At items n x → HasSeen seen n → seen x ≡ true → IsFirstRepeat Like items (Some n)
  seen_hit seen n x here has hit =
      let known = has.known x hit in
      (record { earlier = known.place; before = known.before; item = x; other = known.item; here = here; there = known.here; like = known.like }, has.apart)

  -- one item more, which wasn't seen
  pub seen_more : (seen after : X → Bool) (n : ℕ) (x : X) → At items n x → HasSeen seen n → seen x ≡ false → ((q : X) → after q ≡ cond (eq x q) true (seen q)) → HasSeen after (n + 1)
  seen_more seen after n x here has miss updates = record { known = known; found = found; apart = apart }
    where
      by : (q : X) (like old : Bool) → eq x q ≡ like → (old ≡ true → IsBefore n q) → cond like true old ≡ true → IsBefore (n + 1) q
      by q true old is earlier has_it = record { place = n; item = x; before = omega arith; here = here; like = is }
      by q false old is earlier has_it =
          let some = earlier has_it in
          record { place = some.place; item = some.item; before = (let below : some.place < n = some.before in omega arith); here = some.here; like = some.like }

      known : (q : X) → IsTrue (after q) → IsBefore (n + 1) q
      known q is = by q (eq x q) (seen q) refl (has.known q) (sym (updates q) ∙ is)

      kept : (like old : Bool) → old ≡ true → cond like true old ≡ true
      kept true old is = refl
      kept false old is = is

      added : (like old : Bool) → like ≡ true → cond like true old ≡ true
      added true old is = refl
      added false old is = cc

      found : (q : X) → IsBefore (n + 1) q → IsTrue (after q)
      found q some = updates q ∙ ⊎_elim
          (λ (same : some.place ≡ n).
          let is : some.item ≡ x = at_once items n some.item x (subst (λ (k : ℕ). At items k some.item) same some.here) here in
          added (eq x q) (seen q) (subst (λ (y : X). eq y q ≡ true) is some.like))
          (λ other.
          let below : some.place < n + 1 = some.before in
          kept (eq x q) (seen q) (has.found q (record { place = some.place; item = some.item; before = omega arith; here = some.here; like = some.like })))
          (cases_eq some.place n)

      here_not : (place : ℕ) → place ≡ n → IsRepeat Like items place → ⊥
      here_not place same repeat =
          let is : repeat.item ≡ x = at_once items n repeat.item x (subst (λ (k : ℕ). At items k repeat.item) same repeat.here) here in
          let below : repeat.earlier < place = repeat.before in
          both_ways (seen x) miss (has.found x (record {
            place = repeat.earlier;
            item = repeat.other;
            before = omega arith;
            here = repeat.there;
            like = subst (λ (y : X). eq repeat.other y ≡ true) is repeat.like;
          }))

      apart : (place : ℕ) → IsRepeat Like items place → n + 1 ≤ place
      apart place repeat = ⊎_elim
          (λ (same : place ≡ n). absurd (here_not place same repeat))
          (λ other. let late : n ≤ place = has.apart place repeat in omega arith)
          (cases_eq place n)

  -- after the last item
  pub seen_all : (seen : X → Bool) (n : ℕ) → length items ≤ n → HasSeen seen n → IsFirstRepeat Like items None
  seen_all seen n end has = λ i j d before within like.
      let inside : i < length items = omega arith in
      let late : n ≤ j = has.apart j (record {
        earlier = i;
        before = before;
        item = get_or items j d;
        other = get_or items i d;
        here = slice_get-get_or items j d within;
        there = slice_get-get_or items i d inside;
        like = like;
      }) in
      absurd (omega arith)

-- the first repeat by one word is that by any equal one
pub same_repeat : {X : Type 0} (R S : X → X → Type 0) → ((x y : X) → R x y → S x y) → ((x y : X) → S x y → R x y) → (items : List X) (first : Option ℕ)
    → IsFirstRepeat R items first → IsFirstRepeat S items first
same_repeat R S to back items None apart = λ i j d before within like. apart i j d before within (back (get_or items i d) (get_or items j d) like)
same_repeat R S to back items (Some place) first = (
  record {
    earlier = first.0.earlier;
    before = first.0.before;
    item = first.0.item;
    other = first.0.other;
    here = first.0.here;
    there = first.0.there;
    like = to first.0.other first.0.item first.0.like;
  },
  λ other repeat. first.1 other (record {
    earlier = repeat.earlier;
    before = repeat.before;
    item = repeat.item;
    other = repeat.other;
    here = repeat.here;
    there = repeat.there;
    like = back repeat.other repeat.item repeat.like;
  }),
)

-- where the order tells different ones apart, what it ties is equal
pub equal_repeat : {X : Type 0} (cmp : X → X → Ordering) → IsTotalOrder cmp → IsAntisymmetric cmp → (items : List X) (first : Option ℕ)
    → IsFirstRepeat (λ one other. IsTrue (eq_by_cmp cmp one other)) items first → IsFirstRepeat (λ one other. one ≡ other) items first
equal_repeat cmp total apart = same_repeat (λ one other. IsTrue (eq_by_cmp cmp one other)) (λ one other. one ≡ other)
    (λ x y tied. apart x y ((Equal-is (cmp x y)).0 tied)) (λ x y same. ap is_eq (ap (cmp x) (sym same) ∙ tied_itself total x))
