-- The least of what is found: what it is for one search more, for an equal one, and item by item.
use Rattle.std.proofs.Common.{◌≡◌, ◌≢◌, ◌⊎◌, ⊎_elim, inl, inr, ℕ, ◌+◌, ◌<◌, ◌≤◌, List, length, Option, Some, None, Result, IfOk, Bool, true, false, cond, refl, sym, ap, subst, ◌∙◌, arith}
use Rattle.std.specs.declared.cmp.Ordering.{Ordering}
use Rattle.std.specs.declared.cmp.Ordering.TheVariants.{Less, Equal, Greater}
use Rattle.std.specs.Ordering.{is_gt, is_lt, ordering_reverse}
use Rattle.std.specs.Cmp.{IsTotalOrder, tied_itself, upto}
use Rattle.std.proofs.lemmas.Bool.{cases_eq}
use Rattle.std.proofs.lemmas.Option.{slice_get_within}
use Rattle.std.proofs.lemmas.Result.{IfOk-weaker}
use Rattle.emc_base.proofs.Lists.{at_once}
use Rattle.emc_base.specs.Lists.{At}
use Rattle.groupings.specs.least_fault.Least.{Among, IsEarlierOf, IsLeast, earlier}

-- not greater, as a test, and back
tested : (order : Ordering) → order ≢ Greater → is_gt order ≡ false
tested Less not = refl
tested Equal not = refl
tested Greater not = absurd (not refl)

untested : (order : Ordering) → is_gt order ≡ false → order ≢ Greater
untested Less is = λ same. absurd cc
untested Equal is = λ same. absurd cc
untested Greater is = absurd cc

less : (order : Ordering) → is_lt order ≡ true → order ≢ Greater
less Less is = λ same. absurd cc
less Equal is = absurd cc
less Greater is = absurd cc

turned : (order : Ordering) → is_lt order ≡ false → ordering_reverse order ≢ Greater
turned Less is = absurd cc
turned Equal is = λ same. absurd cc
turned Greater is = λ same. absurd cc

-- the least is that of any equal search
pub least_same : {F : Type 0} (cmp : F → F → Ordering) (P Q : F → Type 0) (found : Option F)
    → ((fault : F) → P fault → Q fault) → ((fault : F) → Q fault → P fault) → IsLeast cmp P found → IsLeast cmp Q found
least_same cmp P Q None to back none = λ fault holds. none fault (back fault holds)
least_same cmp P Q (Some one) to back is = (to one is.0, λ fault holds. is.1 fault (back fault holds))

-- among the first so many items
pub record AmongFirst {X F : Type 0} (P : ℕ → X → F → Type 0) (items : List X) (n : ℕ) (fault : F) : Type 0 where
  pub among : Among P items fault
  pub within : among.i < n

module _ {F : Type 0} (cmp : F → F → Ordering) (total : IsTotalOrder cmp) where
  not_after : (x y z : F) → cmp x y ≢ Greater → cmp y z ≢ Greater → cmp x z ≢ Greater
  not_after x y z one other = untested (cmp x z) (upto total x y z (tested (cmp x y) one) (tested (cmp y z) other))

  -- the least of two searches is that of both
  pub least_of_both : (P Q : F → Type 0) (one other : Option F) → IsLeast cmp P one → IsLeast cmp Q other
      → IsLeast cmp (λ fault. P fault ⊎ Q fault) (earlier cmp one other)
  least_of_both P Q None None no_one no_other = λ fault. ⊎_elim (no_one fault) (no_other fault)
  least_of_both P Q (Some one) None is_one no_other = (inl is_one.0, λ fault. ⊎_elim (is_one.1 fault) (λ holds. absurd (no_other fault holds)))
  least_of_both P Q None (Some other) no_one is_other = (inr is_other.0, λ fault. ⊎_elim (λ holds. absurd (no_one fault holds)) (is_other.1 fault))
  least_of_both P Q (Some one) (Some other) is_one is_other = by (is_lt (cmp other one)) refl
    where
      by : (b : Bool) → is_lt (cmp other one) ≡ b → IsLeast cmp (λ fault. P fault ⊎ Q fault) (Some (cond b other one))
      by true is = (inr is_other.0, λ fault. ⊎_elim (λ holds. not_after other one fault (less (cmp other one) is) (is_one.1 fault holds)) (is_other.1 fault))
      by false is =
          let before : cmp one other ≢ Greater = subst (λ order. order ≢ Greater) (sym (total.antisymm one other)) (turned (cmp other one) is) in
          (inl is_one.0, λ fault. ⊎_elim (is_one.1 fault) (λ holds. not_after one other fault before (is_other.1 fault holds)))

  -- the same of two searches that may lack memory
  pub least_of_searches : {E : Type 0} (P Q : F → Type 0) (one other result : Result (Option F) E) → IfOk one (IsLeast cmp P) → IfOk other (IsLeast cmp Q)
      → IfOk result (IsEarlierOf cmp one other) → IfOk result (IsLeast cmp (λ fault. P fault ⊎ Q fault))
  least_of_searches {E} P Q one other result is_one is_other is = IfOk-weaker result (IsEarlierOf cmp one other) (IsLeast cmp (λ fault. P fault ⊎ Q fault))
      (λ found by.
      let least = least_of_both P Q by.first by.second
      (let S : Result (Option F) E → Type 0 = λ search. IfOk search (IsLeast cmp P) in subst S by.is_first is_one)
      (let S : Result (Option F) E → Type 0 = λ search. IfOk search (IsLeast cmp Q) in subst S by.is_second is_other) in
      subst (λ (it : Option F). IsLeast cmp (λ fault. P fault ⊎ Q fault) it) (sym by.is) least)
      is

  module _ {X : Type 0} (P : ℕ → X → F → Type 0) (items : List X) where
    -- none yet
    pub least_start : IsLeast cmp (AmongFirst P items 0) None
    least_start = λ fault some. absurd (let w : some.among.i < 0 = some.within in omega arith)

    -- one item more
    pub least_more : (n : ℕ) (item : X) (found more : Option F) → At items n item → IsLeast cmp (AmongFirst P items n) found → IsLeast cmp (P n item) more
        → IsLeast cmp (AmongFirst P items (n + 1)) (earlier cmp found more)
    least_more n item found more here one other =
        least_same cmp (λ fault. AmongFirst P items n fault ⊎ P n item fault) (AmongFirst P items (n + 1)) (earlier cmp found more) to back
        (least_of_both (AmongFirst P items n) (P n item) found more one other)
      where
        to : (fault : F) → AmongFirst P items n fault ⊎ P n item fault → AmongFirst P items (n + 1) fault
        to fault = ⊎_elim
            (λ some. record { among = some.among; within = (let w : some.among.i < n = some.within in omega arith) })
            (λ holds. record { among = record { i = n; item = item; here = here; holds = holds }; within = omega arith })

        back : (fault : F) → AmongFirst P items (n + 1) fault → AmongFirst P items n fault ⊎ P n item fault
        back fault some = ⊎_elim
            (λ (same : some.among.i ≡ n). inr (moved some.among.i some.among.item same some.among.here some.among.holds))
            (λ (other : some.among.i ≢ n). inl (record { among = some.among; within = (let w : some.among.i < n + 1 = some.within in omega arith) }))
            (cases_eq some.among.i n)
          where
            moved : (i : ℕ) (x : X) → i ≡ n → At items i x → P i x fault → P n item fault
            moved i x same at holds =
                let is : x ≡ item = at_once items n x item (subst (λ (k : ℕ). At items k x) same at) here in
                subst (λ (y : X). P n y fault) is (subst (λ (k : ℕ). P k x fault) same holds)

    -- all items
    pub least_all : (n : ℕ) (found : Option F) → length items ≤ n → IsLeast cmp (AmongFirst P items n) found → IsLeast cmp (Among P items) found
    least_all n found end is = least_same cmp (AmongFirst P items n) (Among P items) found (λ fault some. some.among) back is
      where
        back : (fault : F) → Among P items fault → AmongFirst P items n fault
        back fault some = record { among = some; within = (let w : some.i < length items = slice_get_within items some.i some.item some.here in omega arith) }

-- the one fault that there is
pub least_only : {F : Type 0} (cmp : F → F → Ordering) → IsTotalOrder cmp → (P : F → Type 0) (found : F) → P found
    → ((fault : F) → P fault → fault ≡ found) → IsLeast cmp P (Some found)
least_only cmp total P found is only = (is, λ fault holds. untested (cmp found fault) (ap is_gt (ap (cmp found) (only fault holds) ∙ tied_itself total found)))
