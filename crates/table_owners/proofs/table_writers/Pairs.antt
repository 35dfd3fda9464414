-- Lists of pairs: they hold the same, or one of them has a pair that isn't in the other.
use Rattle.std.proofs.Common.{◌≡◌, ◌≢◌, ◌⊎◌, ⊎_elim, inl, inr, suc, ◌<◌, List, [], ◌∷◌, length, All, Any, Contains, Some, IsTrue, ◌↔◌, Bool, true, false, true≢false, refl, sym, ap, subst, ◌∙◌, arith}
use Rattle.std.specs.Bool.{MatchBool}
use Rattle.std.proofs.lemmas.Bool.{cases_eq}
use Rattle.std.proofs.lemmas.List.Elements.{All-nil, All-cons, All-contains, All-contains_itself}
use Rattle.std.proofs.lemmas.Option.{slice_get-get_or}
use Rattle.emc_base.proofs.Lists.{all_from_members}
use Rattle.emc_base.proofs.Mapped.{contains_at}
use Rattle.emc_base.specs.Lists.{At}
use Rattle.edm_types.specs.declared.mapping.Pair.{Pair}
use Rattle.table_owners.specs.table_writers.Writers.{AreAmong, HoldSame, IsOtherPairing, LacksSome}

-- two pairs are one, or they aren't
one_pair : (p q : Pair) → (p ≡ q) ⊎ (p ≢ q)
one_pair p q =
    ⊎_elim
    (λ (prop : p.prop.index ≡ q.prop.index). ⊎_elim
    (λ (col : p.col.index ≡ q.col.index). inl (λ i. record { prop = record { index = prop i }; col = record { index = col i } }))
    (λ (other : p.col.index ≢ q.col.index). inr (λ same. other (ap (λ (r : Pair). r.col.index) same)))
    (cases_eq p.col.index q.col.index))
    (λ (other : p.prop.index ≢ q.prop.index). inr (λ same. other (ap (λ (r : Pair). r.prop.index) same)))
    (cases_eq p.prop.index q.prop.index)

-- P holds of each item, or Q of some
each_or_some : {X : Type 0} (P Q : X → Type 0) → ((x : X) → P x ⊎ Q x) → (xs : List X) → All P xs ⊎ Any Q xs
each_or_some P Q either [] = inl (All-nil P)
each_or_some P Q either (x ∷ xs) =
    ⊎_elim
    (λ (first : P x). ⊎_elim
    (λ (rest : All P xs). inl (All-cons P x xs first rest))
    (λ (some : Any Q xs). inr (suc some.0, some.1, (let within : some.0 < length xs = some.2 in omega arith), some.3, some.4))
    (each_or_some P Q either xs))
    (λ (first : Q x). inr (0, x, omega arith, refl, first))
    (either x)

-- what is some item stands in the list
found : (xs : List Pair) (p : Pair) → Any (λ (q : Pair). q ≡ p) xs → Contains xs p
found xs p some =
    let here : At xs some.0 some.1 = slice_get-get_or xs some.0 some.1 some.2 ∙ ap Some some.3 in
    subst (Contains xs) some.4 (contains_at xs some.0 some.1 here)

-- a pair stands in a list, or it doesn't
stands : (xs : List Pair) (p : Pair) → Contains xs p ⊎ ¬ Contains xs p
stands xs p =
    ⊎_elim
    (λ (never : All (λ (q : Pair). q ≢ p) xs). inr (λ has. All-contains (λ (q : Pair). q ≢ p) xs p never has refl))
    (λ (some : Any (λ (q : Pair). q ≡ p) xs). inl (found xs p some))
    (each_or_some (λ (q : Pair). q ≢ p) (λ (q : Pair). q ≡ p) (λ q. ⊎_elim (λ (same : q ≡ p). inr same) (λ (other : q ≢ p). inl other) (one_pair q p)) xs)

-- some pairs stand among others, or one of them is lacking
pub among_or_lacking : (pairs others : List Pair) → AreAmong pairs others ⊎ LacksSome pairs others
among_or_lacking pairs others = each_or_some (Contains others) (λ pair. ¬ Contains others pair) (stands others) pairs

-- two lists hold the same, or they don't
pub same_or_other : (one other : List Pair) → HoldSame one other ⊎ IsOtherPairing one other
same_or_other one other =
    ⊎_elim
    (λ (here : AreAmong one other). ⊎_elim
    (λ (back : AreAmong other one). inl (here, back))
    (λ (lacks : LacksSome other one). inr (inr lacks))
    (among_or_lacking other one))
    (λ (lacks : LacksSome one other). inr (inl lacks))
    (among_or_lacking one other)

-- lists that hold the same as one list hold the same
pub same_as_one : (one left right : List Pair) → HoldSame one left → HoldSame one right → HoldSame left right
same_as_one one left right first second = (through left one right first.1 second.0, through right one left second.1 first.0)
  where
    through : (a b c : List Pair) → AreAmong a b → AreAmong b c → AreAmong a c
    through a b c ab bc = all_from_members (Contains c) a (λ p has. All-contains (Contains c) b p bc (All-contains (Contains b) a p ab has))

-- a list holds what it holds
pub same_itself : (one : List Pair) → HoldSame one one
same_itself one = (All-contains_itself one, All-contains_itself one)

-- lists that hold the same aren't others
pub never_both : (one other : List Pair) → HoldSame one other → ¬ IsOtherPairing one other
never_both one other same = ⊎_elim (none one other same.0) (none other one same.1)
  where
    none : (a b : List Pair) → AreAmong a b → ¬ LacksSome a b
    none a b among lacks =
        let here : At a lacks.0 lacks.1 = slice_get-get_or a lacks.0 lacks.1 lacks.2 ∙ ap Some lacks.3 in
        lacks.4 (All-contains (Contains b) a lacks.1 among (contains_at a lacks.0 lacks.1 here))

-- a test whether they hold the same tells either
pub told_same : (r : Bool) (one other : List Pair) → (IsTrue r ↔ HoldSame one other) → MatchBool r (HoldSame one other) (IsOtherPairing one other)
told_same true one other tells = tells.0 refl
told_same false one other tells = ⊎_elim (λ (same : HoldSame one other). absurd (true≢false (sym (tells.1 same)))) (λ (differ : IsOtherPairing one other). differ) (same_or_other one other)
