-- Expressions of items, made one after the other, and what holds of them.
use Rattle.std.proofs.Common.{◌≡◌, ◌↔◌, ◌<◌, ◌≤◌, ◌+◌, ⊎_elim, inl, inr, ℕ, List, [], ◌∷◌, ◌++◌, length, get_or, take, All, Any, Contains, refl, sym, subst, arith}
use Rattle.std.proofs.lemmas.List.{get_or_default, take_all}
use Rattle.std.proofs.lemmas.List.Elements.{All-contains, Contains-append_left, Contains-push, Contains-push_cases}
use Rattle.std.proofs.lemmas.Option.{slice_get_read}
use Rattle.emc_base.specs.Lists.{At}
use Rattle.emc_base.proofs.Lists.{all_from_members}
use Rattle.emc_base.proofs.Loops.{take_item}
use Rattle.condition_logic.specs.declared.expr.Expr.{Expr}
use Rattle.condition_logic.specs.Made.{AreOf}
use Rattle.condition_logic.proofs.Parts.{any_of, of_any}

module _ {X : Type 0} (IsOf : X → Expr → Type 0) (IsLeft : X → Type 0) where
  -- nothing is made of nothing
  pub made_of_none : AreOf IsOf IsLeft [] []
  made_of_none = record {
    only = λ made has. absurd (let within = has.1 in omega arith);
    each = λ item has. absurd (let within = has.1 in omega arith);
  }

  -- the expression of one more item
  made_more : (before : List X) (item : X) (exprs : List Expr) (made : Expr) → AreOf IsOf IsLeft before exprs → IsOf item made
      → AreOf IsOf IsLeft (before ++ item ∷ []) (exprs ++ made ∷ [])
  made_more before item exprs made are is = record {
    only = λ other has. ⊎_elim
        (λ (earlier : Contains exprs other). let of = are.only other earlier in (of.0, Contains-append_left before (item ∷ []) of.0 of.1, of.2))
        (λ (last : made ≡ other). (item, Contains-push before item, subst (IsOf item) last is))
        (Contains-push_cases exprs made other has);
    each = λ other has. ⊎_elim
        (λ (earlier : Contains before other). ⊎_elim
        (λ (left : IsLeft other). inl left)
        (λ (has_one : (e : Expr) × Contains exprs e × IsOf other e). inr (has_one.0, Contains-append_left exprs (made ∷ []) has_one.0 has_one.1, has_one.2))
        (are.each other earlier))
        (λ (last : item ≡ other). let Made : X → Type 0 = λ x. IsOf x made in inr (made, Contains-push exprs made, subst Made last is))
        (Contains-push_cases before item other has);
  }

  -- one more item is left out
  left_more : (before : List X) (item : X) (exprs : List Expr) → AreOf IsOf IsLeft before exprs → IsLeft item → AreOf IsOf IsLeft (before ++ item ∷ []) exprs
  left_more before item exprs are left = record {
    only = λ other has. let of = are.only other has in (of.0, Contains-append_left before (item ∷ []) of.0 of.1, of.2);
    each = λ other has. ⊎_elim (λ (earlier : Contains before other). are.each other earlier) (λ (last : item ≡ other). inl (subst IsLeft last left))
        (Contains-push_cases before item other has);
  }

  -- the turns of a loop over the items, and its end
  pub one_made : (items : List X) (i : ℕ) (item : X) (exprs : List Expr) (made : Expr) → At items i item → AreOf IsOf IsLeft (take i items) exprs → IsOf item made
      → AreOf IsOf IsLeft (take (i + 1) items) (exprs ++ made ∷ [])
  one_made items i item exprs made here are is =
      let P : List X → Type 0 = λ before. AreOf IsOf IsLeft before (exprs ++ made ∷ []) in
      subst P (sym (take_item items i item here)) (made_more (take i items) item exprs made are is)

  pub one_made_at : (items : List X) (i : ℕ) (d : X) (exprs : List Expr) (made : Expr) → i < length items → AreOf IsOf IsLeft (take i items) exprs → IsOf (get_or items i d) made
      → AreOf IsOf IsLeft (take (i + 1) items) (exprs ++ made ∷ [])
  one_made_at items i d exprs made within are is =
      one_made items i (get_or items i d) exprs made
      (slice_get_read items (length items) i (get_or items i d) refl within (get_or_default items i d (get_or items i d) within)) are is

  pub one_left : (items : List X) (i : ℕ) (item : X) (exprs : List Expr) → At items i item → AreOf IsOf IsLeft (take i items) exprs → IsLeft item
      → AreOf IsOf IsLeft (take (i + 1) items) exprs
  one_left items i item exprs here are left =
      let P : List X → Type 0 = λ before. AreOf IsOf IsLeft before exprs in
      subst P (sym (take_item items i item here)) (left_more (take i items) item exprs are left)

  pub made_of_all : (items : List X) (i : ℕ) (exprs : List Expr) → length items ≤ i → AreOf IsOf IsLeft (take i items) exprs → AreOf IsOf IsLeft items exprs
  made_of_all items i exprs end are = let P : List X → Type 0 = λ before. AreOf IsOf IsLeft before exprs in subst P (take_all i items end) are

  module _ (items : List X) (exprs : List Expr) (are : AreOf IsOf IsLeft items exprs) (P : Expr → Type 0) (Q : X → Type 0) where
    -- what holds of each expression holds of each item
    pub all_made : ((item : X) (made : Expr) → IsOf item made → P made ↔ Q item) → ((item : X) → IsLeft item → Q item) → All P exprs ↔ All Q items
    all_made same left = (
      λ all. all_from_members Q items (λ item has. ⊎_elim (λ (is_left : IsLeft item). left item is_left)
          (λ (one : (e : Expr) × Contains exprs e × IsOf item e). (same item one.0 one.2).0 (All-contains P exprs one.0 all one.1)) (are.each item has)),
      λ all. all_from_members P exprs (λ made has. let of = are.only made has in (same of.0 made of.2).1 (All-contains Q items of.0 all of.1)),
    )

    -- what holds of some expression holds of some item
    pub some_made : ((item : X) (made : Expr) → IsOf item made → P made → Q item) → Any P exprs → Any Q items
    some_made tells any = let found = of_any P exprs any in let of = are.only found.0 found.1 in any_of Q items of.0 of.1 (tells of.0 found.0 of.2 found.2)

    -- and the other way where none is left out
    pub any_made : ((item : X) (made : Expr) → IsOf item made → P made ↔ Q item) → ((item : X) → ¬ IsLeft item) → Any P exprs ↔ Any Q items
    any_made same none = (
      some_made (λ item made is. (same item made is).0),
      λ any. let found = of_any Q items any in ⊎_elim (λ (is_left : IsLeft found.0). absurd (none found.0 is_left))
          (λ (one : (e : Expr) × Contains exprs e × IsOf found.0 e). any_of P exprs one.0 one.1 ((same found.0 one.0 one.2).1 found.2)) (are.each found.0 found.1),
    )
