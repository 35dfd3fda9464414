-- What the tests of legal links say, put together.
use Rattle.std.proofs.Common.{◌≡◌, ◌≢◌, ◌↔◌, ⊎_elim, ℕ, ◌+◌, ◌<◌, ◌≤◌, List, length, All, AllPairs, Any, Option, Some, None, MatchOption, Bool, true, false, IsTrue, not, refl, sym, ap, subst, ◌∙◌, arith}
use Rattle.std.specs.Option.{is_some}
use Rattle.std.proofs.lemmas.Bool.{cases_eq, cases_lt}
use Rattle.std.proofs.lemmas.Option.{get_or_from_slice_get, slice_get-get_or, slice_get_within}
use Rattle.emc_base.specs.Lists.{At, AtMostOne}
use Rattle.entity_state.proofs.breach_order.Turns.{EachTo, each_all}
use Rattle.round_trip.specs.Words.{EntityModel, Assoc, Constraint, Entity, Link, State, Null, IsA, HasCount, HasPrincipal, HavePrincipals, AreLegalLinks, entities_in, links_in, key_of, values_of, dependent_end, principal_end}
use Rattle.state_legality.specs.declared.link_legality.side.Side.TheVariants.{First, Second}
use Rattle.state_legality.specs.link_legality.Counts.{IsNext, KeepsCount}
use Rattle.state_legality.specs.link_legality.Principals.{KeepsConstraint}
use Rattle.state_legality.specs.link_legality.Tells.{KeepsAssoc, KeepsLinkRules, KeepsSide}
use Rattle.state_legality.proofs.link_legality.Said.{all_as}

module _ {X : Type 0} (P : X → Type 0) (items : List X) where
  pub any_here : (i : ℕ) (x : X) → At items i x → P x → Any P items
  any_here i x here holds = (i, x, slice_get_within items i x here, get_or_from_slice_get items i x x here, holds)

  -- none of the items that were passed, which are all
  pub none_of_all : (n : ℕ) → length items ≤ n → EachTo (λ _ x. ¬ P x) items n → ¬ Any P items
  none_of_all n end passed some = each_all (λ _ x. ¬ P x) items n end passed some.0 some.1 (slice_get-get_or items some.0 some.1 some.2 ∙ ap Some some.3) some.4

  -- none from the first place to this one
  pub record NoneFrom (from n : ℕ) : Type 0 where
    pub later : from ≤ n
    pub none : (i : ℕ) (x : X) → At items i x → from ≤ i → i < n → ¬ P x

  pub none_start : (from : ℕ) → NoneFrom from from
  none_start from = record { later = omega arith; none = λ i x here late before. absurd (omega arith) }

  pub none_more : (from n : ℕ) (x : X) → At items n x → ¬ P x → NoneFrom from n → NoneFrom from (n + 1)
  none_more from n x here not so_far = record {
    later = (let late : from ≤ n = so_far.later in omega arith);
    none = λ i y at late before. ⊎_elim
        (λ (same : i ≡ n).
        let at_n : At items n y = subst (λ (k : ℕ). At items k y) same at in
        let is : x ≡ y = cc in
        subst (λ (z : X). ¬ P z) is not)
        (λ (other : i ≢ n). so_far.none i y at late (omega arith))
        (cases_eq i n);
  }

  pub none_end : (from n : ℕ) → length items ≤ n → NoneFrom from n → IsNext P items from None
  none_end from n end so_far i x here late =
      let within : i < length items = slice_get_within items i x here in
      so_far.none i x here late (omega arith)

  pub next_here : (from n : ℕ) (x : X) → At items n x → P x → NoneFrom from n → IsNext P items from (Some n)
  next_here from n x here holds so_far = (x, here, holds, so_far.later, so_far.none)

  pub none_at_most : IsNext P items 0 None → AtMostOne P items
  none_at_most none i j x y here there one other = absurd (none i x here (omega arith) one)

  once : (i : ℕ) → IsNext P items 0 (Some i) → IsNext P items (i + 1) None → (k : ℕ) (x : X) → At items k x → P x → k ≡ i
  once i first rest k x here holds = ⊎_elim
      (λ (same : k ≡ i). same)
      (λ (differ : k ≢ i). ⊎_elim
      (λ (before : k < i). absurd (first.4 k x here (omega arith) before holds))
      (λ (after : i ≤ k). absurd (rest k x here (omega arith) holds))
      (cases_lt k i))
      (cases_eq k i)

  -- one at most, where after the first there is no other
  pub once_by_next : (i : ℕ) (second : Option ℕ) (alone : Bool) → IsNext P items 0 (Some i) → IsNext P items (i + 1) second → is_some second ≡ not alone → IsTrue alone ↔ AtMostOne P items
  once_by_next i None true first rest is = (λ _ k j x y here there one other. once i first rest k x here one ∙ sym (once i first rest j y there other), λ _. refl)
  once_by_next i None false first rest is = absurd cc
  once_by_next i (Some k) true first rest is = absurd cc
  once_by_next i (Some k) false first rest is = (
    λ no. absurd cc,
    λ one. absurd (let same : i ≡ k = one i k first.0 rest.0 first.1 rest.1 first.2 rest.2 in let late : i + 1 ≤ k = rest.3 in omega arith),
  )

module _ (model : EntityModel) (state : State) where
  module _ (assoc : Assoc) (links : List Link) where
    abbrev pub BothSides : Type 0
    BothSides = (KeepsSide model (entities_in state assoc.first.set) links assoc First × KeepsSide model (entities_in state assoc.second.set) links assoc Second)
        × AllPairs (λ link other. link ≢ other) links

    pub legal_by_sides : BothSides → AreLegalLinks model state assoc links
    legal_by_sides both = record {
      ends = λ i d within. (both.0.0.stand i d within, both.0.1.stand i d within);
      once = both.1;
      first_partners = all_as (KeepsCount model links assoc First) (λ entity. IsA model entity.ty assoc.first.ty → HasCount assoc.second.mult (λ link. link.first ≡ key_of model entity) links)
          (λ entity keeps. keeps.kept) (entities_in state assoc.first.set) both.0.0.fit;
      second_partners = all_as (KeepsCount model links assoc Second) (λ entity. IsA model entity.ty assoc.second.ty → HasCount assoc.first.mult (λ link. link.second ≡ key_of model entity) links)
          (λ entity keeps. keeps.kept) (entities_in state assoc.second.set) both.0.1.fit;
    }

    pub sides_of_legal : AreLegalLinks model state assoc links → BothSides
    sides_of_legal legal = (
      (
        record {
          stand = λ i d within. (legal.ends i d within).0;
          fit = all_as (λ entity. IsA model entity.ty assoc.first.ty → HasCount assoc.second.mult (λ link. link.first ≡ key_of model entity) links) (KeepsCount model links assoc First)
              (λ entity kept. record { kept = kept }) (entities_in state assoc.first.set) legal.first_partners;
        },
        record {
          stand = λ i d within. (legal.ends i d within).1;
          fit = all_as (λ entity. IsA model entity.ty assoc.second.ty → HasCount assoc.first.mult (λ link. link.second ≡ key_of model entity) links) (KeepsCount model links assoc Second)
              (λ entity kept. record { kept = kept }) (entities_in state assoc.second.set) legal.second_partners;
        },
      ),
      legal.once,
    )

  module _ (assoc : Assoc) (constraint : Constraint) where
    abbrev principals : List Entity
    principals = entities_in state (principal_end assoc constraint).set

    abbrev Keeps : Entity → Type 0
    Keeps = KeepsConstraint model principals (dependent_end assoc constraint).ty constraint

    abbrev HasIts : Entity → Type 0
    HasIts entity = IsA model entity.ty (dependent_end assoc constraint).ty → All (λ value. value ≢ Null) (values_of model entity constraint.dependent)
        → HasPrincipal model state assoc constraint (values_of model entity constraint.dependent)

    pub principals_kept : All Keeps (entities_in state (dependent_end assoc constraint).set) → HavePrincipals model state assoc constraint
    principals_kept = all_as Keeps HasIts (λ entity keeps. keeps.kept) (entities_in state (dependent_end assoc constraint).set)

    pub kept_principals : HavePrincipals model state assoc constraint → All Keeps (entities_in state (dependent_end assoc constraint).set)
    kept_principals = all_as HasIts Keeps (λ entity kept. record { kept = kept }) (entities_in state (dependent_end assoc constraint).set)

  -- what each association keeps
  abbrev pub KeepsEach : Type 0
  KeepsEach = (i : ℕ) (assoc : Assoc) → At model.assocs i assoc → KeepsAssoc model state (record { index = i }) assoc

  pub rules_of_each : KeepsEach → KeepsLinkRules model state
  rules_of_each each = record {
    links = λ a assoc here independent.
        (let P : Option Constraint → Type 0 = λ constraint. MatchOption constraint (AreLegalLinks model state assoc (links_in state a)) (HavePrincipals model state assoc) in
        subst P independent (each a.index assoc here));
    principals = λ a assoc constraint here constrained.
        (let P : Option Constraint → Type 0 = λ one. MatchOption one (AreLegalLinks model state assoc (links_in state a)) (HavePrincipals model state assoc) in
        subst P constrained (each a.index assoc here));
  }

  pub each_of_rules : KeepsLinkRules model state → KeepsEach
  each_of_rules keeps i assoc here = by assoc.constraint refl
    where
      by : (constraint : Option Constraint) → assoc.constraint ≡ constraint
          → MatchOption constraint (AreLegalLinks model state assoc (links_in state (record { index = i }))) (HavePrincipals model state assoc)
      by None is = keeps.links (record { index = i }) assoc here is
      by (Some constraint) is = keeps.principals (record { index = i }) assoc constraint here is
