use Rattle.std.proofs.Common.{◌≡◌, ◌∷◌, [], List, ℕ, inl, inr, map, refl, sym, subst, ◌∙◌}
use Rattle.std.proofs.lemmas.Bool.{both_ways}
use Rattle.std.proofs.lemmas.List.{map-id}
use Rattle.emc_base.specs.Lists.{AreApart, HoldsEachOnce}
use Rattle.csdl_names.specs.declared.csdl_lists.raw.RawEnd.{RawEnd}
use Rattle.csdl_associations.proofs.csdl_constraints.InModel.{last_of_five}
use Rattle.csdl_associations.proofs.csdl_constraints.matching.breaks_lists.Goals as goal

pub returns-then-not-branch : goal.returns-then-not-branch
returns-then-not-branch g c =
    let constraint = c.args.constraint.now in
    let Roles : List RawEnd → Type 0 = λ ends. HoldsEachOnce (map (λ (end : RawEnd). end.role) ends) (constraint.principal.role ∷ constraint.dependent.role ∷ []) in (
      λ _. inl (λ held. both_ways c.in_ok-holds_each_once.field-0 c.if-not-branch.true (c.in_ok-holds_each_once.ensures.1 (subst Roles (sym c.as_slice.ensures.items) held))),
      λ _. refl,
    )

pub returns-then-not-branch-2 : goal.returns-then-not-branch-2
returns-then-not-branch-2 g c = (
  λ _. inr (inl (λ whole. both_ways c.in_ok-is_whole_key.field-0 c.if-not-branch-2.true (c.in_ok-is_whole_key.ensures.1 whole))),
  λ _. refl,
)

pub returns-then-not-have_same_types : goal.returns-then-not-have_same_types
returns-then-not-have_same_types g c = (
  λ _. inr (inr (inr (inl (λ same. both_ways c.have_same_types.result c.if-not-have_same_types.true (c.have_same_types.ensures.1 same))))),
  λ _. refl,
)

pub returns-then-not-branch-3 : goal.returns-then-not-branch-3
returns-then-not-branch-3 g c =
    let Apart : List (List ℕ) → Type 0 = λ names. AreApart names in
    let same : map (λ (name : List ℕ). name) c.as_slice-2.result.now ≡ c.args.constraint.now.dependent.props = map-id c.as_slice-2.result.now ∙ c.as_slice-2.ensures.items in (
      λ _. inr (inr (inl (λ apart. both_ways c.in_ok-are_apart.field-0 c.if-not-branch-3.true (c.in_ok-are_apart.ensures.1 (subst Apart (sym same) apart))))),
      λ _. refl,
    )

pub returns : goal.returns
returns g c =
    let constraint = c.args.constraint.now in
    let Apart : List (List ℕ) → Type 0 = λ names. AreApart names in
    let same : map (λ (name : List ℕ). name) c.as_slice-2.result.now ≡ constraint.dependent.props = map-id c.as_slice-2.result.now ∙ c.as_slice-2.ensures.items in
    let Roles : List RawEnd → Type 0 = λ ends. HoldsEachOnce (map (λ (end : RawEnd). end.role) ends) (constraint.principal.role ∷ constraint.dependent.role ∷ []) in (
      λ other. inr (inr (inr (inr other))),
      last_of_five
          (λ not. not (subst Roles c.as_slice.ensures.items (c.in_ok-holds_each_once.ensures.0 c.if-not-branch.false)))
          (λ not. not (c.in_ok-is_whole_key.ensures.0 c.if-not-branch-2.false))
          (λ not. not (subst Apart same (c.in_ok-are_apart.ensures.0 c.if-not-branch-3.false)))
          (λ not. not (c.have_same_types.ensures.0 c.if-not-have_same_types.false)),
    )
