-- The tree of a link: nothing is wrong with its shape, each part of it is told, and it gives the link.
use Rattle.std.proofs.Common.{◌≡◌, ◌≢◌, ◌-◌, ◌<◌, inl, inr, ℕ, List, [], ◌∷◌, All, Contains, IsUtf8, unwrap_or, if◌then◌else◌, Option, Some, None, refl, sym, ap, subst, ◌∙◌, arith}
use Rattle.std.specs.Str.{bytes_eq}
use Rattle.std.proofs.lemmas.Bool.{false_from_ne_true}
use Rattle.std.proofs.lemmas.List.Elements.{All-cons, All-nil}
use Rattle.std.proofs.lemmas.List.Kept.{AllPairs-cons}
use Rattle.std.proofs.lemmas.Option.{none-some}
use Rattle.std.proofs.lemmas.Slice.Eq.{bytes_eq-Decides}
use Rattle.serde_json.specs.Data.{Data, null}
use Rattle.serde_json.specs.Find.{get}
use Rattle.emc_base.specs.Lists.{AreApart}
use Rattle.json_form.specs.from_nodes.Reading.{object_at}
use Rattle.json_form.specs.Trees.{key_tree}
use Rattle.json_form.proofs.Told.{told}
use Rattle.round_trip.specs.Words.{EntityModel, Assoc, Link, TypeId, IsIndependent}
use Rattle.entity_state.specs.StateTree.{link_tree}
use Rattle.entity_state.specs.Tells.{TellsLink}
use Rattle.data_documents.specs.declared.shape_faults.place.ShapeStep.{ShapeStep}
use Rattle.data_documents.specs.entity_documents.Names.{role_type}
use Rattle.data_documents.specs.entity_documents.Shapes.{IsLinkFault, IsRoleFault}
use Rattle.data_documents.specs.entity_documents.States.{key_in, link_in}
use Rattle.data_documents.proofs.printed.Entries.{IsWholeEntry, object_good, object_whole}
use Rattle.data_documents.proofs.printed.entities.Keys.{IsGoodKey, good_key, key_back, key_whole}
use Rattle.data_documents.proofs.printed.spelled.Whole.{IsWhole}

-- a link of an independent association, with keys of the types at its ends
pub record IsGoodLink (model : EntityModel) (assoc : Assoc) (link : Link) : Type 0 where
  pub independent : IsIndependent assoc
  pub first : IsGoodKey model assoc.first.ty link.first
  pub second : IsGoodKey model assoc.second.ty link.second

module _ (model : EntityModel) (assoc : Assoc) (roles : assoc.first.role ≢ assoc.second.role) (link : Link) (good : IsGoodLink model assoc link) where
  -- a tree that tells the link gives it
  pub link_back : (tree : Data) → TellsLink assoc link tree → link_in model assoc tree ≡ link
  link_back tree tells =
      let first : key_in model assoc.first.ty (object_at assoc.first.role tree) ≡ link.first =
      ap (λ found. key_in model assoc.first.ty (unwrap_or found null)) tells.first ∙ key_back model assoc.first.ty link.first good.first in
      let second : key_in model assoc.second.ty (object_at assoc.second.role tree) ≡ link.second =
      ap (λ found. key_in model assoc.second.ty (unwrap_or found null)) tells.second ∙ key_back model assoc.second.ty link.second good.second in
      λ k. record { first = first k; second = second k }

  -- the two members of the link's tree
  abbrev one : List ℕ × Data
  one = (assoc.first.role, key_tree link.first)

  abbrev other : List ℕ × Data
  other = (assoc.second.role, key_tree link.second)

  abbrev entries : List (List ℕ × Data)
  entries = one ∷ other ∷ []

  -- each role stands for the type at its end
  first_type : role_type assoc assoc.first.role ≡ Some assoc.first.ty
  first_type =
      ap (λ b. if b then Some assoc.first.ty else (if bytes_eq assoc.first.role assoc.second.role then Some assoc.second.ty else None))
      ((bytes_eq-Decides assoc.first.role assoc.first.role).1 refl)

  second_type : role_type assoc assoc.second.role ≡ Some assoc.second.ty
  second_type =
      let differ = false_from_ne_true (bytes_eq assoc.second.role assoc.first.role) (λ is. roles (sym ((bytes_eq-Decides assoc.second.role assoc.first.role).0 is))) in
      ap (λ b. if b then Some assoc.first.ty else (if bytes_eq assoc.second.role assoc.second.role then Some assoc.second.ty else None)) differ
      ∙ ap (λ b. if b then Some assoc.second.ty else None) ((bytes_eq-Decides assoc.second.role assoc.second.role).1 refl)

  abbrev IsGoodRole : List ℕ × Data → Type 0
  IsGoodRole entry = (place : List ShapeStep) → ¬ IsRoleFault model (role_type assoc entry.0) entry.1 place

  -- nothing is wrong with the key under either role
  good_roles : All IsGoodRole entries
  good_roles =
      All-cons IsGoodRole one (other ∷ [])
      (λ place fault. good_key model assoc.first.ty link.first good.first place (subst (λ (found : Option TypeId). IsRoleFault model found (key_tree link.first) place) first_type fault))
      (All-cons IsGoodRole other []
      (λ place fault. good_key model assoc.second.ty link.second good.second place (subst (λ (found : Option TypeId). IsRoleFault model found (key_tree link.second) place) second_type fault))
      (All-nil IsGoodRole))

  -- each stands under its name
  stands : (entry : List ℕ × Data) → Contains entries entry → get entry.0 (link_tree assoc link) ≡ Some entry.1
  stands = told entries names refl apart
    where
      names : List (List ℕ)
      names = assoc.first.role ∷ assoc.second.role ∷ []

      apart : AreApart names
      apart =
          let R : List ℕ → List ℕ → Type 0 = λ name next. name ≢ next in
          AllPairs-cons R assoc.first.role (assoc.second.role ∷ []) (All-cons (R assoc.first.role) assoc.second.role [] roles (All-nil (R assoc.first.role)))
          (λ i j d below within. absurd (omega arith))

  -- nothing is wrong with the shape of the link's tree
  pub good_link : (place : List ShapeStep) → ¬ IsLinkFault model assoc (link_tree assoc link) place
  good_link place (inl inside) = object_good (λ name. IsRoleFault model (role_type assoc name)) entries good_roles place inside
  good_link place (inr (inl lack)) = absurd (none-some _ (sym lack.absent ∙ stands one (0, omega arith, refl)))
  good_link place (inr (inr lack)) = absurd (none-some _ (sym lack.absent ∙ stands other (1, omega arith, refl)))

  -- and it is told part by part
  pub link_whole : IsUtf8 assoc.first.role → IsUtf8 assoc.second.role → (n : ℕ) → 1 < n → IsWhole n (link_tree assoc link)
  link_whole first second n deep =
      let in_first : IsWhole (n - 1) (key_tree link.first) = key_whole model assoc.first.ty link.first good.first (n - 1) (omega (arith, deep)) in
      let in_second : IsWhole (n - 1) (key_tree link.second) = key_whole model assoc.second.ty link.second good.second (n - 1) (omega (arith, deep)) in
      object_whole n entries (omega (arith, deep))
      (All-cons (IsWholeEntry (n - 1)) one (other ∷ []) (first, in_first) (All-cons (IsWholeEntry (n - 1)) other [] (second, in_second) (All-nil (IsWholeEntry (n - 1)))))
