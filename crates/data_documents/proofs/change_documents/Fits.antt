-- What a document without faults of shape tells are changes of the model.
use Rattle.std.proofs.Common.{◌≡◌, ◌<◌, inl, inr, ℕ, List, [], ◌∷◌, All, length, get_or, unwrap_or, Bool, true, false, Option, Some, None, IsSome, slice_get, refl, sym, ap, subst}
use Rattle.std.specs.Prelude.{codes, if◌then◌else◌, is_none, option_map, option_and_then}
use Rattle.std.specs.Option.{is_some, option_map_or}
use Rattle.std.specs.Str.{bytes_eq}
use Rattle.std.proofs.lemmas.List.Elements.{All-map}
use Rattle.std.proofs.lemmas.Option.{get_or_from_slice_get, slice_get_within}
use Rattle.serde_json.specs.Data.{Data, Members, null}
use Rattle.serde_json.specs.Find.{as_object, get}
use Rattle.emc_base.specs.Lists.{At}
use Rattle.emc_base.proofs.Lists.{item_at}
use Rattle.emc_base.proofs.facts.Found.{position_passes}
use Rattle.json_form.specs.TreeParts.{items_in}
use Rattle.json_form.specs.from_nodes.Reading.{object_at, optional_text_at}
use Rattle.json_form.proofs.MemberByName.{member_found}
use Rattle.round_trip.specs.Words.{EntityModel, Assoc, AssocId, Constraint, IsEntity, IsLink}
use Rattle.schema_names.specs.SchemaNames.{association_set_named, set_named}
use Rattle.entity_changes.specs.Changes.{IsChange}
use Rattle.data_documents.specs.declared.change_documents.operation.Operation.{Operation}
use Rattle.data_documents.specs.declared.change_documents.operation.Operation.TheVariants.{Insert, Update, Delete, Link as ALink, Unlink}
use Rattle.data_documents.specs.declared.shape_faults.place.ShapeStep.{ShapeStep}
use Rattle.data_documents.specs.declared.shape_faults.place.ShapeStep.TheVariants.{Item, Member, Missing}
use Rattle.data_documents.specs.shape_faults.Nodes.{IsLack, IsObjectFault}
use Rattle.data_documents.specs.entity_documents.Names.{assoc_numbered, if_independent, independent_at}
use Rattle.data_documents.specs.entity_documents.Shapes.{IsEntityFault}
use Rattle.data_documents.specs.entity_documents.States.{entity_in, link_in}
use Rattle.data_documents.specs.change_documents.Names.{if_independent_set, link_set_in, member_named, names_set, operation_in, set_in, set_numbered, told_member}
use Rattle.data_documents.specs.change_documents.Shapes.{IsChangeFault, IsDocFault, IsFaultBy, IsMemberFault, IsOperationFault, IsUntoldFault}
use Rattle.data_documents.specs.change_documents.Changes.{change_by, change_in, changes_in, link_of, link_set_of, set_of}
use Rattle.data_documents.proofs.entity_documents.Fits.{entity_fits, is_found_independent, link_fits}

-- an object in whose members nothing is wrong, and which doesn't lack the one of a name, has it, and nothing is wrong with it
record Holds (P : List ℕ → Data → List ShapeStep → Type 0) (name : List ℕ) (d : Data) : Type 0 where
  pub part : Data
  pub here : get name d ≡ Some part
  pub good : (place : List ShapeStep) → ¬ P name part place

module _ (P : List ℕ → Data → List ShapeStep → Type 0) (rank : ℕ) (name : List ℕ) (d : Data) where
  holds : ((place : List ShapeStep) → ¬ IsObjectFault P d place) → ((place : List ShapeStep) → ¬ IsLack rank name d place) → Holds P name d
  holds none lacks_none = by (as_object d) refl (get name d) refl
    where
      by : (object : Option Members) → as_object d ≡ object → (found : Option Data) → get name d ≡ found → Holds P name d
      by None none_such found is = absurd (none [] (inl ((λ some. let no : IsSome {T = Members} None = subst IsSome none_such some in absurd cc), refl)))
      by (Some object) has None is = absurd (lacks_none (Missing rank name ∷ []) (record { object = ap is_some has; absent = is; here = refl }))
      by (Some object) has (Some part) is =
          let member = member_found d name part is in
          record {
            part = part;
            here = is;
            good = λ place fault. none (Member name ∷ place)
                (inr (record { i = member.0; item = (name, part); here = member.1; holds = record { rest = place; reached = refl; holds = fault } }));
          }

-- a change that tells no operation has a fault
untold : (d : Data) → ((place : List ShapeStep) → ¬ IsUntoldFault d place) → ⊥
untold d none =
    let P : List ℕ → Data → List ShapeStep → Type 0 = λ name part inside. (name ≡ codes "op") × (inside ≡ []) in
    (holds P 0 (codes "op") d (λ place fault. none place (inl fault)) (λ place lack. none place (inr lack))).good [] (refl, refl)

-- the set that is named is one of the model
module _ (model : EntityModel) where
  set_within : (text : Option (List ℕ)) → is_some (option_map set_numbered (option_and_then (set_named model) text)) ≡ true
      → (unwrap_or (option_map set_numbered (option_and_then (set_named model) text)) (set_numbered 0)).index < length model.sets
  set_within None is = absurd cc
  set_within (Some name) is = by (set_named model name) refl is
    where
      by : (place : Option ℕ) → set_named model name ≡ place → is_some (option_map set_numbered place) ≡ true
          → (unwrap_or (option_map set_numbered place) (set_numbered 0)).index < length model.sets
      by None at some = absurd cc
      by (Some place) at some =
          let here = position_passes (λ set. bytes_eq name set.name) model.sets place at in
          slice_get_within model.sets place here.0 here.1

  -- the association set that is named is independent
  link_set_within : (place : Option ℕ) → is_some (option_and_then (λ p. if_independent_set model (assoc_numbered p)) place) ≡ true
      → is_some (independent_at model (unwrap_or (option_and_then (λ p. if_independent_set model (assoc_numbered p)) place) (assoc_numbered 0))) ≡ true
  link_set_within None is = absurd cc
  link_set_within (Some place) is = by (is_some (independent_at model (assoc_numbered place))) refl is
    where
      by : (free : Bool) → is_some (independent_at model (assoc_numbered place)) ≡ free → is_some (if free then Some (assoc_numbered place) else None) ≡ true
          → is_some (independent_at model (unwrap_or (if free then Some (assoc_numbered place) else None) (assoc_numbered 0))) ≡ true
      by true free some = free
      by false free some = absurd cc

  -- what is found as independent stands there
  stands : (found : Option Assoc) (assoc : Assoc) → option_and_then if_independent found ≡ Some assoc → found ≡ Some assoc
  stands None assoc is = absurd cc
  stands (Some one) assoc is = by one.constraint is
    where
      by : (constraint : Option Constraint) → (if is_none constraint then Some one else None) ≡ Some assoc → Some one ≡ Some assoc
      by None free = free
      by (Some constraint) bound = absurd cc

  -- a link of an independent association set is one
  link_told_fits : (a : AssocId) (d : Data) → is_some (independent_at model a) ≡ true
      → (assoc : Assoc) × At model.assocs a.index assoc × IsLink model assoc (link_of model a d)
  link_told_fits a d some = by (independent_at model a) refl some
    where
      by : (found : Option Assoc) → independent_at model a ≡ found → is_some found ≡ true
          → (assoc : Assoc) × At model.assocs a.index assoc × IsLink model assoc (link_of model a d)
      by None is none = absurd cc
      by (Some assoc) is one =
          let found = slice_get model.assocs a.index in
          let P : Option Assoc → Type 0 = λ it. IsLink model assoc (option_map_or (λ other. link_in model other d) it (record { first = []; second = [] })) in
          (assoc, stands found assoc is, subst P (sym is) (link_fits model assoc d (is_found_independent found assoc is)))

module _ (model : EntityModel) (d : Data) where
  -- where nothing is wrong with a change, it names a set, and what it tells is there and nothing is wrong with it
  named : (operation : Operation) → ((place : List ShapeStep) → ¬ IsOperationFault model operation d place) → names_set model operation d ≡ true
  named operation none = by (names_set model operation d) refl
    where
      P : List ℕ → Data → List ShapeStep → Type 0
      P name = IsMemberFault model operation d (member_named operation name)

      by : (is : Bool) → names_set model operation d ≡ is → is ≡ true
      by true is = refl
      by false is = absurd
          ((holds P 1 (codes "set") d (λ place fault. none place (inl fault)) (λ place lack. none place (inr (inl lack)))).good [] (is, refl))

  told : (operation : Operation) → ((place : List ShapeStep) → ¬ IsOperationFault model operation d place)
      → Holds (λ name. IsMemberFault model operation d (member_named operation name)) (told_member operation) d
  told operation none = holds (λ name. IsMemberFault model operation d (member_named operation name)) 2 (told_member operation) d
      (λ place fault. none place (inl fault)) (λ place lack. none place (inr (inr lack)))

  entity_told_fits : (part : Data) → get (codes "entity") d ≡ Some part → ((place : List ShapeStep) → ¬ IsEntityFault model part place)
      → IsEntity model (entity_in model (object_at (codes "entity") d))
  entity_told_fits part here good = let P : Option Data → Type 0 = λ found. IsEntity model (entity_in model (unwrap_or found null)) in
      subst P (sym here) (entity_fits model part good)

  set_is_within : is_some (set_in model d) ≡ true → (set_of model d).index < length model.sets
  set_is_within is = set_within model (optional_text_at (codes "set") d) is

  link_set_is_free : is_some (link_set_in model d) ≡ true → is_some (independent_at model (link_set_of model d)) ≡ true
  link_set_is_free is = link_set_within model (option_and_then (association_set_named model) (optional_text_at (codes "set") d)) is

  fits_by : (operation : Operation) → ((place : List ShapeStep) → ¬ IsOperationFault model operation d place) → IsChange model (change_by model operation d)
  fits_by Insert none = let it = told Insert none in (set_is_within (named Insert none), entity_told_fits it.part it.here it.good)
  fits_by Update none = let it = told Update none in (set_is_within (named Update none), entity_told_fits it.part it.here it.good)
  fits_by Delete none = set_is_within (named Delete none)
  fits_by ALink none = link_told_fits model (link_set_of model d) (object_at (codes "link") d) (link_set_is_free (named ALink none))
  fits_by Unlink none = link_told_fits model (link_set_of model d) (object_at (codes "link") d) (link_set_is_free (named Unlink none))

-- where nothing is wrong with a change, it is one of the model
change_fits : (model : EntityModel) (d : Data) → ((place : List ShapeStep) → ¬ IsChangeFault model d place) → IsChange model (change_in model d)
change_fits model d none = by (operation_in d) refl none
  where
    by : (found : Option Operation) → operation_in d ≡ found → ((place : List ShapeStep) → ¬ IsFaultBy model found d place) → IsChange model (change_in model d)
    by None is none = absurd (untold d none)
    by (Some operation) is none =
        let P : Option Operation → Type 0 = λ found. IsChange model (change_by model (unwrap_or found Insert) d) in
        subst P (sym is) (fits_by model d operation none)

-- where nothing is wrong with a document, it tells changes of the model
pub changes_fit : (model : EntityModel) (d : Data) → ((place : List ShapeStep) → ¬ IsDocFault model d place) → All (IsChange model) (changes_in model d)
changes_fit model d none = All-map (IsChange model) (change_in model) (items_in d) each
  where
    each : All (λ item. IsChange model (change_in model item)) (items_in d)
    each k other within =
        let item = item_at (items_in d) k within in
        let same : item.0 ≡ get_or (items_in d) k other = sym (get_or_from_slice_get (items_in d) k item.0 other item.1) in
        subst (λ (one : Data). IsChange model (change_in model one)) same
        (change_fits model item.0 (λ place fault.
        none (Item k ∷ place) (inr (record { i = k; item = item.0; here = item.1; holds = record { rest = place; reached = refl; holds = fault } }))))
