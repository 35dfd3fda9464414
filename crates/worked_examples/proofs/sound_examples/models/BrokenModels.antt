-- Models that aren't sound.
use Rattle.std.proofs.Common.{◌≡◌, [], ◌∷◌, refl, arith}
use Rattle.std.specs.Prelude.{true, false, Contains, codes}
use Rattle.emc_base.specs.declared.value.Kind.TheVariants as kind
use Rattle.round_trip.specs.Words.{TypeId, EntityType, IsConcrete}
use Rattle.edm_types.specs.IsA.{same}
use Rattle.edm_types.specs.declared.model.TypeNode as node
use Rattle.edm_types.specs.declared.model.TypeNode.TheBlock as block
use Rattle.worked_examples.specs.Ids.{type_id, set_id, prop_id, optional, leaf}
use Rattle.worked_examples.specs.people.People.{person_type, people_set, id_prop}
use Rattle.worked_examples.proofs.facts.Small.{here, any_here, each_at}
use Rattle.round_trip.specs.soundness.Lookups.{IsNeeded, HasConcrete}
use Rattle.edm_types.specs.Forest.{IsTypeNode, IsForest, top}
use Rattle.round_trip.specs.soundness.models.Inheritance.{IsKeyProp}
use Rattle.round_trip.specs.soundness.models.Constraints.{HasIndependentMults, HasArrow, arrow}
use Rattle.round_trip.specs.soundness.models.Models.{IsSoundModel}
use Rattle.worked_examples.specs.sound_examples.BrokenModels.{renamed_employee, inherited_name, unlisted_owner, unlisted_model, optional_key, own_base, own_person, lost_employees, nobody, paired, paired_model, own_principal, own_principal_model}
use Rattle.worked_examples.proofs.sound_examples.Lists.{all, not_among}

no_key : ¬ IsKeyProp optional_key (prop_id 0)
no_key id = let is : optional (type_id 0) (codes "Id") kind.Int32 ≡ id.declared = cc (id.is_declared) in absurd (cc (is, id.needed))

pub no_optional_key : ¬ IsSoundModel optional_key
no_optional_key sound = no_key ((sound.types (type_id 0) person_type refl).key_props 0 (prop_id 0) (omega arith))

pub no_own_base : ¬ IsSoundModel own_base
no_own_base sound = sound.bases (type_id 0) (type_id 0, (own_person, refl, refl), same (type_id 0))

unsound_forest : ¬ IsForest lost_employees lost_employees.forest
unfolding node.out-TypeNode denote.Hole.Carrier.out block.shown-the_row-TypeNode-0 denote.Hole.Carrier.shown
unsound_forest forest =
    let person : IsTypeNode lost_employees (leaf (type_id 0)) = forest.nodes (leaf (type_id 0)) (top (leaf (type_id 0)) (here (leaf (type_id 0)) [])) in
    absurd (cc (person.children))

pub no_lost_employees : ¬ IsSoundModel lost_employees
no_lost_employees sound = unsound_forest sound.forest

none_concrete : (t : TypeId) → ¬ IsConcrete nobody t
none_concrete t has =
    let abstract : has.0.is_abstract ≡ true = each_at (λ i (type : EntityType). type.is_abstract ≡ true) nobody.types (refl, tt) t.index has.0 has.1 in
    absurd (cc (has.2, abstract))

pub no_nobody : ¬ IsSoundModel nobody
no_nobody sound = let some : HasConcrete nobody (type_id 0) = sound.elements 0 people_set (omega arith) in none_concrete some.0 some.1

pub no_paired : ¬ IsSoundModel paired_model
no_paired sound =
    let mults : HasIndependentMults paired = (sound.assocs 0 paired (omega arith)).kind in
    absurd (cc (mults.first refl))

leads_back : HasArrow own_principal_model (set_id 0) (set_id 0)
leads_back = record {
  assoc = own_principal;
  constraint = record { dependent_first = false; principal = prop_id 0 ∷ []; dependent = prop_id 0 ∷ [] };
  is_assoc = here own_principal [];
  constrained = refl;
  by_key = any_here (Contains (prop_id 0 ∷ [])) (prop_id 0) [] (here (prop_id 0) []);
  needed = all (IsNeeded own_principal_model) (prop_id 0 ∷ []) ((id_prop, refl, refl), tt);
  from_is = refl;
  to_is = refl;
}

pub no_own_principal : ¬ IsSoundModel own_principal_model
no_own_principal sound = sound.arrows (set_id 0) (arrow (set_id 0) (set_id 0) leads_back)

pub no_inherited_name : ¬ IsSoundModel inherited_name
no_inherited_name sound =
    (sound.names.members (type_id 1) renamed_employee refl).inherited (type_id 0) person_type (type_id 0, (renamed_employee, refl, refl), same (type_id 0)) refl
    0 (codes "Name") (omega arith) (1, omega arith, refl)

pub no_unlisted : ¬ IsSoundModel unlisted_model
no_unlisted sound =
    let among : Contains [] (prop_id 0) = (sound.assocs 0 unlisted_owner (omega arith)).kind.lists.principal.all 0 (prop_id 0) (omega arith) in
    not_among [] (prop_id 0) tt among
