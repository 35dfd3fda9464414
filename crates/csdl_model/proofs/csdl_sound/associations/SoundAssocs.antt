-- The associations that a document means are sound. V14, V16 to V18, V20.
use Rattle.std.proofs.Common.{◌≡◌, List, All, Option, Some, None, option_map, refl, sym, ap, subst, ◌∙◌}
use Rattle.std.specs.Option.{MatchOption}
use Rattle.emc_base.proofs.Lists.{all_from_members}
use Rattle.round_trip.specs.Words.{Assoc, Constraint, End}
use Rattle.round_trip.specs.soundness.models.Constraints.{HasIndependentMults, IsSoundAssoc, IsSoundConstraint, IsSoundEnd}
use Rattle.csdl_names.specs.declared.csdl_lists.raw.RawEnd.{RawEnd}
use Rattle.csdl_names.specs.declared.csdl_lists.raw.RawModel.{RawModel}
use Rattle.csdl_associations.specs.csdl_constraints.Multiplicities.{BreaksFreeMults}
use Rattle.csdl_meaning.specs.ModelMeaning.{constraint_of, meaning}
use Rattle.csdl_model.specs.csdl_sound.SoundMeaning.{KeepsRules}
use Rattle.csdl_model.proofs.csdl_sound.constraints.ConstraintSides.{constrained}
use Rattle.csdl_model.proofs.csdl_sound.constraints.KeptConstraints.{free_mults}
use Rattle.csdl_model.proofs.csdl_sound.associations.MeantAssocs.{IsMeantBy, first_at, is_named, meant_by, second_at}
use Rattle.csdl_model.proofs.csdl_sound.associations.MeantEnds.{sound_end}
use Rattle.csdl_model.proofs.csdl_sound.associations.Mults.{opposite_many}
use Rattle.csdl_model.proofs.csdl_sound.constraints.SoundConstraints.{sound_constraint}

-- what is mapped of nothing is nothing
map_none : {X Y : Type 0} (f : X → Y) (found : Option X) → option_map f found ≡ None → found ≡ None
map_none f None none = refl
map_none f (Some x) none = absurd cc

module _ (raw : RawModel) (keeps : KeepsRules raw) (assoc : Assoc) (by : IsMeantBy raw assoc) where
  -- V16, without a constraint
  independent : assoc.constraint ≡ None → HasIndependentMults assoc
  independent none =
      let free = map_none (constraint_of raw by.association by.first) by.association.constraint (sym (ap (λ (assoc : Assoc). assoc.constraint) by.is) ∙ none) in
      let P : List RawEnd → Type 0 = λ ends. ¬ BreaksFreeMults ends in
      let mults = opposite_many by.first by.second (subst P by.two (free_mults raw keeps.constraints by.number by.association by.is_association (is_named raw assoc by) free)) in
      record {
        first = λ one. ap (λ (assoc : Assoc). assoc.second.mult) by.is ∙ mults.0 (sym (ap (λ (assoc : Assoc). assoc.first.mult) by.is) ∙ one);
        second = λ one. ap (λ (assoc : Assoc). assoc.first.mult) by.is ∙ mults.1 (sym (ap (λ (assoc : Assoc). assoc.second.mult) by.is) ∙ one);
      }

  -- without a constraint, or with one
  sound_kind : (found : Option Constraint) → assoc.constraint ≡ found → MatchOption found (HasIndependentMults assoc) (IsSoundConstraint (meaning raw) assoc)
  sound_kind None is = independent is
  sound_kind (Some constraint) is = sound_constraint raw keeps assoc by constraint (constrained raw keeps assoc by constraint is)

  sound_assoc : IsSoundAssoc (meaning raw) assoc
  sound_assoc = let P : End → Type 0 = λ end. IsSoundEnd (meaning raw) end in record {
    first = subst P (sym (ap (λ (assoc : Assoc). assoc.first) by.is)) (sound_end raw keeps assoc by 0 by.first (first_at raw assoc by));
    second = subst P (sym (ap (λ (assoc : Assoc). assoc.second) by.is)) (sound_end raw keeps assoc by 1 by.second (second_at raw assoc by));
    kind = sound_kind assoc.constraint refl;
  }

-- all of them
pub sound_assocs : (raw : RawModel) → KeepsRules raw → All (IsSoundAssoc (meaning raw)) (meaning raw).assocs
sound_assocs raw keeps = all_from_members (IsSoundAssoc (meaning raw)) (meaning raw).assocs (λ assoc has. sound_assoc raw keeps assoc (meant_by raw assoc has))
