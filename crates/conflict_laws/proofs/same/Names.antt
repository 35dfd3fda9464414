-- The place of a key of a set tells the set and the key, and is no place of an association set.
use Rattle.std.proofs.Common.{◌≡◌, ◌≢◌, ℕ, List, map, Contains, sym, subst}
use Rattle.emc_base.specs.Lists.{AreApart}
use Rattle.emc_base.proofs.Lists.{same_place}
use Rattle.emc_base.proofs.Mapped.{contains_at, contains_map}
use Rattle.emc_base.proofs.facts.Pairs.{apart_between}
use Rattle.round_trip.specs.Words.{AssocId, Assoc, EntityModel, EntitySet, SetId, At}
use Rattle.round_trip.specs.soundness.models.Models.{IsSoundModel}
use Rattle.schema_laws.proofs.state_demand.owners.Owners.{pairs_from_map}
use Rattle.schema_laws.proofs.sound_demand.owners.Pairing.{apart_first}

module _ (model : EntityModel) (sound : IsSoundModel model) where
  -- the names of the sets, and those of the association sets
  abbrev set_names : List (List ℕ)
  set_names = map (λ (set : EntitySet). set.name) model.sets

  abbrev assoc_names : List (List ℕ)
  assoc_names = map (λ (assoc : Assoc). assoc.set_name) model.assocs

  -- a set is told by its name
  pub one_set : (s u : SetId) (set other : EntitySet) → At model.sets s.index set → At model.sets u.index other → set.name ≡ other.name → s ≡ u
  one_set s u set other here there same =
      let name_of : EntitySet → List ℕ = λ one. one.name in
      let apart : AreApart set_names = apart_first set_names assoc_names sound.names.sets in
      let number = same_place name_of model.sets s.index u.index set other (pairs_from_map (λ a b. a ≢ b) name_of model.sets apart) here there same in
      λ k. record { index = number k }

  -- and no association set has this name
  pub no_assoc : (s : SetId) (a : AssocId) (set : EntitySet) (assoc : Assoc) → At model.sets s.index set → At model.assocs a.index assoc → set.name ≡ assoc.set_name → ⊥
  no_assoc s a set assoc here there same =
      apart_between set_names assoc_names set.name sound.names.sets (contains_map (λ (one : EntitySet). one.name) model.sets set (contains_at model.sets s.index set here))
      (subst (Contains assoc_names) (sym same) (contains_map (λ (one : Assoc). one.set_name) model.assocs assoc (contains_at model.assocs a.index assoc there)))
