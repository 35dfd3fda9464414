-- Bosses: people who have bosses among them; the model is sound however many bosses a person has.
use Rattle.std.proofs.Common.{[], ◌∷◌, refl}
use Rattle.round_trip.specs.Words.{Mult}
use Rattle.worked_examples.specs.people.People.{person_type, people_set}
use Rattle.worked_examples.specs.bosses.Bosses.{bossed_model, bosses}
use Rattle.round_trip.specs.soundness.models.Constraints.{IsSoundAssoc}
use Rattle.round_trip.specs.soundness.models.Models.{IsSoundModel}
use Rattle.worked_examples.proofs.sound_examples.models.Models.{end_of_set}
use Rattle.worked_examples.proofs.sound_examples.models.People.{sound_with}

module _ (mult : Mult) where
  sound_bosses : IsSoundAssoc (bossed_model mult) (bosses mult)
  sound_bosses = record {
    first = end_of_set (bossed_model mult) (bosses mult).first person_type people_set refl refl refl refl;
    second = end_of_set (bossed_model mult) (bosses mult).second person_type people_set refl refl refl refl;
    kind = record { first = λ one. absurd (cc); second = λ one. refl };
  }

  pub sound : IsSoundModel (bossed_model mult)
  sound = sound_with (bosses mult ∷ []) refl (sound_bosses, tt) ((λ constraint constrained by_key needed. absurd (cc)), tt)
