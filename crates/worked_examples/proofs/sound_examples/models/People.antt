-- People: the model is sound, with any sound associations of them.
use Rattle.std.proofs.Common.{◌≡◌, [], ◌∷◌, List, refl, arith}
use Rattle.std.specs.Prelude.{true, codes}
use Rattle.std.specs.List.{AllByRecursion}
use Rattle.round_trip.specs.Words.{Assoc}
use Rattle.worked_examples.specs.Ids.{prop_id}
use Rattle.worked_examples.specs.people.People.{people_with, people_model, id_prop, name_prop}
use Rattle.round_trip.specs.soundness.models.Constraints.{IsSoundAssoc}
use Rattle.round_trip.specs.soundness.models.Models.{IsSoundModel}
use Rattle.worked_examples.proofs.sound_examples.Tests.{all_true}
use Rattle.worked_examples.proofs.sound_examples.models.Models.{FallsBack}
use Rattle.worked_examples.proofs.sound_examples.models.OneType.{one_type_tests, one_type_sound}

pub sound_with : (assocs : List Assoc)
    → all_true (one_type_tests (codes "Person") (prop_id 0 ∷ []) (prop_id 0 ∷ prop_id 1 ∷ []) (id_prop ∷ name_prop ∷ []) (codes "People") assocs) ≡ true
    → AllByRecursion (IsSoundAssoc (people_with assocs)) assocs → AllByRecursion (FallsBack (people_with assocs)) assocs → IsSoundModel (people_with assocs)
sound_with assocs tests linked falls = one_type_sound (codes "Person") (prop_id 0 ∷ []) (prop_id 0 ∷ prop_id 1 ∷ []) (id_prop ∷ name_prop ∷ []) (codes "People") assocs
    tests refl ((tt, refl), tt) (tt, ((omega arith, omega arith), tt)) linked falls

pub sound : IsSoundModel people_model
sound = sound_with [] refl tt tt
