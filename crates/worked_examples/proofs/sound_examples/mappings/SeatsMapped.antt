-- Seats: a key of two parts. The mapping is sound, and isn't with a second fragment that pairs the key differently.
use Rattle.std.proofs.Common.{◌≡◌, inl, [], ◌∷◌, refl, arith}
use Rattle.std.specs.Prelude.{◌==◌, if◌then◌else◌, codes}
use Rattle.round_trip.specs.Words.{PropId, TableId, ColId}
use Rattle.edm_types.specs.IsA.{same}
use Rattle.worked_examples.specs.Ids.{type_id, set_id, prop_id, table_id, pair_of}
use Rattle.worked_examples.specs.Seats.{seats, seats_model, seats_set, row_prop, number_prop, all_seats}
use Rattle.round_trip.specs.soundness.models.Models.{IsSoundModel}
use Rattle.round_trip.specs.soundness.mappings.Mappings.{IsSoundFragment, IsSoundSchema}
use Rattle.round_trip.specs.soundness.mappings.Owners.{set}
use Rattle.worked_examples.specs.sound_examples.Seats.{swapped, swapped_seats}
use Rattle.worked_examples.proofs.sound_examples.Names.{other_prop}
use Rattle.worked_examples.proofs.sound_examples.models.OneType.{one_type_sound}
use Rattle.worked_examples.proofs.sound_examples.mappings.Schemas.{mapping_from}
use Rattle.worked_examples.proofs.sound_examples.mappings.FragmentFacts.{fragment_from}
use Rattle.worked_examples.proofs.sound_examples.stores.SoundStores as stores

sound_model : IsSoundModel seats_model
sound_model = one_type_sound (codes "Seat") (prop_id 0 ∷ prop_id 1 ∷ []) (prop_id 0 ∷ prop_id 1 ∷ []) (row_prop ∷ number_prop ∷ []) (codes "Seats") []
    refl refl ((tt, refl), ((tt, refl), tt)) (tt, (tt, tt)) tt tt

sound_fragment : IsSoundFragment seats all_seats
sound_fragment = fragment_from seats all_seats refl ((seats_set, refl, same (type_id 0)), tt) (((λ e. e), refl), (((λ e. e), refl), tt)) tt

-- the first column is that of the row
abbrev prop_of : TableId → ColId → PropId
prop_of t c = if c.index == 0 then prop_id 0 else prop_id 1

pub sound : IsSoundSchema seats
sound = record {
  model = sound_model;
  store = stores.seats;
  mapping = mapping_from seats prop_of (λ t. set (set_id 0)) refl ((sound_fragment, (refl, refl)), tt) tt;
}

-- the first column would be written with the row and with the number
pub no_swapped : ¬ IsSoundSchema swapped
no_swapped sound =
    let alike : prop_id 0 ≡ prop_id 1 = sound.mapping.pairings (table_id 0) (set_id 0) (pair_of 0 0 ∷ pair_of 1 1 ∷ []) (pair_of 0 1 ∷ pair_of 1 0 ∷ [])
    (inl (record { fragment = all_seats; is_fragment = (0, omega arith, refl); to_table = refl; of_set = refl; pairs_are = refl }))
    (inl (record { fragment = swapped_seats; is_fragment = (1, omega arith, refl); to_table = refl; of_set = refl; pairs_are = refl }))
    (pair_of 0 0) (pair_of 1 0) (0, omega arith, refl) (1, omega arith, refl) refl (1, omega arith, refl) in
    other_prop (prop_id 0) (prop_id 1) refl alike
