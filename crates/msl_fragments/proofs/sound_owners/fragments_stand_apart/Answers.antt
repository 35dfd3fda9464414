use Rattle.msl_fragments.proofs.sound_owners.places.ApartPlaces.{places_apart}
use Rattle.msl_fragments.proofs.sound_owners.fragments_stand_apart.Goals as goal

pub returns : goal.returns
returns c = record { places = λ model store raw few. places_apart raw few model store }
