-- The part of a supported state that holds what was found is the part that holds what is needed.
use Rattle.std.proofs.Common.{◌≡◌, ℕ, List, Bool, sym, ◌∙◌}
use Rattle.std.specs.BTreeSet.{BTreeSet}
use Rattle.std.specs.List.{list_any}
use Rattle.round_trip.specs.Words.{EntityModel, State}
use Rattle.population.specs.Kept.{needed_keys, part_of}
use Rattle.population.specs.Made.{part_made, state_of}
use Rattle.population.specs.Support.{same_placed}
use Rattle.population.specs.declared.placed.PlacedKey.{PlacedKey}
use Rattle.population.specs.declared.placed.Supporting.{Supporting}
use Rattle.population.proofs.made.Parts.{part_is_made}
use Rattle.supported_states.specs.small_parts.Small.{IsSupported}
use Rattle.supported_states.specs.Spots.{HoldsJust, holds}
use Rattle.supported_states.specs.declared.spots.Spot.{Spot}

pub part_kept : (model : EntityModel) (outer : ℕ) (one : Supporting) → IsSupported model outer one → (states : List State) (roots : List PlacedKey) (found : BTreeSet Spot)
    → HoldsJust (needed_keys model states roots) found → part_made model outer one (holds found) ≡ part_of model states roots (state_of model outer one)
part_kept model outer one is states roots found just =
    let needed : PlacedKey → Bool = λ placed. list_any (same_placed placed) (needed_keys model states roots) in
    (λ k. part_made model outer one (λ placed. just placed k)) ∙ sym (part_is_made model outer is.numbers one is.whole is.legal needed)
