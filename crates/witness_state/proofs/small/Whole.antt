-- Each key of a support has a part for each property of its set's key.
use Rattle.std.proofs.Common.{ℕ, List, Contains}
use Rattle.std.proofs.lemmas.Slice.Zip.{AllZip-long}
use Rattle.round_trip.specs.Words.{EntityModel}
use Rattle.round_trip.specs.soundness.Lookups.{set_key}
use Rattle.population.specs.Given.{HasNumbers, HasShortParts, IsShortFor}
use Rattle.population.specs.Made.{AreWhole}
use Rattle.population.specs.Support.{support}
use Rattle.population.specs.declared.placed.Placed.{Placed}
use Rattle.population.specs.declared.placed.PlacedKey.{PlacedKey}
use Rattle.population.proofs.plain.Shortness.{step_short}
use Rattle.population.proofs.supporting.Support.{key_in, support_all}

-- where the parts of the wanted keys are short, so are those of all keys of the support, and there are as many as in the key of the set
pub support_whole : (model : EntityModel) (outer : ℕ) → HasNumbers model outer → (given : List Placed) (wanted : List PlacedKey)
    → ((placed : PlacedKey) → Contains wanted placed → HasShortParts model placed.set placed.key) → AreWhole model (support model outer given wanted)
support_whole model outer has given wanted short = record {
  long = λ u key there. AllZip-long (IsShortFor model) (set_key model u) key
      (support_all model outer given (λ placed. HasShortParts model placed.set placed.key) (λ from to before has_step free. step_short model outer has from to before has_step)
      wanted (λ placed has_placed free. short placed has_placed) (record { set = u; key = key }) (key_in (support model outer given wanted) u key there));
}
