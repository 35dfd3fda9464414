use Rattle.std.proofs.Common.{List, [], ◌∷◌, subst, ◌∙◌}
use Rattle.std.proofs.lemmas.Result.{IfOk-weaker}
use Rattle.population.specs.Kept.{needed_keys}
use Rattle.population.specs.Made.{state_of}
use Rattle.population.specs.declared.placed.PlacedKey.{PlacedKey}
use Rattle.supported_states.specs.Spots.{HoldsJust}
use Rattle.supported_states.proofs.small_parts.Kept.{part_kept}
use Rattle.supported_states.proofs.small_parts.small.small_state.Goals as goal

pub returns : goal.returns
returns c =
    let model = c.args.model.now in
    let row = c.args.row in
    let one = c.args.one.now in
    let found = c.in_ok-found.found in
    let Holds : List PlacedKey → Type 0 = λ roots. HoldsJust (needed_keys model (state_of model row one ∷ []) roots) found in
    IfOk-weaker c.part_made.result _ _
    (λ state is. is ∙ part_kept model row one c.requires (state_of model row one ∷ []) c.args.roots.now found (subst Holds c.as_slice.ensures.items c.in_ok-found.ensures)) c.part_made.ensures
