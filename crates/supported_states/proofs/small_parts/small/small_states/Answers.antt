use Rattle.std.proofs.Common.{◌≡◌, List, [], ◌∷◌, subst, ◌∙◌}
use Rattle.std.proofs.lemmas.Result.{IfOk-at_ok, IfOk-weaker}
use Rattle.population.specs.Kept.{needed_keys}
use Rattle.population.specs.Made.{part_made, state_of}
use Rattle.population.specs.declared.placed.PlacedKey.{PlacedKey}
use Rattle.supported_states.specs.Spots.{HoldsJust, holds as holds_key}
use Rattle.supported_states.proofs.small_parts.Kept.{part_kept}
use Rattle.supported_states.proofs.small_parts.small.small_states.Goals as goal

pub returns-clause-one : goal.returns-clause-one
returns-clause-one c =
    let model = c.args.model.now in
    let row = c.args.row in
    let one = c.args.one.now in
    let two = c.args.two.now in
    let states = state_of model row one ∷ (state_of model row two ∷ []) in
    let found = c.in_ok-found.found in
    let Holds : List PlacedKey → Type 0 = λ roots. HoldsJust (needed_keys model states roots) found in
    let holds = subst Holds c.as_slice.ensures.items c.in_ok-found.ensures in
    IfOk-weaker c.beside.result _ _
    (λ pair is. is.0 ∙ c.in_ok-first.ensures ∙ part_kept model row one c.requires.one states c.args.roots.now found holds) c.beside.ensures

pub returns-clause-two : goal.returns-clause-two
returns-clause-two c =
    let model = c.args.model.now in
    let row = c.args.row in
    let one = c.args.one.now in
    let two = c.args.two.now in
    let states = state_of model row one ∷ (state_of model row two ∷ []) in
    let found = c.in_ok-found.found in
    let Holds : List PlacedKey → Type 0 = λ roots. HoldsJust (needed_keys model states roots) found in
    let holds = subst Holds c.as_slice.ensures.items c.in_ok-found.ensures in
    IfOk-weaker c.beside.result _ _
    (λ pair is. IfOk-at_ok (λ state. state ≡ part_made model row two (holds_key found)) is.1 c.part_made-2.ensures ∙ part_kept model row two c.requires.two states c.args.roots.now found holds) c.beside.ensures
