use Rattle.std.proofs.Common.{◌≡◌, ◌<◌, length, List, refl, sym, ap, ◌∙◌, arith}
use Rattle.std.proofs.lemmas.Option.{slice_get_read}
use Rattle.emc_base.specs.Lists.{At}
use Rattle.regions.specs.Settled.{Settled, settle}
use Rattle.regions.specs.declared.pattern.Symbol.{Symbol}
use Rattle.region_states.specs.conflicts.SameFacts.{are_compatible}
use Rattle.containment.specs.same_conflicts.Matching.{can_be_same, held_by}
use Rattle.containment.proofs.same_conflicts.Walked.{compatible_is, match_below_all, match_mapped, match_more, no_match_place}
use Rattle.containment.proofs.same_conflicts.matching.cells_match.Goals as goal

pub returns-then-not-can_be_same : goal.returns-then-not-can_be_same
returns-then-not-can_be_same c =
    let cells = c.args.cells.now in
    let faced = c.args.faced.now in
    let i = c.loop-place.place in
    let cell = c.index-cells-place.result in
    let other = c.index-faced-place.result in
    let one : List Symbol → Settled = settle c.args.model.now c.args.atoms.now in
    let two : List Symbol → Settled = settle c.args.model.now c.args.others.now in
    let held = c.held_by-one.ensures ∙ ap (λ listed. held_by (one listed)) c.as_slice.ensures.items in
    let held_too = c.held_by-two.ensures ∙ ap (λ listed. held_by (two listed)) c.as_slice-in-loop-place.ensures.items in
    let is : c.can_be_same.result ≡ are_compatible (one cell) (two other) =
    c.can_be_same.ensures ∙ (λ k. can_be_same (held k) (held_too k)) ∙ compatible_is (one cell) (two other) in
    let within : i < length faced = omega arith in
    let here : At cells i cell = slice_get_read _ _ i _ refl c.loop-place-test.true c.index-cells-place.is in
    let there : At faced i other = slice_get_read _ _ i _ refl within c.index-faced-place.is in
    sym (match_mapped are_compatible one two cells faced
    ∙ no_match_place (λ x y. are_compatible (one x) (two y)) cells faced i cell other here there (sym is ∙ c.if-not-can_be_same.true))

pub loop-place-preserved : goal.loop-place-preserved
loop-place-preserved c =
    let cells = c.args.cells.now in
    let faced = c.args.faced.now in
    let i = c.loop-place.place in
    let cell = c.index-cells-place.result in
    let other = c.index-faced-place.result in
    let one : List Symbol → Settled = settle c.args.model.now c.args.atoms.now in
    let two : List Symbol → Settled = settle c.args.model.now c.args.others.now in
    let held = c.held_by-one.ensures ∙ ap (λ listed. held_by (one listed)) c.as_slice.ensures.items in
    let held_too = c.held_by-two.ensures ∙ ap (λ listed. held_by (two listed)) c.as_slice-in-loop-place.ensures.items in
    let is : c.can_be_same.result ≡ are_compatible (one cell) (two other) =
    c.can_be_same.ensures ∙ (λ k. can_be_same (held k) (held_too k)) ∙ compatible_is (one cell) (two other) in
    let within : i < length faced = omega arith in
    let here : At cells i cell = slice_get_read _ _ i _ refl c.loop-place-test.true c.index-cells-place.is in
    let there : At faced i other = slice_get_read _ _ i _ refl within c.index-faced-place.is in
    match_more (λ x y. are_compatible (one x) (two y)) i cells faced c.loop-place.invariant cell other here there (sym is ∙ c.if-not-can_be_same.false)

pub returns : goal.returns
returns c =
    let one : List Symbol → Settled = settle c.args.model.now c.args.atoms.now in
    let two : List Symbol → Settled = settle c.args.model.now c.args.others.now in
    sym (match_mapped are_compatible one two c.args.cells.now c.args.faced.now
    ∙ match_below_all (λ x y. are_compatible (one x) (two y)) c.loop-place.place c.args.cells.now c.args.faced.now c.if-cells-faced.false c.loop-place-test.false
    c.loop-place.invariant)
