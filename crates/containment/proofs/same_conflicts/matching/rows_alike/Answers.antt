use Rattle.std.proofs.Common.{◌<◌, length, Bool, refl, sym, ◌∙◌, arith}
use Rattle.std.proofs.lemmas.Option.{slice_get_read}
use Rattle.emc_base.specs.Lists.{At}
use Rattle.regions.specs.declared.pattern.PatternRow.{PatternRow}
use Rattle.region_states.specs.region_basis.BasisOf.{basis_of}
use Rattle.region_states.specs.conflicts.SameFacts.{match_all, rows_match}
use Rattle.containment.proofs.same_conflicts.Walked.{match_below_all, match_more, no_match_place}
use Rattle.containment.proofs.same_conflicts.matching.rows_alike.Goals as goal

pub returns-then-not-rows_match : goal.returns-then-not-rows_match
returns-then-not-rows_match c =
    let rows = c.as_slice-rows.result.now in
    let others = c.as_slice-others.result.now in
    let i = c.loop-place.place in
    let row = c.index-rows-place.result in
    let other = c.index-others-place.result in
    let m : PatternRow → PatternRow → Bool = rows_match (basis_of c.args.parts.now) c.args.one.now.region.now.atoms c.args.two.now.region.now.atoms in
    let within : i < length others = omega arith in
    let here : At rows i row = slice_get_read _ _ i _ refl c.loop-place-test.true c.index-rows-place.is in
    let there : At others i other = slice_get_read _ _ i _ refl within c.index-others-place.is in
    let none = no_match_place m rows others i row other here there (sym c.rows_match.ensures ∙ c.if-not-rows_match.true) in
    sym (sym (λ k. match_all m (c.as_slice-rows.ensures.items k) (c.as_slice-others.ensures.items k)) ∙ none)

pub loop-place-preserved : goal.loop-place-preserved
loop-place-preserved c =
    let rows = c.as_slice-rows.result.now in
    let others = c.as_slice-others.result.now in
    let i = c.loop-place.place in
    let row = c.index-rows-place.result in
    let other = c.index-others-place.result in
    let m : PatternRow → PatternRow → Bool = rows_match (basis_of c.args.parts.now) c.args.one.now.region.now.atoms c.args.two.now.region.now.atoms in
    let within : i < length others = omega arith in
    let here : At rows i row = slice_get_read _ _ i _ refl c.loop-place-test.true c.index-rows-place.is in
    let there : At others i other = slice_get_read _ _ i _ refl within c.index-others-place.is in
    match_more m i rows others c.loop-place.invariant row other here there (sym c.rows_match.ensures ∙ c.if-not-rows_match.false)

pub returns : goal.returns
returns c =
    let rows = c.as_slice-rows.result.now in
    let others = c.as_slice-others.result.now in
    let m : PatternRow → PatternRow → Bool = rows_match (basis_of c.args.parts.now) c.args.one.now.region.now.atoms c.args.two.now.region.now.atoms in
    let all = match_below_all m c.loop-place.place rows others c.if-rows-others.false c.loop-place-test.false c.loop-place.invariant in
    sym (sym (λ k. match_all m (c.as_slice-rows.ensures.items k) (c.as_slice-others.ensures.items k)) ∙ all)
