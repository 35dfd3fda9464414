use Rattle.std.proofs.Common.{◌++◌, ◌∷◌, [], ap, map, sym, take, ◌∙◌}
use Rattle.std.specs.List.{enumerate_from}
use Rattle.std.proofs.lemmas.List.{map-append}
use Rattle.emc_base.proofs.Loops.{at_enumerated, take-enumerated, take_item}
use Rattle.query_cases.specs.case_index.Found.{numbered_code, shown_code}
use Rattle.query_cases.proofs.case_index.index.codes_of.Goals as goal

pub loop-place-preserved : goal.loop-place-preserved
loop-place-preserved c =
    let cases = c.args.cases.now in
    let coded = numbered_code c.args.telling.now in
    let i = c.loop-place.place in
    let case = c.index-cases-place.result in
    let numbered = at_enumerated cases i case c.loop-place-test.true c.index-cases-place.is in
    let more = ap (map coded) (take_item (enumerate_from 0 cases) i (i, case) numbered) ∙ map-append coded (take i (enumerate_from 0 cases)) ((i, case) ∷ []) in
    ap (map shown_code) c.in_ok-push.ensures.items ∙ map-append shown_code c.loop-place.coded.items ((c.in_ok-case_code.field-0, i) ∷ [])
    ∙ (λ k. c.loop-place.invariant k ++ (c.in_ok-case_code.ensures k, i) ∷ []) ∙ sym more

pub returns : goal.returns
returns c = c.loop-place.invariant ∙ ap (map (numbered_code c.args.telling.now)) (take-enumerated c.args.cases.now c.loop-place.place c.loop-place-test.false)
