use Rattle.std.proofs.Common.{List, length, ◌≤◌, map, refl, ap, subst, ◌∙◌}
use Rattle.std.proofs.lemmas.List.{take_all}
use Rattle.std.proofs.lemmas.Option.{slice_get_read}
use Rattle.emc_base.specs.Lists.{At}
use Rattle.emc_base.proofs.Turns.{mapped_more}
use Rattle.case_laws.specs.candidates.Rows.{shown_rows}
use Rattle.query_cases.specs.declared.case_reading.reading.Source.{Source}
use Rattle.query_cases.specs.case_reading.Sources.{source_value}
use Rattle.query_cases.proofs.case_reading.reading.Reading.entity.Goals as goal

pub loop-source-preserved : goal.loop-source-preserved
loop-source-preserved c =
    let i = c.loop-source.source-index in
    let sources : List Source = c.args.self.now.values in
    let source : Source = c.source-item.result in
    let here : At sources i source = subst (λ (list : List Source). At list i source) c.as_slice-source-items.ensures.items
    (slice_get_read _ _ i _ refl c.loop-source-test.true c.source-item.is) in
    c.in_ok-push.ensures.ok
    ∙ mapped_more (source_value (shown_rows c.args.rows.now)) sources i source c.loop-source.values c.in_ok-copy.field-0 c.loop-source.invariant here
    (c.in_ok-copy.ensures ∙ c.source_value.ensures)

pub returns : goal.returns
returns c =
    let sources : List Source = c.args.self.now.values in
    let i = c.loop-source.source-index in
    let past : length sources ≤ i = subst (λ (list : List Source). length list ≤ i) c.as_slice-source-items.ensures.items c.loop-source-test.false in
    λ k. record { ty = c.args.case.now.region.ty; values = (c.loop-source.invariant ∙ ap (map (source_value (shown_rows c.args.rows.now))) (take_all i sources past)) k }
