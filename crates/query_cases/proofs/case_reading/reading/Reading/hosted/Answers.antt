use Rattle.std.proofs.Common.{List, length, ◌≤◌, map, refl, ap, subst, ◌∙◌}
use Rattle.std.proofs.lemmas.List.{take_all}
use Rattle.std.proofs.lemmas.Option.{slice_get_read}
use Rattle.emc_base.specs.Lists.{At}
use Rattle.emc_base.proofs.Turns.{mapped_more}
use Rattle.case_laws.specs.candidates.Rows.{shown_rows}
use Rattle.query_cases.specs.declared.case_reading.reading.LinkReading.{LinkReading}
use Rattle.query_cases.specs.case_reading.Links.{read_link}
use Rattle.query_cases.proofs.case_reading.reading.Reading.hosted.Goals as goal

pub loop-link-preserved : goal.loop-link-preserved
loop-link-preserved c =
    let i = c.loop-link.link-index in
    let links : List LinkReading = c.args.self.now.links in
    let link : LinkReading = c.link-item.result in
    let here : At links i link = subst (λ (list : List LinkReading). At list i link) c.as_slice-link-items.ensures.items
    (slice_get_read _ _ i _ refl c.loop-link-test.true c.link-item.is) in
    c.in_ok-push.ensures.ok
    ∙ mapped_more (read_link (shown_rows c.args.rows.now)) links i link c.loop-link.links c.in_ok-hosted.field-0 c.loop-link.invariant here c.in_ok-hosted.ensures

pub returns : goal.returns
returns c =
    let links : List LinkReading = c.args.self.now.links in
    let i = c.loop-link.link-index in
    let past : length links ≤ i = subst (λ (list : List LinkReading). length list ≤ i) c.as_slice-link-items.ensures.items c.loop-link-test.false in
    c.loop-link.invariant ∙ ap (map (read_link (shown_rows c.args.rows.now))) (take_all i links past)
