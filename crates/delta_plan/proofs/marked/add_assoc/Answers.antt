use Rattle.std.proofs.Common.{◌++◌, ◌∙◌, ap, filter, map}
use Rattle.std.proofs.lemmas.List.{take_all}
use Rattle.delta_plan.specs.Marked.{is_marked, unit_of_link}
use Rattle.delta_plan.specs.Units.{of_link}
use Rattle.delta_plan.proofs.Marking.{next_after, reached}
use Rattle.delta_plan.proofs.marked.add_assoc.Goals as goal

pub loop-link-preserved : goal.loop-link-preserved
loop-link-preserved c = λ model.
    let links = c.args.links.now in
    let link = c.link-item.result in
    let i = c.loop-link.link-index in
    let here = reached links i link c.loop-link-test.true c.link-item.is in
    next_after (is_marked model c.args.marks.now) (of_link c.args.assoc) links i link here
    (map unit_of_link c.args.found.now.items) (map unit_of_link c.loop-link.found.items) (map unit_of_link c.add_link.new.found.items)
    (c.loop-link.invariant model) (c.in_ok-add_link.ensures model)

pub returns : goal.returns
returns c = λ model.
    let all = map (of_link c.args.assoc) in
    c.loop-link.invariant model ∙ ap (λ links. map unit_of_link c.args.found.now.items ++ filter (is_marked model c.args.marks.now) (all links))
    (take_all c.loop-link.link-index c.args.links.now c.loop-link-test.false)
