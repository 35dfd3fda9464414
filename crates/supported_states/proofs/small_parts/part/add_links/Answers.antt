use Rattle.std.proofs.Common.{◌≡◌, ◌++◌, true, false, append_assoc, ap, ◌∙◌}
use Rattle.std.proofs.lemmas.Result.{IfOk-weaker}
use Rattle.supported_states.specs.small_parts.Parts.{given_links, links_added}
use Rattle.supported_states.specs.small_parts.Sought.{sought_in}
use Rattle.supported_states.proofs.small_parts.Beside.{list_is}
use Rattle.supported_states.proofs.small_parts.part.add_links.Goals as goal

pub returns : goal.returns
returns c =
    let sought = c.args.sought.now in
    let id = c.args.id in
    let assoc = c.args.assoc.now in
    let before = c.args.links.now in
    let given = given_links sought id assoc sought.one.now.links in
    let first = links_added sought true id assoc (sought_in sought assoc.first.set) in
    let second = links_added sought false id assoc (sought_in sought assoc.second.set) in
    let is_first = ap (links_added sought true id assoc) (c.entities_at.ensures ∙ list_is sought c.args.entities.now c.requires.sought assoc.first.set) in
    let is_second = ap (links_added sought false id assoc) (c.entities_at-2.ensures ∙ list_is sought c.args.entities.now c.requires.sought assoc.second.set) in
    let both : c.add_added_links.new.links ≡ (before ++ given) ++ first = c.in_ok-add_added_links.ensures ∙ (λ k. c.in_ok-add_given_links.ensures k ++ is_first k) in
    IfOk-weaker c.add_added_links-2.result _ _
    (λ done is. is ∙ (λ k. both k ++ is_second k) ∙ append_assoc (before ++ given) first second ∙ append_assoc before given (first ++ second)) c.add_added_links-2.ensures
