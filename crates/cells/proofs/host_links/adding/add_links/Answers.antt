use Rattle.std.proofs.Common.{◌≡◌, ◌++◌, List, [], ◌∷◌, false, Some, sym, ap, subst, ◌∙◌}
use Rattle.std.specs.BTreeMap.{get}
use Rattle.std.specs.Cmp.Lexicographic.{slice_cmp}
use Rattle.std.specs.Ordering.{is_eq}
use Rattle.std.proofs.lemmas.Option.{slice_get-get_or}
use Rattle.emc_base.specs.Lists.{At}
use Rattle.emc_base.specs.Order.{value_cmp}
use Rattle.round_trip.specs.Words.{Link, Value}
use Rattle.cells.specs.HostedLinks.{host_key, partner_key}
use Rattle.cells.specs.host_links.Grouped.{links_at_key}
use Rattle.cells.proofs.host_links.Keyed.{one_more}
use Rattle.cells.proofs.host_links.adding.add_links.Goals as goal

pub loop-link-preserved : goal.loop-link-preserved
loop-link-preserved c =
    let links = c.args.links.now in
    let i = c.loop-link.link-index in
    let link : Link = c.link-item.result in
    let was = c.loop-link.by_key in
    let now = c.add_link.new.by_key in
    let stands : At links i link = slice_get-get_or links i link c.loop-link-test.true ∙ ap Some (sym c.link-item.is) in
    let is_key : c.of-key.result ≡ host_key c.args.first_hosts link = c.of-key.ensures ∙ c.host_key.ensures in
    let is_partner : c.in_ok-partner.partner ≡ partner_key c.args.first_hosts link = c.in_ok-partner.ensures ∙ c.partner_key.ensures in
    let Own : List Value → List Value → Type 0 = λ key partner. links_at_key now [] key ≡ links_at_key was [] key ++ (record { assoc = c.args.id; partner = partner }) ∷ [] in
    let Others : List Value → Type 0 = λ key. (other : List Value) → is_eq (slice_cmp value_cmp key other) ≡ false
    → get (slice_cmp value_cmp) now other ≡ get (slice_cmp value_cmp) was other in
    one_more c.args.first_hosts c.args.id was now link
    (subst (λ key. Own key (partner_key c.args.first_hosts link)) is_key (subst (Own c.of-key.result) is_partner c.in_ok-add_link.ensures.own))
    (subst Others is_key c.in_ok-add_link.ensures.others)
    c.args.by_key.now links i stands c.loop-link.invariant
