use Rattle.std.proofs.Common.{List, Contains, sym, subst}
use Rattle.emc_base.proofs.Members.{contains_nil}
use Rattle.round_trip.specs.Words.{Fragment, LinkFragment}
use Rattle.member_groups.specs.declared.mapping_asks.asks.Ask.{Ask}
use Rattle.member_groups.specs.mapping_asks.Adding.{Adds, Each}
use Rattle.member_groups.specs.mapping_asks.Asks.{Asks, AsksBy, AsksByLink}
use Rattle.member_groups.proofs.mapping_asks.Adding.{adds_both, tells_added}
use Rattle.member_groups.proofs.mapping_asks.asks.asks_of.Goals as goal

pub returns : goal.returns
returns c =
    let mapping = c.args.mapping.now in
    let empty = c.new-asks.result.items in
    let before = Contains empty in
    let between = Contains c.add_fragments.new.asks.items in
    let after = Contains c.add_links.new.asks.items in
    let none : List Ask → Type 0 = λ some. (ask : Ask) → ¬ Contains some ask in
    let First : List Fragment → Type 0 = λ fragments. Adds (Each AsksBy fragments) before between in
    let Second : List LinkFragment → Type 0 = λ fragments. Adds (Each AsksByLink fragments) between after in
    tells_added (Asks mapping) before after (subst none (sym c.new-asks.ensures.items) contains_nil)
    (adds_both (Each AsksBy mapping.fragments) (Each AsksByLink mapping.links) before between after (subst First c.as_slice.ensures.items c.in_ok-add_fragments.ensures)
    (subst Second c.as_slice-2.ensures.items c.in_ok-add_links.ensures))
