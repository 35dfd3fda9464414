use Rattle.std.proofs.Common.{◌⊎◌, List, IfOk, subst}
use Rattle.groupings.specs.least_fault.Least.{IsLeast}
use Rattle.groupings.proofs.least_fault.Leasts.{least_of_searches}
use Rattle.entity_state.specs.breach_order.Founds.{found_cmp}
use Rattle.entity_state.specs.breach_order.FoundOrder.{found_cmp_total}
use Rattle.round_trip.specs.Words.{Link, links_in}
use Rattle.state_legality.specs.declared.link_legality.side.Side.TheVariants.{First, Second}
use Rattle.state_legality.specs.link_legality.Tells.{BreaksAtSide, HasDouble, KeepsIndependent, state_of}
use Rattle.state_legality.proofs.link_legality.InOrder.{links_unbroken}
use Rattle.state_legality.proofs.link_legality.first.first_of_links.Goals as goal

pub returns : goal.returns
returns c =
    let model = c.args.model.now in
    let state = state_of c.args.entities.now c.args.links.now in
    let a = c.args.a in
    let assoc = c.args.assoc.now in
    let D : List Link → Type 0 = λ links. IfOk c.first_double_link-double.result (IsLeast found_cmp (HasDouble a assoc links)) in
    least_of_searches found_cmp found_cmp_total (λ found. BreaksAtSide model state a assoc First found ⊎ BreaksAtSide model state a assoc Second found) (HasDouble a assoc (links_in state a))
    c.earlier_of.result c.first_double_link-double.result c.earlier_of-2.result
    (least_of_searches found_cmp found_cmp_total (BreaksAtSide model state a assoc First) (BreaksAtSide model state a assoc Second) c.first_at_side-first.result c.first_at_side-second.result
    c.earlier_of.result c.first_at_side-first.ensures c.first_at_side-second.ensures c.earlier_of.ensures)
    (subst D c.links_at-2.ensures c.first_double_link-double.ensures) c.earlier_of-2.ensures

pub returns-then-branch : goal.returns-then-branch
returns-then-branch c =
    let entities = c.args.entities.now in
    let assoc = c.args.assoc.now in
    let K : List Link → Type 0 = λ links. KeepsIndependent c.args.model.now entities links assoc in
    links_unbroken c.args.model.now entities c.args.links.now c.args.a assoc
    (subst K c.links_at.ensures (c.in_ok-keep_links.ensures entities c.requires.standing c.if-branch.true))
