use Rattle.std.proofs.Common.{List, Bool, IsTrue, subst₂, sym}
use Rattle.std.specs.BTreeSet.{contains}
use Rattle.std.specs.Cmp.Lexicographic.{slice_cmp}
use Rattle.emc_base.specs.Order.{value_cmp}
use Rattle.round_trip.specs.Words.{End, Value}
use Rattle.state_legality.specs.link_legality.Sides.{end_at}
use Rattle.state_legality.specs.link_legality.Ends.{MarksUnder, StandsAmong}
use Rattle.state_legality.proofs.link_legality.Said.{loose_as, stands_just}
use Rattle.state_legality.proofs.link_legality.ends.first_loose_link.Goals as goal

pub returns : goal.returns
returns c =
    let model = c.args.model.now in
    let assoc = c.args.assoc.now in
    let entities = c.args.entities.now in
    let u = (end_at assoc c.args.side).ty in
    let held = c.in_ok-held.held in
    let P : List Bool → End → Type 0 = λ under end. MarksUnder model end.ty under in
    let marked = subst₂ P (sym c.deref.ensures.value) c.end_of.ensures c.in_ok-under.ensures in
    let Held : List Value → Type 0 = λ key. IsTrue (contains (slice_cmp value_cmp) held key) in
    loose_as c.args.a assoc c.args.side Held (StandsAmong model u entities) (stands_just model u c.deref.result.now entities held marked c.in_ok-held.ensures)
    c.args.links.now c.in_ok-found.found c.in_ok-found.ensures
