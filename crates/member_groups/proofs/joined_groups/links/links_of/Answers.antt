use Rattle.std.proofs.Common.{List, [], take, refl, sym, subst}
use Rattle.std.proofs.lemmas.List.{take_all}
use Rattle.std.proofs.lemmas.Option.{slice_get_read}
use Rattle.emc_base.proofs.Loops.{take_item}
use Rattle.round_trip.specs.Words.{Fragment}
use Rattle.groupings.specs.declared.linked_places.classes.Link.{Link}
use Rattle.member_groups.specs.joined_groups.Writes.{AreLinks}
use Rattle.member_groups.proofs.joined_groups.Writing.{more_links, no_links}
use Rattle.member_groups.proofs.joined_groups.links.links_of.Goals as goal

pub loop-fragment-init : goal.loop-fragment-init
loop-fragment-init c =
    let P : List Link → Type 0 = λ links. AreLinks c.args.places.now [] links in
    subst P (sym c.new-links.ensures.items) (no_links c.args.places.now)

pub loop-fragment-preserved : goal.loop-fragment-preserved
loop-fragment-preserved c =
    let fragments = c.args.fragments.now in
    let n = c.loop-fragment.fragment-index in
    let P : List Fragment → Type 0 = λ some. AreLinks c.args.places.now some c.add_links.new.links.items in
    subst P (sym (take_item fragments n c.fragment-item.result (slice_get_read _ _ n _ refl c.loop-fragment-test.true c.fragment-item.is)))
    (more_links c.args.places.now (take n fragments) c.fragment-item.result c.loop-fragment.links.items c.add_links.new.links.items
    c.loop-fragment.invariant c.in_ok-add_links.ensures)

pub returns : goal.returns
returns c =
    let P : List Fragment → Type 0 = λ some. AreLinks c.args.places.now some c.loop-fragment.links.items in
    subst P (take_all c.loop-fragment.fragment-index c.args.fragments.now c.loop-fragment-test.false) c.loop-fragment.invariant
