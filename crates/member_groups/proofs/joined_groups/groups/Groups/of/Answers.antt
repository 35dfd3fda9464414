use Rattle.std.proofs.Common.{List, sym, subst}
use Rattle.round_trip.specs.Words.{Fragment}
use Rattle.groupings.specs.declared.linked_places.classes.Link.{Link}
use Rattle.groupings.specs.linked_places.Links.{IsClasses}
use Rattle.member_groups.specs.joined_groups.Writes.{AreLinks}
use Rattle.member_groups.proofs.joined_groups.Grouping.{are_groups}
use Rattle.member_groups.proofs.joined_groups.groups.Groups.of.Goals as goal

pub returns : goal.returns
returns c = λ mapping same.
    let places = c.in_ok-places.places in
    let links = c.in_ok-links.links.items in
    let P : List Fragment → Type 0 = λ fragments. AreLinks places fragments links in
    let Q : List Link → Type 0 = λ some. IsClasses places.count some c.in_ok-classes.classes in
    are_groups (record { model = c.args.model.now; store = c.args.store.now; mapping = mapping }) places (c.in_ok-places.ensures mapping)
    links (subst P (sym same) c.in_ok-links.ensures) c.in_ok-classes.classes (subst Q c.as_slice.ensures.value c.in_ok-classes.ensures)
