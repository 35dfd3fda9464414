use Rattle.std.proofs.Common.{◌≡◌, List, None, length, slice_get, refl, subst}
use Rattle.std.proofs.lemmas.Option.{slice_get_past, slice_get_read}
use Rattle.round_trip.specs.Words.{At, Link}
use Rattle.query_views.specs.declared.links.lent.LentLinks.{LentLinks}
use Rattle.query_views.proofs.LentLists.{links_there, no_links}
use Rattle.query_views.proofs.loaded.Loaded.link_part.Goals as goal

pub part-requires : goal.part-requires
part-requires c =
    let lists : List LentLinks = c.args.self.now.links.items in
    let a = c.args.assoc.index in
    let of_assoc : LentLinks = c.in-Some.of_assoc.now in
    let list : List LentLinks = c.deref.result.now in
    let found = c.in-Some.ensures.lookup in
    let here : At lists a of_assoc = subst (λ (l : List LentLinks). At l a of_assoc) c.deref.ensures.value (slice_get_read list (length list) a of_assoc refl found.3.0 found.1) in
    let asked = c.requires in
    let Stands : List Link → Type 0 = λ links. At links c.args.i asked.0 in
    (asked.0, subst Stands (links_there lists a of_assoc here) asked.1, asked.2)

pub unreachable-requires : goal.unreachable-requires
unreachable-requires c =
    let lists : List LentLinks = c.args.self.now.links.items in
    let a = c.args.assoc.index in
    let list : List LentLinks = c.deref.result.now in
    let past = c.in-None.ensures.lookup in
    let none = subst (λ (l : List LentLinks). slice_get l a ≡ None) c.deref.ensures.value (slice_get_past list a past.3) in
    no_links lists a none c.args.i c.requires.0 c.requires.1

pub returns : goal.returns
returns c = λ link at.
    (let lists : List LentLinks = c.args.self.now.links.items in
    let a = c.args.assoc.index in
    let of_assoc : LentLinks = c.in-Some.of_assoc.now in
    let list : List LentLinks = c.deref.result.now in
    let found = c.in-Some.ensures.lookup in
    let here : At lists a of_assoc = subst (λ (l : List LentLinks). At l a of_assoc) c.deref.ensures.value (slice_get_read list (length list) a of_assoc refl found.3.0 found.1) in
    let Stands : List Link → Type 0 = λ links. At links c.args.i link in
    c.part.ensures link (subst Stands (links_there lists a of_assoc here) at))
