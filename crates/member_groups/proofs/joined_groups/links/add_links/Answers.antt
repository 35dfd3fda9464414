use Rattle.std.proofs.Common.{List, [], ◌∷◌, ◌++◌, take, get_or, sym, subst, ◌∙◌}
use Rattle.std.proofs.lemmas.List.{take_all, take_more}
use Rattle.round_trip.specs.Words.{Pair}
use Rattle.groupings.specs.declared.linked_places.classes.Link.{Link}
use Rattle.member_groups.specs.joined_groups.Writes.{AreMore}
use Rattle.member_groups.proofs.joined_groups.Writing.{more_linked, more_unlinked, no_more}
use Rattle.member_groups.proofs.joined_groups.links.add_links.Goals as goal
use Rattle.member_groups.proofs.joined_groups.links.add_links.Goals.{in-Some+in_ok-push, in_default}

pub loop-pair-init : goal.loop-pair-init
loop-pair-init c = no_more c.args.places.now c.args.fragment.now.table c.args.links.now.items

pub loop-pair-preserved : goal.loop-pair-preserved
loop-pair-preserved c =
    let items = c.as_slice-pair-items.result.now in
    let n = c.loop-pair.pair-index in
    let nil : Pair = record { prop = record { index = 0 }; col = record { index = 0 } } in
    let places = c.args.places.now in
    let table = c.args.fragment.now.table in
    let before = c.args.links.now.items in
    let P : List Pair → Type 0 = λ pairs. AreMore places table pairs before c.match-link_of.links.items in
    let Q : List Link → Type 0 = λ links. AreMore places table (take n items ++ get_or items n nil ∷ []) before links in
    subst P (sym (take_more items n nil c.loop-pair-test.true)) (elim c.match-link_of.branch [
      | in-Some+in_ok-push w ↦ subst Q (sym ((λ k. (w.links-is k).items) ∙ w.in_ok-push.ensures.items))
          (more_linked places table (take n items) (get_or items n nil) before c.loop-pair.links.items c.loop-pair.invariant w.in-Some.link (sym c.link_of.ensures ∙ w.in-Some.is))
      | in_default w ↦ subst Q (sym (λ k. (w.links-is k).items))
          (more_unlinked places table (take n items) (get_or items n nil) before c.loop-pair.links.items c.loop-pair.invariant (sym c.link_of.ensures ∙ w.in_default.is))
    ])

pub returns : goal.returns
returns c =
    let items = c.as_slice-pair-items.result.now in
    let P : List Pair → Type 0 = λ pairs. AreMore c.args.places.now c.args.fragment.now.table pairs c.args.links.now.items c.loop-pair.links.items in
    subst P (take_all c.loop-pair.pair-index items c.loop-pair-test.false ∙ c.as_slice-pair-items.ensures.items) c.loop-pair.invariant
