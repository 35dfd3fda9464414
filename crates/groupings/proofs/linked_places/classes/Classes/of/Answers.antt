use Rattle.std.proofs.Common.{List, ℕ, take, get_or, sym, subst, subst₂}
use Rattle.std.proofs.lemmas.List.{take_all, take_more}
use Rattle.groupings.specs.linked_places.Links.{IsClasses}
use Rattle.groupings.specs.declared.linked_places.classes.Link.{Link}
use Rattle.groupings.proofs.linked_places.Alone.{alone_classes, alone_joining}
use Rattle.groupings.proofs.linked_places.Linking.{one_link}
use Rattle.groupings.proofs.linked_places.classes.Classes.of.Goals as goal

pub loop-link-init : goal.loop-link-init
loop-link-init c = (alone_joining c.args.count c.in_ok-joining.joining c.in_ok-joining.ensures, alone_classes c.args.count c.in_ok-joining.joining c.in_ok-joining.ensures)

pub loop-link-preserved : goal.loop-link-preserved
loop-link-preserved c =
    let links = c.args.links.now in
    let n = c.loop-link.link-index in
    let nil : Link = record { one = 0; other = 0 } in
    let new = get_or links n nil in
    let before = c.loop-link.joining.numbers.items in
    let after = c.join.new.self.numbers.items in
    let P : List Link → Type 0 = λ xs. IsClasses c.args.count xs (record { numbers = after }) in (
      c.in_ok-join.ensures.joining,
      subst P (sym (take_more links n nil c.loop-link-test.true))
          (one_link c.args.count (take n links) new before after c.loop-link.invariant.1 c.in_ok-join.ensures.joins),
    )

pub returns : goal.returns
returns c =
    let P : List Link → List ℕ → Type 0 = λ xs numbers. IsClasses c.args.count xs (record { numbers = numbers }) in
    subst₂ P (take_all c.loop-link.link-index c.args.links.now c.loop-link-test.false) (sym c.in_ok-from_vec.ensures) c.loop-link.invariant.1
