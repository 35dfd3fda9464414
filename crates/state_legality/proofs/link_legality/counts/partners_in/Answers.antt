use Rattle.std.proofs.Common.{◌≡◌, ◌+◌, List, IsTrue, refl, rules, subst, subst₂, sym, ◌∙◌}
use Rattle.std.specs.BTreeSet.{BTreeSet, contains}
use Rattle.std.specs.Cmp.Lexicographic.{slice_cmp}
use Rattle.std.proofs.lemmas.Option.{slice_get_read}
use Rattle.emc_base.specs.Order.{value_cmp}
use Rattle.round_trip.specs.Words.{Link, Value}
use Rattle.state_legality.specs.link_legality.Sides.{key_at}
use Rattle.state_legality.proofs.link_legality.Counting.{SeveralTo, several_again, several_all, several_new, several_none}
use Rattle.state_legality.proofs.link_legality.Holding.{HoldsTo, holds_all, holds_more, holds_none, holds_still}
use Rattle.state_legality.proofs.link_legality.counts.partners_in.Goals as goal
use Rattle.state_legality.proofs.link_legality.counts.partners_in.Goals.{then-contains+in_ok-insert, else-contains+in_ok-insert-2}

pub loop-link-init : goal.loop-link-init
loop-link-init c =
    let Has : Link → List Value → Type 0 = λ link key. key_at link c.args.side ≡ key in
    (holds_none Has c.args.links.now _ (search rules), several_none (λ (link : Link). key_at link c.args.side) c.args.links.now _ (search rules))

pub loop-link-preserved : goal.loop-link-preserved
loop-link-preserved c =
    let Has : Link → List Value → Type 0 = λ link key. key_at link c.args.side ≡ key in
    let key_of : Link → List Value = λ link. key_at link c.args.side in
    let links = c.args.links.now in
    let n = c.loop-link.link-index in
    let item = c.link-item.result in
    let some = c.loop-link.some in
    let several = c.loop-link.several in
    let key = c.in_ok-key.key in
    let P : BTreeSet (List Value) → BTreeSet (List Value) → Type 0 = λ one more. HoldsTo Has links one (n + 1) × SeveralTo key_of links more (n + 1) in
    let here = slice_get_read _ _ n _ refl c.loop-link-test.true c.link-item.is in
    let is : key ≡ key_of item = c.in_ok-key.ensures ∙ c.key_of.ensures in
    let Q : List Value → Type 0 = λ one. IsTrue (contains (slice_cmp value_cmp) some one) in
    elim c.if-contains.branch [
      | then-contains+in_ok-insert w ↦
          let had : Q key = sym c.contains.ensures ∙ w.if-contains.true in
          subst₂ P (sym w.some-is) (sym w.several-is) (
            holds_still Has links some n item here c.loop-link.invariant.0 (λ other has. subst Q (is ∙ has) had),
            several_again key_of links some n item here c.loop-link.invariant.0 several w.insert.new.self key is had c.loop-link.invariant.1 w.in_ok-insert.ensures.updates,
          )
      | else-contains+in_ok-insert-2 w ↦
          subst₂ P (sym w.some-is) (sym w.several-is) (
            holds_more Has links some w.insert-else-contains.new.self n item key here c.loop-link.invariant.0
                (λ other. (λ has. is ∙ has, λ same. sym is ∙ same)) w.in_ok-insert-2.ensures.updates,
            several_new key_of links some n item here c.loop-link.invariant.0 several key is (sym c.contains.ensures ∙ w.if-contains.false) c.loop-link.invariant.1,
          )
    ]

pub returns : goal.returns
returns c =
    let Has : Link → List Value → Type 0 = λ link key. key_at link c.args.side ≡ key in
    let n = c.loop-link.link-index in
    record {
      some = holds_all Has c.args.links.now c.loop-link.some n c.loop-link-test.false c.loop-link.invariant.0;
      several = several_all (λ (link : Link). key_at link c.args.side) c.args.links.now c.loop-link.several n c.loop-link-test.false c.loop-link.invariant.1;
    }
