use Rattle.std.proofs.Common.{◌≡◌, ◌≤◌, ◌↔◌, length, List, Any, Contains, refl, sym, subst, take, take_all}
use Rattle.std.proofs.lemmas.Option.{slice_get_read}
use Rattle.emc_base.specs.Lists.{At, AreApart}
use Rattle.emc_base.proofs.Loops.{take_item}
use Rattle.round_trip.specs.Words.{AssocId, Link, SetId, Value}
use Rattle.entity_changes.specs.declared.change.Change.{Change}
use Rattle.entity_changes.specs.Touching.{TouchesEntity, TouchesLink}
use Rattle.entity_changes.proofs.Pushes.{listed_more}
use Rattle.entity_changes.proofs.touched.Touched.of.Goals as goal

pub loop-change-preserved : goal.loop-change-preserved
loop-change-preserved c =
    let model = c.args.model.now in
    let cells = c.args.cells.now in
    let changes : List Change = c.args.changes.now in
    let items : List Change = c.as_slice-change-items.result.now in
    let i = c.loop-change.change-index in
    let one : Change = c.change-item.result in
    let here : At changes i one = subst (λ (list : List Change). At list i one) c.as_slice-change-items.ensures.items
    (slice_get_read items _ i one refl c.loop-change-test.true c.change-item.is) in
    let more = c.in_ok-add.ensures c.loop-change.invariant.0 in
    let was = c.loop-change.gathered in
    let now = c.add.new.self in (
      more.seen,
      (λ item. subst (λ (list : List Change). Contains now.entities.items item ↔ Any (λ some. TouchesEntity model cells some item) list)
          (sym (take_item changes i one here))
          (listed_more (λ some. TouchesEntity model cells some item) (take i changes) one (Contains was.entities.items item) (Contains now.entities.items item)
          (c.loop-change.invariant.1 item) (more.more_entities item))),
      (λ item. subst (λ (list : List Change). Contains now.links.items item ↔ Any (λ some. TouchesLink model cells some item) list) (sym (take_item changes i one here))
          (listed_more (λ some. TouchesLink model cells some item) (take i changes) one (Contains was.links.items item) (Contains now.links.items item)
          (c.loop-change.invariant.2 item) (more.more_links item))),
    )

pub returns : goal.returns
returns c =
    let model = c.args.model.now in
    let cells = c.args.cells.now in
    let gathered = c.loop-change.gathered in
    let changes : List Change = c.args.changes.now in
    let all : take c.loop-change.change-index changes ≡ changes =
    take_all c.loop-change.change-index changes
    (subst (λ (list : List Change). length list ≤ c.loop-change.change-index) c.as_slice-change-items.ensures.items c.loop-change-test.false) in
    record {
      entities = λ item.
          subst (λ (list : List Change). Contains c.into_items.result item ↔ Any (λ some. TouchesEntity model cells some item) list) all
          (subst (λ (items : List (SetId × List Value)). Contains items item ↔ Any (λ some. TouchesEntity model cells some item)
          (take c.loop-change.change-index changes))
          (sym c.into_items.ensures) (c.loop-change.invariant.1 item));
      links = λ item.
          subst (λ (list : List Change). Contains c.into_items-2.result item ↔ Any (λ some. TouchesLink model cells some item) list) all
          (subst (λ (items : List (AssocId × Link)). Contains items item ↔ Any (λ some. TouchesLink model cells some item) (take c.loop-change.change-index changes))
          (sym c.into_items-2.ensures) (c.loop-change.invariant.2 item));
      entities_once = subst (λ (items : List (SetId × List Value)). AreApart items) (sym c.into_items.ensures) c.loop-change.invariant.0.entities.once;
      links_once = subst (λ (items : List (AssocId × Link)). AreApart items) (sym c.into_items-2.ensures) c.loop-change.invariant.0.links.once;
    }
