use Rattle.std.proofs.Common.{◌≡◌, ℕ, refl, sym, subst, ◌∙◌}
use Rattle.std.specs.BTreeSet.{BTreeSet}
use Rattle.std.proofs.lemmas.Option.{slice_get_read}
use Rattle.member_groups.specs.mapping_asks.Adding.{Adds, HasKey}
use Rattle.member_groups.specs.Causes.{AsksGroup}
use Rattle.member_groups.proofs.mapping_asks.Adding.{adds_as, adds_next, adds_nothing, adds_number}
use Rattle.member_groups.proofs.group_numbers.Joint.{no_joint, one_joint}
use Rattle.member_groups.proofs.tested.add_asked.Goals as goal
use Rattle.member_groups.proofs.tested.add_asked.Goals.{in-Some+in_ok-insert, in_default}

pub loop-ask-preserved : goal.loop-ask-preserved
loop-ask-preserved c =
    let n = c.loop-ask.ask-index in
    let x = c.ask-item.result in
    let Asks = AsksGroup c.args.numbered.now in
    let so_far = c.loop-ask.tested in
    let Comes : BTreeSet ℕ → Type 0 = λ after. Adds (Asks x) (HasKey so_far) (HasKey after) in
    adds_next Asks c.args.asks.now n x (HasKey c.args.tested.now) (HasKey so_far) (HasKey c.match-joint.tested)
    (slice_get_read _ _ n _ refl c.loop-ask-test.true c.ask-item.is) c.loop-ask.invariant
    (elim c.match-joint.branch [
      | in-Some+in_ok-insert w ↦ let group = w.in-Some.group in
          subst Comes (sym w.tested-is) (adds_as (λ k. k ≡ group.index) (Asks x) (HasKey so_far) (HasKey w.insert.new.self)
          (one_joint _ group (sym c.joint.ensures ∙ w.in-Some.is)) (adds_number so_far w.insert.new.self group.index w.in_ok-insert.ensures.updates))
      | in_default w ↦ subst Comes (sym w.tested-is) (adds_nothing (Asks x) (HasKey so_far) (no_joint _ (sym c.joint.ensures ∙ w.in_default.is)))
    ])
