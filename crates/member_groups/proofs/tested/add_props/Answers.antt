use Rattle.std.proofs.Common.{◌≡◌, ℕ, List, Option, refl, sym, subst, ◌∙◌}
use Rattle.std.specs.BTreeSet.{BTreeSet}
use Rattle.std.proofs.lemmas.Option.{slice_get_read}
use Rattle.round_trip.specs.Words.{Prop, At}
use Rattle.member_groups.specs.mapping_asks.Adding.{Adds, HasKey}
use Rattle.member_groups.specs.Causes.{MarksGroup, mark_by}
use Rattle.member_groups.proofs.mapping_asks.Adding.{adds_as, adds_below, adds_nothing, adds_number}
use Rattle.member_groups.proofs.Sharing.{no_mark, one_mark}
use Rattle.member_groups.proofs.tested.add_props.Goals as goal
use Rattle.member_groups.proofs.tested.add_props.Goals.{in-Some+in_ok-insert, in_default}

pub loop-place-preserved : goal.loop-place-preserved
loop-place-preserved c =
    let n = c.loop-place.place in
    let x = c.declared-item.result in
    let numbered = c.args.numbered.now in
    let twice = c.args.twice.now in
    let shared = c.args.shared.now in
    let props = c.args.model.now.props in
    let so_far = c.loop-place.tested in
    let mark : Prop → Option ℕ = λ declared. mark_by numbered twice shared (record { index = n }) declared.kind in
    let Marks : ℕ → ℕ → Type 0 = MarksGroup c.args.model.now numbered twice shared in
    let Comes : BTreeSet ℕ → Type 0 = λ after. Adds (Marks n) (HasKey so_far) (HasKey after) in
    let Here : List Prop → Type 0 = λ items. At items n x in
    let here : At props n x = subst Here c.as_slice-declared-items.ensures.items (slice_get_read _ _ n _ refl c.loop-place-test.true c.declared-item.is) in
    adds_below Marks n (HasKey c.args.tested.now) (HasKey so_far) (HasKey c.match-mark_of.tested) c.loop-place.invariant
    (elim c.match-mark_of.branch [
      | in-Some+in_ok-insert w ↦ let group = w.in-Some.group in
          subst Comes (sym w.tested-is) (adds_as (λ k. k ≡ group) (Marks n) (HasKey so_far) (HasKey w.insert.new.self)
          (one_mark props n x here mark group (sym c.mark_of.ensures ∙ w.in-Some.is)) (adds_number so_far w.insert.new.self group w.in_ok-insert.ensures.updates))
      | in_default w ↦ subst Comes (sym w.tested-is) (adds_nothing (Marks n) (HasKey so_far) (no_mark props n x here mark (sym c.mark_of.ensures ∙ w.in_default.is)))
    ])
