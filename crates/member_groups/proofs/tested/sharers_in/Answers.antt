use Rattle.std.proofs.Common.{◌≡◌, ◌≤◌, ℕ, List, Contains, length, sym, subst, ◌∙◌, arith}
use Rattle.emc_base.proofs.Members.{contains_nil}
use Rattle.member_groups.specs.declared.mapping_asks.member.MemberId.{MemberId}
use Rattle.member_groups.specs.declared.mapping_asks.member.MemberId.TheVariants.{Prop}
use Rattle.member_groups.specs.mapping_asks.Adding.{Adds, EachBelow, Tells}
use Rattle.member_groups.specs.Causes.{IsSharer}
use Rattle.member_groups.proofs.mapping_asks.Adding.{adds_as, adds_below, adds_last, adds_nothing, tells_added}
use Rattle.member_groups.proofs.group_numbers.Joint.{no_joint}
use Rattle.member_groups.proofs.Sharing.{one_stands}
use Rattle.member_groups.proofs.tested.sharers_in.Goals as goal
use Rattle.member_groups.proofs.tested.sharers_in.Goals.{in-Some+in_ok-push, in_default}

pub loop-place-preserved : goal.loop-place-preserved
loop-place-preserved c =
    let n = c.loop-place.place in
    let Shares : ℕ → ℕ × MemberId → Type 0 = IsSharer c.args.numbered.now in
    let so_far = c.loop-place.sharers.items in
    let member : MemberId = Prop (record { index = n }) in
    let Comes : List (ℕ × MemberId) → Type 0 = λ after. Adds (Shares n) (Contains so_far) (Contains after) in
    adds_below Shares n (Contains c.new-sharers.result.items) (Contains so_far) (Contains c.match-joint.sharers.items) c.loop-place.invariant
    (elim c.match-joint.branch [
      | in-Some+in_ok-push w ↦ let group = w.in-Some.group in
          subst Comes (sym ((λ k. (w.sharers-is k).items) ∙ w.in_ok-push.ensures.items))
          (adds_as (λ entry. entry ≡ (group.index, member)) (Shares n) (Contains so_far) (Contains _)
          (one_stands _ member group (sym c.joint.ensures ∙ w.in-Some.is)) (adds_last so_far (group.index, member)))
      | in_default w ↦ subst Comes (sym (λ k. (w.sharers-is k).items))
          (adds_nothing (Shares n) (Contains so_far) (λ entry is. no_joint _ (sym c.joint.ensures ∙ w.in_default.is) entry.0 is.0))
    ])

pub returns : goal.returns
returns c =
    let sharers = c.loop-place.sharers.items in
    let none : List (ℕ × MemberId) → Type 0 = λ empty. (entry : ℕ × MemberId) → ¬ Contains empty entry in
    let Told : ℕ → Type 0 = λ n. Tells (Contains sharers) (EachBelow (IsSharer c.args.numbered.now) n) in
    let end : c.len-place-end.result ≤ c.loop-place.place = c.loop-place-test.false in
    let inside : c.loop-place.place ≤ c.len-place-end.result = c.loop-place.auto.place-end in
    let count : c.len-place-end.result ≡ length c.args.model.now.props = c.len-place-end.ensures.count in
    let all : c.loop-place.place ≡ length c.args.model.now.props = omega (arith, end, inside, count) in
    subst Told all
    (tells_added (EachBelow (IsSharer c.args.numbered.now) c.loop-place.place) (Contains c.new-sharers.result.items) (Contains sharers)
    (subst none (sym c.new-sharers.ensures.items) contains_nil) c.loop-place.invariant)
