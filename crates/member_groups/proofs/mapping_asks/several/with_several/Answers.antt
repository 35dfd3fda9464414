use Rattle.std.proofs.Common.{ℕ, List, [], ◌∷◌, ◌++◌, take, get_or, sym, ap, subst, ◌∙◌}
use Rattle.std.proofs.lemmas.List.{take_all, take_more}
use Rattle.std.specs.BTreeMap.{is_at}
use Rattle.std.specs.BTreeSet.{BTreeSet}
use Rattle.std.specs.Map.{lookup}
use Rattle.std.specs.Ordering.{nat_cmp}
use Rattle.member_groups.specs.declared.mapping_asks.member.MemberId.{MemberId}
use Rattle.member_groups.specs.declared.mapping_asks.member.MemberId.TheVariants.{Prop}
use Rattle.member_groups.proofs.mapping_asks.Adding.{no_number}
use Rattle.member_groups.proofs.mapping_asks.Firsts.{HoldsFirsts, no_firsts, other_more, same_more}
use Rattle.member_groups.proofs.mapping_asks.several.with_several.Goals as goal
use Rattle.member_groups.proofs.mapping_asks.several.with_several.Goals.{then-ne+in_ok-insert, else-ne}

pub loop-number-init : goal.loop-number-init
loop-number-init c =
    no_firsts c.new-firsts.result c.new-several.result (λ k. ap (lookup (is_at (nat_cmp k))) c.new-firsts.ensures.empty) (no_number c.new-several.result c.new-several.ensures.empty)

pub loop-number-preserved : goal.loop-number-preserved
loop-number-preserved c =
    let entries = c.args.entries.now in
    let n = c.loop-number.number-index in
    let nil : ℕ × MemberId = (0, Prop (record { index = 0 })) in
    let x : ℕ × MemberId = get_or entries n nil in
    let firsts = c.loop-number.firsts in
    let several = c.loop-number.several in
    let first = c.in_ok-first_of.field-0 in
    let noted = c.in_ok-first_of.ensures in
    let P : List (ℕ × MemberId) → Type 0 = λ some. HoldsFirsts some c.first_of.new.firsts c.if-ne.several in
    let Q : BTreeSet ℕ → Type 0 = λ now. HoldsFirsts (take n entries ++ x ∷ []) c.first_of.new.firsts now in
    subst P (sym (take_more entries n nil c.loop-number-test.true)) (elim c.if-ne.branch [
      | then-ne+in_ok-insert w ↦ subst Q (sym w.several-is)
          (other_more (take n entries) firsts c.first_of.new.firsts several c.loop-number.invariant x.0 x.1 first noted.first noted.noted
          w.insert.new.self (sym c.ne.ensures ∙ w.if-ne.true) w.in_ok-insert.ensures.updates)
      | else-ne w ↦ subst Q (sym w.several-is)
          (same_more (take n entries) firsts c.first_of.new.firsts several c.loop-number.invariant x.0 x.1 first noted.first noted.noted (sym c.ne.ensures ∙ w.if-ne.false))
    ])

pub returns : goal.returns
returns c =
    let P : List (ℕ × MemberId) → Type 0 = λ some. HoldsFirsts some c.loop-number.firsts c.loop-number.several in
    (subst P (take_all c.loop-number.number-index c.args.entries.now c.loop-number-test.false) c.loop-number.invariant).told
