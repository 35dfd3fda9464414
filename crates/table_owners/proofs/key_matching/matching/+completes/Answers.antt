use Rattle.std.proofs.Common.{◌≡◌, ◌↔◌, ◌-◌, List, [], ◌∷◌, ◌++◌, length, get_or, take, drop, All, Contains, IsTrue, refl, sym, subst}
use Rattle.std.proofs.lemmas.Bool.{both_ways}
use Rattle.std.proofs.lemmas.List.{take_all}
use Rattle.std.proofs.lemmas.List.Elements.{All-more, Contains-get_or}
use Rattle.edm_types.specs.Types.{PropId, ColId}
use Rattle.table_owners.specs.key_matching.Completions.{Completes, MayTake}
use Rattle.table_owners.proofs.key_matching.Taking.{first_and_others, no_items, none_left, none_takes, one_taken, Takes}
use Rattle.table_owners.proofs.key_matching.matching.+completes.Goals as goal

pub returns-in_default : goal.returns-in_default
returns-in_default t c =
    let cols = c.args.cols.now in
    let taken = c.args.taken.now in
    let pairs = c.args.pairs.now in
    let Left : List PropId → Type 0 = λ props. Completes props cols taken pairs in
    let Taken : List ColId → Type 0 = λ list. All (Contains list) cols in
    let none = no_items c.args.props.now c.in_default.len_below in
    let left = none_left cols taken pairs in (
      λ is. subst Left (sym none) (left.0 (subst Taken c.as_slice.ensures.items (c.are_taken.ensures.0 is))),
      λ whole. c.are_taken.ensures.1 (subst Taken (sym c.as_slice.ensures.items) (left.1 (subst Left none whole))),
    )

pub loop-col-preserved-then-not-may_take : goal.loop-col-preserved-then-not-may_take
loop-col-preserved-then-not-may_take t c =
    let props = c.args.props.now in
    let cols = c.args.cols.now in
    let taken = c.args.taken.now in
    let pairs = c.args.pairs.now in
    let prop : PropId = get_or props 0 (record { index = 0 }) in
    let others = take (length props - 1) (drop 1 props) in
    let col : ColId = get_or cols c.loop-col.col-index (record { index = 0 }) in
    let Free : List ColId → Type 0 = λ list. MayTake pairs list (record { prop = prop; col = col }) in
    All-more (λ other. ¬ Takes prop others cols taken pairs other) cols c.loop-col.col-index (record { index = 0 }) c.loop-col-test.true c.loop-col.invariant
    (λ takes. both_ways c.may_take.result c.if-not-may_take.true (c.may_take.ensures.1 (subst Free (sym c.as_slice-in-loop-col.ensures.items) takes.0)))

pub returns-then-branch : goal.returns-then-branch
returns-then-branch t c =
    let props = c.args.props.now in
    let cols = c.args.cols.now in
    let taken = c.args.taken.now in
    let pairs = c.args.pairs.now in
    let prop : PropId = get_or props 0 (record { index = 0 }) in
    let others = take (length props - 1) (drop 1 props) in
    let col : ColId = get_or cols c.loop-col.col-index (record { index = 0 }) in
    let Free : List ColId → Type 0 = λ list. MayTake pairs list (record { prop = prop; col = col }) in
    let Rest : List ColId → Type 0 = λ list. Completes others cols list pairs in
    let Whole : List PropId → Type 0 = λ list. Completes list cols taken pairs in
    let more : c.in_ok-with.field-0 ≡ taken ++ col ∷ [] = c.in_ok-with.ensures in
    let told : IsTrue c.in_ok-completes.field-0 ↔ Rest c.in_ok-with.field-0 = c.in_ok-completes.ensures in
    let stands : Contains cols col = Contains-get_or cols c.loop-col.col-index (record { index = 0 }) c.loop-col-test.true in
    let whole = one_taken prop others cols taken pairs col stands
    (subst Free c.as_slice-in-loop-col.ensures.items (c.may_take.ensures.0 c.if-not-may_take.false), subst Rest more (told.0 c.if-branch.true)) in
    (λ _. subst Whole (first_and_others props (record { index = 0 }) c.in-len1-up.len_at_least) whole, λ _. refl)

pub loop-col-preserved : goal.loop-col-preserved
loop-col-preserved t c =
    let props = c.args.props.now in
    let cols = c.args.cols.now in
    let taken = c.args.taken.now in
    let pairs = c.args.pairs.now in
    let prop : PropId = get_or props 0 (record { index = 0 }) in
    let others = take (length props - 1) (drop 1 props) in
    let col : ColId = get_or cols c.loop-col.col-index (record { index = 0 }) in
    let Rest : List ColId → Type 0 = λ list. Completes others cols list pairs in
    let more : c.in_ok-with.field-0 ≡ taken ++ col ∷ [] = c.in_ok-with.ensures in
    let told : IsTrue c.in_ok-completes.field-0 ↔ Rest c.in_ok-with.field-0 = c.in_ok-completes.ensures in
    All-more (λ other. ¬ Takes prop others cols taken pairs other) cols c.loop-col.col-index (record { index = 0 }) c.loop-col-test.true c.loop-col.invariant
    (λ takes. both_ways c.in_ok-completes.field-0 c.if-branch.false (told.1 (subst Rest (sym more) takes.1)))

pub returns : goal.returns
returns t c =
    let props = c.args.props.now in
    let cols = c.args.cols.now in
    let taken = c.args.taken.now in
    let pairs = c.args.pairs.now in
    let prop : PropId = get_or props 0 (record { index = 0 }) in
    let others = take (length props - 1) (drop 1 props) in
    let Without : List ColId → Type 0 = λ list. All (λ col. ¬ Takes prop others cols taken pairs col) list in
    let Whole : List PropId → Type 0 = λ list. Completes list cols taken pairs in
    let none = none_takes prop others cols taken pairs (subst Without (take_all c.loop-col.col-index cols c.loop-col-test.false) c.loop-col.invariant) in
    (λ is. cc, λ whole. absurd (none (subst Whole (sym (first_and_others props (record { index = 0 }) c.in-len1-up.len_at_least)) whole)))
