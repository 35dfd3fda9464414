use Rattle.std.proofs.Common.{◌⊎◌, List, Contains, subst}
use Rattle.std.proofs.lemmas.Result.{IfOk-weaker}
use Rattle.round_trip.specs.Words.{Cond, Pair}
use Rattle.member_groups.specs.declared.mapping_asks.asks.Ask.{Ask}
use Rattle.member_groups.specs.mapping_asks.Adding.{Adds, Each}
use Rattle.member_groups.specs.mapping_asks.Asks.{IsAskBy, IsImpliedBy}
use Rattle.member_groups.proofs.mapping_asks.Adding.{adds_both}
use Rattle.member_groups.proofs.mapping_asks.asks.add_link.Goals as goal

pub returns : goal.returns
returns c =
    let fragment = c.args.fragment.now in
    let Asked : Ask → Type 0 = Each (IsAskBy fragment.table) fragment.conds in
    let Implied : List Pair → Ask → Type 0 = Each (IsImpliedBy fragment.table) in
    let before = Contains c.args.asks.now.items in
    let first = Contains c.add_conditions.new.asks.items in
    let second = Contains c.add_columns.new.asks.items in
    let after = Contains c.add_columns-2.new.asks.items in
    let Conds : List Cond → Type 0 = λ conds. Adds (Each (IsAskBy fragment.table) conds) before first in
    let First : List Pair → Type 0 = λ pairs. Adds (Implied pairs) first second in
    let Second : List Pair → Type 0 = λ pairs. Adds (Implied pairs) second after in
    IfOk-weaker c.add_columns-2.result _ _
    (λ _ added.
    adds_both (λ ask. Asked ask ⊎ Implied fragment.first ask) (Implied fragment.second) before second after
    (adds_both Asked (Implied fragment.first) before first second (subst Conds c.as_slice.ensures.items c.in_ok-add_conditions.ensures)
    (subst First c.as_slice-2.ensures.items c.in_ok-add_columns.ensures))
    (subst Second c.as_slice-3.ensures.items added))
    c.add_columns-2.ensures
