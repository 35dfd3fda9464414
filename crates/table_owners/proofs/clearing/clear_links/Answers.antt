use Rattle.std.proofs.Common.{◌⊎◌, List, refl, subst}
use Rattle.std.proofs.lemmas.List.{take_all}
use Rattle.std.proofs.lemmas.Option.{slice_get_read}
use Rattle.round_trip.specs.Words.{ColId, Cond, LinkFragment, Pair, TableId}
use Rattle.table_owners.specs.Clearing.{Clears, Each, IsCondOn, IsNamedByLinks, IsPairOn}
use Rattle.table_owners.proofs.columns.Cleared.{clears_both, clears_next}
use Rattle.table_owners.proofs.clearing.clear_links.Goals as goal

pub loop-fragment-preserved : goal.loop-fragment-preserved
loop-fragment-preserved c =
    let n = c.loop-fragment.fragment-index in
    let fragment = c.fragment-item.result in
    let before = c.loop-fragment.free.items in
    let one = c.clear_pairs.new.free.items in
    let other = c.clear_pairs-in-loop-fragment.new.free.items in
    let after = c.clear_conds.new.free.items in
    let First : List Pair → Type 0 = λ pairs. Clears (Each (IsPairOn fragment.table) pairs) before one in
    let Second : List Pair → Type 0 = λ pairs. Clears (Each (IsPairOn fragment.table) pairs) one other in
    let Conds : List Cond → Type 0 = λ conds. Clears (Each (IsCondOn fragment.table) conds) other after in
    let on_first : TableId → ColId → Type 0 = Each (IsPairOn fragment.table) fragment.first in
    let on_second : TableId → ColId → Type 0 = Each (IsPairOn fragment.table) fragment.second in
    let on_conds : TableId → ColId → Type 0 = Each (IsCondOn fragment.table) fragment.conds in
    clears_next IsNamedByLinks c.args.fragments.now n fragment c.args.free.now.items before after (slice_get_read _ _ n _ refl c.loop-fragment-test.true c.fragment-item.is)
    c.loop-fragment.invariant
    (clears_both on_first (λ t col. on_second t col ⊎ on_conds t col) before one after (subst First c.as_slice.ensures.items c.clear_pairs.ensures)
    (clears_both on_second on_conds one other after
    (subst Second c.as_slice-in-loop-fragment.ensures.items c.clear_pairs-in-loop-fragment.ensures)
    (subst Conds c.as_slice-in-loop-fragment-2.ensures.items c.clear_conds.ensures)))

pub returns : goal.returns
returns c =
    let Passed : List LinkFragment → Type 0 = λ some. Clears (Each IsNamedByLinks some) c.args.free.now.items c.loop-fragment.free.items in
    subst Passed (take_all c.loop-fragment.fragment-index c.args.fragments.now c.loop-fragment-test.false) c.loop-fragment.invariant
