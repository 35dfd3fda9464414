use Rattle.std.proofs.Common.{List, refl, subst}
use Rattle.std.proofs.lemmas.List.{take_all}
use Rattle.std.proofs.lemmas.Option.{slice_get_read}
use Rattle.round_trip.specs.Words.{Cond, Fragment, Pair}
use Rattle.table_owners.specs.Clearing.{Clears, Each, IsCondOn, IsNamedByEntities, IsPairOn}
use Rattle.table_owners.proofs.columns.Cleared.{clears_both, clears_next}
use Rattle.table_owners.proofs.clearing.clear_entities.Goals as goal

pub loop-fragment-preserved : goal.loop-fragment-preserved
loop-fragment-preserved c =
    let n = c.loop-fragment.fragment-index in
    let fragment = c.fragment-item.result in
    let before = c.loop-fragment.free.items in
    let between = c.clear_pairs.new.free.items in
    let after = c.clear_conds.new.free.items in
    let Pairs : List Pair → Type 0 = λ pairs. Clears (Each (IsPairOn fragment.table) pairs) before between in
    let Conds : List Cond → Type 0 = λ conds. Clears (Each (IsCondOn fragment.table) conds) between after in
    clears_next IsNamedByEntities c.args.fragments.now n fragment c.args.free.now.items before after (slice_get_read _ _ n _ refl c.loop-fragment-test.true c.fragment-item.is)
    c.loop-fragment.invariant
    (clears_both (Each (IsPairOn fragment.table) fragment.pairs) (Each (IsCondOn fragment.table) fragment.conds) before between after
    (subst Pairs c.as_slice.ensures.items c.clear_pairs.ensures) (subst Conds c.as_slice-in-loop-fragment.ensures.items c.clear_conds.ensures))

pub returns : goal.returns
returns c =
    let Passed : List Fragment → Type 0 = λ some. Clears (Each IsNamedByEntities some) c.args.free.now.items c.loop-fragment.free.items in
    subst Passed (take_all c.loop-fragment.fragment-index c.args.fragments.now c.loop-fragment-test.false) c.loop-fragment.invariant
