use Rattle.std.proofs.Common.{◌+◌, List, [], ◌∷◌, ◌++◌, take, get_or, sym, subst}
use Rattle.std.specs.List.{AllZip}
use Rattle.std.proofs.lemmas.List.{take_all, take_more}
use Rattle.emc_base.proofs.facts.Zipped.{zip_push}
use Rattle.edm_types.specs.Types.{PropId, ColId}
use Rattle.keyed_rows.specs.set_rows.Owning.{IsBeside}
use Rattle.keyed_rows.proofs.set_rows.owning.columns_beside.Goals as goal

pub loop-prop-preserved : goal.loop-prop-preserved
loop-prop-preserved c =
    let R : PropId → ColId → Type 0 = IsBeside c.args.props.now c.args.cols.now in
    let wanted : List PropId = c.args.wanted.now in
    let found : List ColId = c.loop-prop.found.items in
    let none : PropId = record { index = 0 } in
    let more = take_more wanted c.loop-prop.prop-index none c.loop-prop-test.true in
    let pushed = c.in_ok-push.ensures.items in
    subst (λ (cols : List ColId). AllZip R (take (c.loop-prop.prop-index + 1) wanted) cols) (sym pushed)
    (subst (λ (props : List PropId). AllZip R props (found ++ c.column_beside.result ∷ [])) (sym more)
    (zip_push R (take c.loop-prop.prop-index wanted) found (get_or wanted c.loop-prop.prop-index none) c.column_beside.result c.loop-prop.invariant c.column_beside.ensures))

pub column_beside-requires : goal.column_beside-requires
column_beside-requires c =
    let none : PropId = record { index = 0 } in
    record { long = c.requires.long; among = c.requires.among c.loop-prop.prop-index none c.loop-prop-test.true }

pub returns : goal.returns
returns c = subst (λ (props : List PropId). AllZip (IsBeside c.args.props.now c.args.cols.now) props c.loop-prop.found.items)
    (take_all c.loop-prop.prop-index c.args.wanted.now c.loop-prop-test.false) c.loop-prop.invariant
