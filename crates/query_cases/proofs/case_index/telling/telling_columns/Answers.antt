use Rattle.std.proofs.Common.{ℕ, All, sym, subst}
use Rattle.std.proofs.lemmas.List.Elements.{All-push}
use Rattle.region_states.specs.region_basis.BasisOf.{basis_of}
use Rattle.query_cases.specs.declared.case_index.telling.Column.{Column}
use Rattle.query_cases.specs.case_index.Telling.{Tells}
use Rattle.query_cases.proofs.case_index.Kept.{all_listed}
use Rattle.query_cases.proofs.case_index.Listed.{listed_tell}
use Rattle.query_cases.proofs.case_index.telling.telling_columns.Goals as goal

pub loop-spot-preserved-in-Continue-branch-2 : goal.loop-spot-preserved-in-Continue-branch-2
loop-spot-preserved-in-Continue-branch-2 c =
    let basis = basis_of c.args.parts.now in
    let cases = c.args.cases.now in
    let t = c.in-Some.spot.table in
    let column : Column = record { col = record { index = c.in-Some.spot.column }; numbers = c.in-Some.numbers } in
    let Told : ℕ × Column → Type 0 = λ one. Tells basis cases one.0 one.1 in
    subst (All Told) (sym c.in_ok-push.ensures.items)
    (All-push Told c.loop-spot.telling.items (t, column) c.loop-spot.invariant
    (listed_tell basis cases c.in_ok-by_table.by_table c.in_ok-by_table.ensures t column (c.tells.ensures c.if-tells.true)))

pub returns : goal.returns
returns c = λ t. all_listed (Tells (basis_of c.args.parts.now) c.args.cases.now) c.in_ok-grouped.grouped c.loop-spot.telling.items c.in_ok-grouped.ensures
    c.loop-spot.invariant t.index
