use Rattle.std.proofs.Common.{ℕ, List, Contains, sym, subst}
use Rattle.groupings.proofs.least_fault.Leasts.{least_same}
use Rattle.layouts.specs.Faults.{fault_cmp}
use Rattle.graphs.specs.base_chains.Chains.{IsAncestor, StandAbove, base_at}
use Rattle.csdl_types.specs.Inherited.{IsInNamesFault}
use Rattle.csdl_types.proofs.Inheriting.{inherited_same, none_declared}
use Rattle.csdl_types.proofs.inherited.first_inherited_fault.Goals as goal

pub returns-then-declares_none : goal.returns-then-declares_none
returns-then-declares_none c = none_declared (IsAncestor (base_at c.args.bases.now) c.args.place) c.args.types.now c.args.ty.now (c.declares_none.ensures.0 c.if-declares_none.true)

pub returns : goal.returns
returns c =
    let types = c.args.types.now in
    let type = c.args.ty.now in
    let Above : ℕ → Type 0 = Contains c.as_slice.result.now in
    let Ancestor : ℕ → Type 0 = IsAncestor (base_at c.args.bases.now) c.args.place in
    let P : List ℕ → Type 0 = λ places. StandAbove (base_at c.args.bases.now) c.args.place places in
    let told : P c.as_slice.result.now = subst P (sym c.as_slice.ensures.value) c.in_ok-above.ensures in
    least_same fault_cmp (IsInNamesFault Above types type) (IsInNamesFault Ancestor types type) c.in_ok-found.found
    (inherited_same Above Ancestor (λ i. (told.each i).0) types type) (inherited_same Ancestor Above (λ i. (told.each i).1) types type) c.in_ok-found.ensures
