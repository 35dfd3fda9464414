use Rattle.std.proofs.Common.{List, All, Any, sym, subst, ap, ◌∙◌}
use Rattle.round_trip.specs.declared.FailKind.TheVariants as kind
use Rattle.schema_laws.proofs.state_demand.lists.Lists.{of_any}
use Rattle.regions.specs.declared.pattern.Pattern.{Pattern}
use Rattle.regions.specs.declared.pattern.PatternRow.{PatternRow}
use Rattle.region_states.specs.region_basis.BasisOf.{basis_of}
use Rattle.region_states.specs.declared.conflicts.conflict.Conflict.{Conflict}
use Rattle.containment.specs.Cells.{GapsIn, HasNoGap}
use Rattle.containment.specs.Found.{IsOneOf}
use Rattle.containment.specs.Lent.{focus_in, symbol_of}
use Rattle.containment.proofs.Lacking.{null_none, null_told}
use Rattle.containment.proofs.OfKind.{is_null_one, no_null_one}
use Rattle.containment.proofs.nulls.null_at.Goals as goal

pub returns-in_ok-told-in-Some : goal.returns-in_ok-told-in-Some
returns-in_ok-told-in-Some c =
    let basis = basis_of c.args.parts.now in
    let of = focus_in c.args.of in
    let gap = c.in-Some.gap in
    let P : List PatternRow → Type 0 = λ rows. Any (GapsIn basis of gap) rows in
    let found = of_any (GapsIn basis of gap) _ (subst P (c.as_slice.ensures.items ∙ ap (λ (pattern : Pattern). pattern.rows) c.requires) c.in-Some.ensures.found) in
    let Q : Conflict → Type 0 = λ made. IsOneOf basis of kind.Null made in
    subst Q (sym c.in_ok-told-in-Some.ensures)
    (is_null_one basis of gap.table gap.col (symbol_of gap.lack) (null_told basis of found.0 found.1 gap.table gap.col (symbol_of gap.lack) found.2.0 found.2.1))

pub returns-in-None : goal.returns-in-None
returns-in-None c =
    let basis = basis_of c.args.parts.now in
    let of = focus_in c.args.of in
    let P : List PatternRow → Type 0 = λ rows. All (HasNoGap basis of) rows in
    no_null_one basis of
    (null_none basis of (subst P (c.as_slice.ensures.items ∙ ap (λ (pattern : Pattern). pattern.rows) c.requires) c.in-None.ensures.none))
