use Rattle.std.proofs.Common.{List, All, Any, sym, subst, subst₂, ap, ◌∙◌}
use Rattle.round_trip.specs.declared.FailKind.TheVariants as kind
use Rattle.condition_logic.specs.declared.atoms.AtomOf.{AtomOf}
use Rattle.schema_laws.proofs.state_demand.lists.Lists.{of_any}
use Rattle.regions.specs.declared.pattern.Pattern.{Pattern}
use Rattle.regions.specs.declared.pattern.PatternRow.{PatternRow}
use Rattle.regions.specs.region_laws.pattern.Allowed.{told_of}
use Rattle.region_states.specs.region_basis.BasisOf.{basis_of}
use Rattle.region_states.specs.declared.conflicts.conflict.Conflict.{Conflict}
use Rattle.containment.specs.Cells.{ClashesIn, HasNoClash}
use Rattle.containment.specs.Found.{IsOneOf}
use Rattle.containment.specs.Lent.{focus_in}
use Rattle.containment.proofs.Clashing.{clash_none, clash_told}
use Rattle.containment.proofs.OfKind.{is_clash_one, no_clash_one}
use Rattle.containment.proofs.clashes.clash_at.Goals as goal

pub returns-in_ok-told-in-Some : goal.returns-in_ok-told-in-Some
returns-in_ok-told-in-Some c =
    let basis = basis_of c.args.parts.now in
    let of = focus_in c.args.of in
    let clash = c.in-Some.found in
    let P : List AtomOf → List PatternRow → Type 0 = λ atoms rows. Any (ClashesIn basis.schema.model atoms clash) rows in
    let found = of_any (ClashesIn basis.schema.model (told_of of) clash) _
    (subst₂ P c.atoms_of.ensures (c.as_slice.ensures.items ∙ ap (λ (pattern : Pattern). pattern.rows) c.requires) c.in-Some.ensures.found) in
    let Q : Conflict → Type 0 = λ made. IsOneOf basis of kind.Clash made in
    subst Q (sym c.in_ok-told-in-Some.ensures)
    (is_clash_one basis of clash.table clash.col clash.one.now clash.two.now
    (clash_told basis of found.0 found.1 clash.table clash.col clash.one.now clash.two.now found.2.0 found.2.1))

pub returns-in-None : goal.returns-in-None
returns-in-None c =
    let basis = basis_of c.args.parts.now in
    let of = focus_in c.args.of in
    let P : List AtomOf → List PatternRow → Type 0 = λ atoms rows. All (HasNoClash basis.schema.model atoms) rows in
    no_clash_one basis of
    (clash_none basis of (subst₂ P c.atoms_of.ensures (c.as_slice.ensures.items ∙ ap (λ (pattern : Pattern). pattern.rows) c.requires) c.in-None.ensures.none))
