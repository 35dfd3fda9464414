use Rattle.std.proofs.Common.{List, ℕ, sym, subst}
use Rattle.round_trip.specs.Words.{LinkFragment}
use Rattle.round_trip.specs.declared.FailKind.TheVariants as kind
use Rattle.regions.specs.declared.pattern.Focus.TheVariants as focus
use Rattle.region_states.specs.conflicts.Facts.{hides_link}
use Rattle.region_states.specs.declared.conflicts.conflict.Conflict.TheVariants as conflict
use Rattle.region_states.specs.region_basis.BasisOf.{basis_of}
use Rattle.containment.specs.Found.{IsOneOf}
use Rattle.containment.proofs.Differing.{differs_nowhere, differs_there}
use Rattle.containment.proofs.OfKind.{is_disagreement, no_disagreement}
use Rattle.containment.proofs.links.hidden_at.Goals as goal

pub returns-in_ok-copy-in-Some : goal.returns-in_ok-copy-in-Some
returns-in_ok-copy-in-Some c =
    let basis = basis_of c.args.parts.now in
    let a = c.args.assoc in
    let fragment : LinkFragment = c.in-Some.fragment.now in
    let Q : List ℕ → Type 0 = λ name. IsOneOf basis (focus.Link a) kind.Disagrees (conflict.Disagree (focus.Link a) name) in
    subst Q (sym c.in_ok-copy-in-Some.ensures)
    (is_disagreement basis (focus.Link a) fragment.place
    (differs_there (λ (one : LinkFragment). one.place) (hides_link basis a) basis.schema.mapping.links fragment (sym c.in-Some.ensures)))

pub returns-in-None : goal.returns-in-None
returns-in-None c =
    let basis = basis_of c.args.parts.now in
    no_disagreement basis (focus.Link c.args.assoc)
    (differs_nowhere (λ (one : LinkFragment). one.place) (hides_link basis c.args.assoc) basis.schema.mapping.links (sym c.in-None.ensures))
