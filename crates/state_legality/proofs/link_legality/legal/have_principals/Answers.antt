use Rattle.std.proofs.Common.{List, [], All, slice_get, unwrap_or, subst₂, sym}
use Rattle.round_trip.specs.Words.{End, Entity}
use Rattle.state_legality.specs.link_legality.Principals.{KeepsConstraint}
use Rattle.state_legality.specs.link_legality.Tells.{state_of}
use Rattle.state_legality.proofs.link_legality.Legality.{kept_principals, principals_kept}
use Rattle.state_legality.proofs.link_legality.legal.have_principals.Goals as goal

pub returns : goal.returns
returns c = λ links.
    let model = c.args.model.now in
    let assoc = c.args.assoc.now in
    let constraint = c.args.constraint.now in
    let entities = c.args.entities.now in
    let state = state_of entities links in
    let P : List Entity → List Entity → Type 0 = λ dependents principals. All (KeepsConstraint model principals c.dependent_end-end.result.now.ty constraint) dependents in
    let Q : End → End → Type 0 = λ end principal.
    All (KeepsConstraint model (unwrap_or (slice_get entities principal.set.index) []) end.ty constraint) (unwrap_or (slice_get entities end.set.index) []) in (
      λ is. principals_kept model state assoc constraint (subst₂ Q c.dependent_end-end.ensures c.principal_end.ensures
          (subst₂ P c.entities_at-dependents.ensures c.entities_at-principals.ensures (c.all_keep_constraint.ensures.0 is))),
      λ kept. c.all_keep_constraint.ensures.1 (subst₂ P (sym c.entities_at-dependents.ensures) (sym c.entities_at-principals.ensures)
          (subst₂ Q (sym c.dependent_end-end.ensures) (sym c.principal_end.ensures) (kept_principals model state assoc constraint kept))),
    )
