use Rattle.std.proofs.Common.{◌≢◌, List, [], AllPairs, slice_get, unwrap_or, subst, subst₂, sym}
use Rattle.round_trip.specs.Words.{Entity, Link, links_in}
use Rattle.state_legality.specs.declared.link_legality.side.Side.TheVariants.{First, Second}
use Rattle.state_legality.specs.link_legality.Tells.{KeepsSide, state_of}
use Rattle.state_legality.proofs.link_legality.Legality.{legal_by_sides, sides_of_legal}
use Rattle.state_legality.proofs.link_legality.legal.are_legal_at.Goals as goal

pub returns : goal.returns
returns c =
    let model = c.args.model.now in
    let assoc = c.args.assoc.now in
    let state = state_of c.args.entities.now c.args.links.now in
    let P : List Entity → List Entity → List Link → Type 0 = λ first second links.
    (KeepsSide model first links assoc First × KeepsSide model second links assoc Second) × AllPairs (λ link other. link ≢ other) links in
    let R : List Entity → List Entity → Type 0 = λ first second. P first second c.links_at.result.now in
    let S : List Link → Type 0 = λ links. P (unwrap_or (slice_get c.args.entities.now assoc.first.set.index) []) (unwrap_or (slice_get c.args.entities.now assoc.second.set.index) []) links in (
      λ is. legal_by_sides model state assoc (links_in state c.args.a)
          (subst S c.links_at.ensures (subst₂ R c.entities_at-first.ensures c.entities_at-second.ensures (c.keep_both_sides.ensures.0 is))),
      λ legal. c.keep_both_sides.ensures.1 (subst₂ R (sym c.entities_at-first.ensures) (sym c.entities_at-second.ensures)
          (subst S (sym c.links_at.ensures) (sides_of_legal model state assoc (links_in state c.args.a) legal))),
    )
