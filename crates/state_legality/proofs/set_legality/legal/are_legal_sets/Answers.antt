use Rattle.std.proofs.Common.{List, subst, sym}
use Rattle.round_trip.specs.Words.{EntitySet}
use Rattle.state_legality.specs.set_legality.Tells.{HaveLegalSets}
use Rattle.state_legality.proofs.set_legality.legal.are_legal_sets.Goals as goal

pub returns : goal.returns
returns c =
    let P : List EntitySet → Type 0 = λ sets. HaveLegalSets c.args.model.now sets c.args.entities.now in (
      λ is. subst P c.as_slice.ensures.items (c.have_legal_sets.ensures.0 is),
      λ legal. c.have_legal_sets.ensures.1 (subst P (sym c.as_slice.ensures.items) legal),
    )
