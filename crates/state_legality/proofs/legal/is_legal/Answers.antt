use Rattle.std.proofs.Common.{List, subst₂, sym}
use Rattle.round_trip.specs.Words.{Entity, Link}
use Rattle.state_legality.specs.set_legality.Tells.{AreLegalSets}
use Rattle.state_legality.specs.link_legality.Tells.{KeepsLinkRules, state_of}
use Rattle.state_legality.proofs.Joined.{legal_from, links_of, sets_of}
use Rattle.state_legality.proofs.legal.is_legal.Goals as goal

pub returns : goal.returns
returns c =
    let model = c.args.model.now in
    let state = c.args.state.now in
    let P : List (List Entity) → List (List Link) → Type 0 = λ entities links. AreLegalSets model entities × KeepsLinkRules model (state_of entities links) in (
      λ is.
          (let both = subst₂ P c.entity_lists.ensures c.link_lists.ensures (c.keep_rules.ensures.0 is) in
          legal_from model state c.requires.shape both.0 both.1),
      λ legal. c.keep_rules.ensures.1 (subst₂ P (sym c.entity_lists.ensures) (sym c.link_lists.ensures) (sets_of model state legal, links_of model state legal)),
    )
