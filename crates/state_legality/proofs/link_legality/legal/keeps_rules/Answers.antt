use Rattle.std.proofs.Common.{◌↔◌, IsTrue, Option, MatchOption, subst, sym}
use Rattle.round_trip.specs.Words.{Constraint, AreLegalLinks, HavePrincipals, links_in}
use Rattle.state_legality.specs.link_legality.Tells.{state_of}
use Rattle.state_legality.proofs.link_legality.legal.keeps_rules.Goals as goal

pub returns-in-Some : goal.returns-in-Some
returns-in-Some c =
    let model = c.args.model.now in
    let state = state_of c.args.entities.now c.args.links.now in
    let assoc = c.args.assoc.now in
    let P : Option Constraint → Type 0 = λ one.
    IsTrue c.have_principals.result ↔ MatchOption one (AreLegalLinks model state assoc (links_in state c.args.a)) (HavePrincipals model state assoc) in
    subst P (sym c.in-Some.is) (c.have_principals.ensures c.args.links.now)

pub returns-in-None : goal.returns-in-None
returns-in-None c =
    let model = c.args.model.now in
    let state = state_of c.args.entities.now c.args.links.now in
    let assoc = c.args.assoc.now in
    let P : Option Constraint → Type 0 = λ one.
    IsTrue c.are_legal_at.result ↔ MatchOption one (AreLegalLinks model state assoc (links_in state c.args.a)) (HavePrincipals model state assoc) in
    subst P (sym c.in-None.is) c.are_legal_at.ensures
