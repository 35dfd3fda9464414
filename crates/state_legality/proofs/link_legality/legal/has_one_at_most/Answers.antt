use Rattle.std.proofs.Common.{◌≡◌, Option, subst, refl, ℕ}
use Rattle.round_trip.specs.Words.{Link, key_of}
use Rattle.state_legality.specs.link_legality.Sides.{key_at}
use Rattle.state_legality.specs.link_legality.Counts.{IsNext}
use Rattle.state_legality.proofs.link_legality.Legality.{none_at_most, once_by_next}
use Rattle.state_legality.proofs.link_legality.legal.has_one_at_most.Goals as goal

pub returns-in-Some : goal.returns-in-Some
returns-in-Some c =
    let Joins : Link → Type 0 = λ link. key_at link c.args.side ≡ key_of c.args.model.now c.args.entity.now in
    let P : Option ℕ → Type 0 = λ found. IsNext Joins c.args.links.now 0 found in
    once_by_next Joins c.args.links.now c.in-Some.i c.next_partner-in-Some.result c.is_none.result (subst P c.in-Some.is c.next_partner.ensures) c.next_partner-in-Some.ensures c.is_none.ensures

pub returns-in-None : goal.returns-in-None
returns-in-None c =
    let Joins : Link → Type 0 = λ link. key_at link c.args.side ≡ key_of c.args.model.now c.args.entity.now in
    let P : Option ℕ → Type 0 = λ found. IsNext Joins c.args.links.now 0 found in
    (λ _. none_at_most Joins c.args.links.now (subst P c.in-None.is c.next_partner.ensures), λ _. refl)
