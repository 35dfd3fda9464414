use Rattle.std.proofs.Common.{◌↔◌, List, ℕ, IsTrue, not, refl, subst}
use Rattle.round_trip.specs.Words.{LinkFragment}
use Rattle.round_trip.specs.soundness.mappings.Owners.{IsPlaced}
use Rattle.msl_rules.specs.MappingMeaning.{link_with}
use Rattle.msl_rules.proofs.Named.{denies}
use Rattle.msl_checks.specs.msl_written.Within.{schema_in}
use Rattle.msl_checks.proofs.msl_link_rules.of_link.OfLink.is_unplaced.Goals as goal

pub returns : goal.returns
returns c =
    let self = c.args.self.now in
    let schema = schema_in self.between in
    let placed = c.is_placed-is_placed.result in
    let P : LinkFragment → Type 0 = λ made. IsTrue placed ↔ IsPlaced schema made self.assoc.now in
    let Q : List ℕ → Type 0 = λ place. P (link_with schema.model schema.store place self.link.now self.set self.assoc.now c.args.table) in
    let tells = subst Q c.in_ok-here.ensures (subst P c.in_ok-made.ensures (c.is_placed-is_placed.ensures schema.model schema.mapping)) in
    denies (not placed) placed tells refl
