use Rattle.std.proofs.Common.{◌↔◌, IsTrue, MatchOption, Option, sym, subst}
use Rattle.csdl_names.specs.declared.csdl_lists.raw.RawConstraint.{RawConstraint}
use Rattle.csdl_names.specs.csdl_lists.References.{names_in}
use Rattle.ssdl_model.specs.ssdl_rules.ForeignKeys.{BreaksForeignKey}
use Rattle.ssdl_model.proofs.ssdl_rules.Told.{last_told}
use Rattle.ssdl_model.proofs.ssdl_rules.foreign.is_unlike.Goals as goal

pub returns : goal.returns
returns c =
    let model = c.args.sides.now.lookups.now.model.now in
    let P : Option RawConstraint → Type 0 = λ constraint. IsTrue c.in_ok-answer.answer ↔ MatchOption constraint ⊥ (BreaksForeignKey (names_in model) model c.args.association.now) in
    subst P (sym c.in-Some.is)
    (λ is. last_told (λ never. absurd cc) (c.in_ok-answer.ensures.0 is), λ breaks. c.in_ok-answer.ensures.1 (last_told (λ never. absurd never) breaks))
