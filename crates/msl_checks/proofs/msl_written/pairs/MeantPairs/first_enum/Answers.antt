use Rattle.std.proofs.Common.{[], codes, MatchOption, Option}
use Rattle.layouts.specs.declared.fault.Fault.{Fault}
use Rattle.layouts.specs.declared.rule.Rule.TheVariants.{ForeignValue}
use Rattle.layouts.specs.rule_places.Places.{IsAt}
use Rattle.round_trip.specs.Words.{Pair}
use Rattle.round_trip.specs.soundness.mappings.Joined.{WritesNoBarredEnum}
use Rattle.msl_checks.specs.msl_written.Within.{meant_in, schema_in}
use Rattle.msl_checks.proofs.msl_written.Meant.{least_by_meant}
use Rattle.msl_checks.proofs.msl_written.pairs.MeantPairs.first_enum.Goals as goal

pub returns : goal.returns
returns c =
    let self = c.args.self.now in
    let writing = self.writing.now in
    let Wrong : Option Pair → Fault → Type 0 = λ known fault. MatchOption known ⊥ (λ found. ¬ WritesNoBarredEnum (schema_in writing.between) found) × IsAt ForeignValue [] fault in
    least_by_meant (meant_in writing) self.each self.pairs.now self.meant (codes "ScalarProperty") Wrong c.in_ok-found.found c.in_ok-found.ensures
