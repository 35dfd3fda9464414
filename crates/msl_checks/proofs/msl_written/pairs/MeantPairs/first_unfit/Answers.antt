use Rattle.std.proofs.Common.{[], codes, MatchOption, Option}
use Rattle.layouts.specs.declared.fault.Fault.{Fault}
use Rattle.layouts.specs.declared.rule.Rule.TheVariants.{Corresponds}
use Rattle.layouts.specs.rule_places.Places.{IsAt}
use Rattle.round_trip.specs.Words.{Pair}
use Rattle.round_trip.specs.soundness.mappings.Fragments.{WritesToFitting}
use Rattle.msl_checks.specs.msl_written.Within.{meant_in, schema_in, table_in}
use Rattle.msl_checks.proofs.msl_written.Meant.{least_by_meant}
use Rattle.msl_checks.proofs.msl_written.pairs.MeantPairs.first_unfit.Goals as goal

pub returns : goal.returns
returns c =
    let self = c.args.self.now in
    let writing = self.writing.now in
    let Wrong : Option Pair → Fault → Type 0 = λ known fault. MatchOption known ⊥ (λ found. ¬ WritesToFitting (schema_in writing.between) (table_in writing) found) × IsAt Corresponds [] fault in
    least_by_meant (meant_in writing) self.each self.pairs.now self.meant (codes "ScalarProperty") Wrong c.in_ok-found.found c.in_ok-found.ensures
