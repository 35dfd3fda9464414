use Rattle.std.proofs.Common.{refl, ap, ◌∙◌}
use Rattle.std.specs.List.{filter_map}
use Rattle.std.proofs.lemmas.List.{take_all}
use Rattle.std.proofs.lemmas.Option.{slice_get-get_or}
use Rattle.emc_base.proofs.Turns.{found_more}
use Rattle.msl_checks.specs.msl_written.Within.{meant_in}
use Rattle.msl_checks.proofs.msl_written.Meant.{filter_map-map}
use Rattle.msl_checks.proofs.msl_written.pairs.MeantPairs.found.Goals as goal

pub loop-meant-preserved : goal.loop-meant-preserved
loop-meant-preserved c =
    let items = c.as_slice-meant-items.result.now in
    let n = c.loop-meant.meant-index in
    c.in_ok-put_found.ensures
    ∙ found_more (λ meant. meant) items n _ c.loop-meant.found _ c.loop-meant.invariant (slice_get-get_or items n _ c.loop-meant-test.true) refl

pub returns : goal.returns
returns c =
    let self = c.args.self.now in
    c.loop-meant.invariant
    ∙ ap (filter_map (λ meant. meant)) (take_all c.loop-meant.meant-index c.as_slice-meant-items.result.now c.loop-meant-test.false ∙ c.as_slice-meant-items.ensures.items ∙ self.meant)
    ∙ filter_map-map (meant_in self.writing.now) self.pairs.now
