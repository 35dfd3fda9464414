use Rattle.std.proofs.Common.{◌∙◌, ℕ, List, map, refl, ap}
use Rattle.std.specs.Borrow.{Bor}
use Rattle.std.proofs.lemmas.List.{take_all}
use Rattle.std.proofs.lemmas.Option.{slice_get_read}
use Rattle.std.proofs.lemmas.Result.{IfOk-weaker}
use Rattle.schema_names.proofs.Listed.{made_more}
use Rattle.msl_checks.proofs.msl_written.Again.{first_again}
use Rattle.msl_checks.proofs.msl_written.repeats.first_again_by.Goals as goal

pub loop-pair-init : goal.loop-pair-init
loop-pair-init g c = ((λ name_in lends. ap (map (λ given. given.now)) c.new-names.ensures.items), c.requires)

pub loop-pair-preserved : goal.loop-pair-preserved
loop-pair-preserved g c = (
  λ name_in lends.
      let here = slice_get_read _ _ c.loop-pair.pair-index _ refl c.loop-pair-test.true c.pair-item.is in
      let lent = lends _ c.name_of.result c.name_of.ensures in
      ap (map (λ given. given.now)) c.in_ok-push.ensures.items
      ∙ made_more (λ given. given.now) name_in c.loop-pair.names.items c.args.pairs.now c.loop-pair.pair-index c.as_str.result c.pair-item.result here
      (c.loop-pair.invariant.0 name_in lends) (c.as_str.ensures.text ∙ lent),
  c.loop-pair.invariant.1,
)

pub returns : goal.returns
returns g c = IfOk-weaker c.first_repeat.result _ _
    (λ first is name_in lends. first_again name_in c.args.pairs.now c.as_slice.result.now
    (ap (map (λ (given : Bor (List ℕ)). given.now)) c.as_slice.ensures.value
    ∙ c.loop-pair.invariant.0 name_in lends
    ∙ ap (map name_in) (take_all c.loop-pair.pair-index c.args.pairs.now c.loop-pair-test.false)) first is)
    c.first_repeat.ensures
