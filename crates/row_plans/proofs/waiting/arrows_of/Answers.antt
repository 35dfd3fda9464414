use Rattle.std.proofs.Common.{List, refl, take, sym, subst, ◌∙◌}
use Rattle.std.proofs.lemmas.List.{take_all}
use Rattle.std.proofs.lemmas.Option.{slice_get_read}
use Rattle.emc_base.specs.Lists.{At}
use Rattle.emc_base.proofs.Loops.{take_item}
use Rattle.emc_base.proofs.Mapped.{contains_at}
use Rattle.round_trip.specs.Words.{ForeignKey}
use Rattle.row_plans.specs.Waits.{AreArrowsBy}
use Rattle.row_plans.proofs.waiting.Collected.{no_arrows, one_key}
use Rattle.row_plans.proofs.waiting.Fitting.{all_fit}
use Rattle.row_plans.proofs.waiting.arrows_of.Goals as goal

pub loop-key-init : goal.loop-key-init
loop-key-init c = no_arrows c.args.alterations.now c.new-arrows.result.items c.new-arrows.ensures.items

pub add_key-requires : goal.add_key-requires
add_key-requires c =
    let keys : List ForeignKey = c.as_slice-key-items.result.now in
    let at : At keys c.loop-key.key-index c.key-item.result = slice_get_read keys _ c.loop-key.key-index c.key-item.result refl c.loop-key-test.true c.key-item.is in
    let P : List ForeignKey → Type 0 = λ list. At list c.loop-key.key-index c.key-item.result in
    all_fit c.args.store.now c.requires.sound c.key-item.result
    (contains_at c.args.store.now.keys c.loop-key.key-index c.key-item.result (subst P c.as_slice-key-items.ensures.items at)) c.args.alterations.now c.requires.fit

pub loop-key-preserved : goal.loop-key-preserved
loop-key-preserved c =
    let keys : List ForeignKey = c.as_slice-key-items.result.now in
    let key : ForeignKey = c.key-item.result in
    let n = c.loop-key.key-index in
    let at : At keys n key = slice_get_read keys _ n key refl c.loop-key-test.true c.key-item.is in
    let P : List ForeignKey → Type 0 = λ list. AreArrowsBy list c.args.alterations.now c.add_key.new.arrows.items in
    subst P (sym (take_item keys n key at))
    (one_key c.args.alterations.now (take n keys) key c.loop-key.arrows.items c.add_key.new.arrows.items c.loop-key.invariant c.in_ok-add_key.ensures)

pub returns : goal.returns
returns c =
    let P : List ForeignKey → Type 0 = λ list. AreArrowsBy list c.args.alterations.now c.loop-key.arrows.items in
    subst P (take_all c.loop-key.key-index c.as_slice-key-items.result.now c.loop-key-test.false ∙ c.as_slice-key-items.ensures.items) c.loop-key.invariant
