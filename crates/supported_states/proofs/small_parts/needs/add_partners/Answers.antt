use Rattle.std.proofs.Common.{◌++◌, refl, sym, ap, flat_map, ◌∙◌}
use Rattle.std.specs.List.{enumerate_from}
use Rattle.std.proofs.lemmas.Option.{slice_get_read}
use Rattle.std.proofs.lemmas.List.{append-nil}
use Rattle.emc_base.specs.Lists.{At}
use Rattle.emc_base.proofs.Loops.{take-enumerated}
use Rattle.emc_base.proofs.Numbered.{numbered_at}
use Rattle.supported_states.specs.small_parts.Sides.{partners_of_assoc}
use Rattle.supported_states.proofs.Turns.{joins-flat_map, one_more}
use Rattle.supported_states.proofs.small_parts.needs.add_partners.Goals as goal

pub loop-index-preserved : goal.loop-index-preserved
loop-index-preserved c =
    let i = c.loop-index.index in
    let items = c.as_slice-assoc-items.result.now in
    let assoc = c.assoc-item.result in
    let made = partners_of_assoc c.args.seat.now in
    let here : At items i assoc = slice_get_read _ _ i _ refl c.loop-index-test.true c.assoc-item.is in
    one_more (flat_map made) (joins-flat_map made) (enumerate_from 0 items) i (i, assoc) (numbered_at items i assoc here) c.args.needs.now c.loop-index.needs c.add_both.new.needs
    c.loop-index.invariant (c.in_ok-add_both.ensures ∙ ap (λ found. c.loop-index.needs ++ found) (sym (append-nil (made (i, assoc)))))

pub returns : goal.returns
returns c =
    let items = c.as_slice-assoc-items.result.now in
    let made = partners_of_assoc c.args.seat.now in
    c.loop-index.invariant
    ∙ ap (λ list. c.args.needs.now ++ flat_map made list) (take-enumerated items c.loop-index.index c.loop-index-test.false)
    ∙ ap (λ list. c.args.needs.now ++ flat_map made (enumerate_from 0 list)) c.as_slice-assoc-items.ensures.items
