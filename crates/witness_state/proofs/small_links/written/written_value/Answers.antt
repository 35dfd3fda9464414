use Rattle.std.proofs.Common.{◌==◌, find, Bool, ap, ◌∙◌}
use Rattle.std.proofs.lemmas.Result.{IfOk-weaker}
use Rattle.round_trip.specs.Words.{Pair}
use Rattle.witness_state.proofs.links_small.Written.{by_first, by_none, by_second}
use Rattle.witness_state.proofs.small_links.written.written_value.Goals as goal

pub returns-in-Some : goal.returns-in-Some
returns-in-Some c =
    let test : Pair → Bool = λ pair. pair.col.index == c.args.col.index in
    IfOk-weaker c.part_of.result _ _
    (λ value is. is ∙ by_first c.args.model.now c.args.declared.now c.args.fragment.now c.args.link.now c.args.col c.in-Some.pair.now
    (c.in-Some.ensures ∙ ap (find test) c.as_slice.ensures.items)) c.part_of.ensures

pub returns-in-Some-pair_to : goal.returns-in-Some-pair_to
returns-in-Some-pair_to c =
    let test : Pair → Bool = λ pair. pair.col.index == c.args.col.index in
    IfOk-weaker c.part_of-in-Some-pair_to.result _ _
    (λ value is. is ∙ by_second c.args.model.now c.args.declared.now c.args.fragment.now c.args.link.now c.args.col c.in-Some-pair_to.pair.now
    (c.in_default.ensures ∙ ap (find test) c.as_slice.ensures.items)
    (c.in-Some-pair_to.ensures ∙ ap (find test) c.as_slice-2.ensures.items)) c.part_of-in-Some-pair_to.ensures

pub returns-in-None : goal.returns-in-None
returns-in-None c =
    let test : Pair → Bool = λ pair. pair.col.index == c.args.col.index in
    by_none c.args.model.now c.args.declared.now c.args.fragment.now c.args.link.now c.args.col
    (c.in_default.ensures ∙ ap (find test) c.as_slice.ensures.items)
    (c.in-None.ensures ∙ ap (find test) c.as_slice-2.ensures.items)
