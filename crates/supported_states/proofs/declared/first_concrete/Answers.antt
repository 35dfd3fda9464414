use Rattle.std.proofs.Common.{◌≡◌, ◌≤◌, List, [], filter, take, length, refl, sym, subst, ◌∙◌}
use Rattle.std.specs.List.{enumerate_from}
use Rattle.std.proofs.lemmas.Option.{slice_get_read}
use Rattle.emc_base.specs.Lists.{At}
use Rattle.emc_base.proofs.Numbered.{numbered_at}
use Rattle.round_trip.specs.Words.{EntityType}
use Rattle.supported_states.proofs.Concrete.{concrete_first, concrete_none, is_found, none_more}
use Rattle.supported_states.proofs.declared.first_concrete.Goals as goal

pub returns-then-is_concrete_under : goal.returns-then-is_concrete_under
returns-then-is_concrete_under c =
    let i = c.loop-place.place in
    let items = c.as_slice-declared-items.result.now in
    let same = c.as_slice-declared-items.ensures.items in
    let here : At items i c.declared-item.result = slice_get_read _ _ i _ refl c.loop-place-test.true c.declared-item.is in
    let Here : List EntityType → Type 0 = λ list. At list i c.declared-item.result in
    let None : List EntityType → Type 0 = λ list. filter (is_found c.args.model.now c.args.t) (take i (enumerate_from 0 list)) ≡ [] in
    concrete_first c.args.model.now c.args.t i c.declared-item.result (subst Here same here) (subst None same c.loop-place.invariant) (sym c.is_concrete_under.ensures ∙ c.if-is_concrete_under.true)

pub loop-place-preserved : goal.loop-place-preserved
loop-place-preserved c =
    let i = c.loop-place.place in
    let items = c.as_slice-declared-items.result.now in
    let here : At items i c.declared-item.result = slice_get_read _ _ i _ refl c.loop-place-test.true c.declared-item.is in
    none_more (is_found c.args.model.now c.args.t) (enumerate_from 0 items) i (i, c.declared-item.result) (numbered_at items i c.declared-item.result here) c.loop-place.invariant
    (sym c.is_concrete_under.ensures ∙ c.if-is_concrete_under.false)

pub returns : goal.returns
returns c =
    let i = c.loop-place.place in
    let same = c.as_slice-declared-items.ensures.items in
    let None : List EntityType → Type 0 = λ list. filter (is_found c.args.model.now c.args.t) (take i (enumerate_from 0 list)) ≡ [] in
    let End : List EntityType → Type 0 = λ list. length list ≤ i in
    concrete_none c.args.model.now c.args.t i (subst End same c.loop-place-test.false) (subst None same c.loop-place.invariant)
