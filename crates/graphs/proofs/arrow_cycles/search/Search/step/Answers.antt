use Rattle.std.proofs.Common.{◌≡◌, ◌-◌, ℕ, List, length, take, drop, slice_get, sym, ap, ◌∙◌}
use Rattle.std.proofs.lemmas.List.{take_rest}
use Rattle.emc_base.specs.Lists.{At}
use Rattle.graphs.proofs.arrow_cycles.Places.{last_behind, none_behind}
use Rattle.graphs.proofs.arrow_cycles.search.Search.step.Goals as goal

pub returns-in-Some : goal.returns-in-Some
returns-in-Some c = c.follow.ensures

pub returns-in-None : goal.returns-in-None
returns-in-None c = c.close.ensures

pub follow-requires-clause-within : goal.follow-requires-clause-within
follow-requires-clause-within c = c.requires.within

pub follow-requires-clause-search : goal.follow-requires-clause-search
follow-requires-clause-search c = c.requires.search

pub follow-requires-clause-last : goal.follow-requires-clause-last
follow-requires-clause-last c =
    let pending = c.args.self.now.pending.items in
    let n = c.args.group.pending in
    let slice = c.as_slice.result.now in
    let same : take (length slice - n) (drop n slice) ≡ drop n pending = take_rest slice n ∙ ap (drop n) c.as_slice.ensures.value in
    let end : At (drop n pending) (length (drop n pending) - 1) c.in-Some.end =
    ap (λ (xs : List ℕ). slice_get xs (length xs - 1)) (sym same) ∙ sym c.last.ensures.value ∙ sym c.copied.ensures ∙ c.in-Some.is in
    let last = last_behind n pending c.in-Some.end end in
    record { top = c.requires.top; last = last.0; behind = last.1 }

pub close-requires-clause-search : goal.close-requires-clause-search
close-requires-clause-search c = c.requires.search

pub close-requires-clause-top : goal.close-requires-clause-top
close-requires-clause-top c = c.requires.top

pub close-requires-clause-none : goal.close-requires-clause-none
close-requires-clause-none c =
    let pending = c.args.self.now.pending.items in
    let n = c.args.group.pending in
    let slice = c.as_slice.result.now in
    let same : take (length slice - n) (drop n slice) ≡ drop n pending = take_rest slice n ∙ ap (drop n) c.as_slice.ensures.value in
    none_behind n pending
    (ap (λ (xs : List ℕ). slice_get xs (length xs - 1)) (sym same) ∙ sym c.last.ensures.value ∙ sym c.copied.ensures ∙ c.in-None.is)
