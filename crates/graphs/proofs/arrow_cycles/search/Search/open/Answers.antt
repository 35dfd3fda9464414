use Rattle.std.proofs.Common.{◌≡◌, ◌<◌, ◌++◌, ◌∷◌, [], ℕ, List, length, get_or, set, ap, ◌∙◌, refl, arith}
use Rattle.std.proofs.lemmas.List.{get_or_default}
use Rattle.std.proofs.lemmas.Option.{slice_get_within}
use Rattle.std.specs.Vec.{with_item}
use Rattle.graphs.specs.declared.arrow_cycles.search.Group.{Group}
use Rattle.graphs.specs.declared.arrow_cycles.search.Mark.TheVariants.{New, OnPath}
use Rattle.graphs.specs.declared.arrow_cycles.search.Search.{Search}
use Rattle.graphs.proofs.arrow_cycles.Places.{at_set}
use Rattle.graphs.proofs.arrow_cycles.Steps.{opened_step}
use Rattle.graphs.proofs.arrow_cycles.search.Search.open.Goals as goal

pub returns-clause-step : goal.returns-clause-step
returns-clause-step c =
    let old = c.args.self.now in
    let place = c.args.place in
    let now : Search = record {
      marks = with_item old.marks place (OnPath c.len-3.result);
      path = c.push-2.new.self;
      groups = c.push.new.self;
      pending = c.extend_from_slice.new.self;
      components = old.components;
    } in
    let size : c.len-3.result ≡ length old.path.items = c.len-3.ensures ∙ old.path.ok.0 in
    let path : c.len.result ≡ length old.path.items = c.len.ensures ∙ old.path.ok.0 in
    let pending : c.len-2.result ≡ length old.pending.items = c.len-2.ensures ∙ old.pending.ok.0 in
    let begun : Group = record { path = c.len.result; pending = c.len-2.result } in
    let group : begun ≡ record { path = length old.path.items; pending = length old.pending.items } = λ i. record { path = path i; pending = pending i } in
    let seen : place < length old.marks.items = slice_get_within old.marks.items place New c.requires.next.unseen in
    let alike : length old.marks.items ≡ length c.args.ends.now = c.requires.search.0 in
    let listed : c.as_slice.result.now ≡ get_or c.args.ends.now place [] =
    c.as_slice.ensures.items ∙ (c.index-ends-place.is ∙ get_or_default c.args.ends.now place c.index-ends-place.result [] (omega (arith, seen, alike))) in
    opened_step c.args.ends.now old c.requires.search now place c.requires.next
    (ap (λ (n : ℕ). set old.marks.items place (OnPath n)) size) c.in_ok-push-2.ensures.items
    (c.in_ok-push.ensures.items ∙ ap (λ (g : Group). old.groups.items ++ g ∷ []) group)
    (c.in_ok-extend_from_slice.ensures.items ∙ ap (λ (xs : List ℕ). old.pending.items ++ xs) listed) refl

pub returns-clause-seen : goal.returns-clause-seen
returns-clause-seen c at =
    let old = c.args.self.now in
    let now = at_set old.marks.items c.args.place (OnPath c.len-3.result) (slice_get_within old.marks.items c.args.place New c.requires.next.unseen) in
    cc

pub index_mut-requires : goal.index_mut-requires
index_mut-requires c =
    let old = c.args.self.now in
    let seen : c.args.place < length old.marks.items = slice_get_within old.marks.items c.args.place New c.requires.next.unseen in
    omega (arith, seen)

pub bounds-ends-place : goal.bounds-ends-place
bounds-ends-place c =
    let old = c.args.self.now in
    let seen : c.args.place < length old.marks.items = slice_get_within old.marks.items c.args.place New c.requires.next.unseen in
    let alike : length old.marks.items ≡ length c.args.ends.now = c.requires.search.0 in
    omega (arith, seen, alike)
