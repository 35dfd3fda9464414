use Rattle.std.proofs.Common.{◌≡◌, ◌-◌, ◌<◌, ◌∷◌, [], ℕ, List, All, length, take, drop, refl, sym, ap, subst, subst₂, ◌∙◌}
use Rattle.std.proofs.lemmas.List.{length-append, take_rest}
use Rattle.graphs.specs.arrow_cycles.Ends.{GoesTo}
use Rattle.graphs.specs.arrow_cycles.Searches.{AreClosed}
use Rattle.graphs.specs.declared.arrow_cycles.search.Search.{Search}
use Rattle.graphs.proofs.arrow_cycles.Marking.{path_inside}
use Rattle.graphs.proofs.arrow_cycles.Steps.{closed_step}
use Rattle.graphs.proofs.arrow_cycles.search.Search.close.Goals as goal

pub close_places-requires : goal.close_places-requires
close_places-requires c =
    let old = c.args.self.now in
    let P : List ℕ → Type 0 = λ xs. All (λ v. v < length old.marks.items) xs in
    let same : take (length c.as_slice.result.now - c.args.group.path) (drop c.args.group.path c.as_slice.result.now) ≡ drop c.args.group.path old.path.items =
    take_rest c.as_slice.result.now c.args.group.path ∙ ap (drop c.args.group.path) c.as_slice.ensures.value in
    subst P (sym same) (path_inside (GoesTo c.args.ends.now) old.marks.items old.path.items old.groups.items old.pending.items (length old.components.items) c.requires.search.1 c.args.group.path)

pub returns : goal.returns
returns c =
    let old = c.args.self.now in
    let now : Search = record { marks = c.close_places.new.marks; path = c.truncate.new.self; groups = c.pop.new.self; pending = old.pending; components = c.push.new.self } in
    let same : take (length c.as_slice.result.now - c.args.group.path) (drop c.args.group.path c.as_slice.result.now) ≡ drop c.args.group.path old.path.items =
    take_rest c.as_slice.result.now c.args.group.path ∙ ap (drop c.args.group.path) c.as_slice.ensures.value in
    let number : c.len-number.result ≡ length old.components.items = c.len-number.ensures ∙ old.components.ok.0 in
    let size : ℕ = c.len.result - c.args.group.path in
    let P : ℕ → List ℕ → Type 0 = λ n xs. AreClosed n xs old.marks.items now.marks.items in
    closed_step c.args.ends.now old c.requires.search now c.args.group c.requires.top c.requires.none
    (subst₂ P number same c.close_places.ensures) c.truncate.ensures.items
    (c.pop.ensures.rest ∙ ap (λ n. take (n - 1) old.groups.items) old.groups.ok.0) refl
    (ap length c.in_ok-push.ensures.items ∙ length-append old.components.items (size ∷ []))
