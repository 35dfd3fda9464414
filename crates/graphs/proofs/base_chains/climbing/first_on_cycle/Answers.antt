use Rattle.std.proofs.Common.{◌≡◌, ℕ, List, [], Contains, drop, Option, sym, ap, subst, ◌∙◌}
use Rattle.std.specs.Option.{option_map_or}
use Rattle.std.proofs.lemmas.List.{take_rest}
use Rattle.graphs.specs.base_chains.Climbs.{cycle_of}
use Rattle.graphs.specs.base_chains.Walks.{IsFirst}
use Rattle.graphs.proofs.base_chains.climbing.first_on_cycle.Goals as goal

pub returns : goal.returns
returns c =
    let path = c.args.path.now in
    let Least : List ℕ → Type 0 = λ places. IsFirst (Contains places) c.least.result in
    let found : drop c.in_ok-start.start path ≡ cycle_of path c.args.exit =
    sym (ap (cycle_of path) c.in_ok-exit.was
    ∙ ap (λ (o : Option ℕ). option_map_or (λ start. drop start path) o []) (sym c.place_of.ensures ∙ c.in_ok-start.was)) in
    subst Least (take_rest path c.in_ok-start.start ∙ found) c.least.ensures
