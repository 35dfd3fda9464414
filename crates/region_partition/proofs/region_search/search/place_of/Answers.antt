use Rattle.std.proofs.Common.{rules, of_calls, Option, ℕ, sym, subst}
use Rattle.std.proofs.lemmas.Fn.{always_returns_same}
use Rattle.region_states.specs.region_basis.BasisOf.{basis_of}
use Rattle.region_partition.specs.region_search.Standing.{FindsEqual, region_cmp}
use Rattle.region_partition.proofs.region_search.Searched.{finds_equal}
use Rattle.region_partition.proofs.region_search.search.place_of.Goals as goal

pub returns : goal.returns
returns c =
    let cmp = region_cmp (basis_of c.args.parts.now) c.args.entity.now c.args.links.now in
    let P : Option ℕ → Type 0 = λ found. FindsEqual cmp c.args.regions.now found in
    subst P (sym c.ok.ensures.value) (finds_equal cmp c.args.regions.now c.binary_search_by.result c.binary_search_by.ensures.bound
    (c.binary_search_by.ensures.position cmp (always_returns_same _ _ _ (λ a r f k. search (rules, of_calls)))))
