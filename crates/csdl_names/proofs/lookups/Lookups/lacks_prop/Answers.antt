use Rattle.std.proofs.Common.{◌≡◌, ◌≤◌, ℕ, sym, subst, ◌∙◌, refl, arith}
use Rattle.std.proofs.lemmas.Bool.{both_ways}
use Rattle.csdl_names.specs.csdl_lists.References.{base_of, names_in}
use Rattle.csdl_names.specs.Unresolved.{root}
use Rattle.graphs.proofs.base_chains.Depths.{HasDepth, depth_base}
use Rattle.csdl_names.proofs.Lacking.{lack_few, lack_up, not_declared}
use Rattle.layouts.proofs.rule_places.LeastFound.{none_tells}
use Rattle.csdl_names.proofs.lookups.Lookups.lacks_prop.Goals as goal

pub returns-then-declares : goal.returns-then-declares
returns-then-declares c =
    let model = c.args.self.now.model.now in
    let here = sym c.in-Some.ensures.item in (
      λ no. absurd cc,
      λ lacks. absurd (not_declared (names_in model) model c.args.name.now c.loop.place c.in-Some.ty.now here
          ((c.declares.ensures c.in-Some.ty.now here).0 c.if-declares.true) (c.loop.invariant.0.0 lacks)),
    )

pub returns-then-is_none : goal.returns-then-is_none
returns-then-is_none c =
    let here = sym c.in-Some.ensures.item in
    let none = (none_tells c.is_none.result c.in-Some.ty.now.base c.is_none.ensures).0 c.if-is_none.true in (
      λ yes. c.loop.invariant.0.1 (root c.loop.place c.in-Some.ty.now here none
          (λ declares. both_ways c.declares.result c.if-declares.false ((c.declares.ensures c.in-Some.ty.now here).1 declares))),
      λ lacks. refl,
    )

pub loop-preserved : goal.loop-preserved
loop-preserved c =
    let model = c.args.self.now.model.now in
    let here = sym c.in-Some.ensures.item in
    let is = sym c.base.ensures ∙ c.in-Some-base.is in
    let up = lack_up (names_in model) model c.args.name.now c.loop.place c.in-Some-base.base c.in-Some.ty.now here is
    (λ declares. both_ways c.declares.result c.if-declares.false ((c.declares.ensures c.in-Some.ty.now here).1 declares)) in (
      (λ lacks. up.0 (c.loop.invariant.0.0 lacks), λ lacks. c.loop.invariant.0.1 (up.1 lacks)),
      λ n deep.
          let before = c.loop.invariant.1 n deep in
          let above = depth_base (base_of (names_in model) model) before.0 c.loop.place c.in-Some-base.base is before.1 in
          (above.0, above.1, omega (arith, before.2, above.2)),
      c.loop.invariant.2,
    )

pub returns : goal.returns
returns c =
    let model = c.args.self.now.model.now in (
      λ no. absurd cc,
      λ lacks.
          let few = lack_few (names_in model) model c.args.name.now c.args.ty lacks in
          let last = c.loop.invariant.1 few.0 few.1 in
          let end : c.len-end.result ≤ c.loop.counter = c.loop-test.false in
          let zero : last.0 ≡ 0 = omega (arith, end, few.2, last.2, c.loop.invariant.2) in
          let P : ℕ → Type 0 = λ n. HasDepth (base_of (names_in model) model) n c.loop.place in
          absurd (subst P zero last.1),
    )
