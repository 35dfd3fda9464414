use Rattle.std.proofs.Common.{◌≡◌, ℕ, ◌+◌, length, refl, sym, ap, ◌∙◌, arith}
use Rattle.csdl_names.specs.csdl_lists.References.{names_in}
use Rattle.csdl_names.specs.PropPlaces.{prop_upto}
use Rattle.csdl_names.proofs.PropClimbs.{one_left, climb_ends, climb_fails, climb_goes}
use Rattle.csdl_names.proofs.lookups.Lookups.prop_of_type.Goals as goal

pub loop-init : goal.loop-init
loop-init c =
    let all : length c.args.self.now.model.now.types + 0 ≡ length c.args.self.now.model.now.types = omega arith in
    (length c.args.self.now.model.now.types, all, c.len-end.ensures.count, refl)

pub returns-then-is_some : goal.returns-then-is_some
returns-then-is_some c =
    let model = c.args.self.now.model.now in
    let name = c.args.name.now in
    let inv = c.loop.invariant in
    let one = one_left inv.0 c.loop.counter (length model.types) c.len-end.result inv.1 inv.2 c.loop-test.true in
    climb_ends (names_in model) model name one.0 c.loop.place c.own_prop-found.result c.own_prop-found.ensures (sym c.if-is_some.ensures)
    ∙ ap (λ (n : ℕ). prop_upto (names_in model) model n c.loop.place name) (sym one.1)
    ∙ inv.3

pub returns-in_err-place : goal.returns-in_err-place
returns-in_err-place c =
    let model = c.args.self.now.model.now in
    let name = c.args.name.now in
    let inv = c.loop.invariant in
    let one = one_left inv.0 c.loop.counter (length model.types) c.len-end.result inv.1 inv.2 c.loop-test.true in
    c.from_residual.ensures
    ∙ climb_fails (names_in model) model name one.0 c.loop.place c.own_prop-found.result c.own_prop-found.ensures (sym c.if-is_some.ensures) (sym c.base.ensures ∙ c.in_err-place.was)
    ∙ ap (λ (n : ℕ). prop_upto (names_in model) model n c.loop.place name) (sym one.1)
    ∙ inv.3

pub loop-preserved : goal.loop-preserved
loop-preserved c =
    let model = c.args.self.now.model.now in
    let name = c.args.name.now in
    let inv = c.loop.invariant in
    let one = one_left inv.0 c.loop.counter (length model.types) c.len-end.result inv.1 inv.2 c.loop-test.true in (
      one.0,
      one.2,
      inv.2,
      climb_goes (names_in model) model name one.0 c.loop.place c.own_prop-found.result c.in_ok-place.place c.own_prop-found.ensures (sym c.if-is_some.ensures)
          (sym c.base.ensures ∙ c.in_ok-place.was)
          ∙ ap (λ (n : ℕ). prop_upto (names_in model) model n c.loop.place name) (sym one.1)
          ∙ inv.3,
    )

pub returns : goal.returns
returns c =
    let model = c.args.self.now.model.now in
    let name = c.args.name.now in
    let inv = c.loop.invariant in
    let none : 0 ≡ inv.0 = omega (arith, inv.1, inv.2, c.loop-test.false) in
    ap (λ (n : ℕ). prop_upto (names_in model) model n c.loop.place name) none ∙ inv.3
