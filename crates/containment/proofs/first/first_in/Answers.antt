use Rattle.std.proofs.Common.{None, refl, subst, ◌∙◌}
use Rattle.std.proofs.lemmas.List.Elements.{All-more}
use Rattle.std.proofs.lemmas.Option.{slice_get_read}
use Rattle.regions.specs.declared.region.Region.{Region}
use Rattle.regions.specs.declared.pattern.Focus.TheVariants as focus
use Rattle.region_states.specs.region_basis.BasisOf.{basis_of}
use Rattle.containment.specs.Found.{FindsOne}
use Rattle.containment.proofs.OfSet.{found_at, none_at}
use Rattle.containment.proofs.first.first_in.Goals as goal

pub loop-region-preserved : goal.loop-region-preserved
loop-region-preserved c =
    let basis = basis_of c.args.parts.now in
    let NoneOf : Region → Type 0 = λ region. FindsOne basis (focus.Entity region) c.args.kind None in
    All-more NoneOf c.as_slice-region-items.result.now c.loop-region.region-index c.region-item.result c.loop-region-test.true c.loop-region.invariant
    (subst NoneOf c.region-item.is (subst (FindsOne basis (focus.Entity c.region-item.result) c.args.kind) c.in_default.is c.in_ok-conflict.ensures))

pub returns-in-Some-clause-told : goal.returns-in-Some-clause-told
returns-in-Some-clause-told c = λ made same.
    (let i = c.loop-region.region-index in
    found_at (basis_of c.args.parts.now) c.args.set c.args.kind c.as_slice-region-items.result.now (c.as_slice-region-items.ensures.items ∙ c.requires.regions) i
    c.region-item.result (slice_get_read _ _ i _ refl c.loop-region-test.true c.region-item.is) c.in_ok-conflict.field-0 made (c.in-Some.is ∙ same) c.in_ok-conflict.ensures)

pub returns-clause-free : goal.returns-clause-free
returns-clause-free c = λ same.
    none_at (basis_of c.args.parts.now) c.args.set c.args.kind c.as_slice-region-items.result.now (c.as_slice-region-items.ensures.items ∙ c.requires.regions)
    c.loop-region.region-index c.loop-region-test.false c.loop-region.invariant c.requires.alone
