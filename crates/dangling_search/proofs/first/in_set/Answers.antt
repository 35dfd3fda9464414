use Rattle.std.proofs.Common.{refl, subst}
use Rattle.std.proofs.lemmas.List.Elements.{All-more}
use Rattle.std.proofs.lemmas.Option.{slice_get_read}
use Rattle.regions.specs.declared.pattern.Focus.TheVariants as focus
use Rattle.region_states.specs.region_basis.BasisOf.{basis_of}
use Rattle.dangling_search.specs.Searched.{FindsRegion}
use Rattle.dangling_search.specs.declared.region_rows.RegionRows.{RegionRows}
use Rattle.dangling_search.proofs.Searching.{NeverAt, none_in}
use Rattle.dangling_search.proofs.Tables.{made_of}
use Rattle.dangling_search.proofs.first.in_set.Goals as goal

pub at_region-requires-clause-rows : goal.at_region-requires-clause-rows
at_region-requires-clause-rows c = (made_of (basis_of c.args.parts.now) c.requires.rows.0 c.args.rows.now c.requires.rows.1 c.as_slice-of_region-items.result.now c.as_slice-of_region-items.ensures.items
    c.loop-of_region.of_region-index c.of_region-item.result (slice_get_read _ _ c.loop-of_region.of_region-index _ refl c.loop-of_region-test.true c.of_region-item.is)).0

pub at_region-requires-clause-focus : goal.at_region-requires-clause-focus
at_region-requires-clause-focus c = (made_of (basis_of c.args.parts.now) c.requires.rows.0 c.args.rows.now c.requires.rows.1 c.as_slice-of_region-items.result.now c.as_slice-of_region-items.ensures.items
    c.loop-of_region.of_region-index c.of_region-item.result (slice_get_read _ _ c.loop-of_region.of_region-index _ refl c.loop-of_region-test.true c.of_region-item.is)).1

pub loop-of_region-preserved : goal.loop-of_region-preserved
loop-of_region-preserved c =
    let basis = basis_of c.args.parts.now in
    let Never : RegionRows → Type 0 = λ rows. NeverAt basis c.args.key.now (focus.Entity rows.region) in
    All-more Never c.as_slice-of_region-items.result.now c.loop-of_region.of_region-index c.of_region-item.result c.loop-of_region-test.true c.loop-of_region.invariant
    (subst Never c.of_region-item.is (subst (FindsRegion basis c.args.key.now c.of_region-item.result.region) c.in_default.is c.in_ok-spot.ensures (focus.Entity c.of_region-item.result.region) refl))

pub returns : goal.returns
returns c =
    none_in (basis_of c.args.parts.now) c.args.key.now c.args.rows.now c.as_slice-of_region-items.result.now c.as_slice-of_region-items.ensures.items c.loop-of_region.of_region-index c.loop-of_region-test.false
    c.loop-of_region.invariant
