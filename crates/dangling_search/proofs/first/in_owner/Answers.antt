use Rattle.std.proofs.Common.{◌∙◌, List, map, ap, subst, sym, IfOk}
use Rattle.regions.specs.declared.region.Region.{Region}
use Rattle.region_states.specs.region_basis.BasisOf.{basis_of}
use Rattle.regions.specs.Regions.{regions_of}
use Rattle.dangling_search.specs.Searched.{FindsIn}
use Rattle.dangling_search.specs.declared.region_rows.RegionRows.{RegionRows}
use Rattle.dangling_search.proofs.Searching.{none_past}
use Rattle.dangling_search.proofs.Tables.{regions_back, rows_at}
use Rattle.dangling_search.proofs.first.in_owner.Goals as goal

pub in_set-requires-clause-rows : goal.in_set-requires-clause-rows
in_set-requires-clause-rows c = (c.args.set, rows_at (basis_of c.args.parts.now) c.args.rows.now c.requires.rows c.args.set c.in-Some.of_set.now (sym c.in-Some.ensures.item))

pub returns-in-Some : goal.returns-in-Some
returns-in-Some c =
    let basis = basis_of c.args.parts.now in
    let Finds : List Region → Type 0 = λ regions. IfOk c.in_set.result (FindsIn basis c.args.key.now regions) in
    subst Finds (ap (map (λ (one : RegionRows). one.region)) (rows_at basis c.args.rows.now c.requires.rows c.args.set c.in-Some.of_set.now (sym c.in-Some.ensures.item))
    ∙ regions_back basis (regions_of basis c.args.set)) c.in_set.ensures

pub returns-in-None : goal.returns-in-None
returns-in-None c = none_past (basis_of c.args.parts.now) c.args.rows.now c.requires.rows c.args.key.now c.args.set (sym c.in-None.ensures.item)
