use Rattle.std.proofs.Common.{refl, subst, sym, Option, ◌+◌}
use Rattle.std.proofs.lemmas.Option.{slice_get_read}
use Rattle.groupings.specs.least_fault.Least.{IsLeast}
use Rattle.groupings.proofs.least_fault.Leasts.{AmongFirst, least_all, least_more}
use Rattle.groupings.proofs.least_fault.finder.first_among.Goals as goal

pub loop-place-preserved : goal.loop-place-preserved
loop-place-preserved g c =
    let P : Option g.row.F.Denot → Type 0 = λ found.
    IsLeast g.F.Ord.cmp (AmongFirst (g.S.Finder.wrong c.args.search.now) c.args.items.now (c.loop-place.place + 1)) found in
    subst P (sym c.earlier-found.ensures)
    (least_more g.F.Ord.cmp g.met.F.Ord.total (g.S.Finder.wrong c.args.search.now) c.args.items.now c.loop-place.place _ _ _
    (slice_get_read _ _ c.loop-place.place _ refl c.loop-place-test.true c.index-items-place.is) c.loop-place.invariant c.in_ok-find.ensures)

pub returns : goal.returns
returns g c =
    least_all g.F.Ord.cmp g.met.F.Ord.total (g.S.Finder.wrong c.args.search.now) c.args.items.now c.loop-place.place _
    c.loop-place-test.false c.loop-place.invariant
