use Rattle.std.proofs.Common.{List, sym, subst}
use Rattle.emc_base.proofs.facts.Zipped.{zip_at}
use Rattle.region_states.specs.region_basis.BasisOf.{basis_of}
use Rattle.case_laws.specs.declared.region_cases.case.Case.{Case}
use Rattle.query_views.specs.Views.{IsReaderOf}
use Rattle.query_views.proofs.views.QueryViews.first_met.Goals as goal

pub first_met-requires-clause-reader : goal.first_met-requires-clause-reader
first_met-requires-clause-reader c =
    let basis = basis_of c.args.parts.now in
    let views = c.args.self.now in
    let reader = c.in-Some-Some.reader.now in
    let P : List Case → Type 0 = λ cases. IsReaderOf basis cases reader in
    subst P (sym c.as_slice.ensures.items)
    (zip_at (IsReaderOf basis) views.cases views.readers c.args.set.index c.in-Some-Some.cases.now reader c.requires.readers
    (sym c.in-Some-Some.ensures.item) (sym c.in-Some-Some.ensures'.item))
