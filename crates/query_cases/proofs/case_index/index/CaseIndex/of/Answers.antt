use Rattle.std.proofs.Common.{Contains, subst}
use Rattle.emc_base.proofs.Mapped.{contains_at}
use Rattle.region_states.specs.region_basis.BasisOf.{basis_of}
use Rattle.query_cases.specs.case_index.Codes.{rows_code}
use Rattle.query_cases.specs.case_index.Found.{places_at}
use Rattle.query_cases.proofs.case_index.Coding.{same_code}
use Rattle.query_cases.proofs.case_index.Finding.{found_all, found_rising, found_within}
use Rattle.query_cases.proofs.case_index.index.CaseIndex.of.Goals as goal

pub returns : goal.returns
returns c =
    let cases = c.args.cases.now in
    let telling = c.in_ok-telling.telling in
    let coded = c.in_ok-coded.coded.items in
    let by_code = c.in_ok-group.field-0 in
    record {
      all = λ i case here rows may. subst (λ code. Contains (places_at by_code code) i)
          (same_code (basis_of c.args.parts.now) telling cases c.in_ok-telling.ensures case (contains_at cases i case here) rows may)
          (found_all telling cases coded c.in_ok-coded.ensures by_code c.in_ok-group.ensures i case here);
      within = λ rows. found_within telling cases coded c.in_ok-coded.ensures by_code c.in_ok-group.ensures (rows_code telling rows);
      rising = λ rows. found_rising telling cases coded c.in_ok-coded.ensures by_code c.in_ok-group.ensures (rows_code telling rows);
    }
