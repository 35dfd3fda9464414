use Rattle.std.proofs.Common.{◌↔◌, [], List, Bool, IfOk, IsTrue, subst}
use Rattle.std.proofs.lemmas.Result.{IfOk-weaker}
use Rattle.edm_types.specs.Types.{ColId}
use Rattle.table_owners.specs.key_matching.Completions.{Completes}
use Rattle.table_owners.specs.key_matching.Matchings.{Matches}
use Rattle.table_owners.proofs.key_matching.Ordering.{from_completion, to_completion}
use Rattle.table_owners.proofs.key_matching.matching.matches.Goals as goal

pub returns : goal.returns
returns c =
    let key = c.args.key.now in
    let cols = c.args.cols.now in
    let pairs = c.args.pairs.now in
    let Completed : Bool → Type 0 = λ yes. IsTrue yes ↔ Completes key cols [] pairs in
    let Matched : Bool → Type 0 = λ yes. IsTrue yes ↔ Matches key cols pairs in
    let Told : List ColId → Type 0 = λ taken. IfOk c.completes-2.result (λ yes. IsTrue yes ↔ Completes key cols taken pairs) in
    IfOk-weaker c.completes-2.result Completed Matched
    (λ yes told. (λ is. from_completion key cols pairs c.requires (told.0 is), λ matching. told.1 (to_completion key cols pairs c.requires matching)))
    (subst Told c.empty.ensures c.completes-2.ensures)
