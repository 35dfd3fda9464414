use Rattle.std.proofs.lemmas.Result.{IfOk-weaker}
use Rattle.json_form.specs.Nodes.{part_of}
use Rattle.groupings.specs.least_fault.Least.{IsLeast}
use Rattle.data_documents.specs.shape_faults.Entries.{InEntries}
use Rattle.data_documents.specs.shape_faults.Nodes.{IsObjectFault}
use Rattle.data_documents.specs.shape_faults.Places.{place_cmp}
use Rattle.data_documents.proofs.shape_faults.Walks.{in_object}
use Rattle.data_documents.proofs.shape_faults.nodes.first_in_object.Goals as goal

pub returns-in-Some : goal.returns-in-Some
returns-in-Some g c =
    let W = g.S.MemberSearch.wrong c.args.search.now in
    let d = part_of c.args.node in
    let entries = c.in-Some.members.now.entries in
    IfOk-weaker c.first_in_members.result (IsLeast place_cmp (InEntries W entries)) (IsLeast place_cmp (IsObjectFault W d))
    (λ found least. in_object W d entries found c.in-Some.ensures least) c.first_in_members.ensures
