use Rattle.data_documents.proofs.shape_faults.Walks.{Passed}
use Rattle.data_documents.proofs.shape_faults.nodes.first_in_members.Given as goal

-- the first of what is wrong with the entries that were passed
abbrev pub invariant-loop-name : goal.invariant-loop-name
invariant-loop-name g l = Passed (g.S.MemberSearch.wrong l.search) l.members.entries l.name-iterator l.found
