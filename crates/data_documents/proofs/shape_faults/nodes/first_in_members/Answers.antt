use Rattle.std.proofs.Common.{ℕ, List, Option, String, Global, sym, subst, ◌∙◌}
use Rattle.serde_json.specs.View.{view}
use Rattle.serde_json.specs.declared.value.Value.{Value}
use Rattle.groupings.specs.least_fault.Least.{IsLeast}
use Rattle.data_documents.specs.declared.shape_faults.place.ShapeStep.{ShapeStep}
use Rattle.data_documents.specs.declared.shape_faults.place.ShapeStep.TheVariants.{Member}
use Rattle.data_documents.specs.shape_faults.Nodes.{Behind}
use Rattle.data_documents.specs.shape_faults.Places.{place_cmp}
use Rattle.data_documents.proofs.shape_faults.Walks.{Passed, passed_all, passed_more, passed_none}
use Rattle.data_documents.proofs.shape_faults.nodes.first_in_members.Goals as goal

pub loop-name-init : goal.loop-name-init
loop-name-init g c =
    passed_none (g.S.MemberSearch.wrong c.args.search.now) c.args.members.now.entries c.into_iter-name-iterator.result
    (c.into_iter-name-iterator.ensures.into_iter_gives ∙ c.iter-name-items.ensures.rest)

pub loop-name-preserved : goal.loop-name-preserved
loop-name-preserved g c =
    let P = g.S.MemberSearch.wrong c.args.search.now in
    let entry : String Global × Value = (c.in-Some.name.now, c.in-Some.value.now) in
    let entries = c.args.members.now.entries in
    let more = c.in_ok-first_in_member.field-0 in
    let Q : Option (List ShapeStep) → Type 0 = λ found. Passed P entries c.next.new.self found in
    let R : List ℕ → Type 0 = λ name. IsLeast place_cmp (Behind (Member name) (P name (view entry.1))) more in
    subst Q (sym c.earlier-found.ensures)
    (passed_more P entries c.loop-name.name-iterator c.loop-name.found more entry c.next.new.self c.in-Some.ensures.steps
    (λ i. subst R c.as_str.ensures.value c.in_ok-first_in_member.ensures) c.loop-name.invariant)

pub returns : goal.returns
returns g c =
    passed_all (g.S.MemberSearch.wrong c.args.search.now) c.args.members.now.entries c.loop-name.name-iterator c.loop-name.found
    c.in-None.ensures.steps.0 c.loop-name.invariant
