use Rattle.std.proofs.Common.{◌∷◌, Option, List, subst, ◌∙◌}
use Rattle.serde_json.specs.Data.{Data}
use Rattle.serde_json.specs.View.{view}
use Rattle.groupings.specs.least_fault.Least.{IsLeast}
use Rattle.data_documents.specs.declared.shape_faults.place.ShapeStep.{ShapeStep}
use Rattle.data_documents.specs.declared.shape_faults.place.ShapeStep.TheVariants.{Member}
use Rattle.data_documents.specs.shape_faults.Places.{place_cmp}
use Rattle.data_documents.proofs.shape_faults.Leasts.{least_behind_told}
use Rattle.data_documents.proofs.shape_faults.nodes.first_in_member.Goals as goal

pub returns-in_ok-seen-in-Some : goal.returns-in_ok-seen-in-Some
returns-in_ok-seen-in-Some g c =
    let W = g.S.MemberSearch.wrong c.args.search.now c.args.name.now in
    let P : Data → Type 0 = λ part. IsLeast place_cmp (W part) c.in_ok-find.field-0 in
    let Q : Option (List ShapeStep) → Type 0 = λ found. IsLeast place_cmp (W (view c.args.value.now)) found in
    least_behind_told (Member c.args.name.now) (W (view c.args.value.now)) c.in-Some.inside c.in_ok-seen-in-Some.seen
    (c.in_ok-seen-in-Some.ensures ∙ (λ i. Member (c.in_ok-name-in-Some.ensures i) ∷ c.in-Some.inside))
    (subst Q c.in-Some.is (subst P c.new.ensures c.in_ok-find.ensures))
