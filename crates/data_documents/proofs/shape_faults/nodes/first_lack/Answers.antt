use Rattle.std.proofs.Common.{◌≡◌, [], ◌∷◌, sym, ◌∙◌}
use Rattle.json_form.specs.Nodes.{part_of}
use Rattle.data_documents.specs.declared.shape_faults.place.ShapeStep.TheVariants.{Missing}
use Rattle.data_documents.specs.shape_faults.Nodes.{IsLack}
use Rattle.data_documents.proofs.shape_faults.Leasts.{least_alone, not_got}
use Rattle.data_documents.proofs.shape_faults.nodes.first_lack.Goals as goal

pub returns : goal.returns
returns c =
    let is : c.in_ok-place.place ≡ Missing c.args.rank c.args.name.now ∷ [] =
    c.in_ok-place.ensures ∙ (λ i. Missing (c.in-Ok.ensures.1 i) (c.in_ok-name.ensures i) ∷ c.here.ensures i) in
    least_alone (IsLack c.args.rank c.args.name.now (part_of c.args.node)) c.in_ok-place.place
    (record {
      object = sym c.is_object.ensures ∙ c.if-not-is_object.false;
      absent = not_got part_of c.member.result _ (sym c.is_some.ensures ∙ c.if-is_some.false) c.member.ensures;
      here = is;
    })
    (λ other lack. lack.here ∙ sym is)
