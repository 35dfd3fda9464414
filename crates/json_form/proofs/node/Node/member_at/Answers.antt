use Rattle.std.proofs.Common.{◌∙◌, ap, sym, option_map, Some}
use Rattle.serde_json.specs.Data.{Data}
use Rattle.json_form.proofs.Views.{slice_get-members_in, shown}
use Rattle.json_form.specs.Nodes.{part_of}
use Rattle.serde_json.specs.View.{view}
use Rattle.json_form.proofs.node.Node.member_at.Goals as goal

pub returns-in_err-name : goal.returns-in_err-name
returns-in_err-name c =
    ap (option_map (λ m. (m.0.now, part_of m.1))) c.from_residual-in_err-name.ensures
    ∙ sym (slice_get-members_in (part_of c.args.self.now) c.in_ok-as_object.field-0.now.entries c.args.i c.in_ok-as_object.ensures ∙ ap (option_map shown) (sym c.in_err-name.ensures))

pub returns : goal.returns
returns c =
    let d : Data = view c.in_ok-name.value.now in
    ap (λ name. Some (name, d)) c.as_str.ensures.value
    ∙ sym (slice_get-members_in (part_of c.args.self.now) c.in_ok-as_object.field-0.now.entries c.args.i c.in_ok-as_object.ensures ∙ ap (option_map shown) (sym c.in_ok-name.ensures))
