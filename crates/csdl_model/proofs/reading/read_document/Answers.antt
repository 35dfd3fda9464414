use Rattle.std.proofs.Common.{subst}
use Rattle.serde_json.specs.Data.{Data}
use Rattle.json_form.specs.Documents.{tree_of}
use Rattle.json_form.specs.Nodes.{part_of}
use Rattle.layouts.specs.declared.form.Form.TheVariants.{Object}
use Rattle.layouts.specs.declared.form.Shape.TheVariants.{Model}
use Rattle.csdl_names.specs.declared.csdl_lists.raw.RawModel.{RawModel}
use Rattle.csdl_names.specs.csdl_lists.Raw.{raw_model}
use Rattle.csdl_meaning.specs.ModelMeaning.{meaning}
use Rattle.csdl_model.specs.ModelFaults.{IsListFault}
use Rattle.layouts.specs.told_rules.Reads.{Reads}
use Rattle.layouts.proofs.told_rules.Readings.{passes_layout, stops_at_layout}
use Rattle.csdl_model.proofs.RuleNumbers.{list_number}
use Rattle.csdl_model.proofs.reading.read_document.Goals as goal

pub returns-in-Some : goal.returns-in-Some
returns-in-Some c =
    let d = tree_of c.args.doc.now in
    stops_at_layout (Object Model) d (IsListFault (raw_model d)) (meaning (raw_model d)) (part_of c.root.result) c.root.ensures c.in_ok-fault.field-0 c.in_ok-fault.ensures c.in-Some.fault c.in-Some.is
    (list_number (raw_model d))

pub returns-in_ok-model-in-None : goal.returns-in_ok-model-in-None
returns-in_ok-model-in-None c =
    let d = tree_of c.args.doc.now in
    let Q : RawModel → Type 0 = λ raw. Reads (IsListFault raw) (meaning raw) c.read_lists-made.result in
    let R : Data → Type 0 = λ e. Q (raw_model e) in
    passes_layout (Object Model) d (IsListFault (raw_model d)) (meaning (raw_model d)) (part_of c.root.result) c.root.ensures c.in_ok-fault.field-0 c.in_ok-fault.ensures c.read_lists-made.result c.in-None.is
    (subst R c.root-in-None.ensures (subst Q c.in_ok-model-in-None.ensures c.read_lists-made.ensures))
