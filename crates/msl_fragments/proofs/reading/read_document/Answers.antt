use Rattle.std.proofs.Common.{IfOk, subst}
use Rattle.serde_json.specs.Data.{Data}
use Rattle.json_form.specs.Documents.{tree_of}
use Rattle.json_form.specs.Nodes.{part_of}
use Rattle.layouts.specs.declared.form.Form.TheVariants.{Object}
use Rattle.layouts.specs.declared.form.Shape.TheVariants.{Mapping}
use Rattle.msl_rules.specs.declared.msl_lists.raw.RawMapping.{RawMapping}
use Rattle.msl_rules.specs.msl_lists.Raw.{raw_mapping}
use Rattle.msl_rules.specs.KeepsMapping.{HasFewItems}
use Rattle.msl_rules.specs.MappingFaults.{IsMappingListFault}
use Rattle.msl_rules.specs.MappingMeaning.{mapping_in}
use Rattle.layouts.specs.told_rules.Reads.{Reads}
use Rattle.layouts.proofs.told_rules.Readings.{passes_layout, stops_at_layout}
use Rattle.msl_fragments.proofs.Steps.{list_number}
use Rattle.msl_fragments.proofs.reading.read_document.Goals as goal

pub returns-in-Some-clause-reads : goal.returns-in-Some-clause-reads
returns-in-Some-clause-reads c =
    let d = tree_of c.args.doc.now in
    let model = c.args.model.now in
    let store = c.args.store.now in
    stops_at_layout (Object Mapping) d (IsMappingListFault model store (raw_mapping d)) (mapping_in model store (raw_mapping d)) (part_of c.root.result) c.root.ensures c.in_ok-fault.field-0 c.in_ok-fault.ensures c.in-Some.fault c.in-Some.is
    (list_number model store (raw_mapping d))

pub returns-in_ok-raw-in-None-clause-reads : goal.returns-in_ok-raw-in-None-clause-reads
returns-in_ok-raw-in-None-clause-reads c =
    let d = tree_of c.args.doc.now in
    let model = c.args.model.now in
    let store = c.args.store.now in
    let Q : RawMapping → Type 0 = λ raw. Reads (IsMappingListFault model store raw) (mapping_in model store raw) c.read_lists.result in
    let R : Data → Type 0 = λ e. Q (raw_mapping e) in
    passes_layout (Object Mapping) d (IsMappingListFault model store (raw_mapping d)) (mapping_in model store (raw_mapping d)) (part_of c.root.result) c.root.ensures c.in_ok-fault.field-0 c.in_ok-fault.ensures c.read_lists.result c.in-None.is
    (subst R c.root-in-None.ensures (subst Q c.in_ok-raw-in-None.ensures c.read_lists.ensures.reads))

pub returns-in_ok-raw-in-None-clause-few : goal.returns-in_ok-raw-in-None-clause-few
returns-in_ok-raw-in-None-clause-few c =
    let Q : RawMapping → Type 0 = λ raw. IfOk c.read_lists.result (λ _. HasFewItems raw) in
    let R : Data → Type 0 = λ e. Q (raw_mapping e) in
    subst R c.root-in-None.ensures (subst Q c.in_ok-raw-in-None.ensures c.read_lists.ensures.few)
