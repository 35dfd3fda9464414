use Rattle.std.proofs.Common.{sym, subst}
use Rattle.serde_json.specs.Data.{Data}
use Rattle.json_form.specs.Documents.{tree_of}
use Rattle.json_form.specs.Nodes.{part_of}
use Rattle.layouts.specs.declared.form.Form.TheVariants.{Object}
use Rattle.layouts.specs.declared.form.Shape.TheVariants.{Store}
use Rattle.csdl_names.specs.declared.csdl_lists.raw.RawModel.{RawModel}
use Rattle.ssdl_model.specs.ssdl_lists.RawStore.{IsUnbased, raw_store}
use Rattle.ssdl_model.specs.ssdl_making.StoreMeaning.{store_meaning}
use Rattle.ssdl_model.specs.StoreFaults.{IsStoreListFault}
use Rattle.layouts.specs.told_rules.Reads.{Reads}
use Rattle.layouts.proofs.told_rules.Readings.{passes_layout, stops_at_layout}
use Rattle.ssdl_model.proofs.RuleNumbers.{list_number}
use Rattle.ssdl_model.proofs.SoundReading.{store_unbased}
use Rattle.ssdl_model.proofs.reading.read_document.Goals as goal

pub read_lists-made-requires : goal.read_lists-made-requires
read_lists-made-requires c = subst IsUnbased (sym c.in_ok-store-in-None.ensures) (store_unbased (part_of c.root-in-None.result))

pub returns-in-Some : goal.returns-in-Some
returns-in-Some c =
    let d = tree_of c.args.doc.now in
    stops_at_layout (Object Store) d (IsStoreListFault (raw_store d)) (store_meaning (raw_store d)) (part_of c.root.result) c.root.ensures c.in_ok-fault.field-0 c.in_ok-fault.ensures c.in-Some.fault c.in-Some.is
    (list_number (raw_store d))

pub returns-in_ok-store-in-None : goal.returns-in_ok-store-in-None
returns-in_ok-store-in-None c =
    let d = tree_of c.args.doc.now in
    let Q : RawModel → Type 0 = λ raw. Reads (IsStoreListFault raw) (store_meaning raw) c.read_lists-made.result in
    let R : Data → Type 0 = λ e. Q (raw_store e) in
    passes_layout (Object Store) d (IsStoreListFault (raw_store d)) (store_meaning (raw_store d)) (part_of c.root.result) c.root.ensures c.in_ok-fault.field-0 c.in_ok-fault.ensures c.read_lists-made.result c.in-None.is
    (subst R c.root-in-None.ensures (subst Q c.in_ok-store-in-None.ensures c.read_lists-made.ensures))
