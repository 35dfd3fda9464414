use Rattle.json_form.specs.Documents.{tree_of}
use Rattle.edm_types.specs.declared.faults.VocabFile.TheVariants.{Ssdl}
use Rattle.ssdl_model.specs.StoreFaults.{IsStoreFault}
use Rattle.ssdl_model.specs.ReadsStore.{IsStoreOf}
use Rattle.mapping_core.proofs.Told.{reads_tree, stops_at_tree}
use Rattle.mapping_core.proofs.reading.read_store.Goals as goal

pub returns-in_err-doc : goal.returns-in_err-doc
returns-in_err-doc c = stops_at_tree Ssdl IsStoreFault IsStoreOf c.args.ssdl.now c.in_err-doc.field-0.0 c.from_residual.result c.from_residual.ensures.1 c.in_err-doc.ensures

pub returns : goal.returns
returns c = reads_tree Ssdl IsStoreFault IsStoreOf c.args.ssdl.now (tree_of c.in_ok-doc.doc) c.in_ok-doc.ensures c.read_ssdl.result c.read_ssdl.ensures
