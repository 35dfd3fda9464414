use Rattle.json_form.specs.Documents.{tree_of}
use Rattle.edm_types.specs.declared.faults.VocabFile.TheVariants.{Csdl}
use Rattle.csdl_model.specs.ModelFaults.{IsModelFault}
use Rattle.csdl_model.specs.ReadsModel.{IsModelOf}
use Rattle.mapping_core.proofs.Told.{reads_tree, stops_at_tree}
use Rattle.mapping_core.proofs.reading.read_model.Goals as goal

pub returns-in_err-doc : goal.returns-in_err-doc
returns-in_err-doc c = stops_at_tree Csdl IsModelFault IsModelOf c.args.csdl.now c.in_err-doc.field-0.0 c.from_residual.result c.from_residual.ensures.1 c.in_err-doc.ensures

pub returns : goal.returns
returns c = reads_tree Csdl IsModelFault IsModelOf c.args.csdl.now (tree_of c.in_ok-doc.doc) c.in_ok-doc.ensures c.read_csdl.result c.read_csdl.ensures
