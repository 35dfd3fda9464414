use Rattle.json_form.specs.Documents.{tree_of}
use Rattle.edm_types.specs.declared.faults.VocabFile.TheVariants.{Msl}
use Rattle.msl_rules.specs.MappingFaults.{IsMappingFault}
use Rattle.msl_fragments.specs.ReadsMapping.{IsMappingOf}
use Rattle.mapping_core.proofs.Told.{reads_tree, stops_at_tree}
use Rattle.mapping_core.proofs.reading.read_mapping.Goals as goal

pub returns-in_err-doc : goal.returns-in_err-doc
returns-in_err-doc c =
    let model = c.args.model.now in
    let store = c.args.store.now in
    stops_at_tree Msl (IsMappingFault model store) (IsMappingOf model store) c.args.msl.now c.in_err-doc.field-0.0 c.from_residual.result c.from_residual.ensures.1 c.in_err-doc.ensures

pub returns : goal.returns
returns c =
    let model = c.args.model.now in
    let store = c.args.store.now in
    reads_tree Msl (IsMappingFault model store) (IsMappingOf model store) c.args.msl.now (tree_of c.in_ok-doc.doc) c.in_ok-doc.ensures c.read_msl.result c.read_msl.ensures
