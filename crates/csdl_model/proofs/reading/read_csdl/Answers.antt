use Rattle.json_form.specs.Documents.{tree_of}
use Rattle.csdl_model.proofs.SoundReading.{is_model_of}
use Rattle.csdl_model.proofs.reading.read_csdl.Goals as goal

pub returns-in-Ok : goal.returns-in-Ok
returns-in-Ok c =
    is_model_of (tree_of c.args.doc.now) c.in-Ok.model c.a_document_that_breaks_no_rule_is_sound.ensures.sound c.in-Ok.ensures.0 c.in-Ok.ensures.1
