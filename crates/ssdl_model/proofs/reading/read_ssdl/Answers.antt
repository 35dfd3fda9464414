use Rattle.json_form.specs.Documents.{tree_of}
use Rattle.ssdl_model.proofs.SoundReading.{is_store_of}
use Rattle.ssdl_model.proofs.reading.read_ssdl.Goals as goal

pub returns-in-Ok : goal.returns-in-Ok
returns-in-Ok c =
    is_store_of (tree_of c.args.doc.now) c.in-Ok.store c.a_store_that_breaks_no_rule_is_sound.ensures.sound c.in-Ok.ensures.0 c.in-Ok.ensures.1
