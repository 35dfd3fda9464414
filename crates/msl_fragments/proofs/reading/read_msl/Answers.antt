use Rattle.std.proofs.Common.{inl}
use Rattle.json_form.specs.Documents.{tree_of}
use Rattle.msl_fragments.proofs.SoundReading.{is_mapping_of}
use Rattle.msl_fragments.proofs.TwoEnds.{two_ends}
use Rattle.msl_fragments.proofs.reading.read_msl.Goals as goal

pub returns-in-Ok : goal.returns-in-Ok
returns-in-Ok c =
    let d = tree_of c.args.doc.now in
    let none = c.in-Ok.ensures.reads.0 in
    is_mapping_of c.args.model.now c.args.store.now d c.in-Ok.mapping c.a_mapping_that_breaks_no_rule_is_sound.ensures.sound c.requires.model c.requires.store
    (two_ends d (λ fault breaks. none fault (inl breaks))) c.in-Ok.ensures.few none c.in-Ok.ensures.reads.1
