use Rattle.std.proofs.Common.{List, subst, sym}
use Rattle.std.proofs.lemmas.Result.{IfOk-weaker}
use Rattle.edm_types.specs.Forest.{IsSubtree}
use Rattle.round_trip.specs.Words.{TypeId}
use Rattle.schema_laws.proofs.sound_forests.Whole.{sound_holds}
use Rattle.state_legality.proofs.link_legality.Marked.{marks_subtree}
use Rattle.state_legality.proofs.link_legality.under.marks_under.Goals as goal

pub subtree-requires-clause-whole : goal.subtree-requires-clause-whole
subtree-requires-clause-whole c = sound_holds c.args.model.now c.requires.sound

pub returns : goal.returns
returns c =
    let P : List TypeId → Type 0 = λ types. IsSubtree c.args.model.now c.args.u types in
    IfOk-weaker c.marks_of.result _ _ (λ marks adds. marks_subtree c.args.model.now c.args.u c.as_slice.result.now c.len.result marks.items c.requires.known c.len.ensures.count
    (subst P (sym c.as_slice.ensures.items) c.in_ok-types.ensures) adds) c.marks_of.ensures
