use Rattle.std.proofs.Common.{sym, subst}
use Rattle.mapping_core.specs.Words.{IsState, Schema}
use Rattle.mapping_run.proofs.answers.load.printed.Goals as goal

pub to_doc-requires : goal.to_doc-requires
to_doc-requires c =
    let HasState : Schema → Type 0 = λ schema. IsState schema.model c.args.state.now in
    subst HasState (sym c.schema.ensures.lends) c.requires
