use Rattle.std.proofs.Common.{sym, subst, ◌∙◌}
use Rattle.round_trip.specs.Words.{Schema}
use Rattle.mapping_core.specs.Accepted.{IsAccepted}
use Rattle.mapping_core.specs.Rules.{Means}
use Rattle.mapping_core.proofs.compiled.compile.Goals as goal

pub decide-requires : goal.decide-requires
decide-requires c = record { csdl = c.args.csdl.now; ssdl = c.args.ssdl.now; msl = c.args.msl.now; read = c.in_ok-schema.ensures }

pub returns : goal.returns
returns c =
    let decided = c.in_ok-accepted.ensures in
    let Compiles : Schema → Type 0 = λ schema. Means c.args.csdl.now c.args.ssdl.now c.args.msl.now schema × IsAccepted schema in
    subst Compiles (sym (c.in_ok-compiled.ensures ∙ decided.0)) (c.in_ok-schema.ensures.means, decided.1)
