use Rattle.std.proofs.Common.{arith}
use Rattle.std.proofs.lemmas.Grind.{common_steps}
use Rattle.std.proofs.Common.{List, length, ap, ◌∙◌}
use Rattle.std.proofs.lemmas.List.FromFn.{length-map-range_with_len}
use Rattle.round_trip.specs.Words.{PropId}
use Rattle.csdl_meaning.specs.Meaning.{own_key, own_props}
use Rattle.csdl_meaning.proofs.csdl_making.types.types_in.Goals as goal

pub with_inherited-requires-clause-alike : goal.with_inherited-requires-clause-alike
with_inherited-requires-clause-alike c =
    let raw = c.args.lookups.now.model.now in
    ap (λ (lists : List (List PropId)). length lists) c.in_ok-own_keys.ensures ∙ length-map-range_with_len (own_key raw) 0 (length raw.types)

pub with_inherited-requires-2-clause-alike : goal.with_inherited-requires-2-clause-alike
with_inherited-requires-2-clause-alike c =
    let raw = c.args.lookups.now.model.now in
    ap (λ (lists : List (List PropId)). length lists) c.in_ok-own_props.ensures ∙ length-map-range_with_len (own_props raw) 0 (length raw.types)

pub returns : goal.returns
returns c = grind (arith, common_steps)
