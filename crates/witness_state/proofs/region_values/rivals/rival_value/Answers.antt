use Rattle.std.proofs.Common.{Some, None, ap, ◌∙◌}
use Rattle.std.specs.Option.{option_map_or}
use Rattle.region_states.specs.region_basis.BasisOf.{basis_of}
use Rattle.conflict_laws.specs.rival.RivalValues.{shared_value}
use Rattle.witness_state.proofs.region_values.Faced.{is_null, is_shared}
use Rattle.witness_state.proofs.region_values.rivals.rival_value.Goals as goal

pub returns-then-faces_null : goal.returns-then-faces_null
returns-then-faces_null c =
    let basis = basis_of c.args.parts.now in
    is_null basis c.args.rival.now c.requires.rival c.args.property c.if-not-is_open.ensures (c.if-faces_null.ensures basis c.requires.rival)

pub returns-in_ok-shared_value-in-Some : goal.returns-in_ok-shared_value-in-Some
returns-in_ok-shared_value-in-Some c =
    let basis = basis_of c.args.parts.now in
    let rival = c.args.rival.now in
    ap Some c.in_ok-shared_value-in-Some.ensures
    ∙ ap (λ found. option_map_or (λ declared. Some (shared_value basis rival.first.now rival.second.now c.args.property declared)) found None) c.in-Some.ensures.item
    ∙ is_shared basis rival c.requires.rival c.args.property c.if-not-is_open.ensures (c.if-faces_null.ensures basis c.requires.rival)

pub returns-in-None : goal.returns-in-None
returns-in-None c =
    let basis = basis_of c.args.parts.now in
    let rival = c.args.rival.now in
    ap (λ found. option_map_or (λ declared. Some (shared_value basis rival.first.now rival.second.now c.args.property declared)) found None) c.in-None.ensures.item
    ∙ is_shared basis rival c.requires.rival c.args.property c.if-not-is_open.ensures (c.if-faces_null.ensures basis c.requires.rival)
