use Rattle.std.proofs.Common.{◌≡◌, List, Option, IfOk, sym, ap, subst}
use Rattle.std.specs.Option.{option_copied}
use Rattle.round_trip.specs.Words.{Pair}
use Rattle.regions.specs.declared.region.Region.{Region}
use Rattle.region_states.specs.region_basis.BasisOf.{basis_of}
use Rattle.dangling_keys.specs.DanglingStates.{dangling_state}
use Rattle.dangling_keys.specs.Laws.{IsPairedBy}
use Rattle.dangling_states.proofs.failures.state_of.Goals as goal

pub returns-in-Some : goal.returns-in-Some
returns-in-Some c =
    let basis = basis_of c.args.parts.now in
    let of = c.args.referring.look.of.now in
    let key = c.args.referring.key.now in
    subst (λ (principal : Option Region). (pairing : List Pair) → IsPairedBy basis key pairing principal → IfOk c.with_principal.result (λ state. state ≡ dangling_state basis of key pairing principal))
    (sym (ap option_copied c.in-Some.is)) c.with_principal.ensures
