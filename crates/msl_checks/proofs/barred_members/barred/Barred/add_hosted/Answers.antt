use Rattle.std.proofs.Common.{◌⊎◌, List, subst₂}
use Rattle.std.proofs.lemmas.Result.{IfOk-weaker}
use Rattle.round_trip.specs.Words.{Pair}
use Rattle.round_trip.specs.soundness.mappings.Joined.{Member}
use Rattle.round_trip.specs.Between.{schema_of}
use Rattle.msl_checks.specs.barred_members.Added.{Adds, HostsAt}
use Rattle.msl_checks.proofs.barred_members.Adding.{adds_both}
use Rattle.msl_checks.proofs.barred_members.barred.Barred.add_hosted.Goals as goal

pub returns : goal.returns
returns c =
    let table = c.args.fragment.now.table in
    let before = c.args.self.now in
    let between = c.add_partner.new.self in
    let after = c.add_partner-2.new.self in
    IfOk-weaker c.add_partner-2.result _ _
    (λ _ added model mapping.
    (let At : List Pair → List Pair → Member → Type 0 = HostsAt (schema_of model c.args.store.now mapping) table in
    let Both : List Pair → List Pair → Type 0 = λ first second. Adds (λ member. At first second member ⊎ At second first member) before after in
    subst₂ Both c.as_slice-first.ensures.items c.as_slice-second.ensures.items
    (adds_both (At c.as_slice-first.result.now c.as_slice-second.result.now) (At c.as_slice-second.result.now c.as_slice-first.result.now) before between after
    (c.in_ok-add_partner.ensures model mapping) (added model mapping))))
    c.add_partner-2.ensures
