use Rattle.std.proofs.Common.{List, subst}
use Rattle.std.specs.Ordering.{nat_cmp}
use Rattle.layouts.specs.declared.rule.Rule.TheVariants.{OnePairing, OneOwner}
use Rattle.groupings.specs.least_fault.Least.{IsLeast}
use Rattle.layouts.proofs.rule_places.Rules.{least_joined}
use Rattle.table_owners.specs.table_writers.Writers.{HasOtherOwner, PairsOtherwise}
use Rattle.table_owners.specs.declared.table_writers.writer.Writer.{Writer}
use Rattle.msl_rules.specs.OwnerRules.{writers_in}
use Rattle.msl_fragments.proofs.msl_owners.AtWriters.{BreaksAt, least_at_writer, written_at}
use Rattle.msl_fragments.proofs.msl_owners.Writers.{writers_rise}
use Rattle.msl_fragments.proofs.msl_owners.owners.first_owner_fault.Goals as goal

pub returns : goal.returns
returns c =
    let model = c.args.names.now.model.now in
    let store = c.args.names.now.store.now in
    let raw = c.args.raw.now in
    let all = c.in_ok-all.all in
    let writers = writers_in model store raw in
    let P : List Writer → Type 0 = λ ws. IsLeast nat_cmp (PairsOtherwise ws) c.in_ok-other_pairing.other_pairing in
    let Q : List Writer → Type 0 = λ ws. IsLeast nat_cmp (HasOtherOwner ws) c.in_ok-other_owner.other_owner in
    least_joined (BreaksAt OnePairing PairsOtherwise writers) (BreaksAt OneOwner HasOtherOwner writers) c.in_ok-pairing.pairing c.in_ok-owner.owner c.earlier.result c.earlier.ensures
    (least_at_writer OnePairing PairsOtherwise writers (writers_rise model store raw) (λ k broken. written_at writers k broken.later broken.here) all c.in_ok-other_pairing.other_pairing
    c.in_ok-pairing.pairing c.in_ok-all.ensures c.in_ok-pairing.ensures (subst P c.as_slice.ensures.items c.in_ok-other_pairing.ensures))
    (least_at_writer OneOwner HasOtherOwner writers (writers_rise model store raw) (λ k broken. written_at writers k broken.later broken.here) all c.in_ok-other_owner.other_owner
    c.in_ok-owner.owner c.in_ok-all.ensures c.in_ok-owner.ensures (subst Q c.as_slice-2.ensures.items c.in_ok-other_owner.ensures))
