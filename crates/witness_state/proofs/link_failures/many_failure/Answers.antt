use Rattle.std.proofs.Common.{subst, sym}
use Rattle.region_states.specs.region_basis.BasisOf.{basis_of}
use Rattle.region_states.specs.declared.conflicts.conflict.Conflict.TheVariants as conflict
use Rattle.witness_state.specs.Shown.{IsShownOf}
use Rattle.witness_state.proofs.told.Many.{is_told, many_shown, many_within, partner_many}
use Rattle.witness_state.proofs.link_failures.many_failure.Goals as goal

pub unreachable-requires : goal.unreachable-requires
unreachable-requires c = c.in_default.not-Hosted _ _ (is_told c.args.parts.now c.requires.are c.args.assoc c.requires.so c.link_place.result c.link_place.ensures)

pub at-declared-requires : goal.at-declared-requires
at-declared-requires c = many_within c.args.parts.now c.requires.are c.args.assoc c.requires.so

pub shared_state-requires-clause-many : goal.shared_state-requires-clause-many
shared_state-requires-clause-many c = partner_many c.args.parts.now c.requires.are c.args.assoc c.requires.so c.in-Hosted.first_hosts c.in-Hosted.fragment c.in-Hosted.ensures
    c.at-declared.result.now c.at-declared.ensures

pub returns : goal.returns
returns c = subst (IsShownOf (basis_of c.args.parts.now) (conflict.ManyLinks c.args.assoc)) (sym c.alone.ensures)
    (many_shown c.args.parts.now c.requires.are c.args.assoc c.requires.so c.in-Hosted.first_hosts c.in-Hosted.fragment c.in-Hosted.ensures
    c.at-declared.result.now c.at-declared.ensures c.in_ok-place.place c.in_ok-place.ensures c.in_ok-state.state c.in_ok-state.ensures)
