use Rattle.std.proofs.Common.{◌<◌, length, Option, None, IsSome, subst, ◌∙◌, arith}
use Rattle.std.proofs.lemmas.Option.{slice_get_within}
use Rattle.region_states.specs.region_basis.BasisOf.{basis_of}
use Rattle.region_states.specs.conflicts.There.{LinksFailThere}
use Rattle.region_states.specs.declared.conflicts.conflict.Conflict.{Conflict}
use Rattle.mapping_core.proofs.mapping_verdict.Sets.{so_of_one_more}
use Rattle.mapping_core.proofs.mapping_verdict.failures.conflict_of_links.Goals as goal

pub returns-in-Some-clause-told : goal.returns-in-Some-clause-told
returns-in-Some-clause-told c = λ conflict same. (
  record { index = c.loop-index.index },
  c.in_ok-conflict.ensures.told conflict (c.in-Some.is ∙ same),
  c.in_ok-conflict.ensures.so c.requires.earlier conflict (c.in-Some.is ∙ same),
)

-- these links have no conflict, so no state fails there
pub loop-index-preserved : goal.loop-index-preserved
loop-index-preserved c =
    let i = c.loop-index.index in
    let Found : Option Conflict → Type 0 = λ found. IsSome found in
    so_of_one_more (λ n. ¬ LinksFailThere (basis_of c.args.parts.now) (record { index = n }) c.args.kind) i c.loop-index.invariant
    (λ fails. let no : Found None = subst Found c.in_default.is ((c.in_ok-conflict.ensures.exact c.requires.earlier).1 fails) in absurd cc)

-- each association has been looked at
pub returns-clause-none : goal.returns-clause-none
returns-clause-none c = λ same a assoc at.
    let assocs = c.args.parts.now.model.now.assocs in
    let within : a.index < length assocs = slice_get_within assocs a.index assoc at in
    c.loop-index.invariant a.index (omega (arith, within, c.loop-index-test.false, c.len-index-end.ensures.count))
