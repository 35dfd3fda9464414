use Rattle.std.proofs.Common.{IsSome, Option, subst, arith}
use Rattle.round_trip.specs.declared.FailKind.TheVariants as variant
use Rattle.dangling_keys.specs.declared.key.DanglingKey.{DanglingKey}
use Rattle.mapping_core.proofs.mapping_verdict.EachKind.{none_some}
use Rattle.mapping_core.proofs.mapping_verdict.failures.dangling_by.Goals as goal

-- where no key dangles, no legal state fails by one
pub returns-in-None-clause-none : goal.returns-in-None-clause-none
returns-in-None-clause-none c = λ none place one other fails.
    none_some DanglingKey (subst (λ (found : Option DanglingKey). IsSome found) c.in-None.is ((c.in_ok-told.ensures.exact (c.requires.earlier variant.Clash (omega arith))).1 (place, one, other, fails)))
