use Rattle.std.proofs.Common.{⊎_elim, inr, sym, subst}
use Rattle.std.proofs.lemmas.Bool.{both_ways}
use Rattle.groupings.specs.name_places.GivenNames.{IsGivenBefore}
use Rattle.layouts.specs.rule_places.KnownNames.{IsKnown}
use Rattle.layouts.proofs.rule_places.again.Again.is_again.Goals as goal

pub returns-else-is_known : goal.returns-else-is_known
returns-else-is_known g c =
    let self = c.args.self.now in
    let given = c.is_given_before.ensures self.items.now self.of in (
      λ is. inr (given.0 is),
      ⊎_elim
          (λ (known : IsKnown self.others.now (g.T.Named.name_in c.args.item.now)). absurd (both_ways c.is_known.result c.if-is_known.false (c.is_known.ensures.1 (subst (IsKnown self.others.now) (sym c.name.ensures) known))))
          (λ (before : IsGivenBefore g.T.Named.name_in self.items.now c.args.place c.args.item.now). given.1 before),
    )
