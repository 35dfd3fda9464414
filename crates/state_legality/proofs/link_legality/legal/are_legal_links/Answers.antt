use Rattle.std.proofs.Common.{List, refl, subst, sym}
use Rattle.std.proofs.lemmas.Bool.{both_ways}
use Rattle.std.proofs.lemmas.Option.{slice_get_read}
use Rattle.emc_base.specs.Lists.{At}
use Rattle.entity_state.proofs.breach_order.Turns.{each_all, each_more, each_none}
use Rattle.round_trip.specs.Words.{Assoc}
use Rattle.state_legality.specs.link_legality.Tells.{state_of}
use Rattle.state_legality.proofs.link_legality.Legality.{each_of_rules, rules_of_each}
use Rattle.state_legality.proofs.link_legality.legal.are_legal_links.Goals as goal

pub loop-i-init : goal.loop-i-init
loop-i-init c = each_none _ _

pub returns-then-not-keeps_rules : goal.returns-then-not-keeps_rules
returns-then-not-keeps_rules c = (
  λ no. absurd cc,
  λ keeps.
      (let i = c.loop-i.i in
      let P : List Assoc → Type 0 = λ assocs. At assocs i c.index-assocs-i.result in
      absurd (both_ways c.keeps_rules.result c.if-not-keeps_rules.true (c.keeps_rules.ensures.1
      (each_of_rules c.args.model.now (state_of c.args.entities.now c.args.links.now) keeps i c.index-assocs-i.result
      (subst P c.as_slice-assocs.ensures.items (slice_get_read _ _ i _ refl c.loop-i-test.true c.index-assocs-i.is)))))),
)

pub loop-i-preserved : goal.loop-i-preserved
loop-i-preserved c =
    let i = c.loop-i.i in
    each_more _ _ i c.index-assocs-i.result (slice_get_read _ _ i _ refl c.loop-i-test.true c.index-assocs-i.is) (c.keeps_rules.ensures.0 c.if-not-keeps_rules.false) c.loop-i.invariant

pub returns : goal.returns
returns c = (
  λ _. rules_of_each c.args.model.now (state_of c.args.entities.now c.args.links.now)
      (λ i assoc here.
      let P : List Assoc → Type 0 = λ assocs. At assocs i assoc in
      each_all _ _ c.loop-i.i c.loop-i-test.false c.loop-i.invariant i assoc (subst P (sym c.as_slice-assocs.ensures.items) here)),
  λ _. refl,
)
