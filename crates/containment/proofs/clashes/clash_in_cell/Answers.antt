use Rattle.std.proofs.Common.{◌≡◌, None, find, refl, sym}
use Rattle.std.proofs.lemmas.List.{take_all}
use Rattle.std.proofs.lemmas.List.Elements.{All-same}
use Rattle.std.proofs.lemmas.Option.{slice_get_read}
use Rattle.emc_base.proofs.Mapped.{contains_at}
use Rattle.regions.specs.declared.pattern.Symbol.{Symbol}
use Rattle.regions.specs.Settled.{clashes}
use Rattle.containment.proofs.Clashing.{both_apart, none_apart}
use Rattle.containment.proofs.clashes.clash_in_cell.Goals as goal

pub returns-in-Some-clause-found : goal.returns-in-Some-clause-found
returns-in-Some-clause-found c =
    let cell = c.args.cell.now in
    let one : Symbol = c.one-item.result in
    let i = c.loop-one.one-index in
    both_apart c.args.model.now c.args.atoms.now cell one c.in-Some.two.now
    (contains_at cell i one (slice_get_read _ _ i _ refl c.loop-one-test.true c.one-item.is))
    (sym c.in-Some.ensures)

pub returns-clause-none : goal.returns-clause-none
returns-clause-none c =
    let cell = c.args.cell.now in
    none_apart c.args.model.now c.args.atoms.now cell
    (All-same (λ (one : Symbol). find (clashes c.args.model.now c.args.atoms.now one) cell ≡ None) cell _ (sym (take_all c.loop-one.one-index cell c.loop-one-test.false)) c.loop-one.invariant)
