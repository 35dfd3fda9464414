use Rattle.std.proofs.Common.{◌++◌, [], ◌∷◌, List, map, filter, take, Some, ap, sym, ◌∙◌}
use Rattle.std.proofs.lemmas.Option.{slice_get-get_or}
use Rattle.emc_base.specs.Lists.{At}
use Rattle.round_trip.specs.Words.{Value}
use Rattle.condition_logic.specs.declared.atoms.Atom.TheVariants.{Is}
use Rattle.condition_logic.specs.declared.atoms.AtomOf.{AtomOf}
use Rattle.regions.specs.Fitting.{fits}
use Rattle.region_partition.specs.region_lists.Listing.{told_atoms}
use Rattle.region_partition.proofs.region_lists.Fitting.{fitting_kept, fitting_left, more_told}
use Rattle.region_partition.proofs.region_lists.atoms.add_fitting.Goals as goal
use Rattle.region_partition.proofs.region_lists.atoms.add_fitting.Goals.{then-in_domain+in_ok-copy+in_ok-push_atom, else-in_domain}

pub loop-value-preserved : goal.loop-value-preserved
loop-value-preserved c =
    let kind = c.args.kind.now in
    let p = c.args.property in
    let i = c.loop-value.value-index in
    let items = c.args.constants.now in
    let value : Value = c.value-item.result in
    let here : At items i value = slice_get-get_or items i value c.loop-value-test.true ∙ ap Some (sym c.value-item.is) in
    let told : List Value → List AtomOf = λ values. c.args.atoms.now ++ told_atoms p (map (λ one. Is one) values) in
    let before = filter (λ one. fits one kind) (take i items) in
    elim c.if-in_domain.branch [
      | then-in_domain+in_ok-copy+in_ok-push_atom w ↦
          w.atoms-is
          ∙ w.in_ok-push_atom.ensures
          ∙ ap (λ (one : Value). c.loop-value.atoms ++ told_atoms p (Is one ∷ [])) w.in_ok-copy.ensures
          ∙ more_told p c.args.atoms.now c.loop-value.atoms before value c.loop-value.invariant
          ∙ ap told (sym (fitting_kept kind items i value here c.in_domain.result c.in_domain.ensures w.if-in_domain.true))
      | else-in_domain w ↦
          w.atoms-is ∙ c.loop-value.invariant ∙ ap told (sym (fitting_left kind items i value here c.in_domain.result c.in_domain.ensures w.if-in_domain.false))
    ]
