use Rattle.std.proofs.Common.{sym, ap, ◌∙◌}
use Rattle.region_states.specs.region_basis.BasisOf.{basis_of}
use Rattle.forced_entities.specs.Forced.{own_member}
use Rattle.forced_entities.specs.declared.member.Forced.{Forced}
use Rattle.dangling_keys.specs.Showing.{fits}
use Rattle.dangling_keys.proofs.told.Members.{Decides-fits}
use Rattle.dangling_search.proofs.Telling.{own_fits_not}
use Rattle.dangling_search.proofs.at_focus.own_fitting.Goals as goal

pub returns-then-fits : goal.returns-then-fits
returns-then-fits c =
    let basis = basis_of c.args.parts.now in
    let test = λ (one : Forced). fits basis c.args.look.of.now c.args.key.now c.args.owned.now.set c.args.owned.now.pairing one in (
      c.in-Entity.is,
      (Decides-fits basis c.args.look.of.now c.args.key.now c.args.owned.now.set c.args.owned.now.pairing (own_member basis c.in-Entity.region)).0
          (ap test (sym c.in_ok-own.ensures) ∙ sym c.fits.ensures ∙ c.if-fits.true),
    )

pub returns : goal.returns
returns c =
    let basis = basis_of c.args.parts.now in
    let test = λ (one : Forced). fits basis c.args.look.of.now c.args.key.now c.args.owned.now.set c.args.owned.now.pairing one in
    own_fits_not basis c.args.look.of.now c.args.key.now c.args.owned.now.set c.args.owned.now.pairing c.in-Entity.region c.in-Entity.is
    (ap test (sym c.in_ok-own.ensures) ∙ sym c.fits.ensures ∙ c.if-fits.false)
