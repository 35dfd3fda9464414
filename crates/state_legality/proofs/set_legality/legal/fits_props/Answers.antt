use Rattle.std.proofs.Common.{List, get_or, refl, subst, sym}
use Rattle.std.proofs.lemmas.Bool.{both_ways}
use Rattle.std.proofs.lemmas.Option.{slice_get-get_or}
use Rattle.emc_base.specs.Lists.{At}
use Rattle.round_trip.specs.Words.{PropId}
use Rattle.entity_state.proofs.breach_order.Turns.{each_all, each_more, each_none}
use Rattle.state_legality.proofs.set_legality.legal.fits_props.Goals as goal

pub loop-j-init : goal.loop-j-init
loop-j-init c = each_none _ _

pub returns-then-not-fits_at : goal.returns-then-not-fits_at
returns-then-not-fits_at c = (
  λ no. absurd cc,
  λ fits.
      (let props = c.props_at-props.result.now in
      let j = c.loop-j.j in
      let nil : PropId = record { index = 0 } in
      let prop = get_or props j nil in
      let P : List PropId → Type 0 = λ list. At list j prop in
      absurd (both_ways c.fits_at.result c.if-not-fits_at.true (c.fits_at.ensures.1
      (fits.each j prop (subst P c.props_at-props.ensures (slice_get-get_or props j nil c.loop-j-test.true)))))),
)

pub loop-j-preserved : goal.loop-j-preserved
loop-j-preserved c =
    let props = c.props_at-props.result.now in
    let j = c.loop-j.j in
    let nil : PropId = record { index = 0 } in
    each_more _ _ j (get_or props j nil) (slice_get-get_or props j nil c.loop-j-test.true) (c.fits_at.ensures.0 c.if-not-fits_at.false) c.loop-j.invariant

pub returns : goal.returns
returns c = (
  λ _. record {
    each = λ j prop here.
        (let P : List PropId → Type 0 = λ list. At list j prop in
        each_all _ _ c.loop-j.j c.loop-j-test.false c.loop-j.invariant j prop (subst P (sym c.props_at-props.ensures) here));
  },
  λ _. refl,
)
