use Rattle.std.proofs.Common.{◌≡◌, ◌<◌, ◌∙◌, length, sym, arith, refl}
use Rattle.round_trip.specs.Words.{PropId}
use Rattle.round_trip.specs.soundness.mappings.Joined.{prop}
use Rattle.cells.specs.Limits.{HasFewConstants}
use Rattle.cells.specs.Parts.{schema_in}
use Rattle.cells.proofs.Few.{one_further}
use Rattle.cells.proofs.limits.have_few_constants.Goals as goal

-- one whose group has too many
pub returns-then-not-has_few_constants : goal.returns-then-not-has_few_constants
returns-then-not-has_few_constants c =
    let size : c.len-place-end.result ≡ length c.args.parts.now.model.now.props = c.len-place-end.ensures.count in
    let within : c.loop-place.place < c.len-place-end.result = c.loop-place-test.true in (
      λ never. absurd (cc),
      λ few.
          let told = c.has_few_constants.ensures.1 (few (record { index = c.loop-place.place }) (omega (arith, size, within))) in
          sym c.if-not-has_few_constants.true ∙ told,
    )

pub loop-place-preserved : goal.loop-place-preserved
loop-place-preserved c = one_further (λ (p : PropId). HasFewConstants (schema_in c.args.parts.now) (prop p)) c.loop-place.place c.loop-place.invariant
    (c.has_few_constants.ensures.0 c.if-not-has_few_constants.false)

pub returns : goal.returns
returns c = (
  λ _ p within.
      (let size : c.len-place-end.result ≡ length c.args.parts.now.model.now.props = c.len-place-end.ensures.count in
      let past = c.loop-place-test.false in
      c.loop-place.invariant p (omega (arith, size, past, within))),
  λ _. refl,
)
