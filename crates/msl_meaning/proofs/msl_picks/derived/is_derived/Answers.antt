use Rattle.std.proofs.Common.{◌<◌, ℕ, Option, refl, sym, subst₂}
use Rattle.edm_types.specs.Forest.{type_numbered}
use Rattle.edm_types.specs.IsA.{IsA}
use Rattle.schema_names.proofs.Inherits.{fewer_left, types_left}
use Rattle.msl_meaning.proofs.msl_picks.Climbed.{climbed, reached}
use Rattle.msl_meaning.proofs.msl_picks.derived.is_derived.Goals as goal

pub returns-then-place-other : goal.returns-then-place-other
returns-then-place-other c =
    let model = c.args.names.now.model.now in
    (λ yes. reached model c.args.other (IsA model (type_numbered c.args.ty) c.args.other) c.in-Some.place c.loop-next.next c.in-Some.is c.if-place-other.true c.loop-next.invariant, λ is. refl)

pub loop-next-smaller : goal.loop-next-smaller
loop-next-smaller c =
    let model = c.args.names.now.model.now in
    let inherits = c.args.names.now.inherits in
    let P : Option ℕ → Option ℕ → Type 0 = λ now next. types_left model inherits now < types_left model inherits next in
    subst₂ P (sym c.base_of-next.ensures) (sym c.in-Some.is) (fewer_left model inherits c.in-Some.place)

pub loop-next-preserved : goal.loop-next-preserved
loop-next-preserved c =
    let model = c.args.names.now.model.now in
    climbed model c.args.other (IsA model (type_numbered c.args.ty) c.args.other) c.in-Some.place c.loop-next.next c.base_of-next.result c.in-Some.is c.base_of-next.ensures
    c.if-place-other.false c.loop-next.invariant
