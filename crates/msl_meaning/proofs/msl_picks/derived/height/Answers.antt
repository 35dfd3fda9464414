use Rattle.std.proofs.Common.{◌<◌, ℕ, Option, sym, subst₂}
use Rattle.schema_names.proofs.Inherits.{fewer_left, types_left}
use Rattle.msl_meaning.proofs.msl_picks.derived.height.Goals as goal

pub loop-next-smaller : goal.loop-next-smaller
loop-next-smaller c =
    let model = c.args.names.now.model.now in
    let inherits = c.args.names.now.inherits in
    let P : Option ℕ → Option ℕ → Type 0 = λ now next. types_left model inherits now < types_left model inherits next in
    subst₂ P (sym c.base_of-next.ensures) (sym c.in-Some.is) (fewer_left model inherits c.in-Some.place)
