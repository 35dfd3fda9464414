use Rattle.std.proofs.Common.{◌<◌, ℕ, Option, sym, ap, subst₂, ◌∙◌}
use Rattle.std.specs.Option.{option_and_then, option_or}
use Rattle.schema_names.specs.Inherited.{base_place}
use Rattle.schema_names.specs.SchemaNames.{prop_named}
use Rattle.schema_names.proofs.Inherits.{climbed, fewer_left, types_left}
use Rattle.schema_names.proofs.names.SchemaNames.prop_named.Goals as goal

pub loop-next-smaller : goal.loop-next-smaller
loop-next-smaller c =
    let model = c.args.self.now.model.now in
    let inherits = c.args.self.now.inherits in
    let P : Option ℕ → Option ℕ → Type 0 = λ now next. types_left model inherits now < types_left model inherits next in
    subst₂ P (sym c.base-next.ensures) (sym c.in-Some.is) (fewer_left model inherits c.in-Some.place)

pub loop-next-preserved : goal.loop-next-preserved
loop-next-preserved c =
    let model = c.args.self.now.model.now in
    let name = c.args.name.now in
    (λ k. option_or (option_and_then (λ t. prop_named model t name) (c.base-next.ensures k)) (c.or-found.ensures k))
    ∙ (λ k. option_or (option_and_then (λ t. prop_named model t name) (base_place model c.in-Some.place)) (option_or (c.own_prop.ensures k) c.loop-next.found))
    ∙ climbed model c.args.self.now.inherits c.in-Some.place name c.loop-next.found
    ∙ ap (λ (next : Option ℕ). option_or (option_and_then (λ t. prop_named model t name) next) c.loop-next.found) (sym c.in-Some.is)
    ∙ c.loop-next.invariant
