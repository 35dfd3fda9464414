use Rattle.std.proofs.Common.{◌≡◌, ◌∙◌, map, length, Option, ℕ, subst, ap, List}
use Rattle.std.specs.Option.{option_and_then}
use Rattle.std.proofs.lemmas.List.{length-map, take_all}
use Rattle.graphs.specs.base_chains.Chains.{base_at}
use Rattle.csdl_names.specs.declared.csdl_lists.raw.RawType.{RawType}
use Rattle.csdl_names.specs.csdl_lists.References.{Names, base_of}
use Rattle.csdl_names.specs.csdl_lists.Scopes.{names_of}
use Rattle.csdl_names.proofs.csdl_lists.BaseTypes.{bases_are}
use Rattle.csdl_names.proofs.csdl_lists.bases.bases_of.Goals as goal

pub returns : goal.returns
returns c =
    let P : Names → Type 0 = λ names. base_at c.loop-ty.bases ≡ base_of names c.args.model.now in
    let made : c.loop-ty.bases ≡ map (λ type. option_and_then (names_of c.args.scope.now).type_named type.base) c.args.model.now.types =
    c.loop-ty.invariant ∙ ap (λ (types : List RawType). map (λ type. option_and_then (names_of c.args.scope.now).type_named type.base) types)
    (take_all c.loop-ty.ty-index c.as_slice-ty-items.result.now c.loop-ty-test.false ∙ c.as_slice-ty-items.ensures.items) in (
      subst P c.requires.names (bases_are (names_of c.args.scope.now) c.args.model.now c.loop-ty.bases made),
      ap (λ (xs : List (Option ℕ)). length xs) made ∙ length-map c.args.model.now.types (λ type. option_and_then (names_of c.args.scope.now).type_named type.base),
    )
