use Rattle.std.proofs.Common.{length, slice_get, sym, ap, ◌∙◌}
use Rattle.std.specs.Option.{option_and_then, option_copied}
use Rattle.graphs.specs.base_chains.Chains.{root}
use Rattle.csdl_names.specs.declared.csdl_lists.raw.RawType.{RawType}
use Rattle.csdl_names.specs.csdl_lists.References.{base_of, names_in}
use Rattle.csdl_associations.proofs.csdl_constraints.RootKeys.{listed, no_root_key, unlisted}
use Rattle.csdl_associations.proofs.csdl_constraints.sides.Sides.root_key.Goals as goal

pub returns-in_err-root : goal.returns-in_err-root
returns-in_err-root c =
    let self = c.args.self.now in
    let model = self.lookups.now.model.now in
    let top = root (base_of (names_in model) model) (length model.types) in
    (λ k. option_copied (c.from_residual.ensures k))
    ∙ sym (no_root_key (names_in model) model c.args.ty (unlisted top (length model.types) self.roots.now self.rooted c.args.ty (sym c.in_err-root.ensures)))

pub returns-in_err-get : goal.returns-in_err-get
returns-in_err-get c =
    let self = c.args.self.now in
    let model = self.lookups.now.model.now in
    let top = root (base_of (names_in model) model) (length model.types) in
    let is = listed top (length model.types) self.roots.now self.rooted c.args.ty c.in_ok-root.root (sym c.in_ok-root.ensures) in
    (λ k. option_copied (c.from_residual-in_err-get.ensures k))
    ∙ ap (option_and_then (λ (type : RawType). type.key)) (c.in_err-get.ensures.item ∙ ap (slice_get model.types) is)

pub returns : goal.returns
returns c =
    let self = c.args.self.now in
    let model = self.lookups.now.model.now in
    let top = root (base_of (names_in model) model) (length model.types) in
    let is = listed top (length model.types) self.roots.now self.rooted c.args.ty c.in_ok-root.root (sym c.in_ok-root.ensures) in
    c.as_ref.ensures.value
    ∙ ap (option_and_then (λ (type : RawType). type.key)) (c.in_ok-get.ensures.item ∙ ap (slice_get model.types) is)
