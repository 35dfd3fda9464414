use Rattle.std.proofs.Common.{◌≡◌, Some, None, sym, ap, subst, ◌∙◌}
use Rattle.std.specs.Prelude.{IfOk}
use Rattle.emc_base.specs.declared.value.Kind.{Kind}
use Rattle.csdl_types.specs.declared.simple.PropType.TheVariants as named
use Rattle.csdl_names.specs.csdl_lists.Scopes.{names_of}
use Rattle.csdl_meaning.proofs.csdl_making.KindsOf.{enum_kept, tells}
use Rattle.csdl_meaning.proofs.csdl_making.kinds.kind_of.Goals as goal

pub returns-in-None : goal.returns-in-None
returns-in-None c =
    tells c.args.lookups.now.model.now c.args.prop.now (names_of c.args.lookups.now.scope.now) c.as_str.result.now None c.args.lookups.now.named c.as_str.ensures.text c.in-None.ensures

pub returns-in-Some-Simple : goal.returns-in-Some-Simple
returns-in-Some-Simple c =
    let P : Kind → Type 0 = λ k. IfOk c.simple_kind.result (λ kind. kind ≡ k) in
    subst P (tells c.args.lookups.now.model.now c.args.prop.now (names_of c.args.lookups.now.scope.now) c.as_str.result.now (Some (named.Simple c.in-Some-Simple.simple))
    c.args.lookups.now.named c.as_str.ensures.text (ap Some (sym c.in-Some-Simple.field-0-is) ∙ c.in-Some-Simple.ensures))
    c.simple_kind.ensures

pub returns-in-None-get : goal.returns-in-None-get
returns-in-None-get c =
    enum_kept c.args.lookups.now.model.now.enums c.args.enums.now c.in-Some-Enum.place None c.requires.enums c.in-None-get.ensures.item
    ∙ tells c.args.lookups.now.model.now c.args.prop.now (names_of c.args.lookups.now.scope.now) c.as_str.result.now (Some (named.Enum c.in-Some-Enum.place))
    c.args.lookups.now.named c.as_str.ensures.text (ap Some (sym c.in-Some-Enum.field-0-is) ∙ c.in-Some-Enum.ensures)

pub returns-in-Some : goal.returns-in-Some
returns-in-Some c =
    let P : Kind → Type 0 = λ k. IfOk c.copy.result (λ kind. kind ≡ k) in
    subst P (enum_kept c.args.lookups.now.model.now.enums c.args.enums.now c.in-Some-Enum.place (Some c.in-Some.kind.now) c.requires.enums c.in-Some.ensures.item
    ∙ tells c.args.lookups.now.model.now c.args.prop.now (names_of c.args.lookups.now.scope.now) c.as_str.result.now (Some (named.Enum c.in-Some-Enum.place))
    c.args.lookups.now.named c.as_str.ensures.text (ap Some (sym c.in-Some-Enum.field-0-is) ∙ c.in-Some-Enum.ensures))
    c.copy.ensures
