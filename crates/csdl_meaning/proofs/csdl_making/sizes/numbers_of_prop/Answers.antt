use Rattle.std.proofs.Common.{Some, None, sym, ap, ◌∙◌}
use Rattle.csdl_types.specs.declared.simple.PropType.TheVariants as named
use Rattle.csdl_names.specs.csdl_lists.Scopes.{names_of}
use Rattle.csdl_meaning.specs.csdl_making.Sizes.{numbers_in}
use Rattle.csdl_meaning.proofs.csdl_making.HeldNumbers.{simple_holds}
use Rattle.csdl_meaning.proofs.csdl_making.KindsOf.{enum_kept, tells}
use Rattle.csdl_meaning.proofs.csdl_making.sizes.numbers_of_prop.Goals as goal

pub returns-in-None : goal.returns-in-None
returns-in-None c =
    ap numbers_in
    (tells c.args.lookups.now.model.now c.args.prop.now (names_of c.args.lookups.now.scope.now) c.as_str.result.now None c.args.lookups.now.named c.as_str.ensures.text c.in-None.ensures)

pub returns-in-Some-Simple : goal.returns-in-Some-Simple
returns-in-Some-Simple c =
    sym (simple_holds c.args.prop.now.bound c.in-Some-Simple.field-0-0)
    ∙ ap numbers_in
    (tells c.args.lookups.now.model.now c.args.prop.now (names_of c.args.lookups.now.scope.now) c.as_str.result.now (Some (named.Simple c.in-Some-Simple.field-0-0))
    c.args.lookups.now.named c.as_str.ensures.text (ap Some (sym c.in-Some-Simple.field-0-is) ∙ c.in-Some-Simple.ensures))

pub returns-in-None-get : goal.returns-in-None-get
returns-in-None-get c =
    ap numbers_in
    (enum_kept c.args.lookups.now.model.now.enums c.args.enums.now c.in-Some-Enum.place None c.requires.enums c.in-None-get.ensures.item
    ∙ tells c.args.lookups.now.model.now c.args.prop.now (names_of c.args.lookups.now.scope.now) c.as_str.result.now (Some (named.Enum c.in-Some-Enum.place))
    c.args.lookups.now.named c.as_str.ensures.text (ap Some (sym c.in-Some-Enum.field-0-is) ∙ c.in-Some-Enum.ensures))

pub returns-in-Some : goal.returns-in-Some
returns-in-Some c =
    c.numbers_in.ensures
    ∙ ap numbers_in
    (enum_kept c.args.lookups.now.model.now.enums c.args.enums.now c.in-Some-Enum.place (Some c.in-Some.kind.now) c.requires.enums c.in-Some.ensures.item
    ∙ tells c.args.lookups.now.model.now c.args.prop.now (names_of c.args.lookups.now.scope.now) c.as_str.result.now (Some (named.Enum c.in-Some-Enum.place))
    c.args.lookups.now.named c.as_str.ensures.text (ap Some (sym c.in-Some-Enum.field-0-is) ∙ c.in-Some-Enum.ensures))
