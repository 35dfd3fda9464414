use Rattle.std.proofs.Common.{ℤ, List, sym, subst, ◌∙◌}
use Rattle.std.proofs.lemmas.Result.{IfOk-weaker}
use Rattle.round_trip.specs.Words.{Kind}
use Rattle.emc_base.specs.declared.value.Kind.TheVariants.{Enum}
use Rattle.member_groups.specs.mapping_asks.Adding.{Each}
use Rattle.member_groups.specs.group_constants.Constants.{AddsIn, IsNumber, NumbersOf}
use Rattle.member_groups.proofs.group_constants.Sets.{adds_in_as}
use Rattle.member_groups.proofs.group_constants.constants.add_kind.Goals as goal

pub returns-in-Enum : goal.returns-in-Enum
returns-in-Enum c =
    let group = c.args.group in
    let members = c.in-Enum.enumeration.members in
    let before = c.args.sets.now.items in
    let after = c.add_numbers.new.sets.items in
    let Comes : List ℤ → Type 0 = λ numbers. AddsIn (Each (IsNumber group) numbers) before after in
    let Kinds : Kind → Type 0 = λ kind. AddsIn (NumbersOf c.args.tested.now group kind) before after in
    IfOk-weaker c.add_numbers.result _ _
    (λ _ added. subst Kinds (sym c.in-Enum.is)
    (adds_in_as (Each (IsNumber group) members) (NumbersOf c.args.tested.now group (Enum c.in-Enum.enumeration)) before after
    (λ entry. (λ some. (sym c.contains.ensures ∙ c.if-contains.true, some), λ both. both.1)) (subst Comes c.as_slice.ensures.items added)))
    c.add_numbers.ensures
