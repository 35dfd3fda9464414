use Rattle.std.proofs.Common.{◌≡◌, ◌≤◌, List, length, sym, subst, ◌∙◌, arith}
use Rattle.std.proofs.lemmas.Bool.{le-leb, leb-true}
use Rattle.std.proofs.lemmas.Option.{same_Some}
use Rattle.emc_base.proofs.facts.Found.{some_found}
use Rattle.round_trip.specs.Words.{Value}
use Rattle.round_trip.specs.soundness.mappings.Joined.{prop}
use Rattle.member_groups.specs.MemberGroups.{ListsJust, constants_in}
use Rattle.member_groups.specs.Tested.{IsConstant}
use Rattle.cells.specs.Parts.{schema_in}
use Rattle.cells.proofs.Few.{few_by_list, list_is_short}
use Rattle.cells.proofs.limits.has_few_constants.Goals as goal

pub group_of_prop-group-requires : goal.group_of_prop-group-requires
group_of_prop-group-requires c = c.requires.told.groups.some (prop c.args.property) c.requires.within

pub constants-requires : goal.constants-requires
constants-requires c =
    let told = c.requires.told.groups.constants (prop c.args.property) c.group_of_prop-group.result c.group_of_prop-group.ensures in
    some_found (constants_in c.args.parts.now.cells.now.groups c.group_of_prop-group.result) told.0 told.1

-- the list that is told has just the constants of the group
pub returns : goal.returns
returns c =
    let schema = schema_in c.args.parts.now in
    let told = c.requires.told.groups.constants (prop c.args.property) c.group_of_prop-group.result c.group_of_prop-group.ensures in
    let same : told.0 ≡ c.constants.result.now = same_Some told.0 c.constants.result.now (sym told.1 ∙ c.constants.ensures) in
    let lists : ListsJust (IsConstant schema (prop c.args.property)) c.constants.result.now = subst (λ (list : List Value). ListsJust (IsConstant schema (prop c.args.property)) list) same told.2 in
    let size : c.len.result ≡ length c.constants.result.now = c.len.ensures.count in (
      λ is. few_by_list schema (prop c.args.property) c.constants.result.now lists (let at_most : c.len.result ≤ 64 = leb-true c.len.result 64 is in omega (arith, size, at_most)),
      λ few. le-leb c.len.result 64 (let at_most : length c.constants.result.now ≤ 64 = list_is_short schema (prop c.args.property) c.constants.result.now lists few in omega (arith, size, at_most)),
    )
