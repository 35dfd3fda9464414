use Rattle.std.proofs.Common.{◌⊎◌, codes}
use Rattle.layouts.specs.declared.fault.Fault.{Fault}
use Rattle.layouts.specs.rule_places.Places.{InList}
use Rattle.csdl_names.specs.csdl_lists.References.{names_in}
use Rattle.csdl_names.specs.Unresolved.{IsUnresolvedBase, IsUnresolvedInKey, IsUnresolvedInNav}
use Rattle.layouts.proofs.rule_places.Rules.{least_searches}
use Rattle.csdl_names.proofs.unresolved.LookupsFinderRawTypeFault.find.Goals as goal

pub returns : goal.returns
returns c =
    let model = c.args.self.now.model.now in
    let type = c.args.item.now in
    let Base : Fault → Type 0 = IsUnresolvedBase (names_in model) model type.base in
    let Key : Fault → Type 0 = IsUnresolvedInKey (names_in model) model c.args.place type.key in
    let Navs : Fault → Type 0 = InList (codes "NavigationProperty") (IsUnresolvedInNav (names_in model) model) type.navs in
    least_searches Base (λ fault. Key fault ⊎ Navs fault) c.first_of_base-base.result c.earlier_of.result c.earlier_of-2.result c.earlier_of-2.ensures c.first_of_base-base.ensures
    (least_searches Key Navs c.first_in_key-key.result c.first_at-navs.result c.earlier_of.result c.earlier_of.ensures c.first_in_key-key.ensures c.first_at-navs.ensures)
