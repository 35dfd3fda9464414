use Rattle.std.proofs.Common.{◌⊎◌, [], ◌++◌, map, codes}
use Rattle.groupings.specs.least_fault.Least.{IsLeast}
use Rattle.layouts.specs.Faults.{fault_cmp}
use Rattle.layouts.specs.rule_places.Names.{IsRepeatedIn}
use Rattle.layouts.proofs.rule_places.Known.{of_one, of_two}
use Rattle.layouts.proofs.rule_places.Rules.{least_searches, searched}
use Rattle.csdl_names.proofs.repeated.first_in_schema.Goals as goal

pub returns : goal.returns
returns c =
    let model = c.args.model.now in
    let associations = map (λ association. association.name) model.associations in
    let types = map (λ type. type.name) model.types in
    let One = IsRepeatedIn (λ association. association.name) [] (codes "Association") (codes "Name") model.associations in
    let Two = IsRepeatedIn (λ type. type.name) associations (codes "EntityType") (codes "Name") model.types in
    let Three = IsRepeatedIn (λ enum. enum.name) (associations ++ types) (codes "EnumType") (codes "Name") model.enums in
    let first = of_one (λ association. association.name) model.associations _ c.requires.associations in
    let second = of_one (λ type. type.name) model.types _ c.requires.types in
    least_searches One (λ fault. Two fault ⊎ Three fault) c.first_twice-of_associations.result c.earlier_of.result c.earlier_of-2.result c.earlier_of-2.ensures
    c.first_twice-of_associations.ensures
    (least_searches Two Three c.first_again-of_types.result c.first_again-of_enums.result c.earlier_of.result c.earlier_of.ensures
    (searched (IsLeast fault_cmp Two) c.first_again-of_types.result c.first_again-of_types.ensures (λ found again. again associations first))
    (searched (IsLeast fault_cmp Three) c.first_again-of_enums.result c.first_again-of_enums.ensures
    (λ found again. again (associations ++ types) (of_two _ _ associations types first second))))
