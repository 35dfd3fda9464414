use Rattle.std.proofs.Common.{List, codes, subst}
use Rattle.groupings.specs.least_fault.Least.{IsLeast}
use Rattle.layouts.specs.Faults.{fault_cmp}
use Rattle.layouts.specs.rule_places.Places.{InList}
use Rattle.msl_rules.specs.declared.msl_lists.raw.RawPick.{RawPick}
use Rattle.msl_rules.specs.NameRules.{IsSharedFault}
use Rattle.msl_meaning.proofs.msl_picks.type_names.InMappingFinderRawTypeMappingFault.find.Goals as goal

pub returns : goal.returns
returns c =
    let model = c.args.self.now.names.now.model.now in
    let P : List RawPick → Type 0 = λ picks. IsLeast fault_cmp (InList (codes "MappingFragment") (IsSharedFault model picks) c.args.item.now.fragments) c.in_ok-found.found in
    subst P c.as_slice-picks.ensures.items c.in_ok-found.ensures
