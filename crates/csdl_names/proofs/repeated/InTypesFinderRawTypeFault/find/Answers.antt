use Rattle.std.proofs.Common.{MatchOption, Option, sym, subst}
use Rattle.groupings.specs.least_fault.Least.{IsLeast}
use Rattle.layouts.specs.Faults.{fault_cmp}
use Rattle.csdl_names.specs.declared.csdl_lists.raw.RawType.{RawType}
use Rattle.csdl_names.specs.Repeated.{IsRepeatedInType}
use Rattle.csdl_names.proofs.PropTables.{places_at}
use Rattle.csdl_names.proofs.repeated.InTypesFinderRawTypeFault.find.Goals as goal

pub first_in_both-requires : goal.first_in_both-requires
first_in_both-requires c =
    let lookups = c.args.self.now.lookups.now in
    places_at lookups.props.now lookups.model.now.types lookups.declared c.args.place c.in-Some.ty.now (sym c.in-Some.ensures.item)
    c.in-Some-get.own.now (sym c.in-Some-get.ensures.item)

pub returns : goal.returns
returns c =
    subst (λ (found : Option RawType). IsLeast fault_cmp (λ fault. MatchOption found ⊥ (λ type. IsRepeatedInType c.args.place type fault)) c.in_ok-found.found)
    c.in-Some.ensures.item c.in_ok-found.ensures
