use Rattle.std.proofs.Common.{List, subst}
use Rattle.std.proofs.lemmas.Result.{IfOk-weaker}
use Rattle.round_trip.specs.Words.{Assoc, LinkFragment}
use Rattle.round_trip.specs.Between.{schema_of}
use Rattle.msl_checks.specs.barred_members.Added.{Adds, Constrains, Each, Hosts}
use Rattle.msl_checks.proofs.barred_members.barred.Barred.add_all.Goals as goal

pub returns : goal.returns
returns c =
    let model = c.args.model.now in
    let mapping = c.args.mapping.now in
    let before = c.args.self.now in
    let between = c.add_dependents.new.self in
    let after = c.add_partners.new.self in
    let Dependents : List Assoc → Type 0 = λ assocs. Adds (Each Constrains assocs) before between in
    let Partners : List LinkFragment → Type 0 = λ links. Adds (Each (Hosts (schema_of model c.args.store.now mapping)) links) between after in
    IfOk-weaker c.add_partners.result _ _
    (λ _ added. (between, subst Dependents c.as_slice.ensures.items c.in_ok-add_dependents.ensures, subst Partners c.as_slice-2.ensures.items (added model mapping)))
    c.add_partners.ensures
