use Rattle.std.proofs.lemmas.Result.{IfOk-weaker}
use Rattle.round_trip.specs.Between.{schema_of}
use Rattle.msl_checks.specs.barred_members.Added.{Each, HostsAt, IsColumn}
use Rattle.msl_checks.proofs.barred_members.Adding.{adds_as, adds_nothing}
use Rattle.msl_checks.proofs.barred_members.barred.Barred.add_partner.Goals as goal

pub returns-then-is_hosted : goal.returns-then-is_hosted
returns-then-is_hosted c =
    let table = c.args.table in
    let partner = c.args.partner.now in
    IfOk-weaker c.add_columns.result _ _
    (λ _ added model mapping. adds_as (Each (IsColumn table) partner) (HostsAt (schema_of model c.args.store.now mapping) table c.args.own.now partner)
    (λ member. (λ column. ((c.is_hosted.ensures model mapping).0 c.if-is_hosted.true, column), λ hosts. hosts.1)) c.args.self.now c.add_columns.new.self added)
    c.add_columns.ensures

pub returns-else-is_hosted : goal.returns-else-is_hosted
returns-else-is_hosted c = λ model mapping.
    adds_nothing (HostsAt (schema_of model c.args.store.now mapping) c.args.table c.args.own.now c.args.partner.now)
    (λ member hosts. absurd (let is = (c.is_hosted.ensures model mapping).1 hosts.0 in cc)) c.args.self.now
