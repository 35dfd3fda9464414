use Rattle.std.proofs.Common.{Err, refl}
use Rattle.mapping_core.proofs.Told.{all_meant, stops_at_mapping, stops_at_model, stops_at_store}
use Rattle.mapping_core.proofs.reading.read.Goals as goal

pub returns-in_err-model : goal.returns-in_err-model
returns-in_err-model c =
    stops_at_model c.args.csdl.now c.args.ssdl.now c.args.msl.now c.in_err-model.field-0.0 c.from_residual.result c.from_residual.ensures.1 c.in_err-model.ensures

pub returns-in_err-store : goal.returns-in_err-store
returns-in_err-store c =
    stops_at_store c.args.csdl.now c.args.ssdl.now c.args.msl.now c.in_ok-model.model c.in_ok-model.ensures
    c.in_err-store.field-0.0 c.from_residual-in_err-store.result c.from_residual-in_err-store.ensures.1 c.in_err-store.ensures

pub returns-in-Err : goal.returns-in-Err
returns-in-Err c =
    stops_at_mapping c.args.csdl.now c.args.ssdl.now c.args.msl.now c.in_ok-model.model c.in_ok-model.ensures c.in_ok-store.store c.in_ok-store.ensures
    c.in-Err.fault (Err c.in-Err.fault) refl c.in-Err.ensures

pub returns-in-Ok : goal.returns-in-Ok
returns-in-Ok c =
    all_meant c.args.csdl.now c.args.ssdl.now c.args.msl.now c.in_ok-model.model c.in_ok-model.ensures c.in_ok-store.store c.in_ok-store.ensures c.in-Ok.mapping c.in-Ok.ensures
