use Rattle.std.proofs.Common.{List, refl, subst}
use Rattle.std.proofs.lemmas.List.{take_all}
use Rattle.std.proofs.lemmas.Option.{slice_get_read}
use Rattle.round_trip.specs.Words.{LinkFragment}
use Rattle.round_trip.specs.Between.{schema_of}
use Rattle.msl_checks.specs.barred_members.Added.{Adds, Each, Hosts}
use Rattle.msl_checks.proofs.barred_members.Adding.{adds_next}
use Rattle.msl_checks.proofs.barred_members.barred.Barred.add_partners.Goals as goal

pub loop-fragment-preserved : goal.loop-fragment-preserved
loop-fragment-preserved c = λ model mapping.
    let n = c.loop-fragment.fragment-index in
    adds_next (Hosts (schema_of model c.args.store.now mapping)) c.args.links.now n c.fragment-item.result c.args.self.now c.loop-fragment.self c.add_hosted.new.self
    (slice_get_read _ _ n _ refl c.loop-fragment-test.true c.fragment-item.is) (c.loop-fragment.invariant model mapping) (c.in_ok-add_hosted.ensures model mapping)

pub returns : goal.returns
returns c = λ model mapping.
    let Added : List LinkFragment → Type 0 = λ links. Adds (Each (Hosts (schema_of model c.args.store.now mapping)) links) c.args.self.now c.loop-fragment.self in
    subst Added (take_all c.loop-fragment.fragment-index c.args.links.now c.loop-fragment-test.false) (c.loop-fragment.invariant model mapping)
