use Rattle.std.proofs.Common.{◌≡◌, List, None, length, slice_get, ap, refl, subst, ◌∙◌}
use Rattle.std.specs.Global.{Vec}
use Rattle.std.specs.Option.{option_map}
use Rattle.std.proofs.lemmas.Option.{slice_get_past, slice_get_read}
use Rattle.round_trip.specs.Words.{At}
use Rattle.query_views.specs.Lent.{lent_entity}
use Rattle.query_views.specs.declared.lending.LentEntity.{LentEntity}
use Rattle.query_views.proofs.LentLists.{entity_there, none_there}
use Rattle.query_views.proofs.loaded.Loaded.entity.Goals as goal

pub returns-in-Some : goal.returns-in-Some
returns-in-Some c =
    let sets = c.args.self.now.sets.items in
    let s = c.args.set.index in
    let i = c.args.i in
    let of_set : Vec LentEntity = c.in-Some.of_set.now in
    let list : List (Vec LentEntity) = c.deref.result.now in
    let found = c.in-Some.ensures.lookup in
    let here : At sets s of_set = subst (λ (l : List (Vec LentEntity)). At l s of_set) c.deref.ensures.value (slice_get_read list (length list) s of_set refl found.3.0 found.1) in
    ap (option_map lent_entity) (c.lent_at.ensures ∙ ap (λ (l : List LentEntity). slice_get l i) c.as_slice.ensures.value) ∙ entity_there sets s i of_set here

pub returns-in-None : goal.returns-in-None
returns-in-None c =
    let sets = c.args.self.now.sets.items in
    let s = c.args.set.index in
    let list : List (Vec LentEntity) = c.deref.result.now in
    let past = c.in-None.ensures.lookup in
    none_there sets s c.args.i (subst (λ (l : List (Vec LentEntity)). slice_get l s ≡ None) c.deref.ensures.value (slice_get_past list s past.3))
