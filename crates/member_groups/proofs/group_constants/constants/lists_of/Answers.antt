use Rattle.std.proofs.Common.{◌≡◌, ◌++◌, ◌∷◌, [], List, sym, subst, ◌∙◌}
use Rattle.std.specs.BTreeSet.{BTreeSet}
use Rattle.std.proofs.lemmas.Iterator.Adapters.{YieldsList-from_vec}
use Rattle.std.proofs.lemmas.Iterator.Consumers.{YieldsList-end}
use Rattle.std.proofs.lemmas.List.{map-id}
use Rattle.round_trip.specs.Words.{Value}
use Rattle.member_groups.specs.group_constants.Constants.{AreListed}
use Rattle.member_groups.proofs.group_constants.Listing.{listed_more}
use Rattle.member_groups.proofs.group_constants.constants.lists_of.Goals as goal

pub loop-set-preserved : goal.loop-set-preserved
loop-set-preserved c =
    let so_far = c.loop-set.yielded in
    let set = c.in-Some.set in
    let Listed : List (List Value) → Type 0 = AreListed (so_far ++ set ∷ []) in
    subst Listed (sym c.in_ok-push.ensures.ok) (listed_more so_far set c.loop-set.lists c.in_ok-list_of.field-0 c.loop-set.invariant c.in_ok-list_of.ensures)

pub returns : goal.returns
returns c =
    let sets = c.args.sets in
    let yielded = c.loop-set.yielded in
    let gives = c.into_iter-set-iterator.ensures.into_iter_gives in
    let all = YieldsList-end (YieldsList-from_vec sets.items gives.0 (gives.1 ∙ sets.ok.0)) yielded c.loop-set.set-iterator c.loop-set.yielded_by c.next.result c.next.new.self c.in-None.is c.next.ensures.steps in
    let same : yielded ≡ sets.items = sym (map-id yielded) ∙ all.0 in
    let Listed : List (BTreeSet Value) → Type 0 = λ some. AreListed some c.loop-set.lists in
    subst Listed same c.loop-set.invariant
