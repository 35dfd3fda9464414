use Rattle.std.proofs.Common.{List, IsPermutation, IsTrue, refl, sym, subst, ◌∙◌}
use Rattle.std.specs.Ordering.{eq_by_cmp}
use Rattle.std.proofs.lemmas.Result.{IfOk-weaker}
use Rattle.entity_state.specs.breach_order.Repeats.{IsFirstRepeat}
use Rattle.round_trip.specs.Words.{IsA, TypeId, Value}
use Rattle.state_legality.specs.declared.link_legality.side.Side.TheVariants.{First, Second}
use Rattle.state_legality.specs.link_legality.InOrder.{StandTogether, keys_at}
use Rattle.state_legality.specs.link_legality.Sides.{partners_at}
use Rattle.state_legality.proofs.link_legality.Doubles.{pair_cmp}
use Rattle.state_legality.proofs.link_legality.InOrder.{firsts_moved, links_apart, none_told, seconds_moved, together_moved}
use Rattle.state_legality.proofs.link_legality.in_order.keep_in_order.Goals as goal

pub returns : goal.returns
returns c =
    let model = c.args.model.now in
    let assoc = c.args.assoc.now in
    let links = c.args.links.now in
    let pairs = c.in_ok-pairs.pairs.items in
    let sorted = c.sort.new.self.items in
    let are = c.in_ok-pairs.ensures in
    let moved = c.in_ok-sort.ensures.permutation in
    let told = c.in_ok-first_repeat.field-0 in
    let R : List (List Value × List Value) → Type 0 = λ items. IsFirstRepeat (λ (x : List Value × List Value) (y : List Value × List Value). IsTrue (eq_by_cmp pair_cmp x y)) items told in
    let OfFirst : TypeId → Type 0 = λ t. IsA model t assoc.first.ty in
    let OfSecond : TypeId → Type 0 = λ t. IsA model t assoc.second.ty in
    let F : List (List Value) → Type 0 = λ linked. StandTogether (partners_at assoc First) OfFirst c.args.first.now linked in
    let FM : List (List Value) → Type 0 = λ keys. IsPermutation (keys_at First links) keys in
    let SM : List (List Value) → Type 0 = λ keys. IsPermutation (keys_at Second links) keys in
    IfOk-weaker c.keep_sorted.result _ _ (λ kept together is. record {
      apart = links_apart links pairs sorted are moved told (subst R c.deref.ensures.value c.in_ok-first_repeat.ensures) (none_told told _ (sym c.is_some.ensures ∙ c.if-is_some.false) refl);
      firsts = together_moved OfFirst c.args.first.now (keys_at First links) c.in_ok-firsts.firsts.items
          (subst FM (sym c.in_ok-firsts.ensures.firsts) (firsts_moved links pairs sorted are moved)) (partners_at assoc First)
          (subst F c.deref-2.ensures.value (c.in_ok-keep_side.ensures c.if-not-branch.false));
      seconds = together_moved OfSecond c.args.second.now (keys_at Second links) c.in_ok-firsts.seconds.items
          (subst SM (sym c.in_ok-firsts.ensures.seconds) (seconds_moved links pairs sorted are moved)) (partners_at assoc Second) (together is);
    }) c.keep_sorted.ensures
