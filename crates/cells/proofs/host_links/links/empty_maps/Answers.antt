use Rattle.std.proofs.Common.{◌≡◌, ◌+◌, ℕ, List, length, All, sym, ap, subst, ◌∙◌, arith}
use Rattle.std.specs.BTreeMap.{BTreeMap, IsEmpty}
use Rattle.std.proofs.lemmas.Grind.{common_steps, length_at_push}
use Rattle.std.proofs.lemmas.List.Elements.{All-push}
use Rattle.round_trip.specs.Words.{Hosted, Value}
use Rattle.cells.proofs.host_links.links.empty_maps.Goals as goal

pub loop-preserved : goal.loop-preserved
loop-preserved c =
    let maps = c.loop.maps.items in
    let P : List (BTreeMap (List Value) (List Hosted)) → Type 0 = λ list. (length list ≡ c.loop.index + 1) × All IsEmpty list in
    subst P (sym c.in_ok-push.ensures.items) (
      (length_at_push maps c.new.result).1 ∙ ap (λ (n : ℕ). n + 1) c.loop.invariant.0,
      All-push IsEmpty maps c.new.result c.loop.invariant.1 c.new.ensures.empty,
    )

pub returns : goal.returns
returns c = grind (arith, common_steps)
