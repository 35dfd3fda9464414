use Rattle.std.proofs.Common.{Bool, true, false, List, sym, ap, ◌∙◌}
use Rattle.std.specs.Borrow.{Bor}
use Rattle.std.specs.List.{drop-map, take-map}
use Rattle.round_trip.specs.Words.{Value}
use Rattle.query_views.specs.Lent.{key_at, link_of, shown_values}
use Rattle.query_views.proofs.links.lent.end_key.Goals as goal

pub returns-then-first : goal.returns-then-first
returns-then-first c =
    let both : List (Bor Value) = c.args.both.now in
    let n = c.args.first_len in
    ap shown_values c.first_key.ensures ∙ sym (take-map (λ (value : Bor Value). value.now) n both)
    ∙ ap (λ (b : Bool). key_at b (link_of n (shown_values both))) (sym c.if-first.true)

pub returns-else-first : goal.returns-else-first
returns-else-first c =
    let both : List (Bor Value) = c.args.both.now in
    let n = c.args.first_len in
    ap shown_values c.second_key.ensures ∙ sym (drop-map (λ (value : Bor Value). value.now) n both)
    ∙ ap (λ (b : Bool). key_at b (link_of n (shown_values both))) (sym c.if-first.false)
