use Rattle.std.proofs.Common.{List, ap, sym, ◌∙◌}
use Rattle.std.specs.Borrow.{Bor}
use Rattle.std.specs.List.{drop-map, take-map}
use Rattle.round_trip.specs.Words.{Value}
use Rattle.query_views.specs.Lent.{shown_values}
use Rattle.query_views.proofs.state_of.copied_link.Goals as goal

pub returns : goal.returns
returns c =
    let both : List (Bor Value) = c.args.both.now in
    let n = c.args.first_len in
    let value_in : Bor Value → Value = λ value. value.now in
    let first = c.in_ok-copied_key.ensures ∙ ap shown_values c.first_key.ensures ∙ sym (take-map value_in n both) in
    let second = c.in_ok-copied_key-2.ensures ∙ ap shown_values c.second_key.ensures ∙ sym (drop-map value_in n both) in
    λ k. record { first = first k; second = second k }
