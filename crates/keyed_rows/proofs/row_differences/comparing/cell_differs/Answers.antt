use Rattle.std.proofs.Common.{◌≡◌, ap, sym, ◌∙◌, true≢false, unwrap_or}
use Rattle.std.specs.Ordering.{is_ne}
use Rattle.emc_base.specs.Order.{value_cmp}
use Rattle.round_trip.specs.Words.{Null, cell_of}
use Rattle.keyed_rows.proofs.row_differences.Apart.{two_values}
use Rattle.keyed_rows.proofs.row_differences.comparing.cell_differs.Goals as goal

pub returns-then-is_free : goal.returns-then-is_free
returns-then-is_free c = ((λ told. absurd (true≢false (sym told))), λ differs. absurd (true≢false (c.if-is_free.ensures ∙ differs.0)))

pub returns : goal.returns
returns c =
    let one = cell_of c.args.held.now c.args.col in
    let two = cell_of c.args.demanded.now c.args.col in
    let first : one ≡ c.at.result.now = ap (λ found. unwrap_or found Null) c.at.ensures in
    let second : two ≡ c.at-2.result.now = ap (λ found. unwrap_or found Null) c.at-2.ensures in
    let is : c.is_ne.result ≡ is_ne (value_cmp one two) =
    c.is_ne.ensures ∙ ap is_ne (c.compare.ensures ∙ (λ k. value_cmp (sym first k) (sym second k))) in (
      (λ told. (sym (c.is_free.ensures) ∙ c.if-is_free.false, (two_values one two).0 (sym is ∙ told))),
      λ differs. is ∙ (two_values one two).1 differs.1,
    )
