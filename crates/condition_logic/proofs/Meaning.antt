-- What an expression means and mentions, by the list of its parts.
use Rattle.std.proofs.Common.{◌↔◌, ⊎_elim, inl, inr, List, All, Any, sym, subst}
use Rattle.std.proofs.lemmas.List.Elements.{All-nil, All-cons, All-head, All-tail}
use mathlib.Core.Former.{Count}
use Rattle.emc_base.proofs.facts.Standing.{any_cases}
use Rattle.condition_logic.specs.declared.expr.Expr.{Expr, All', Any', Row_of-Expr, end_of-Expr, more_of-Expr, items-the_row-Expr, items_hidden-the_row-Expr-0}
use Rattle.condition_logic.specs.declared.expr.Expr.TheVariants as expr
use Rattle.condition_logic.specs.Readings.{Reading}
use Rattle.condition_logic.specs.Holds.{Holds, EachHolds, SomeHolds, IsMeaning}
use Rattle.condition_logic.specs.Mentions.{Mentions, SomeMentions, IsByParts}
use Rattle.condition_logic.proofs.Parts.{any_first, any_later, any_none}

-- the row of the parts of an expression
abbrev row_of : Expr → (n : Count) × Row_of-Expr n
row_of (All' _ row) = (_, row)
row_of (Any' _ row) = (_, row)
row_of _ = (_, end_of-Expr)

module _ (reading : Reading) where
  each_listed : (n : _) (row : Row_of-Expr n) → EachHolds reading row → All (Holds reading) (items-the_row-Expr n row)
  each_listed n end_of-Expr each = All-nil (Holds reading)
  each_listed n (more_of-Expr part rest) each = All-cons (Holds reading) part _ each.0 (each_listed _ rest each.1)

  each_of_list : (n : _) (row : Row_of-Expr n) → All (Holds reading) (items-the_row-Expr n row) → EachHolds reading row
  each_of_list n end_of-Expr all = tt
  each_of_list n (more_of-Expr part rest) all = (All-head (Holds reading) part _ all, each_of_list _ rest (All-tail (Holds reading) part _ all))

  some_listed : (n : _) (row : Row_of-Expr n) → SomeHolds reading row → Any (Holds reading) (items-the_row-Expr n row)
  some_listed n end_of-Expr some = absurd some
  some_listed n (more_of-Expr part rest) some =
      ⊎_elim (λ (here : Holds reading part). any_first (Holds reading) part _ here)
      (λ (later : SomeHolds reading rest). any_later (Holds reading) part _ (some_listed _ rest later)) some

  some_of_list : (n : _) (row : Row_of-Expr n) → Any (Holds reading) (items-the_row-Expr n row) → SomeHolds reading row
  some_of_list n end_of-Expr any = any_none (Holds reading) any
  some_of_list n (more_of-Expr part rest) any =
      ⊎_elim (λ (here : Holds reading part). inl here)
      (λ (later : Any (Holds reading) (items-the_row-Expr _ rest)). inr (some_of_list _ rest later)) (any_cases (Holds reading) part _ any)

  -- each part holds, as a list
  pub holds_all : (parts : List Expr) → Holds reading (expr.All parts) ↔ All (Holds reading) parts
  holds_all parts =
      let row = row_of (expr.All parts) in
      let same = items_hidden-the_row-Expr-0 parts in (
        λ each. subst (All (Holds reading)) same (each_listed row.0 row.1 each),
        λ all. each_of_list row.0 row.1 (subst (All (Holds reading)) (sym same) all),
      )

  -- some part holds, as a list
  pub holds_any : (parts : List Expr) → Holds reading (expr.Any parts) ↔ Any (Holds reading) parts
  holds_any parts =
      let row = row_of (expr.Any parts) in
      let same = items_hidden-the_row-Expr-0 parts in (
        λ some. subst (Any (Holds reading)) same (some_listed row.0 row.1 some),
        λ any. some_of_list row.0 row.1 (subst (Any (Holds reading)) (sym same) any),
      )

  -- the seven forms
  pub is_meaning : IsMeaning reading
  is_meaning = record {
    all = holds_all;
    any = holds_any;
    not = λ part. (λ h. h, λ h. h);
    is_of = λ t. (λ h. h, λ h. h);
    only_of = λ t. (λ h. h, λ h. h);
    is_null = λ on. (λ h. h, λ h. h);
    equals = λ on constant. (λ h. h, λ h. h);
  }

module _ (Is : Expr → Type 0) where
  mentions_listed : (n : _) (row : Row_of-Expr n) → SomeMentions Is row → Any (Mentions Is) (items-the_row-Expr n row)
  mentions_listed n end_of-Expr some = absurd some
  mentions_listed n (more_of-Expr part rest) some =
      ⊎_elim (λ (here : Mentions Is part). any_first (Mentions Is) part _ here)
      (λ (later : SomeMentions Is rest). any_later (Mentions Is) part _ (mentions_listed _ rest later)) some

  mentions_of_list : (n : _) (row : Row_of-Expr n) → Any (Mentions Is) (items-the_row-Expr n row) → SomeMentions Is row
  mentions_of_list n end_of-Expr any = any_none (Mentions Is) any
  mentions_of_list n (more_of-Expr part rest) any =
      ⊎_elim (λ (here : Mentions Is part). inl here)
      (λ (later : Any (Mentions Is) (items-the_row-Expr _ rest)). inr (mentions_of_list _ rest later)) (any_cases (Mentions Is) part _ any)

  -- what an expression mentions one of its parts does
  pub mentions_all : (parts : List Expr) → Mentions Is (expr.All parts) ↔ Any (Mentions Is) parts
  mentions_all parts =
      let row = row_of (expr.All parts) in
      let same = items_hidden-the_row-Expr-0 parts in (
        λ some. subst (Any (Mentions Is)) same (mentions_listed row.0 row.1 some),
        λ any. mentions_of_list row.0 row.1 (subst (Any (Mentions Is)) (sym same) any),
      )

  pub mentions_any : (parts : List Expr) → Mentions Is (expr.Any parts) ↔ Any (Mentions Is) parts
  mentions_any parts =
      let row = row_of (expr.Any parts) in
      let same = items_hidden-the_row-Expr-0 parts in (
        λ some. subst (Any (Mentions Is)) same (mentions_listed row.0 row.1 some),
        λ any. mentions_of_list row.0 row.1 (subst (Any (Mentions Is)) (sym same) any),
      )

  pub mentions_by_parts : IsByParts (Mentions Is)
  mentions_by_parts = record { all = mentions_all; any = mentions_any; not = λ part. (λ h. h, λ h. h) }
