use Rattle.std.proofs.Common.{◌≡◌, ◌-◌, ◌<◌, get_or, length, sym, ap, ◌∙◌, arith}
use Rattle.std.specs.Ordering.{is_lt}
use Rattle.std.proofs.lemmas.Bool.{both_ways}
use Rattle.std.proofs.lemmas.List.{get_or_default}
use Rattle.emc_base.proofs.facts.Orderings.{is_less}
use Rattle.table_files.specs.Entries.{entry_cmp}
use Rattle.table_files.specs.declared.sort_entry.SortEntry.{SortEntry}
use Rattle.table_files.proofs.TellsApart.{rises_more}
use Rattle.table_files.proofs.told_apart.rise.Goals as goal

pub returns-then-not-is_lt : goal.returns-then-not-is_lt
returns-then-not-is_lt c =
    let cols = c.args.cols.now in
    let entries = c.args.entries.now in
    let some = c.loop-i.invariant.0 in
    let inside : c.loop-i.i < length entries = c.loop-i-test.true in
    let d = c.index-entries-i.result in
    let one = c.index-entries-i.is ∙ get_or_default entries (c.loop-i.i - 1) c.index-entries-i.result d (omega (arith, some, inside)) in
    let other = c.index-entries-i-in-loop-i.is ∙ get_or_default entries c.loop-i.i c.index-entries-i-in-loop-i.result d inside in (
      λ no. absurd cc,
      λ all. absurd (both_ways c.is_lt.result c.if-not-is_lt.true
          (c.is_lt.ensures ∙ ap is_lt (c.compare_entries.ensures ∙ ap (λ (entry : SortEntry). entry_cmp cols entry c.index-entries-i-in-loop-i.result) one
          ∙ ap (λ (entry : SortEntry). entry_cmp cols (get_or entries (c.loop-i.i - 1) d) entry) other ∙ all (c.loop-i.i - 1) c.loop-i.i d (omega (arith, some)) inside))),
    )

pub loop-i-preserved : goal.loop-i-preserved
loop-i-preserved c =
    let cols = c.args.cols.now in
    let entries = c.args.entries.now in
    let some = c.loop-i.invariant.0 in
    let inside : c.loop-i.i < length entries = c.loop-i-test.true in
    let next : (d : SortEntry) → entry_cmp cols (get_or entries (c.loop-i.i - 1) d) (get_or entries c.loop-i.i d) ≡ _ = λ d.
    let one = c.index-entries-i.is ∙ get_or_default entries (c.loop-i.i - 1) c.index-entries-i.result d (omega (arith, some, inside)) in
    let other = c.index-entries-i-in-loop-i.is ∙ get_or_default entries c.loop-i.i c.index-entries-i-in-loop-i.result d inside in
    ap (λ (entry : SortEntry). entry_cmp cols entry (get_or entries c.loop-i.i d)) (sym one) ∙ ap (λ (entry : SortEntry). entry_cmp cols c.index-entries-i.result entry) (sym other)
    ∙ sym c.compare_entries.ensures ∙ is_less c.compare_entries.result (sym c.is_lt.ensures ∙ c.if-not-is_lt.false) in
    (omega (arith, some), rises_more cols entries c.loop-i.i some next c.loop-i.invariant.1)
