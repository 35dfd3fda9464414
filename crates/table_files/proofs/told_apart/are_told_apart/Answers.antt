use Rattle.std.proofs.Common.{◌≡◌, AllPairs, List, sym, subst}
use Rattle.std.specs.declared.cmp.Ordering.TheVariants.{Less}
use Rattle.table_files.specs.Entries.{entry_cmp}
use Rattle.table_files.specs.declared.sort_entry.SortEntry.{SortEntry}
use Rattle.table_files.proofs.TellsApart.{tells_apart}
use Rattle.table_files.proofs.told_apart.are_told_apart.Goals as goal

pub returns : goal.returns
returns c =
    let cols = c.args.cols.now in
    let Rise : List SortEntry → Type 0 = λ entries. AllPairs (λ one later. entry_cmp cols one later ≡ Less) entries in
    let both = tells_apart cols c.args.rows.now c.in_ok-sorted.sorted.items c.in_ok-sorted.ensures.order c.in_ok-sorted.ensures.firsts in (
      λ told. both.0 (subst Rise c.as_slice.ensures.value (c.rise.ensures.0 told)),
      λ apart. c.rise.ensures.1 (subst Rise (sym c.as_slice.ensures.value) (both.1 apart)),
    )
