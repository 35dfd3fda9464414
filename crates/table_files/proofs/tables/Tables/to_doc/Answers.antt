use Rattle.std.proofs.Common.{◌∙◌, Vec, Global, ap, map, subst, sym}
use Rattle.std.specs.Borrow.{Bor}
use Rattle.serde_json.specs.Written.{has_float}
use Rattle.round_trip.specs.Words.{Row}
use Rattle.table_files.specs.TablesTree.{tables_tree}
use Rattle.table_files.specs.Tells.{TellsTables}
use Rattle.table_files.proofs.Plain.{tables_tree-plain}
use Rattle.table_files.proofs.Told.{tells_tables}
use Rattle.table_files.proofs.tables.Tables.to_doc.Goals as goal

pub returns-clause-tree : goal.returns-clause-tree
returns-clause-tree c =
    let store = c.args.store.now in
    let lent = λ (rows : Vec (Bor Row) Global). map (λ (row : Bor Row). row.now) rows.items in
    let sorted = map lent c.in_ok-sorted.sorted.items in
    let is = c.of_tree.ensures ∙ c.in_ok-tree.ensures ∙ ap (λ lists. tables_tree store (map lent lists)) c.as_slice.ensures.value in
    record {
      sorted = sorted;
      order = c.in_ok-sorted.ensures;
      is = is;
      tells = λ apart. subst (TellsTables store sorted) (sym is) (tells_tables store sorted apart);
    }

pub returns-clause-plain : goal.returns-clause-plain
returns-clause-plain c =
    let store = c.args.store.now in
    let lent = λ (rows : Vec (Bor Row) Global). map (λ (row : Bor Row). row.now) rows.items in
    let is = c.of_tree.ensures ∙ c.in_ok-tree.ensures ∙ ap (λ lists. tables_tree store (map lent lists)) c.as_slice.ensures.value in
    ap has_float is ∙ tables_tree-plain store (map lent c.in_ok-sorted.sorted.items)
