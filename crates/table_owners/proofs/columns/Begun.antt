-- At first the columns of a table are taken as free just where it is written.
use Rattle.std.proofs.Common.{◌≡◌, inl, inr, List, length, replicate, Option, Some, None, MatchOption, Bool, sym, ap, subst, ◌∙◌}
use Rattle.std.specs.Bool.{MatchBool}
use Rattle.std.specs.Option.{is_some}
use Rattle.std.proofs.lemmas.List.{length-replicate}
use Rattle.emc_base.specs.Lists.{At}
use Rattle.round_trip.specs.Words.{Fragment, IsWritten, LinkFragment, Schema, Table, TableId}
use Rattle.table_owners.specs.declared.sources.Source.{Source}
use Rattle.table_owners.specs.declared.sources.Source.TheVariants.{Entities, Links}
use Rattle.table_owners.specs.Clearing.{IsStartOf}
use Rattle.table_owners.specs.Sources.{AreSources, IsSource}
use Rattle.table_owners.proofs.lists.Items.{at_some}
use Rattle.table_owners.proofs.columns.Sourcing.{repeated}

module _ (schema : Schema) where
  -- what has a source is written
  source_written : (t : TableId) (source : Source) → IsSource schema t source → IsWritten schema.mapping t
  source_written t (Entities number) (fragment, here, same) = inl (at_some (λ (other : Fragment). other.table ≡ t) schema.mapping.fragments number.index fragment here same)
  source_written t (Links number standing) (fragment, here, same, stands) =
      inr (at_some (λ (other : LinkFragment). other.table ≡ t) schema.mapping.links number.index fragment here same)

  -- and what has none isn't
  tells_written : (t : TableId) (source : Option Source) → MatchOption source (¬ IsWritten schema.mapping t) (IsSource schema t)
      → MatchBool (is_some source) (IsWritten schema.mapping t) (¬ IsWritten schema.mapping t)
  tells_written t None unwritten = unwritten
  tells_written t (Some source) is = source_written t source is

  pub begun : (sources : List (Option Source)) → AreSources schema sources → (t : TableId) (table : Table) (source : Option Source) → At sources t.index source
      → (columns : List Bool) → columns ≡ replicate (length table.cols) (is_some source) → IsStartOf schema t table columns
  begun sources are t table source here columns is = record {
    size = ap length is ∙ length-replicate (length table.cols) (is_some source);
    each = λ col taken there.
        (let at : At (replicate (length table.cols) (is_some source)) col.index taken = subst (λ (list : List Bool). At list col.index taken) is there in
        let P : Bool → Type 0 = λ b. MatchBool b (IsWritten schema.mapping t) (¬ IsWritten schema.mapping t) in
        subst P (sym (repeated (length table.cols) (is_some source) col.index taken at)) (tells_written t source (are.each t source here)));
  }
