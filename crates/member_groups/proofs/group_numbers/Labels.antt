-- Labels that keep their places, and the numbers that tell them.
use Rattle.std.proofs.Common.{ℕ, ◌+◌, List, ◌∷◌, [], ◌++◌}
use Rattle.round_trip.specs.Words.{GroupId, Table}
use Rattle.member_groups.specs.declared.joined_groups.groups.Groups.{Groups}
use Rattle.member_groups.specs.declared.joined_groups.labels.Label.{Label}
use Rattle.member_groups.specs.group_numbers.Numbers.{AreColumns, AreNumbered, AreTables, Grows, Notes}
use Rattle.member_groups.proofs.group_numbers.Holding.{holds_as, holds_more}

-- first some came, and then others
pub grows_both : (before between after : List Label) → Grows before between → Grows between after → Grows before after
grows_both before between after first second = record { kept = λ i label at. second.kept i label (first.kept i label at) }

-- where labels keep their places numbers tell them still
pub numbered_still : (label_at : ℕ → Label) (n : ℕ) (numbers : List GroupId) (before after : List Label) → Grows before after → AreNumbered before label_at n numbers
    → AreNumbered after label_at n numbers
numbered_still label_at n numbers before after grown = holds_as _ _ (λ i group at. grown.kept group.index (label_at i) at) n numbers

-- the next one is numbered
pub numbered_more : (label_at : ℕ → Label) (n : ℕ) (numbers : List GroupId) (first before after : List Label) (group : GroupId)
    → Grows first before × AreNumbered before label_at n numbers → Notes before after (label_at n) group → Grows first after × AreNumbered after label_at (n + 1) (numbers ++ group ∷ [])
numbered_more label_at n numbers first before after group so_far notes = (
  grows_both first before after so_far.0 notes.grown,
  holds_more _ n numbers group (numbered_still label_at n numbers before after notes.grown so_far.1) notes.here,
)

module _ (groups : Groups) (tables : List Table) where
  -- the same of the columns of tables
  pub tables_still : (n : ℕ) (numbers : List (List GroupId)) (before after : List Label) → Grows before after
      → AreTables groups before tables n numbers → AreTables groups after tables n numbers
  tables_still n numbers before after grown =
      holds_as (AreColumns groups before tables) (AreColumns groups after tables)
      (λ t columns are. (are.0, are.1, numbered_still _ _ columns before after grown are.2)) n numbers

  -- and of the next table
  pub tables_more : (n : ℕ) (numbers : List (List GroupId)) (first before after : List Label) (columns : List GroupId)
      → Grows first before × AreTables groups before tables n numbers → Grows before after → AreColumns groups after tables n columns → Grows first after × AreTables groups after tables (n + 1) (numbers ++ columns ∷ [])
  tables_more n numbers first before after columns so_far grown are = (
    grows_both first before after so_far.0 grown,
    holds_more (AreColumns groups after tables) n numbers columns (tables_still n numbers before after grown so_far.1) are,
  )
