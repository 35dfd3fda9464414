use Rattle.std.proofs.Common.{List, All, subst₂, sym}
use Rattle.round_trip.specs.Words.{ForeignKey, Table}
use Rattle.table_files.specs.table_legality.References.{IsKept}
use Rattle.table_files.specs.table_legality.Tells.{HaveLegalRows}
use Rattle.table_files.proofs.table_legality.Fitting.{all_kept, kept_all, legal_each}
use Rattle.table_files.proofs.table_legality.legal.is_legal.Goals as goal

pub returns : goal.returns
returns c =
    let store = c.args.store.now in
    let tables = c.args.tables.now in
    let P : List Table → List ForeignKey → Type 0 = λ declared keys. HaveLegalRows declared tables × All (IsKept tables) keys in (
      λ is.
          (let both = subst₂ P c.as_slice.ensures.items c.as_slice-2.ensures.items (c.keep_rules.ensures.0 is) in
          all_kept store tables c.requires both.0 both.1),
      λ legal. c.keep_rules.ensures.1 (subst₂ P (sym c.as_slice.ensures.items) (sym c.as_slice-2.ensures.items) (legal_each store tables legal, kept_all store tables legal)),
    )
