use Rattle.std.proofs.Common.{ℕ, List, Option, length, sym, subst}
use Rattle.graphs.specs.base_chains.Chains.{base_at, StaysWithin}
use Rattle.csdl_names.proofs.csdl_lists.BaseTypes.{bases_within}
use Rattle.csdl_model.proofs.reading.bases_first.Goals as goal

pub walk_bases-requires : goal.walk_bases-requires
walk_bases-requires c =
    let lookups = c.args.lookups.now in
    let P : List (Option ℕ) → Type 0 = λ bases. StaysWithin (base_at bases) (length bases) in
    record { within = subst P (sym c.as_slice.ensures.items) (bases_within lookups.model.now lookups.bases.now lookups.based lookups.counted) }
