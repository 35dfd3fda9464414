use Rattle.std.proofs.Common.{List, ◌++◌, All, Contains, map, sym, subst}
use Rattle.round_trip.specs.Words.{ColId, Pair}
use Rattle.table_owners.proofs.link_places.placed.are_key.Goals as goal

pub returns-then-are_both_within : goal.returns-then-are_both_within
returns-then-are_both_within c = λ model mapping.
    let pairs = c.args.one.now ++ c.args.other.now in
    let Within : List ColId → Type 0 = λ key. All (λ (pair : Pair). Contains key pair.col) pairs in
    let Whole : List ColId → Type 0 = λ key. All (λ (col : ColId). Contains (map (λ (pair : Pair). pair.col) pairs) col) key in (
      λ is. record {
        all = subst Within c.key_of-key.ensures (c.are_both_within.ensures.0 c.if-are_both_within.true);
        whole = subst Whole c.key_of-key.ensures (c.are_written.ensures.0 is);
      },
      λ hosted. c.are_written.ensures.1 (subst Whole (sym c.key_of-key.ensures) hosted.whole),
    )

pub returns-else-are_both_within : goal.returns-else-are_both_within
returns-else-are_both_within c = λ model mapping.
    let Within : List ColId → Type 0 = λ key. All (λ (pair : Pair). Contains key pair.col) (c.args.one.now ++ c.args.other.now) in (
      λ is. absurd cc,
      λ hosted. c.are_both_within.ensures.1 (subst Within (sym c.key_of-key.ensures) hosted.all),
    )
