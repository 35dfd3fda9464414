-- Where links stand, and what an end writes, can be tested.
use Rattle.std.proofs.Common.{◌≢◌, ◌⊎◌, inl, inr, ℕ, List, ◌++◌, map, All, Contains}
use Rattle.edm_types.specs.declared.model.Mult.TheVariants.{One, ZeroOrOne, Many}
use Rattle.round_trip.specs.FailsAt.{IsHostedAt}
use Rattle.round_trip.specs.Words.{Assoc, LinkFragment, Mult, Pair, PropId, Schema, TableId, key_columns}
use Rattle.round_trip.specs.soundness.mappings.Owners.{IsJoined, IsPlaced}
use Rattle.emc_base.proofs.Stable.{settled}
use Rattle.msl_rules.specs.LinkRules.{WritesJust}
use Rattle.msl_fragments.proofs.sound_links.Stable.{all_stable, all_told, col_told, or_told, prop_told}

-- the columns of some pairs are the primary key, or aren't
hosted_told : (schema : Schema) (table : TableId) (pairs : List Pair) → IsHostedAt schema table pairs ⊎ (¬ IsHostedAt schema table pairs)
hosted_told schema table pairs = by
    (all_told (λ pair. Contains (key_columns schema.store table) pair.col) (λ pair. col_told (key_columns schema.store table) pair.col) pairs)
    (all_told (λ col. Contains (map (λ (pair : Pair). pair.col) pairs) col) (λ col. col_told (map (λ (pair : Pair). pair.col) pairs) col) (key_columns schema.store table))
  where
    Inside : Type 0
    Inside = All (λ pair. Contains (key_columns schema.store table) pair.col) pairs

    Whole : Type 0
    Whole = All (λ col. Contains (map (λ (pair : Pair). pair.col) pairs) col) (key_columns schema.store table)

    by : Inside ⊎ (¬ Inside) → Whole ⊎ (¬ Whole) → IsHostedAt schema table pairs ⊎ (¬ IsHostedAt schema table pairs)
    by (inl all) (inl whole) = inl (record { all = all; whole = whole })
    by (inl all) (inr lacks) = inr (λ hosted. lacks hosted.whole)
    by (inr other) whole = inr (λ hosted. other hosted.all)

-- an end is mandatory or not
free_told : (mult : Mult) → (mult ≢ One) ⊎ (¬ (mult ≢ One))
free_told One = inr (λ differ. differ (λ i. One))
free_told ZeroOrOne = inl (λ same. absurd cc)
free_told Many = inl (λ same. absurd cc)

-- links are joined or not
joined_told : (schema : Schema) (fragment : LinkFragment) (assoc : Assoc) → IsJoined schema fragment assoc ⊎ (¬ IsJoined schema fragment assoc)
joined_told schema fragment assoc = by (hosted_told schema fragment.table (fragment.first ++ fragment.second)) (free_told assoc.first.mult) (free_told assoc.second.mult)
  where
    Hosted : Type 0
    Hosted = IsHostedAt schema fragment.table (fragment.first ++ fragment.second)

    by : Hosted ⊎ (¬ Hosted) → (assoc.first.mult ≢ One) ⊎ (¬ (assoc.first.mult ≢ One)) → (assoc.second.mult ≢ One) ⊎ (¬ (assoc.second.mult ≢ One))
        → IsJoined schema fragment assoc ⊎ (¬ IsJoined schema fragment assoc)
    by (inl columns) (inl first) (inl second) = inl (record { columns = columns; first = first; second = second })
    by (inl columns) (inl first) (inr needs) = inr (λ joined. needs joined.second)
    by (inl columns) (inr needs) second = inr (λ joined. needs joined.first)
    by (inr other) first second = inr (λ joined. other joined.columns)

-- links that can't but be hosted or joined are
pub placed_stable : (schema : Schema) (fragment : LinkFragment) (assoc : Assoc) → ¬ (¬ IsPlaced schema fragment assoc) → IsPlaced schema fragment assoc
placed_stable schema fragment assoc = settled (or_told (hosted_told schema fragment.table fragment.first)
    (or_told (hosted_told schema fragment.table fragment.second) (joined_told schema fragment assoc)))

-- it doesn't matter where in the document they are mapped
pub placed_elsewhere : (schema : Schema) (assoc : Assoc) (fragment : LinkFragment) (place : List ℕ) → IsPlaced schema fragment assoc
    → IsPlaced schema (record { place = place; assoc = fragment.assoc; table = fragment.table; first = fragment.first; second = fragment.second; conds = fragment.conds }) assoc
placed_elsewhere schema assoc fragment place (inl first) = inl first
placed_elsewhere schema assoc fragment place (inr (inl second)) = inr (inl second)
placed_elsewhere schema assoc fragment place (inr (inr joined)) = inr (inr (record { columns = joined.columns; first = joined.first; second = joined.second }))

-- an end that can't but write just the key does
pub just_stable : (key : List PropId) (pairs : List Pair) → ¬ (¬ WritesJust key pairs) → WritesJust key pairs
just_stable key pairs never = record {
  all = all_stable (Contains (map (λ (pair : Pair). pair.prop) pairs)) (λ prop. settled (prop_told (map (λ (pair : Pair). pair.prop) pairs) prop)) key (λ no. never (λ just. no just.all));
  only = all_stable (Contains key) (λ prop. settled (prop_told key prop)) (map (λ (pair : Pair). pair.prop) pairs) (λ no. never (λ just. no just.only));
}
