-- Writers by what they are compared by: their tables, and their tables with the owners.
use Rattle.std.proofs.Common.{◌≡◌, ◌≢◌, ℕ, List, Option, true, false, not, sym, ap, ◌∙◌}
use Rattle.std.specs.Ordering.{nat_cmp}
use Rattle.std.proofs.lemmas.Bool.{both_ways, not-false, not-true}
use Rattle.groupings.specs.least_fault.Least.{IsLeast}
use Rattle.groupings.proofs.least_fault.Leasts.{least_same}
use Rattle.table_owners.specs.table_writers.Ownerships.{owned_by, ownership_of}
use Rattle.table_owners.specs.table_writers.Writers.{HasOtherOwner, HoldSame, IsOtherPairing, PairsOtherwise}
use Rattle.table_owners.specs.declared.table_writers.writer.Owner.{Owner}
use Rattle.table_owners.specs.declared.table_writers.writer.Owner.TheVariants.{Set, Assoc}
use Rattle.table_owners.specs.declared.table_writers.writer.Writer.{Writer}
use Rattle.table_owners.proofs.table_writers.FirstOfKey.{Differs}
use Rattle.table_owners.proofs.table_writers.Orders.{owner_eq, tells_owner}
use Rattle.table_owners.proofs.table_writers.Pairs.{never_both, same_as_one}

-- the number of the table that is written
abbrev pub table_of : Writer → ℕ
table_of writer = writer.table.index

-- two writers have one owner
abbrev pub SameOwner : Writer → Writer → Type 0
SameOwner one other = one.owner ≡ other.owner

-- two writers have two owners
abbrev pub OtherOwner : Writer → Writer → Type 0
OtherOwner one other = one.owner ≢ other.owner

-- two writers pair the key alike
abbrev pub SameKey : Writer → Writer → Type 0
SameKey one other = HoldSame one.key other.key

-- two writers pair the key otherwise
abbrev pub OtherKey : Writer → Writer → Type 0
OtherKey one other = IsOtherPairing one.key other.key

-- writers with the owner of one have one owner
pub owner_apart : (one x y : Writer) → SameOwner one x → SameOwner one y → ¬ OtherOwner x y
owner_apart one x y first second = λ other. other (sym first ∙ second)

-- writers that pair the key as one does pair it alike
pub key_apart : (one x y : Writer) → SameKey one x → SameKey one y → ¬ OtherKey x y
key_apart one x y first second = never_both x.key y.key (same_as_one one.key x.key y.key first second)

-- what `!=` tells of two writers' owners, where it's true
pub differing_owners : (one other : Writer) → not (owner_eq one.owner other.owner) ≡ true → OtherOwner one other
differing_owners one other is = λ same. both_ways (owner_eq one.owner other.owner) (not-true (owner_eq one.owner other.owner) is) ((tells_owner one.owner other.owner).1 same)

-- and where it isn't
pub owners_alike : (one other : Writer) → not (owner_eq one.owner other.owner) ≡ false → SameOwner one other
owners_alike one other is = (tells_owner one.owner other.owner).0 (not-false (owner_eq one.owner other.owner) is)

-- a table with its owner is known by the numbers
same_owned : (t u : ℕ) (o p : Owner) → owned_by t o ≡ owned_by u p → (t ≡ u) × (o ≡ p)
same_owned t u (Set o) (Set p) is = (cc, (let index : o.index ≡ p.index = cc in λ i. Set (record { index = index i })))
same_owned t u (Assoc o) (Assoc p) is = (cc, (let index : o.index ≡ p.index = cc in λ i. Assoc (record { index = index i })))
same_owned t u (Set o) (Assoc p) is = absurd cc
same_owned t u (Assoc o) (Set p) is = absurd cc

module _ (writers : List Writer) where
  -- the least place where a table has a second owner
  pub least_owner : (found : Option ℕ) → IsLeast nat_cmp (Differs table_of SameOwner writers OtherOwner) found → IsLeast nat_cmp (HasOtherOwner writers) found
  least_owner found = least_same nat_cmp (Differs table_of SameOwner writers OtherOwner) (HasOtherOwner writers) found
      (λ k d. record {
        i = d.i;
        one = d.one;
        later = d.later;
        before = d.before;
        there = d.there;
        here = d.here;
        table = (let index : d.one.table.index ≡ d.later.table.index = d.same in λ i. record { index = index i });
        other = d.other;
      })
      (λ k d. record {
        i = d.i;
        one = d.one;
        later = d.later;
        before = d.before;
        there = d.there;
        here = d.here;
        same = ap (λ id. id.index) d.table;
        other = d.other;
      })

  -- the least place where a key is paired otherwise
  pub least_pairing : (found : Option ℕ) → IsLeast nat_cmp (Differs ownership_of SameKey writers OtherKey) found → IsLeast nat_cmp (PairsOtherwise writers) found
  least_pairing found = least_same nat_cmp (Differs ownership_of SameKey writers OtherKey) (PairsOtherwise writers) found
      (λ k d. record {
        i = d.i;
        one = d.one;
        later = d.later;
        before = d.before;
        there = d.there;
        here = d.here;
        table = (let both = same_owned d.one.table.index d.later.table.index d.one.owner d.later.owner d.same in λ i. record { index = both.0 i });
        owner = (same_owned d.one.table.index d.later.table.index d.one.owner d.later.owner d.same).1;
        other = d.other;
      })
      (λ k d. record {
        i = d.i;
        one = d.one;
        later = d.later;
        before = d.before;
        there = d.there;
        here = d.here;
        same = (let table = d.table in let owner = d.owner in λ i. owned_by (table i).index (owner i));
        other = d.other;
      })
