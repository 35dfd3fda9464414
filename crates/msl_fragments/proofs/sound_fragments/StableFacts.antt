-- Facts on ids and on pairs that hold where they can't but hold, since tests tell them.
use Rattle.std.proofs.Common.{◌≡◌, ◌==◌, ◌&&◌, Bool, List, map, All, Any, Contains, ap}
use Rattle.std.specs.Bool.{Decides}
use Rattle.std.specs.List.{list_any}
use Rattle.std.specs.Set.{is_member}
use Rattle.std.proofs.lemmas.Bool.{and_parts}
use Rattle.std.proofs.lemmas.Bool.Decides.{Decides-eqb}
use Rattle.std.proofs.lemmas.List.Elements.{All-contains}
use Rattle.std.proofs.lemmas.List.Folds.{Any-from_list_any, list_any-from_Any}
use Rattle.std.proofs.lemmas.Map.Made.{is_member-Decides}
use Rattle.emc_base.specs.Lists.{HoldsEachOnce}
use Rattle.emc_base.proofs.Lists.{all_from_members}
use Rattle.emc_base.proofs.Mapped.{contains_map}
use Rattle.emc_base.proofs.Members.{in_map}
use Rattle.round_trip.specs.Words.{ColId, Pair, PropId}
use Rattle.table_owners.specs.key_matching.Matchings.{Matches}
use Rattle.emc_base.proofs.FoundItems.{some_member}
use Rattle.emc_base.proofs.Stable.{stable}

-- tests of ids
abbrev same_prop : PropId → PropId → Bool
same_prop one other = one.index == other.index

abbrev same_col : ColId → ColId → Bool
same_col one other = one.index == other.index

props_decide : (one other : PropId) → Decides (same_prop one other) (one ≡ other)
props_decide one other = (
  λ same. let at = (Decides-eqb one.index other.index).0 same in λ i. record { index = at i },
  λ same. (Decides-eqb one.index other.index).1 (ap (λ (p : PropId). p.index) same),
)

cols_decide : (one other : ColId) → Decides (same_col one other) (one ≡ other)
cols_decide one other = (
  λ same. let at = (Decides-eqb one.index other.index).0 same in λ i. record { index = at i },
  λ same. (Decides-eqb one.index other.index).1 (ap (λ (c : ColId). c.index) same),
)

-- a property stands among these
pub has_prop : (props : List PropId) (prop : PropId) → ¬ (¬ Contains props prop) → Contains props prop
has_prop props prop = stable (is_member same_prop props prop) (is_member-Decides props_decide props prop)

-- two tests tell two things together
pub both_decide : {P Q : Type 0} (a b : Bool) → Decides a P → Decides b Q → Decides (a && b) (P × Q)
both_decide a b one other = (
  λ passed. let parts = and_parts a b passed in (one.0 parts.0, other.0 parts.1),
  λ both. λ i. one.1 both.0 i && other.1 both.1 i,
)

-- a test of items tells whether some item is so
pub some_decides : {X : Type 0} (P : X → Type 0) (test : X → Bool) → ((x : X) → Decides (test x) (P x)) → (xs : List X) → Decides (list_any test xs) (Any P xs)
some_decides P test tells xs = (
  λ passed. let some = Any-from_list_any test xs passed in (some.0, some.1, some.2, some.3, (tells some.1).0 some.4),
  λ some. list_any-from_Any test xs (some.0, some.1, some.2, some.3, (tells some.1).1 some.4),
)

-- pairs that write the parts of one key to those of another
module _ {X Y : Type 0} (of : Pair → X) (other_of : Pair → Y) (xs : List X) (ys : List Y) (pairs : List Pair) where
  -- the pair is of this part, and of one of the other key
  abbrev Writes : X → Pair → Type 0
  Writes x pair = (of pair ≡ x) × Contains ys (other_of pair)

  -- some of the pairs match the keys
  record Match : Type 0 where
    pub chosen : List Pair
    pub among : All (Contains pairs) chosen
    pub one : HoldsEachOnce xs (map of chosen)
    pub other : HoldsEachOnce ys (map other_of chosen)

  -- then each part is written
  matched : Match → (x : X) → Contains xs x → Any (Writes x) pairs
  matched match x has =
      let pair = in_map of match.chosen x (All-contains (Contains (map of match.chosen)) xs x match.one.all has) in
      let inside = All-contains (Contains ys) (map other_of match.chosen) (other_of pair.0) match.other.only (contains_map other_of match.chosen pair.0 pair.1) in
      some_member (Writes x) pairs pair.0 (All-contains (Contains pairs) match.chosen pair.0 match.among pair.1) (pair.2, inside)

  module _ (same : X → X → Bool) (same_other : Y → Y → Bool) (decides : (x z : X) → Decides (same x z) (x ≡ z)) (other_decides : (y z : Y) → Decides (same_other y z) (y ≡ z)) where
    written : (x : X) → Decides (list_any (λ pair. same (of pair) x && is_member same_other ys (other_of pair)) pairs) (Any (Writes x) pairs)
    written x = some_decides (Writes x) (λ pair. same (of pair) x && is_member same_other ys (other_of pair))
        (λ pair. both_decide (same (of pair) x) (is_member same_other ys (other_of pair)) (decides (of pair) x) (is_member-Decides other_decides ys (other_of pair))) pairs

    each_written : ¬ (¬ Match) → All (λ x. Any (Writes x) pairs) xs
    each_written never = all_from_members (λ x. Any (Writes x) pairs) xs (λ x has.
        stable (list_any (λ pair. same (of pair) x && is_member same_other ys (other_of pair)) pairs) (written x) (λ none. never (λ match. none (matched match x has))))

-- V30: where pairs can't but match a key with a primary key, each property of the key is written
pub props_written : (key : List PropId) (cols : List ColId) (pairs : List Pair) → ¬ (¬ Matches key cols pairs)
    → All (λ prop. Any (λ pair. (pair.prop ≡ prop) × Contains cols pair.col) pairs) key
props_written key cols pairs never = each_written (λ pair. pair.prop) (λ pair. pair.col) key cols pairs same_prop same_col props_decide cols_decide (λ none.
    never (λ match. none (record { chosen = match.chosen; among = match.among; one = match.props; other = match.columns })))

-- and each column of the primary key
pub cols_written : (key : List PropId) (cols : List ColId) (pairs : List Pair) → ¬ (¬ Matches key cols pairs)
    → All (λ col. Any (λ pair. (pair.col ≡ col) × Contains key pair.prop) pairs) cols
cols_written key cols pairs never = each_written (λ pair. pair.col) (λ pair. pair.prop) cols key pairs same_col same_prop cols_decide props_decide (λ none.
    never (λ match. none (record { chosen = match.chosen; among = match.among; one = match.columns; other = match.props })))
