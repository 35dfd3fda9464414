-- What `cmp` and `==` answer: they tell tables, owners, and tables with their owners apart.
use Rattle.std.proofs.Common.{◌≡◌, ◌==◌, ℕ, Bool, true, sym, ap, subst, ◌∙◌}
use Rattle.std.specs.Bool.{Decides}
use Rattle.std.specs.Cmp.{unsigned_ties}
use Rattle.std.specs.Ordering.{nat_cmp, is_eq, ordering_then}
use Rattle.std.specs.declared.cmp.Ordering.{Ordering}
use Rattle.std.proofs.lemmas.Bool.Decides.{Decides-at, Decides-eqb}
use Rattle.std.proofs.lemmas.Cmp.{nat_cmp_total, tied_itself}
use Rattle.emc_base.proofs.facts.Orderings.{both_numbers}
use Rattle.table_owners.specs.contracts.table_writers.ownership.OwnershipOrd.TheImpl as ownership_ord
use Rattle.table_owners.specs.contracts.table_writers.writer.OwnerPartialEq.TheImpl as owner_partial_eq
use Rattle.table_owners.specs.declared.table_writers.ownership.Ownership.{Ownership}
use Rattle.table_owners.specs.declared.table_writers.ownership.Ownership.TheVariants.{BySet, ByAssoc}
use Rattle.table_owners.specs.declared.table_writers.writer.Owner.{Owner}
use Rattle.table_owners.specs.declared.table_writers.writer.Owner.TheVariants.{Set, Assoc}

-- the order of numbers tells them apart
pub tells_table : (table q : ℕ) → Decides (is_eq (nat_cmp table q)) (table ≡ q)
tells_table table q = Decides-at (is_eq (nat_cmp table q)) (table == q) (sym (unsigned_ties table q)) (Decides-eqb table q)

-- what `==` of owners answers
abbrev pub owner_eq : Owner → Owner → Bool
owner_eq = (owner_partial_eq.ghosts).eq

-- it tells owners apart
pub tells_owner : (o p : Owner) → Decides (owner_eq o p) (o ≡ p)
tells_owner (Set o) (Set p) = (
  λ is. (let index : o.index ≡ p.index = (Decides-eqb o.index p.index).0 is in λ i. Set (record { index = index i })),
  λ same. (Decides-eqb o.index p.index).1 cc,
)
tells_owner (Assoc o) (Assoc p) = (
  λ is. (let index : o.index ≡ p.index = (Decides-eqb o.index p.index).0 is in λ i. Assoc (record { index = index i })),
  λ same. (Decides-eqb o.index p.index).1 cc,
)
tells_owner (Set o) (Assoc p) = (λ is. absurd cc, λ same. absurd cc)
tells_owner (Assoc o) (Set p) = (λ is. absurd cc, λ same. absurd cc)

-- the order of tables with their owners
abbrev pub ownership_cmp : Ownership → Ownership → Ordering
ownership_cmp = (ownership_ord.ghosts).cmp

-- a table with its owner is equal to itself
equal_itself : (one : Ownership) → is_eq (ownership_cmp one one) ≡ true
equal_itself (BySet a b) = ap (λ order. is_eq (ordering_then order (nat_cmp b b))) (tied_itself nat_cmp_total a) ∙ ap is_eq (tied_itself nat_cmp_total b)
equal_itself (ByAssoc a b) = ap (λ order. is_eq (ordering_then order (nat_cmp b b))) (tied_itself nat_cmp_total a) ∙ ap is_eq (tied_itself nat_cmp_total b)

-- the order of tables with their owners tells them apart
pub tells_ownership : (one q : Ownership) → Decides (is_eq (ownership_cmp one q)) (one ≡ q)
tells_ownership one q = (to one q, λ same. subst (λ (r : Ownership). is_eq (ownership_cmp one r) ≡ true) same (equal_itself one))
  where
    to : (o p : Ownership) → is_eq (ownership_cmp o p) ≡ true → o ≡ p
    to (BySet a b) (BySet c d) is = let both = both_numbers a b c d is in λ i. BySet (both.0 i) (both.1 i)
    to (ByAssoc a b) (ByAssoc c d) is = let both = both_numbers a b c d is in λ i. ByAssoc (both.0 i) (both.1 i)
    to (BySet a b) (ByAssoc c d) is = absurd cc
    to (ByAssoc a b) (BySet c d) is = absurd cc
