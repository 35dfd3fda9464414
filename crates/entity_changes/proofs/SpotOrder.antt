-- The order of spots tells different ones apart.
use Rattle.std.proofs.Common.{◌≡◌, ◌≢◌, List, Bool, true, false, Decides, if◌then◌else◌, refl, sym, ap, subst, ◌∙◌}
use Rattle.std.specs.Cmp.{tied_itself, nat_cmp_total}
use Rattle.std.specs.Cmp.Lexicographic.{slice_cmp}
use Rattle.std.specs.FinMap.{nat_cmp-IsAntisymmetric}
use Rattle.std.specs.Ordering.{is_eq, nat_cmp, ordering_then}
use Rattle.std.specs.declared.cmp.Ordering.{Ordering}
use Rattle.std.specs.declared.cmp.Ordering.TheVariants.{Less, Equal, Greater}
use Rattle.std.proofs.lemmas.Bool.Decides.{same_from_decides}
use Rattle.emc_base.proofs.facts.Orderings.{is_equal}
use Rattle.emc_base.specs.Order.{value_cmp}
use Rattle.emc_base.specs.OrderLaws.{key_cmp_apart, key_cmp_total}
use Rattle.round_trip.specs.Words.{SetId, AssocId, Value, Link}
use Rattle.schema_laws.specs.state_demand.Selecting.{same_key}
use Rattle.schema_laws.proofs.state_demand.writings.Selecting.{Decides-key}
use Rattle.entity_changes.specs.Changes.{same_link}
use Rattle.entity_changes.specs.Spots.{Spot, key_spot, link_spot, same_spot, spot_cmp}

-- what comes first decides, and then what comes next
first_equal : (first rest : Ordering) → ordering_then first rest ≡ Equal → first ≡ Equal
first_equal Less rest told = cc
first_equal Equal rest told = refl
first_equal Greater rest told = cc

rest_equal : (first rest : Ordering) → ordering_then first rest ≡ Equal → rest ≡ Equal
rest_equal Less rest told = cc
rest_equal Equal rest told = told
rest_equal Greater rest told = cc

both_equal : (first rest : Ordering) → first ≡ Equal → rest ≡ Equal → ordering_then first rest ≡ Equal
both_equal first rest one other = ap (λ order. ordering_then order rest) one ∙ other

-- a spot is at itself
pub at_itself : (p : Spot) → same_spot p p ≡ true
at_itself p = ap is_eq (both_equal (ordering_then (nat_cmp p.0 p.0) (slice_cmp value_cmp p.1 p.1)) (slice_cmp value_cmp p.2 p.2)
    (both_equal (nat_cmp p.0 p.0) (slice_cmp value_cmp p.1 p.1) (tied_itself nat_cmp_total p.0) (tied_itself key_cmp_total p.1)) (tied_itself key_cmp_total p.2))

-- equal spots are one
pub Decides-spot : (p q : Spot) → Decides (same_spot p q) (p ≡ q)
Decides-spot p q = (
  (λ told.
      let numbers : Ordering = nat_cmp p.0 q.0 in
      let firsts : Ordering = slice_cmp value_cmp p.1 q.1 in
      let seconds : Ordering = slice_cmp value_cmp p.2 q.2 in
      let equal : ordering_then (ordering_then numbers firsts) seconds ≡ Equal = is_equal (spot_cmp p q) told in
      let before : ordering_then numbers firsts ≡ Equal = first_equal (ordering_then numbers firsts) seconds equal in
      let number_is : p.0 ≡ q.0 = nat_cmp-IsAntisymmetric p.0 q.0 (first_equal numbers firsts before) in
      let first_is : p.1 ≡ q.1 = key_cmp_apart p.1 q.1 (rest_equal numbers firsts before) in
      let second_is : p.2 ≡ q.2 = key_cmp_apart p.2 q.2 (rest_equal (ordering_then numbers firsts) seconds equal) in
      λ i. (number_is i, first_is i, second_is i)),
  (λ same. let P : Spot → Type 0 = λ other. same_spot p other ≡ true in subst P same (at_itself p)),
)

-- keys of one set stand at one spot just where they are one
pub key_spot_same : (s : SetId) (key other : List Value) → same_spot (key_spot s key) (key_spot s other) ≡ same_key other key
key_spot_same s key other = same_from_decides (same_spot (key_spot s key) (key_spot s other)) (same_key other key) (
  (λ told. sym (ap (λ (p : Spot). p.1) ((Decides-spot (key_spot s key) (key_spot s other)).0 told))),
  (λ same. (Decides-spot (key_spot s key) (key_spot s other)).1 (ap (key_spot s) (sym same))),
)
    (Decides-key other key)

-- those of different numbers don't
pub apart_spots : (p q : Spot) → p.0 ≢ q.0 → same_spot p q ≡ false
apart_spots p q apart = by (same_spot p q) refl
  where
    by : (b : Bool) → same_spot p q ≡ b → b ≡ false
    by true told = absurd (apart (ap (λ (r : Spot). r.0) ((Decides-spot p q).0 told)))
    by false told = refl

pub Decides-link : (link other : Link) → Decides (same_link link other) (link ≡ other)
Decides-link link other = (to (same_key link.first other.first) (same_key link.second other.second) refl refl, from)
  where
    to : (b d : Bool) → same_key link.first other.first ≡ b → same_key link.second other.second ≡ d → (if b then d else false) ≡ true → link ≡ other
    to true true one two told =
        let first_is : link.first ≡ other.first = (Decides-key link.first other.first).0 one in
        let second_is : link.second ≡ other.second = (Decides-key link.second other.second).0 two in
        λ i. record { first = first_is i; second = second_is i }
    to true false one two told = cc
    to false d one two told = cc

    both : (b d : Bool) → b ≡ true → d ≡ true → (if b then d else false) ≡ true
    both true true one two = refl
    both true false one two = cc
    both false d one two = cc

    from : link ≡ other → same_link link other ≡ true
    from same = both (same_key link.first other.first) (same_key link.second other.second)
        ((Decides-key link.first other.first).1 (ap (λ (l : Link). l.first) same)) ((Decides-key link.second other.second).1 (ap (λ (l : Link). l.second) same))

-- links of one association set stand at one spot just where they are one
pub Decides-link_spot : (a : AssocId) (link other : Link) → Decides (same_spot (link_spot a link) (link_spot a other)) (other ≡ link)
Decides-link_spot a link other = (
  (λ told.
      let one : link_spot a link ≡ link_spot a other = (Decides-spot (link_spot a link) (link_spot a other)).0 told in
      λ i. record { first = (sym one i).1; second = (sym one i).2 }),
  (λ same. (Decides-spot (link_spot a link) (link_spot a other)).1 (ap (link_spot a) (sym same))),
)

pub link_spot_same : (a : AssocId) (link other : Link) → same_spot (link_spot a link) (link_spot a other) ≡ same_link other link
link_spot_same a link other = same_from_decides (same_spot (link_spot a link) (link_spot a other)) (same_link other link) (Decides-link_spot a link other)
    (Decides-link other link)
