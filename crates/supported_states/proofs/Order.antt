-- The order of keys in sets tells different ones apart.
use Rattle.std.proofs.Common.{◌≡◌, Decides, refl, sym, ap, ◌∙◌}
use Rattle.std.specs.BTreeMap.{is_at}
use Rattle.std.specs.Cmp.{IsTotalOrder}
use Rattle.std.specs.Cmp.Lexicographic.{slice_cmp}
use Rattle.std.specs.FinMap.{nat_cmp-IsAntisymmetric, slice_cmp-IsAntisymmetric}
use Rattle.std.specs.Ordering.{is_eq, nat_cmp, ordering_then}
use Rattle.std.specs.declared.cmp.Ordering.{Ordering}
use Rattle.std.specs.declared.cmp.Ordering.TheVariants.{Less, Equal, Greater}
use Rattle.std.proofs.lemmas.Bool.Decides.{same_from_decides}
use Rattle.std.proofs.lemmas.Cmp.{tied_itself}
use Rattle.emc_base.proofs.facts.Orderings.{is_equal}
use Rattle.emc_base.specs.Order.{value_cmp}
use Rattle.emc_base.specs.OrderLaws.{value_cmp_apart}
use Rattle.population.specs.Support.{same_placed}
use Rattle.population.specs.declared.placed.PlacedKey.{PlacedKey}
use Rattle.population.proofs.plain.Placed.{Decides-placed}
use Rattle.supported_states.specs.Spots.{spot_cmp, spot_of}
use Rattle.supported_states.specs.contracts.spots.SpotOrd.TheImpl.Laws.{total-law}

-- the order is total
pub spot_total : IsTotalOrder spot_cmp
spot_total = total-law

-- what comes first decides, and then what comes next
first_equal : (first rest : Ordering) → ordering_then first rest ≡ Equal → first ≡ Equal
first_equal Less rest told = cc
first_equal Equal rest told = refl
first_equal Greater rest told = cc

rest_equal : (first rest : Ordering) → ordering_then first rest ≡ Equal → rest ≡ Equal
rest_equal Less rest told = cc
rest_equal Equal rest told = told
rest_equal Greater rest told = cc

-- equal keys in sets are one
pub Decides-spot : (one other : PlacedKey) → Decides (is_eq (spot_cmp (spot_of one) (spot_of other))) (other ≡ one)
Decides-spot one other = (
  (λ told.
      let sets : Ordering = nat_cmp one.set.index other.set.index in
      let keys : Ordering = slice_cmp value_cmp one.key other.key in
      let equal : ordering_then sets keys ≡ Equal = is_equal (spot_cmp (spot_of one) (spot_of other)) told in
      let set_is : one.set.index ≡ other.set.index = nat_cmp-IsAntisymmetric one.set.index other.set.index (first_equal sets keys equal) in
      let key_is : one.key ≡ other.key = slice_cmp-IsAntisymmetric value_cmp_apart one.key other.key (rest_equal sets keys equal) in
      λ k. record { set = record { index = sym set_is k }; key = sym key_is k }),
  (λ same. ap is_eq (ap (λ (p : PlacedKey). spot_cmp (spot_of one) (spot_of p)) same ∙ tied_itself spot_total (spot_of one))),
)

-- the order and the test agree
pub spot_same : (one other : PlacedKey) → is_at (spot_cmp (spot_of one)) (spot_of other) ≡ same_placed other one
spot_same one other = same_from_decides (is_eq (spot_cmp (spot_of one) (spot_of other))) (same_placed other one) (Decides-spot one other) (Decides-placed other one)
