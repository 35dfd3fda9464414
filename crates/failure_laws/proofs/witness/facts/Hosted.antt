-- An association is hosted at one set, and there at one end.
use Rattle.std.proofs.Common.{◌≡◌, inl, inr, Bool, true, false, Contains, if◌then◌else◌, refl, sym, subst, ◌∙◌}
use Rattle.round_trip.specs.Words.{Assoc, AssocId, LinkFragment, Pair, SetId, At}
use Rattle.round_trip.specs.FailsAt.{IsHostedAt}
use Rattle.round_trip.specs.soundness.mappings.Owners.{LinkMaps, Owns}
use Rattle.schema_laws.proofs.sound_demand.owners.Owned.{one_set}
use Rattle.regions.specs.Basis.{Basis, Host, host_end}
use Rattle.regions.specs.region_laws.IsBasis.{IsBasis, IsHostOf}
use Rattle.regions.proofs.region_laws.pattern.symbols.Hosting.{one_host, one_link}
use Rattle.regions.proofs.region_laws.pattern.symbols.Origins.{side}

module _ (basis : Basis) (is : IsBasis basis) where
  -- the set owns the table that its hosted links are written to
  owns : (s : SetId) (host : Host) (by : IsHostOf basis.schema s host) → Owns basis.schema by.fragment.table s (side host.first_hosts by.fragment)
  owns s host by = at host.first_hosts by.hosted by.at_set
    where
      here : At basis.schema.model.assocs by.fragment.assoc.index by.assoc
      here = let P : AssocId → Type 0 = λ a. At basis.schema.model.assocs a.index by.assoc in subst P (sym by.of_assoc) by.is_assoc

      maps : LinkMaps basis.schema by.fragment.table by.fragment by.assoc
      maps = record { is_fragment = by.is_fragment; is_assoc = here; to_table = refl }

      at : (first : Bool) → IsHostedAt basis.schema by.fragment.table (if first then by.fragment.first else by.fragment.second) → (host_end first by.assoc).set ≡ s
          → Owns basis.schema by.fragment.table s (side first by.fragment)
      at true hosted at_set = inr (by.fragment, by.assoc, maps, inl (hosted, at_set, refl))
      at false hosted at_set = inr (by.fragment, by.assoc, maps, inr (hosted, at_set, refl))

  module _ (s u : SetId) (one other : Host) (has_one : Contains (basis.hosts s) one) (has_other : Contains (basis.hosts u) other) (same : one.assoc ≡ other.assoc) where
    -- its link fragment writes a table that one set owns
    pub one_hosting_set : s ≡ u
    one_hosting_set =
        let by : IsHostOf basis.schema s one = (is.hosts s one).0 has_one in
        let to : IsHostOf basis.schema u other = (is.hosts u other).0 has_other in
        let fragments : by.fragment ≡ to.fragment = one_link basis is by.fragment to.fragment by.is_fragment to.is_fragment (by.of_assoc ∙ same ∙ sym to.of_assoc) in
        let T : LinkFragment → Type 0 = λ f. Owns basis.schema f.table u (side other.first_hosts to.fragment) in
        one_set basis.schema is.sound by.fragment.table s u (side one.first_hosts by.fragment) (side other.first_hosts to.fragment) (owns s one by)
        (subst T (sym fragments) (owns u other to))

    -- and by one end
    pub one_hosting : one ≡ other
    one_hosting = one_host basis is s one other has_one (subst (λ v. Contains (basis.hosts v) other) (sym one_hosting_set) has_other) same
