-- A flag stands equal to the links just where it tells them.
use Rattle.std.proofs.Common.{◌≡◌, ◌≢◌, ◌↔◌, List, slice_get, Any, Contains, Option, Some, None, Bool, true, false, Decides, is_eq, refl, sym, subst, ◌∙◌}
use Rattle.std.specs.Option.{option_map_or}
use Rattle.std.specs.Ordering.{bool_cmp}
use Rattle.std.specs.declared.cmp.Ordering.TheVariants.{Equal}
use Rattle.std.proofs.lemmas.Option.{same_Some}
use Rattle.round_trip.specs.Words.{Assoc, Hosted, Mult}
use Rattle.edm_types.specs.declared.model.Mult.TheVariants.{One, ZeroOrOne, Many}
use Rattle.regions.specs.declared.region.Region.{Region}
use Rattle.regions.specs.Basis.{Basis, Host, partner_end}
use Rattle.regions.specs.Regions.{TellsLinks, model_of}
use Rattle.regions.specs.Symbols.{is_linked}
use Rattle.regions.specs.region_laws.RegionAt.{has_link}
use Rattle.regions.proofs.region_laws.entities.Flags.{Decides-link, one_few, optional_few}
use Rattle.regions.proofs.region_laws.pattern.symbols.Origins.{linked_decided}
use Rattle.region_partition.specs.region_search.Standing.{flag_cmp, host_cmp}

-- two answers to two questions are one just where the questions are
both : {P Q : Type 0} (one two : Bool) → Decides one P → Decides two Q → Decides (is_eq (bool_cmp one two)) (P ↔ Q)
both true true p q = (λ told. (λ has. q.0 refl, λ has. p.0 refl), λ same. refl)
both true false p q = (λ told. absurd (let none : ⊥ = cc in none), λ same. q.1 (same.0 (p.0 refl)))
both false true p q = (λ told. absurd (let none : ⊥ = cc in none), λ same. p.1 (same.1 (q.0 refl)))
both false false p q = (λ told. (λ has. absurd (let is = p.1 has in cc), λ has. absurd (let is = q.1 has in cc)), λ same. refl)

flag : {P Q : Type 0} (mult : Mult) (one two : Bool) → Decides one P → Decides two Q → Decides (is_eq (flag_cmp mult one two)) (mult ≢ Many → P ↔ Q)
flag One one two p q = let told = both one two p q in (λ is few. told.0 is, λ same. told.1 (same one_few))
flag ZeroOrOne one two p q = let told = both one two p q in (λ is few. told.0 is, λ same. told.1 (same optional_few))
flag Many one two p q = (λ is few. absurd (few refl), λ same. refl)

module _ (basis : Basis) (region : Region) (links : List Hosted) (host : Host) where
  pub Decides-host : Decides (is_eq (host_cmp basis links region.linked host)) (TellsLinks basis region links host)
  Decides-host = by (slice_get (model_of basis).assocs host.assoc.index) refl
    where
      by : (found : Option Assoc) → slice_get (model_of basis).assocs host.assoc.index ≡ found
          → Decides (is_eq (option_map_or (λ assoc. flag_cmp (partner_end host.first_hosts assoc).mult (is_linked basis region.linked host.assoc) (has_link links host.assoc))
          found Equal))
          (TellsLinks basis region links host)
      by None here = (λ told assoc there few. absurd (let is = sym here ∙ there in cc), λ tells. refl)
      by (Some assoc) here =
          let P : Type 0 = Contains region.linked host.assoc in
          let Q : Type 0 = Any (λ (hosted : Hosted). hosted.assoc ≡ host.assoc) links in
          let told = flag {P = P} {Q = Q} (partner_end host.first_hosts assoc).mult (is_linked basis region.linked host.assoc) (has_link links host.assoc)
          (linked_decided basis region.linked host.assoc) (Decides-link links host.assoc) in (
            λ is other there few.
                let same : assoc ≡ other = same_Some assoc other (sym here ∙ there) in
                told.0 is (subst (λ (one : Assoc). (partner_end host.first_hosts one).mult ≢ Many) (sym same) few),
            λ tells. told.1 (λ few. tells assoc here few),
          )
