-- The associations that are hosted at a set, while a loop passes those of the model.
use Rattle.std.proofs.Common.{◌≡◌, ℕ, ◌+◌, ◌≤◌, List, [], ◌∷◌, ◌++◌, map, flat_map, take, length, Bool, Option, unwrap_or, ap, ◌∙◌}
use Rattle.std.specs.List.{enumerate_from}
use Rattle.std.specs.Option.{option_map_or}
use Rattle.emc_base.specs.Lists.{At}
use Rattle.emc_base.proofs.Loops.{take-enumerated}
use Rattle.emc_base.proofs.facts.Images.{one_more_gives}
use Rattle.round_trip.specs.Words.{SetId, TypeId, AssocId, Assoc}
use Rattle.schema_laws.specs.sound_demand.Deriving.{derives}
use Rattle.table_owners.specs.declared.places.LinkPlace.{LinkPlace}
use Rattle.table_owners.specs.declared.places.LinkPlace.TheVariants as place
use Rattle.cells.specs.declared.parts.Parts.{Parts}
use Rattle.regions.specs.Basis.{Host, host_end, partner_end}
use Rattle.regions.specs.Regions.{flag_values, flagged, flags_at}
use Rattle.region_states.specs.region_basis.BasisOf.{basis_of, host_at, host_by, hosts_in, hosts_told}

module _ (parts : Parts) (s : SetId) where
  -- those among the associations so far
  abbrev pub hosts_before : ℕ → List Host
  hosts_before i = flat_map (host_at parts.cells.now.places s) (take i (enumerate_from 0 parts.model.now.assocs))

  pub hosts_more : (i : ℕ) (assoc : Assoc) → At parts.model.now.assocs i assoc → hosts_before (i + 1) ≡ hosts_before i ++ host_at parts.cells.now.places s (i, assoc)
  hosts_more i assoc here = one_more_gives (host_at parts.cells.now.places s) parts.model.now.assocs i assoc here

  pub hosts_whole : (i : ℕ) → length parts.model.now.assocs ≤ i → hosts_before i ≡ hosts_in parts.model.now parts.cells.now.places s
  hosts_whole i end = ap (flat_map (host_at parts.cells.now.places s)) (take-enumerated parts.model.now.assocs i end)

  -- the host by the place that is told
  pub hosts_here : (a : AssocId) (assoc : Assoc) (told : LinkPlace) (end : Option Bool) → At parts.cells.now.places a.index told
      → ((id : AssocId) → host_by s id assoc told ≡ hosts_told id end) → host_at parts.cells.now.places s (a.index, assoc) ≡ hosts_told a end
  hosts_here a assoc told end there is = ap (λ (o : Option LinkPlace). host_by s a assoc (unwrap_or o place.Unmapped)) there ∙ is a

  -- the flags of a host
  pub flags_here : (t : TypeId) (a : AssocId) (assoc : Assoc) (first_hosts : Bool) → At parts.model.now.assocs a.index assoc
      → flags_at (basis_of parts) t (record { assoc = a; first_hosts = first_hosts })
      ≡ map (flagged a) (flag_values (derives parts.model.now t (host_end first_hosts assoc).ty) (partner_end first_hosts assoc).mult)
  flags_here t a assoc first_hosts here = ap (λ (found : Option Assoc). option_map_or (λ one. map (flagged a)
      (flag_values (derives parts.model.now t (host_end first_hosts one).ty) (partner_end first_hosts one).mult)) found ([] ∷ [])) here
