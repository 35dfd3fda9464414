-- The end other than a host's is its partner's.
use Rattle.std.proofs.Common.{◌≡◌, Bool, true, false, not, refl}
use Rattle.round_trip.specs.Words.{Assoc}
use Rattle.regions.specs.Basis.{partner_end}
use Rattle.regions.specs.region_laws.pattern.Allowed.{end_at}

pub other_end : (first_hosts : Bool) (assoc : Assoc) → end_at (not first_hosts) assoc ≡ partner_end first_hosts assoc
other_end true assoc = refl
other_end false assoc = refl
