-- Regions with their rows, one more at the end.
use Rattle.std.proofs.Common.{◌≡◌, ℕ, ◌+◌, List, [], ◌∷◌, ◌++◌, take, sym, ◌∙◌}
use Rattle.std.proofs.lemmas.List.{map-append}
use Rattle.std.proofs.lemmas.List.Elements.{All-push}
use Rattle.emc_base.specs.Lists.{At}
use Rattle.emc_base.proofs.Loops.{take_item}
use Rattle.regions.specs.declared.region.Region.{Region}
use Rattle.regions.specs.Basis.{Basis}
use Rattle.containment.specs.declared.same_conflicts.written.Written.{Written}
use Rattle.containment.specs.same_conflicts.Written.{AreWritten, IsWritten, region_in}

pub written_more : (basis : Basis) (regions : List Region) (i : ℕ) (region : Region) → At regions i region → (written : List Written) → AreWritten basis (take i regions) written
    → (one : Written) → region_in one ≡ region → IsWritten basis one → AreWritten basis (take (i + 1) regions) (written ++ one ∷ [])
written_more basis regions i region here written are one same is = record {
  of = map-append region_in written (one ∷ []) ∙ (λ k. are.of k ++ same k ∷ []) ∙ sym (take_item regions i region here);
  rows = All-push (IsWritten basis) written one are.rows is;
}
