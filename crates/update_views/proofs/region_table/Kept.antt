-- Tests that a loop adds.
use Rattle.std.proofs.Common.{◌≡◌, ◌+◌, ℕ, List, [], ◌∷◌, ◌++◌, append_assoc, map, flat_map, take, length, Bool, Option, sym, ap, ◌∙◌}
use Rattle.std.specs.List.{enumerate_from}
use Rattle.std.specs.Option.{option_map_or}
use Rattle.std.proofs.lemmas.List.{length-append, map-append}
use Rattle.emc_base.specs.Lists.{At}
use Rattle.emc_base.proofs.Loops.{take_item}
use Rattle.emc_base.proofs.Numbered.{numbered_at}
use Rattle.round_trip.specs.Words.{TypeId, AssocId, Assoc}
use Rattle.regions.specs.Basis.{Basis, host_end, partner_end}
use Rattle.regions.specs.Regions.{model_of}
use Rattle.region_partition.specs.region_lists.Counts.{capped}
use Rattle.region_partition.proofs.region_lists.Counts.{capped_sum}
use Rattle.region_partition.proofs.region_lists.Taken.{flat_map_one}
use Rattle.update_views.specs.declared.region_table.telling.LinkRule.TheVariants as rule
use Rattle.update_views.specs.region_table.Made.{link_by, link_test, rule_of}

-- images behind others, with more of them
pub more_mapped : {K X : Type 0} (f : K → X) (initial made : List X) (before more : List K) → made ≡ initial ++ map f before
    → made ++ map f more ≡ initial ++ map f (before ++ more)
more_mapped f initial made before more is =
    ap (λ list. list ++ map f more) is ∙ append_assoc initial (map f before) (map f more) ∙ ap (λ list. initial ++ list) (sym (map-append f before more))

-- the image of a numbered item, behind those of the items before
pub next_mapped : {X Y : Type 0} (f : ℕ × X → Y) (xs : List X) (i : ℕ) (x : X) (made : List Y) → At xs i x
    → made ≡ map f (take i (enumerate_from 0 xs)) → made ++ f (i, x) ∷ [] ≡ map f (take (i + 1) (enumerate_from 0 xs))
next_mapped f xs i x made here is =
    ap (λ list. list ++ f (i, x) ∷ []) is
    ∙ sym (ap (map f) (take_item (enumerate_from 0 xs) i (i, x) (numbered_at xs i x here)) ∙ map-append f (take i (enumerate_from 0 xs)) ((i, x) ∷ []))

-- what the items give is counted up to the bound, with one item more
pub next_counted : {X Y : Type 0} (g : X → List Y) (before : List X) (x : X) (total more : ℕ) → total ≡ capped (length (flat_map g before))
    → more ≡ capped (length (g x)) → capped (total + more) ≡ capped (length (flat_map g (before ++ x ∷ [])))
next_counted g before x total more is one =
    (λ i. capped (is i + one i))
    ∙ capped_sum (length (flat_map g before)) (length (g x))
    ∙ ap capped (sym (ap (λ list. length list) (flat_map_one g before x) ∙ length-append (flat_map g before) (g x)))

-- the test of an association that is hosted at this end
pub rule_here : (basis : Basis) (t : TypeId) (a : AssocId) (assoc : Assoc) (first_hosts : Bool) → At (model_of basis).assocs a.index assoc
    → link_test basis t (record { assoc = a; first_hosts = first_hosts })
    ≡ link_by a (rule_of (basis.is_a t (host_end first_hosts assoc).ty) (partner_end first_hosts assoc).mult)
rule_here basis t a assoc first_hosts here = ap (λ (found : Option Assoc). link_by a (option_map_or
    (λ one. rule_of (basis.is_a t (host_end first_hosts one).ty) (partner_end first_hosts one).mult) found rule.Unlooked)) here
