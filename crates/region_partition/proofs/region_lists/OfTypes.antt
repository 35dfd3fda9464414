-- The regions of a type, by the choices of atoms and those of links.
use Rattle.std.proofs.Common.{◌≡◌, List, map, flat_map, ap, ◌∙◌}
use Rattle.std.proofs.lemmas.Simd.{map-map}
use Rattle.round_trip.specs.Words.{SetId, TypeId, AssocId}
use Rattle.condition_logic.specs.declared.atoms.AtomOf.{AtomOf}
use Rattle.regions.specs.declared.region.Region.{Region}
use Rattle.regions.specs.Lists.{choices}
use Rattle.regions.specs.Basis.{Basis}
use Rattle.regions.specs.Regions.{atoms_at, flags_at, regions_by, tested_props}
use Rattle.region_partition.specs.region_lists.Listing.{joined_choices, region_with}

pub regions_by_choices : (basis : Basis) (s : SetId) (t : TypeId) (chosen : List (List AtomOf)) (linked : List (List AssocId))
    → chosen ≡ choices (map (atoms_at basis) (tested_props basis t)) → linked ≡ joined_choices (map (flags_at basis t) (basis.hosts s))
    → flat_map (λ atoms. map (region_with s t atoms) linked) chosen ≡ regions_by basis s t
regions_by_choices basis s t chosen linked by_atoms by_links =
    let flags = choices (map (flags_at basis t) (basis.hosts s)) in
    let joined : List (List AssocId) → List AssocId = λ choice. flat_map (λ list. list) choice in
    let lists = choices (map (atoms_at basis) (tested_props basis t)) in
    (λ i. flat_map (λ atoms. map (region_with s t atoms) (by_links i)) (by_atoms i))
    ∙ ap (λ (made : List AtomOf → List Region). flat_map made lists) (λ i atoms. map-map (region_with s t atoms) joined flags i)
