-- Whether two regions of a set are one is computed.
use Rattle.std.proofs.Common.{◌≡◌, ◌==◌, ◌&&◌, Bool, Decides, IsTrue, refl, ap}
use Rattle.std.proofs.lemmas.Bool.{and_from, and_parts}
use Rattle.std.proofs.lemmas.Bool.Decides.{Decides-and, Decides-eqb, Decides-like}
use Rattle.round_trip.specs.Words.{AssocId, TypeId}
use Rattle.condition_logic.specs.declared.atoms.Atom.{Atom}
use Rattle.condition_logic.specs.declared.atoms.Atom.TheVariants as atom
use Rattle.condition_logic.specs.declared.atoms.AtomOf.{AtomOf}
use Rattle.schema_laws.specs.state_demand.Selecting.{same_value}
use Rattle.schema_laws.proofs.state_demand.writings.Selecting.{Decides-value}
use Rattle.regions.specs.declared.region.Region.{Region}
use Rattle.schema_laws.proofs.state_demand.lists.Ids.{Decides-assoc, Decides-prop}
use Rattle.region_states.specs.conflicts.SameFacts.{match_all, same_atom, same_region}
use Rattle.conflict_laws.proofs.rival.Matching.{match_same, match_self}

-- types, atoms and told atoms are told apart
Decides-type : (t u : TypeId) → Decides (t.index == u.index) (t ≡ u)
Decides-type t u = Decides-like (t.index == u.index) (λ same k. record { index = same k }) (λ same. ap (λ (one : TypeId). one.index) same) (Decides-eqb t.index u.index)

Decides-atom : (a b : Atom) → Decides (same_atom a b) (a ≡ b)
Decides-atom atom.Null atom.Null = (λ told. refl, λ same. refl)
Decides-atom atom.Null (atom.Is two) = (λ told. cc, λ same. cc)
Decides-atom atom.Null atom.Other = (λ told. cc, λ same. cc)
Decides-atom (atom.Is one) atom.Null = (λ told. cc, λ same. cc)
Decides-atom (atom.Is one) (atom.Is two) = Decides-like (same_value one two) (λ same k. atom.Is (same k)) (λ same. cc) (Decides-value one two)
Decides-atom (atom.Is one) atom.Other = (λ told. cc, λ same. cc)
Decides-atom atom.Other atom.Null = (λ told. cc, λ same. cc)
Decides-atom atom.Other (atom.Is two) = (λ told. cc, λ same. cc)
Decides-atom atom.Other atom.Other = (λ told. refl, λ same. refl)

abbrev same_told : AtomOf → AtomOf → Bool
same_told told other = (told.prop.index == other.prop.index) && same_atom told.atom other.atom

Decides-told : (told other : AtomOf) → Decides (same_told told other) (told ≡ other)
Decides-told told other = Decides-like (same_told told other)
    (λ (both : (told.prop ≡ other.prop) × (told.atom ≡ other.atom)) k. record { prop = both.0 k; atom = both.1 k })
    (λ same. (ap (λ (one : AtomOf). one.prop) same, ap (λ (one : AtomOf). one.atom) same))
    (Decides-and (told.prop.index == other.prop.index) (same_atom told.atom other.atom) (Decides-prop told.prop other.prop) (Decides-atom told.atom other.atom))

abbrev same_assoc : AssocId → AssocId → Bool
same_assoc a b = a.index == b.index

module _ (one two : Region) where
  abbrev types : Bool
  types = one.ty.index == two.ty.index

  abbrev atoms : Bool
  atoms = match_all same_told one.atoms two.atoms

  abbrev links : Bool
  links = match_all same_assoc one.linked two.linked

  -- regions of a set with one type, the same atoms and the same links are one
  pub told_same : one.set ≡ two.set → IsTrue (same_region one two) → one ≡ two
  told_same sets told =
      let parts = and_parts (types && atoms) links told in
      let first = and_parts types atoms parts.0 in
      let is_type = (Decides-type one.ty two.ty).0 first.0 in
      let is_atoms = match_same same_told (λ a b. (Decides-told a b).0) one.atoms two.atoms first.1 in
      let is_linked = match_same same_assoc (λ a b. (Decides-assoc a b).0) one.linked two.linked parts.1 in
      λ k. record { set = sets k; ty = is_type k; atoms = is_atoms k; linked = is_linked k }

-- and each is itself
pub told_one : (region : Region) → IsTrue (same_region region region)
told_one region =
    and_from (types region region && atoms region region) (links region region)
    (and_from (types region region) (atoms region region) ((Decides-type region.ty region.ty).1 refl)
    (match_self same_told (λ a. (Decides-told a a).1 refl) region.atoms))
    (match_self same_assoc (λ a. (Decides-assoc a a).1 refl) region.linked)
