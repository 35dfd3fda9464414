-- The atoms of a region: one for each tested property of its type.
use Rattle.std.proofs.Common.{◌≡◌, ◌≢◌, ⊎_elim, ◌==◌, List, [], ◌∷◌, map, find, slice_get, option_map, Contains, Option, Some, None, IsTrue, refl, sym, ap, subst, ◌∙◌}
use Rattle.std.specs.List.{AllZip}
use Rattle.std.specs.Option.{option_map_or}
use Rattle.std.proofs.lemmas.Bool.{cond_both}
use Rattle.std.proofs.lemmas.Bool.Decides.{not_from_Decides}
use Rattle.std.proofs.lemmas.List.Elements.{All-contains}
use Rattle.std.proofs.lemmas.List.Kept.{AllPairs-filter}
use Rattle.std.proofs.lemmas.Option.{same_Some, slice_get_within}
use Rattle.emc_base.specs.Lists.{AreApart}
use Rattle.emc_base.proofs.Lists.{at_once}
use Rattle.emc_base.proofs.Mapped.{contains_filter}
use Rattle.emc_base.proofs.Numbered.{filter_contains, map_contains}
use Rattle.emc_base.proofs.facts.Found.{found_passes}
use Rattle.round_trip.specs.Words.{SetId, TypeId, PropId, Prop, At, key_props, props_of}
use Rattle.member_groups.proofs.joined_groups.Grouping.{joined_free}
use Rattle.round_trip.specs.soundness.mappings.Joined.{IsNoKey, prop}
use Rattle.condition_logic.specs.declared.atoms.Atom.{Atom}
use Rattle.condition_logic.specs.declared.atoms.AtomOf.{AtomOf}
use Rattle.schema_laws.proofs.sound_types.Once.{props_once}
use Rattle.schema_laws.proofs.sound_demand.Keys.{inherits_keys}
use Rattle.schema_laws.proofs.state_demand.lists.Lists.{head_stands, member_cases, none_in_nil, tail_stands}
use Rattle.regions.specs.declared.region.Region.{Region}
use Rattle.regions.specs.Atoms.{atom_at, atoms_of}
use Rattle.regions.specs.Basis.{Basis}
use Rattle.regions.specs.Regions.{atoms_at, regions_of, tested_props}
use Rattle.regions.specs.region_laws.IsBasis.{IsBasis}
use Rattle.regions.proofs.region_laws.lists.Choices.{choice_each, pairs_head, pairs_tail}
use Rattle.regions.proofs.region_laws.listing.Listed.{is_listed, set_is}
use Rattle.schema_laws.proofs.sound_types.Inherited.{declared_above}
use Rattle.schema_laws.proofs.state_demand.lists.Ids.{Decides-prop}

-- items that tell the properties beside them, each once, are found by these
module _ (R : PropId → AtomOf → Type 0) (names : (p : PropId) (told : AtomOf) → R p told → told.prop ≡ p) where
  zip_member : (props : List PropId) (atoms : List AtomOf) → AllZip R props atoms → (told : AtomOf) → Contains atoms told → (p : PropId) × Contains props p × R p told
  zip_member [] [] zipped told has = absurd (none_in_nil told has)
  zip_member [] (one ∷ atoms) zipped told has = absurd zipped
  zip_member (p ∷ props) [] zipped told has = absurd zipped
  zip_member (p ∷ props) (one ∷ atoms) zipped told has = ⊎_elim
      (λ (here : told ≡ one). (p, head_stands p props, subst (R p) (sym here) zipped.0))
      (λ (later : Contains atoms told). let rest = zip_member props atoms zipped.1 told later in (rest.0, tail_stands p props rest.0 rest.1, rest.2))
      (member_cases one atoms told has)

  zip_there : (props : List PropId) (atoms : List AtomOf) → AllZip R props atoms → (p : PropId) → Contains props p → (told : AtomOf) × Contains atoms told × R p told
  zip_there [] [] zipped p has = absurd (none_in_nil p has)
  zip_there [] (one ∷ atoms) zipped p has = absurd zipped
  zip_there (q ∷ props) [] zipped p has = absurd zipped
  zip_there (q ∷ props) (one ∷ atoms) zipped p has = ⊎_elim
      (λ (here : p ≡ q). let P : PropId → Type 0 = λ r. R r one in (one, head_stands one atoms, subst P (sym here) zipped.0))
      (λ (later : Contains props p). let rest = zip_there props atoms zipped.1 p later in (rest.0, tail_stands one atoms rest.0 rest.1, rest.2))
      (member_cases q props p has)

  zip_found : (props : List PropId) (atoms : List AtomOf) → AllZip R props atoms → AreApart props → (told : AtomOf) → Contains atoms told
      → find (λ (one : AtomOf). one.prop.index == told.prop.index) atoms ≡ Some told
  zip_found [] [] zipped apart told has = absurd (none_in_nil told has)
  zip_found [] (one ∷ atoms) zipped apart told has = absurd zipped
  zip_found (p ∷ props) [] zipped apart told has = absurd zipped
  zip_found (p ∷ props) (first ∷ atoms) zipped apart told has =
      let rest : List AtomOf = atoms in
      let P : Option AtomOf → Type 0 = λ found. found ≡ Some told in
      cond_both (first.prop.index == told.prop.index) (Some first) (find (λ (one : AtomOf). one.prop.index == told.prop.index) atoms) P
      (λ same. ⊎_elim
      (λ (here : told ≡ first). ap Some (sym here))
      (λ (later : Contains rest told).
      let other = zip_member props atoms zipped.1 told later in
      let is : p ≡ other.0 = sym (names p first zipped.0) ∙ (Decides-prop first.prop told.prop).0 same ∙ names other.0 told other.2 in
      absurd (All-contains (λ q. p ≢ q) props other.0 (pairs_head (λ a b. a ≢ b) p props apart) other.1 is))
      (member_cases first rest told has))
      (λ different. ⊎_elim
      (λ (here : told ≡ first). absurd (not_from_Decides (first.prop.index == told.prop.index) (Decides-prop first.prop told.prop) different
      (ap (λ (one : AtomOf). one.prop) (sym here))))
      (λ (later : Contains rest told). zip_found props atoms zipped.1 (pairs_tail (λ a b. a ≢ b) p props apart) told later)
      (member_cases first rest told has))

module _ (basis : Basis) where
  -- an atom that may be told of a property
  pub record IsAtomOf (p : PropId) (told : AtomOf) : Type 0 where
    pub declared : Prop
    pub is_declared : At basis.schema.model.props p.index declared
    pub names : told.prop ≡ p
    pub among : Contains (atoms_of basis.fits declared (basis.constants (prop p))) told.atom

  atom_of_prop : (p : PropId) (told : AtomOf) → Contains (atoms_at basis p) told → IsAtomOf p told
  atom_of_prop p told has = by (slice_get basis.schema.model.props p.index) refl has
    where
      by : (found : Option Prop) → slice_get basis.schema.model.props p.index ≡ found
          → Contains (option_map_or (λ declared. map (λ atom. record { prop = p; atom = atom }) (atoms_of basis.fits declared (basis.constants (prop p)))) found []) told
          → IsAtomOf p told
      by None none there = absurd (none_in_nil told there)
      by (Some declared) here there =
          let made : Atom → AtomOf = λ atom. record { prop = p; atom = atom } in
          let list : List Atom = atoms_of basis.fits declared (basis.constants (prop p)) in
          let found = map_contains made list told there in
          record {
            declared = declared;
            is_declared = here;
            names = ap (λ (one : AtomOf). one.prop) (sym found.2);
            among = subst (Contains list) (ap (λ (one : AtomOf). one.atom) found.2) found.1;
          }

module _ (basis : Basis) (is : IsBasis basis) where
  -- a property of a type that is no part of the type's key is no part of one
  pub no_key_free : (p : PropId) (declared : Prop) → At basis.schema.model.props p.index declared → (t : TypeId) → Contains (props_of basis.schema.model t) p
      → ¬ Contains (key_props basis.schema.model t) p → IsNoKey basis.schema (prop p)
  no_key_free p declared here t among no_key =
      let above = declared_above basis.schema.model is.sound.model p t among in
      (above.0, above.1, λ key. no_key (subst (λ props. Contains props p) (sym ((inherits_keys basis.schema.model is.sound.model).same t above.0.owner above.2)) key))

  -- what is tested is no part of a key
  pub tested_no_key : (p : PropId) (declared : Prop) → At basis.schema.model.props p.index declared → (t : TypeId) → Contains (props_of basis.schema.model t) p
      → IsTrue (basis.tested (prop p)) → ¬ Contains (key_props basis.schema.model t) p
  tested_no_key p declared here t among tested key =
      let by = (is.tested (prop p) (slice_get_within basis.schema.model.props p.index declared here)).0 tested in
      let free : IsNoKey basis.schema (prop p) = (joined_free basis.schema (prop p) by.0 by.1).0 in
      let above = declared_above basis.schema.model is.sound.model p t among in
      let one : above.0 ≡ free.0 = at_once basis.schema.model.props p.index above.0 free.0 above.1 free.1 in
      let P : Prop → Type 0 = λ d. Contains (key_props basis.schema.model d.owner) p in
      free.2 (subst P one (subst (λ props. Contains props p) ((inherits_keys basis.schema.model is.sound.model).same t above.0.owner above.2) key))

  module _ (s : SetId) (region : Region) (has : Contains (regions_of basis s) region) where
    zipped : AllZip (λ p told. Contains (atoms_at basis p) told) (tested_props basis region.ty) region.atoms
    zipped =
        let of_list = is_listed basis s region has in
        let P : Region → Type 0 = λ r. AllZip (λ p told. Contains (atoms_at basis p) told) (tested_props basis r.ty) r.atoms in
        subst P (sym of_list.is) (choice_each (atoms_at basis) (tested_props basis of_list.ty) of_list.atoms of_list.are_atoms)

    abbrev R : PropId → AtomOf → Type 0
    R p told = Contains (atoms_at basis p) told

    names : (p : PropId) (told : AtomOf) → R p told → told.prop ≡ p
    names p told of_p = (atom_of_prop basis p told of_p).names

    tested_once : AreApart (tested_props basis region.ty)
    tested_once = AllPairs-filter (λ one two. one ≢ two) (λ (q : PropId). basis.tested (prop q)) (props_of basis.schema.model region.ty)
        (props_once basis.schema.model is.sound.model region.ty)

    is_tested : (p : PropId) → Contains (tested_props basis region.ty) p → Contains (props_of basis.schema.model region.ty) p × IsTrue (basis.tested (prop p))
    is_tested p among = filter_contains (λ (q : PropId). basis.tested (prop q)) (props_of basis.schema.model region.ty) p among

    -- what is told is told of a tested property of the type
    pub record IsTold (p : PropId) (a : Atom) : Type 0 where
      pub declared : Prop
      pub is_declared : At basis.schema.model.props p.index declared
      pub of_type : Contains (props_of basis.schema.model region.ty) p
      pub tested : IsTrue (basis.tested (prop p))
      pub among : Contains (atoms_of basis.fits declared (basis.constants (prop p))) a

    pub told_is : (told : AtomOf) → Contains region.atoms told → IsTold told.prop told.atom
    told_is told there =
        let found = zip_member R names (tested_props basis region.ty) region.atoms zipped told there in
        let of_prop = atom_of_prop basis found.0 told found.2 in
        let kept = is_tested found.0 found.1 in
        let P : PropId → Type 0 = λ q. IsTold q told.atom in
        let here : P found.0 = record { declared = of_prop.declared; is_declared = of_prop.is_declared; of_type = kept.0; tested = kept.1; among = of_prop.among } in
        subst P (sym of_prop.names) here

    -- it is found by its property
    pub told_found : (told : AtomOf) → Contains region.atoms told → atom_at region.atoms told.prop ≡ Some told.atom
    told_found told there =
        ap (option_map (λ (one : AtomOf). one.atom)) (zip_found R names (tested_props basis region.ty) region.atoms zipped tested_once told there)

    -- what is found is told
    pub found_told : (p : PropId) (a : Atom) → atom_at region.atoms p ≡ Some a → IsTold p a
    found_told p a found = by (find (λ (one : AtomOf). one.prop.index == p.index) region.atoms) refl found
      where
        by : (one : Option AtomOf) → find (λ (one : AtomOf). one.prop.index == p.index) region.atoms ≡ one → option_map (λ (one : AtomOf). one.atom) one ≡ Some a → IsTold p a
        by None none same = cc
        by (Some told) at same =
            let passes = found_passes (λ (one : AtomOf). one.prop.index == p.index) region.atoms told at in
            let name : told.prop ≡ p = (Decides-prop told.prop p).0 passes.1 in
            let is : told.atom ≡ a = same_Some told.atom a same in
            let P : PropId → Type 0 = λ q. IsTold q a in
            subst P name (subst (IsTold told.prop) is (told_is told passes.0))

    -- where nothing is found the property isn't tested
    pub lost_untested : (p : PropId) → Contains (props_of basis.schema.model region.ty) p → atom_at region.atoms p ≡ None → ¬ IsTrue (basis.tested (prop p))
    lost_untested p among lost tested =
        let found = zip_there R names (tested_props basis region.ty) region.atoms zipped p
        (contains_filter (λ (q : PropId). basis.tested (prop q)) (props_of basis.schema.model region.ty) p among tested) in
        let name : found.0.prop ≡ p = names p found.0 found.2 in
        let P : PropId → Type 0 = λ q. atom_at region.atoms q ≡ Some found.0.atom in
        let some : atom_at region.atoms p ≡ Some found.0.atom = subst P name (told_found found.0 found.1) in
        let never : None ≡ Some found.0.atom = sym lost ∙ some in
        cc

    pub of_set : region.set ≡ s
    of_set = set_is basis s region has
