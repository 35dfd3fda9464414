-- Regions without a row, and properties that are left out: what is computed of them, and what is so.
use Rattle.std.proofs.Common.{◌≡◌, ◌&&◌, List, Bool, true, false, Contains, IsTrue, None, Option, Some, not, refl, sym, ap, subst, ◌∙◌}
use Rattle.std.specs.List.{list_any}
use Rattle.std.specs.Option.{option_map_or}
use Rattle.std.proofs.lemmas.Bool.{and_from, false_from_ne_true, not_from_false}
use Rattle.round_trip.specs.Words.{PropId, key_props, props_of}
use Rattle.condition_logic.specs.declared.atoms.Atom.{Atom}
use Rattle.condition_logic.specs.declared.atoms.Atom.TheVariants as atom
use Rattle.schema_laws.proofs.short_values.Places.{Decides-among}
use Rattle.regions.specs.declared.pattern.Focus.TheVariants as focus
use Rattle.regions.specs.declared.pattern.PatternRow.{PatternRow}
use Rattle.regions.specs.declared.pattern.Symbol.TheVariants as symbol
use Rattle.regions.specs.declared.region.Region.{Region}
use Rattle.regions.specs.Atoms.{atom_at}
use Rattle.regions.specs.Basis.{Basis}
use Rattle.regions.specs.Patterns.{pattern_of}
use Rattle.regions.specs.Settled.{Possible, is_nullable, multi, of_atom, possible, single}
use Rattle.region_states.specs.conflicts.SameFacts.{is_absent, is_lost, is_multi, is_one_of, lists_anywhere}
use Rattle.conflict_laws.proofs.rival.Reading.{somewhere}
use Rattle.conflict_laws.proofs.same.lost.Absent.{absent_rows}
use Rattle.conflict_laws.proofs.same.lost.Lost.{IsLost, lost_told}
use Rattle.failure_laws.specs.Facts.{HasNoRow, IsLeftOut}

-- what an atom leaves is several values where it is that of all others
other_of : (n : Bool) (found : Option Atom) (nullable : Bool) → option_map_or of_atom found (multi n) ≡ multi nullable → (one : Atom) → found ≡ Some one → one ≡ atom.Other
other_of n None nullable can one same = absurd (let never : None ≡ Some one = same in cc)
other_of n (Some atom.Null) nullable can one same = absurd (let never : single _ ≡ multi nullable = can in cc)
other_of n (Some (atom.Is value)) nullable can one same = absurd (let never : single value ≡ multi nullable = can in cc)
other_of n (Some atom.Other) nullable can one same = cc

-- and where no other atom is found, there are several
several_of : (n : Bool) (found : Option Atom) → ((one : Atom) → found ≡ Some one → one ≡ atom.Other) → is_multi (option_map_or of_atom found (multi n)) ≡ true
several_of n None other = refl
several_of n (Some one) other = let P : Atom → Type 0 = λ it. is_multi (of_atom it) ≡ true in subst P (sym (other one refl)) refl

module _ (basis : Basis) (region : Region) where
  pub absent_so : IsTrue (is_absent basis region) → HasNoRow basis region
  absent_so told = absent_rows basis region told

  pub absent_computed : HasNoRow basis region → IsTrue (is_absent basis region)
  absent_computed so = let P : List PatternRow → Type 0 = λ rows. IsTrue (not (list_any (λ row. true) rows)) in subst P (sym so) refl

  module _ (p : PropId) where
    abbrev props : List PropId
    props = props_of basis.schema.model region.ty

    abbrev keys : List PropId
    keys = key_props basis.schema.model region.ty

    abbrev listed : Bool
    listed = lists_anywhere (pattern_of basis (focus.Entity region)) (symbol.Prop p)

    abbrev several : Bool
    several = is_multi (possible basis.schema.model region.atoms (symbol.Prop p))

    pub lost_so : IsTrue (is_lost basis region p) → IsLeftOut basis region p
    lost_so told =
        let lost : IsLost basis region p = lost_told basis region p told in
        record {
          of_type = lost.among;
          no_key = lost.no_key;
          several = other_of (is_nullable basis.schema.model p) (atom_at region.atoms p) lost.several.0 lost.several.1;
          unlisted = lost.unlisted;
        }

    pub lost_computed : IsLeftOut basis region p → IsTrue (is_lost basis region p)
    lost_computed so =
        let no_key : is_one_of p keys ≡ false = false_from_ne_true (is_one_of p keys) (λ told. so.no_key ((Decides-among keys p).0 told)) in
        let unlisted : listed ≡ false = false_from_ne_true listed (λ told.
        let at = somewhere (pattern_of basis (focus.Entity region)) (symbol.Prop p) told in so.unlisted at.0 at.1 at.2) in
        and_from ((is_one_of p props && not (is_one_of p keys)) && several) (not listed)
        (and_from (is_one_of p props && not (is_one_of p keys)) several
        (and_from (is_one_of p props) (not (is_one_of p keys)) ((Decides-among props p).1 so.of_type) (not_from_false (is_one_of p keys) no_key))
        (several_of (is_nullable basis.schema.model p) (atom_at region.atoms p) so.several))
        (not_from_false listed unlisted)
