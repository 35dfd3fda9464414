-- Which values of an admissible valuation may be changed, and that they may be changed together.
use Rattle.std.proofs.Common.{◌≡◌, ◌≢◌, ◌⊎◌, ℕ, inl, inr, ◌==◌, List, unwrap_or, Contains, Option, Some, None, Bool, true, false, if◌then◌else◌, refl, sym, ap, subst, ◌∙◌, arith}
use Rattle.std.specs.Option.{option_map_or}
use Rattle.std.proofs.lemmas.Bool.{cond-true, cond_both}
use Rattle.std.proofs.lemmas.List.Elements.{All-contains}
use Rattle.std.proofs.lemmas.Option.{same_Some}
use Rattle.emc_base.proofs.Lists.{all_from_members, at_once}
use Rattle.round_trip.specs.Words.{PropId, Value, Null, Prop, At, InDomain, key_props}
use Rattle.round_trip.specs.soundness.mappings.Joined.{IsDependent, prop}
use Rattle.condition_logic.specs.declared.atoms.Atom.{Atom}
use Rattle.condition_logic.specs.declared.atoms.Atom.TheVariants as atom
use Rattle.condition_logic.specs.declared.atoms.AtomOf.{AtomOf}
use Rattle.member_groups.specs.Tested.{AreInOneGroup}
use Rattle.schema_laws.proofs.state_demand.lists.Lists.{none_in_nil}
use Rattle.cells.specs.Limits.{IsWithinLimits}
use Rattle.regions.specs.declared.region.Region.{Region}
use Rattle.regions.specs.Atoms.{Allows, LiesIn, atom_at}
use Rattle.regions.specs.Basis.{Basis}
use Rattle.regions.specs.Patterns.{Valuation}
use Rattle.regions.specs.Settled.{Possible, is_nullable, multi, of_atom, single}
use Rattle.regions.specs.region_laws.IsBasis.{IsBasis}
use Rattle.regions.proofs.region_laws.values.Atoms.{not_null}
use Rattle.regions.specs.region_laws.pattern.Allowed.{RegionValues}
use Rattle.schema_laws.proofs.state_demand.lists.Ids.{Decides-prop}
use Rattle.schema_laws.specs.short_values.Short.{IsOfSort, IsShort}
use Rattle.region_states.specs.defaults.Candidates.{AreTwoFree, first_free, next_free}
use Rattle.schema_laws.specs.short_values.Fresh.{focus_key, fresh, lost, lost_value, fresh_at}
use Rattle.region_states.specs.defaults.Defaults.{alone, changed, one_value, other_value}
use Rattle.schema_laws.specs.short_values.Places.{is_dependent, place_in}
use Rattle.region_states.specs.defaults.Admissible.{AreChoices, AreTwoChoices, DifferAt, HasNumberedKey, IsAdmissible, IsApart, IsChoice, SeveralOf}
use Rattle.region_states.proofs.defaults.groups.Constants.{dependent_none, joined_none}
use Rattle.region_states.proofs.defaults.Defaults.{IsSome, either_some, is_open, lies_open, open_two}
use Rattle.region_states.proofs.defaults.Fitting.{joined_takes}
use Rattle.schema_laws.proofs.short_values.Fitting.{dependent_takes}
use Rattle.region_states.proofs.defaults.Listed.{told_found}
use Rattle.schema_laws.proofs.short_values.Short.{fresh_same}
use Rattle.schema_laws.proofs.short_values.Uses.{index_below}

abbrev is_single : Possible → Bool
is_single (single value) = true
is_single (multi nullable) = false

abbrev may_be_null : Possible → Bool
may_be_null (single value) = false
may_be_null (multi nullable) = nullable

module _ (p : PropId) (v d : Value) where
  -- what is told of the property, and of the others
  alone_here : unwrap_or (alone p v p) d ≡ v
  alone_here = ap (λ found. unwrap_or found d) (cond-true (p.index == p.index) (Some v) None ((Decides-prop p p).1 refl))

  alone_there : (q : PropId) → q ≢ p → unwrap_or (alone p v q) d ≡ d
  alone_there q different =
      let P : Option Value → Type 0 = λ found. unwrap_or found d ≡ d in
      cond_both (q.index == p.index) (Some v) None P (λ told. absurd (different ((Decides-prop q p).0 told))) (λ told. refl)

alone_is : (p q : PropId) (v w : Value) → alone p v q ≡ Some w → (q ≡ p) × (v ≡ w)
alone_is p q v w =
    let P : Option Value → Type 0 = λ found. found ≡ Some w → (q ≡ p) × (v ≡ w) in
    cond_both (q.index == p.index) (Some v) None P
    (λ told same. ((Decides-prop q p).0 told, same_Some v w same))
    (λ told same. absurd (let never : None ≡ Some w = same in cc))

-- choices change no part of a key, and so a numbered key stays as it is
pub changed_key : (basis : Basis) (outer : ℕ) (region : Region) (values : Valuation) → HasNumberedKey basis outer region values → (changes : PropId → Option Value)
    → AreChoices basis region changes → HasNumberedKey basis outer region (changed values changes)
changed_key basis outer region values numbered changes choices p key = by (changes p) refl
  where
    by : (found : Option Value) → changes p ≡ found
        → unwrap_or found (values.prop p) ≡ fresh_at basis.schema.model outer p (focus_key (place_in p (key_props basis.schema.model region.ty)))
    by None none = numbered p key
    by (Some v) at = absurd ((choices p v at).no_key key)

module _ (basis : Basis) (is : IsBasis basis) (outer : ℕ) (at : RegionValues basis) (admissible : IsAdmissible basis outer at.region at.values) where
  module _ (changes : PropId → Option Value) (choices : AreChoices basis at.region changes) where
    -- what holds of each old value and of each choice holds of each value
    each : (p : PropId) (P : Value → Type 0) → P (at.values.prop p) → ((v : Value) → IsChoice basis at.region p v → P v) → P (unwrap_or (changes p) (at.values.prop p))
    each p P old new = by (changes p) refl
      where
        by : (found : Option Value) → changes p ≡ found → P (unwrap_or found (at.values.prop p))
        by None none = old
        by (Some v) told = new v (choices p v told)

    pub changed_admissible : IsAdmissible basis outer at.region (changed at.values changes)
    changed_admissible = record {
      allowed = record {
        atoms = all_from_members (λ (told : AtomOf). LiesIn (basis.constants (prop told.prop)) told.atom (unwrap_or (changes told.prop) (at.values.prop told.prop))) at.region.atoms
            (λ told there. each told.prop (LiesIn (basis.constants (prop told.prop)) told.atom)
            (let Lies : AtomOf → Type 0 = λ one. LiesIn (basis.constants (prop one.prop)) one.atom (at.values.prop one.prop) in
            All-contains Lies at.region.atoms told admissible.allowed.atoms there)
            (λ v choice. choice.atom told.atom (told_found basis is at.s at.region at.listed told there)));
        props = λ p declared among here. each p (Allows declared) (admissible.allowed.props p declared among here) (λ v choice. choice.allowed declared here);
        parts = admissible.allowed.parts;
      };
      keys = λ p key. each p (IsApart outer) (admissible.keys p key) (λ v choice. absurd (choice.no_key key));
      partners = admissible.partners;
      dependent = λ p among by. each p (λ v. v ≢ Null → IsShort v) (admissible.dependent p among by) (λ v choice. choice.dependent by);
    }

  module _ (p : PropId) where
    alone_choices : (v : Value) → IsChoice basis at.region p v → AreChoices basis at.region (alone p v)
    alone_choices v choice q w told =
        let same = alone_is p q v w told in
        subst (λ r. IsChoice basis at.region r w) (sym same.0) (subst (IsChoice basis at.region p) same.1 choice)

    alone_admissible : (v : Value) → IsChoice basis at.region p v → IsAdmissible basis outer at.region (changed at.values (alone p v))
    alone_admissible v choice = changed_admissible (alone p v) (alone_choices v choice)

    -- two choices of one property alone
    pub differ_at : (one two : Value) → AreTwoChoices basis at.region p one two
        → IsAdmissible basis outer at.region (changed at.values (alone p one)) × IsAdmissible basis outer at.region (changed at.values (alone p two))
        × DifferAt at.values (changed at.values (alone p one)) (changed at.values (alone p two)) p
    differ_at one two choices = (
      alone_admissible one choices.one_choice,
      alone_admissible two choices.two_choice,
      record {
        one_others = λ q different. alone_there p one (at.values.prop q) q different;
        two_others = λ q different. alone_there p two (at.values.prop q) q different;
        one_parts = refl;
        two_parts = refl;
        one_there = λ null. choices.one_there (sym (alone_here p one (at.values.prop p)) ∙ null);
        two_there = λ null. choices.two_there (sym (alone_here p two (at.values.prop p)) ∙ null);
        different = λ same. choices.different (sym (alone_here p one (at.values.prop p)) ∙ same ∙ alone_here p two (at.values.prop p));
      },
    )

module _ (basis : Basis) (is : IsBasis basis) (of : SeveralOf basis) where
  abbrev constants : List Value
  constants = basis.constants (prop of.p)

  -- a property that may have several values is told no atom, or the last
  open_atom : (atom_at of.region.atoms of.p ≡ None) ⊎ (atom_at of.region.atoms of.p ≡ Some atom.Other)
  open_atom = by (atom_at of.region.atoms of.p) refl of.several.several
    where
      by : (found : Option Atom) → atom_at of.region.atoms of.p ≡ found → option_map_or of_atom found (multi (is_nullable basis.schema.model of.p)) ≡ multi of.nullable
          → (atom_at of.region.atoms of.p ≡ None) ⊎ (atom_at of.region.atoms of.p ≡ Some atom.Other)
      by None at same = inl at
      by (Some atom.Null) at same = absurd (let never : true ≡ false = ap is_single same in cc)
      by (Some (atom.Is one)) at same = absurd (let never : true ≡ false = ap is_single same in cc)
      by (Some atom.Other) at same = inr at

  -- each declaration of it is this one
  allows : (v : Value) → Allows of.declared v → (other : Prop) → At basis.schema.model.props of.p.index other → Allows other v
  allows v allowed other at =
      let same : of.declared ≡ other = at_once basis.schema.model.props of.p.index of.declared other of.several.is_declared at in
      let P : Prop → Type 0 = λ one. Allows one v in
      subst P same allowed

  chosen : (v : Value) → IsSome basis is of.p of.declared v → IsChoice basis of.region of.p v
  chosen v some = record {
    among = of.several.among;
    no_key = of.several.no_key;
    atom = lies_open basis is of.region of.p of.declared (is_open basis is of.region of.p open_atom) v some;
    allowed = allows v (inr some.fits);
    dependent = λ by there. some.short by;
  }

  -- a value that isn't null and no constant, and short where it is to be
  pub free_choice : (v : Value) → InDomain v of.declared.kind → ¬ Contains constants v → (IsDependent basis.schema.model of.p → IsShort v) → IsChoice basis of.region of.p v
  free_choice v fits free short = chosen v (record { fits = fits; free = free; short = short })

  -- a short value, where it or a property joined to it is dependent
  pub short_choice : (q : PropId) → IsDependent basis.schema.model q → AreInOneGroup basis.schema (prop q) (prop of.p)
      → (v : Value) → IsShort v → IsOfSort of.declared.kind v → IsChoice basis of.region of.p v
  short_choice q dependent (inl same) v short sort =
      let is_p : q ≡ of.p = cc in
      let by : IsDependent basis.schema.model of.p = subst (IsDependent basis.schema.model) is_p dependent in
      free_choice v (dependent_takes basis.schema.model is.sound.model of.p by of.declared of.several.is_declared v short sort)
      (λ has. none_in_nil v (subst (λ list. Contains list v) (dependent_none basis is of.p of.declared of.several.is_declared by) has)) (λ any. short)
  short_choice q dependent (inr joins) v short sort =
      free_choice v (joined_takes basis is q of.p dependent joins of.declared of.several.is_declared v short sort)
      (λ has. none_in_nil v (subst (λ list. Contains list v) (joined_none basis is of.p of.declared of.several.is_declared q dependent joins) has)) (λ any. short)

  -- null, where it is among the values
  pub null_choice : of.nullable ≡ true → IsChoice basis of.region of.p Null
  null_choice is_true = record {
    among = of.several.among;
    no_key = of.several.no_key;
    atom = λ a at. absurd (let never : None ≡ Some a = sym nothing.0 ∙ at in cc);
    allowed = allows Null (inl (refl, nothing.1));
    dependent = λ by there. absurd (there refl);
  }
    where
      by : (found : Option Atom) → atom_at of.region.atoms of.p ≡ found → option_map_or of_atom found (multi (is_nullable basis.schema.model of.p)) ≡ multi of.nullable
          → (atom_at of.region.atoms of.p ≡ None) × (of.declared.nullable ≡ true)
      by None at same =
          let is_null : is_nullable basis.schema.model of.p ≡ of.declared.nullable = ap (λ found. option_map_or (λ (one : Prop). one.nullable) found false) of.several.is_declared in
          (at, sym is_null ∙ ap may_be_null same ∙ is_true)
      by (Some atom.Null) at same = absurd (let never : true ≡ false = ap is_single same in cc)
      by (Some (atom.Is one)) at same = absurd (let never : true ≡ false = ap is_single same in cc)
      by (Some atom.Other) at same = absurd (let never : false ≡ true = ap may_be_null same ∙ is_true in cc)

      nothing : (atom_at of.region.atoms of.p ≡ None) × (of.declared.nullable ≡ true)
      nothing = by (atom_at of.region.atoms of.p) refl of.several.several

  two_differ : AreTwoFree of.declared.kind constants (first_free of.declared.kind constants) (next_free of.declared.kind constants)
      → one_value basis of.p of.declared ≢ other_value basis of.p of.declared
  two_differ two =
      let b : Bool = is_dependent basis.schema.model of.p in
      let one : Value = fresh of.declared.kind 0 (lost_value 0) in
      let other_ : Value = fresh of.declared.kind 0 (lost_value 1) in
      by b one other_ (λ same. let index = (fresh_same of.declared.kind 0 0 (lost_value 0) (lost_value 1) (omega arith) (omega arith) same).1 in absurd (omega (arith, index)))
    where
      by : (b : Bool) (one other_ : Value) → one ≢ other_
          → (if b then one else first_free of.declared.kind constants) ≢ (if b then other_ else next_free of.declared.kind constants)
      by true one other_ different = different
      by false one other_ different = two.different

  -- two values that differ
  pub two_choices : IsWithinLimits basis.schema → AreTwoChoices basis of.region of.p (one_value basis of.p of.declared) (other_value basis of.p of.declared)
  two_choices limits =
      let two : AreTwoFree of.declared.kind constants (first_free of.declared.kind constants) (next_free of.declared.kind constants) =
      open_two basis is limits of.s of.region of.listed of.p of.declared of.several.is_declared of.several.among of.several.no_key open_atom in
      let one : IsSome basis is of.p of.declared (one_value basis of.p of.declared) =
      either_some basis is of.p of.declared of.several.is_declared 0 (lost_value 0) (omega arith) (index_below (lost 0) (omega arith)) (first_free of.declared.kind constants) two.one_fits two.one_free in
      let other_ : IsSome basis is of.p of.declared (other_value basis of.p of.declared) =
      either_some basis is of.p of.declared of.several.is_declared 0 (lost_value 1) (omega arith) (index_below (lost 1) (omega arith)) (next_free of.declared.kind constants) two.two_fits two.two_free in
      record {
        one_choice = chosen (one_value basis of.p of.declared) one;
        two_choice = chosen (other_value basis of.p of.declared) other_;
        one_there = not_null of.declared.kind (one_value basis of.p of.declared) one.fits;
        two_there = not_null of.declared.kind (other_value basis of.p of.declared) other_.fits;
        different = two_differ two;
      }
