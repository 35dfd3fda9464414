-- The value of a property that stands alone in its cell, by what the cell faces.
use Rattle.std.proofs.Common.{◌≡◌, ⊎_elim, inl, inr, List, [], ◌∷◌, unwrap_or, Contains, Some, None, Bool, true, false, sym, ap, subst, ◌∙◌}
use Rattle.std.proofs.lemmas.Bool.{and_parts, cases_Bool}
use Rattle.emc_base.proofs.Lists.{at_once, only_stands}
use Rattle.round_trip.specs.Words.{SetId, PropId, TableId, ColId, Value, Null, Kind, EntityModel, Pair, Prop, At, key_props}
use Rattle.round_trip.specs.soundness.models.Inheritance.{IsKeyProp}
use Rattle.round_trip.specs.soundness.mappings.Joined.{IsNoKey, Joined, col, prop}
use Rattle.round_trip.specs.soundness.mappings.Joined as joined
use Rattle.round_trip.specs.soundness.Kinds.{IsEnum}
use Rattle.condition_logic.specs.declared.atoms.Atom.TheVariants as atom
use Rattle.member_groups.specs.Tested.{IsTested}
use Rattle.schema_laws.specs.state_demand.Owners.{IsOwned}
use Rattle.schema_laws.specs.state_demand.Selecting.{same_value}
use Rattle.schema_laws.proofs.state_demand.writings.Selecting.{Decides-value}
use Rattle.cells.specs.Limits.{IsWithinLimits}
use Rattle.regions.specs.declared.region.Region.{Region}
use Rattle.regions.specs.declared.pattern.Symbol.{Symbol}
use Rattle.regions.specs.declared.pattern.Symbol.TheVariants as symbol
use Rattle.regions.specs.declared.pattern.Focus.TheVariants as focus
use Rattle.regions.specs.Atoms.{atom_at}
use Rattle.regions.specs.Basis.{Basis}
use Rattle.regions.specs.Patterns.{Valuation, pattern_of, value_under}
use Rattle.regions.specs.Settled.{Settled, free, known, multi, possible, settle}
use Rattle.regions.specs.region_laws.IsBasis.{IsBasis}
use Rattle.regions.specs.region_laws.pattern.Described.{value_in}
use Rattle.regions.specs.region_laws.pattern.Listed.{HasCell}
use Rattle.regions.proofs.region_laws.pattern.types.Groups.{told_tested}
use Rattle.regions.proofs.region_laws.pattern.Keys.{key_cell}
use Rattle.regions.proofs.region_laws.pattern.Laws.{listed_from, untested_once}
use Rattle.regions.proofs.region_laws.pattern.values.Possible.{null_of_nullable}
use Rattle.regions.proofs.region_laws.pattern.types.Regions.{atom_there}
use Rattle.regions.proofs.region_laws.pattern.symbols.Standing.{StandsFree, listed_prop}
use Rattle.schema_laws.proofs.sound_types.Inherited.{key_is_part, key_prop}
use Rattle.region_states.specs.defaults.Defaults.{changed, default_valuation, default_value}
use Rattle.region_states.specs.defaults.Admissible.{IsAdmissible}
use Rattle.region_states.proofs.defaults.Candidates.{IsPlainKind}
use Rattle.region_states.proofs.defaults.Listed.{IsTold, found_told, lost_untested}
use Rattle.region_states.proofs.defaults.Valued.{atom_tells}
use Rattle.region_states.specs.conflicts.Facts.{listed_in}
use Rattle.region_states.specs.conflicts.SameFacts.{are_compatible}
use Rattle.conflict_laws.specs.rival.Alike.{AreComparable}
use Rattle.conflict_laws.specs.rival.RivalValues.{faces_null, rival_value, shared_value}
use Rattle.conflict_laws.proofs.rival.Atoms.{enum_is, no_atom, open_atom}
use Rattle.conflict_laws.proofs.rival.Clear.{free_value}
use Rattle.conflict_laws.proofs.rival.Reading.{FacesNull, faces_by, faces_nullable, faces_told}
use Rattle.conflict_laws.proofs.rival.Rivals.{IsRival, rival_admissible, rival_null, rival_shared}
use Rattle.conflict_laws.proofs.rival.Rows.{AreMatched, listed_is}

module _ (basis : Basis) (is : IsBasis basis) where
  abbrev model : EntityModel
  model = basis.schema.model

  -- what is no part of the key of the type that declares it is no part of that of another
  free_no_key : (region : Region) (p : PropId) → IsNoKey basis.schema (prop p) → ¬ Contains (key_props model region.ty) p
  free_no_key region p stands key =
      let part = key_is_part model is.sound.model p region.ty key in
      let P : Prop → Type 0 = λ declared. Contains (key_props model declared.owner) p in
      stands.2 (subst P (at_once model.props p.index part.0 stands.0 part.1 stands.1) part.2)

  -- nor is what may be null
  nullable_no_key : (region : Region) (p : PropId) (declared : Prop) → At model.props p.index declared → declared.nullable ≡ true
      → ¬ Contains (key_props model region.ty) p
  nullable_no_key region p declared here nullable key =
      let part : IsKeyProp model p = key_prop model is.sound.model p region.ty key in
      let same : declared ≡ part.declared = at_once model.props p.index declared part.declared here part.is_declared in
      let never : true ≡ false = sym nullable ∙ ap (λ (one : Prop). one.nullable) same ∙ part.needed in
      cc

  module _ (s : SetId) (one two region other : Region) (comparable : AreComparable basis s region other) (matched : AreMatched basis region other) where
    abbrev values : Valuation
    values = changed (default_valuation basis 0 region) (rival_value basis one two region other)

    module _ (t : TableId) (c : ColId) (cell cell_too : List Symbol) (has : HasCell (pattern_of basis (focus.Entity region)) t c cell)
        (has_too : HasCell (pattern_of basis (focus.Entity other)) t c cell_too) where
      -- a property that stands alone in its cell, with what the cell faces
      module _ (p : PropId) (n : Bool) (alone : cell ≡ symbol.Prop p ∷ []) (several : possible model region.atoms (symbol.Prop p) ≡ multi n) where
        listed : Contains cell (symbol.Prop p)
        listed = only_stands cell (symbol.Prop p) alone

        -- it is one whose value is changed
        rival : ¬ Contains (key_props model region.ty) p → IsRival basis region p n
        rival no_key = record { no_key = no_key; several = several; t = t; c = c; lists = (cell, has, listed) }

        -- where this is null for certain, so is the property
        pub null_value : settle model other.atoms cell_too ≡ known Null → (declared : Prop) → At model.props p.index declared → declared.nullable ≡ true → values.prop p ≡ Null
        null_value settled declared here nullable =
            let faces : FacesNull basis region other p = record {
              t = t;
              c = c;
              cell = cell;
              has = has;
              listed = listed;
              null = ap (settle model other.atoms) (listed_is basis other t c cell_too has_too) ∙ settled;
            } in
            ap (λ found. unwrap_or found (default_value basis 0 region p))
            (rival_null basis one two region other p n (rival (nullable_no_key region p declared here nullable)) (faces_by basis region other p faces))

        -- where it isn't, the property faces null nowhere
        faces_none : StandsFree basis t c p → (q : Symbol) (m : Bool) → settle model other.atoms cell_too ≡ free q m → faces_null basis region other p ≡ false
        faces_none stands q m settled = ⊎_elim
            (λ (told : faces_null basis region other p ≡ true).
            let faces : FacesNull basis region other p = faces_told basis region other p told in
            let null : n ≡ true = faces_nullable basis region other p is comparable.clear_one matched n several faces in
            let none : atom_at region.atoms p ≡ None = no_atom model region.atoms p (several ∙ ap multi null) in
            let among = listed_prop basis is s region comparable.is_one t c p (listed_from basis is (focus.Entity region) t c (symbol.Prop p) (cell, has, listed)) in
            let untested = lost_untested basis is s region comparable.is_one p among none in
            let here = untested_once basis is p
            (record { of = focus.Entity region; t = faces.t; col = faces.c; lists = (faces.cell, faces.has, faces.listed) })
            (record { of = focus.Entity region; t = t; col = c; lists = (cell, has, listed) }) (s, comparable.is_one) (s, comparable.is_one) stands.free_prop untested in
            let Holds : TableId → ColId → Type 0 = λ u d. settle model other.atoms (listed_in (pattern_of basis (focus.Entity other)) u d) ≡ known Null in
            let is_null : Holds t c = subst (Holds t) here.1 (subst (λ u. Holds u faces.c) here.0 faces.null) in
            let never : free q m ≡ known Null = sym settled ∙ ap (settle model other.atoms) (sym (listed_is basis other t c cell_too has_too)) ∙ is_null in
            cc)
            (λ (told : faces_null basis region other p ≡ false). told)
            (cases_Bool (faces_null basis region other p))

        -- and has the value of its group
        pub group_value : StandsFree basis t c p → (q : Symbol) (m : Bool) → settle model other.atoms cell_too ≡ free q m
            → (declared : Prop) → At model.props p.index declared → values.prop p ≡ shared_value basis one two p declared
        group_value stands q m settled declared here =
            ap (λ found. unwrap_or found (default_value basis 0 region p))
            (rival_shared basis one two region other p n (rival (free_no_key region p stands.free_prop)) (faces_none stands q m settled) declared here)

        -- it is of no enumeration, where another property is in its group
        pub no_enum : StandsFree basis t c p → (q : PropId) → ¬ (p ≡ q) → Joined basis.schema (prop p) (prop q) → (declared : Prop) → At model.props p.index declared
            → ¬ IsEnum declared.kind
        no_enum stands q different joins declared here enumeration =
            let of_enum = enum_is declared.kind enumeration in
            let tested : IsTested basis.schema (prop p) =
            (prop p, joined.same (prop p) stands.free_prop, inr (inr (inl (of_enum.0, q, (declared, here, of_enum.1), different, joins)))) in
            let among = listed_prop basis is s region comparable.is_one t c p (listed_from basis is (focus.Entity region) t c (symbol.Prop p) (cell, has, listed)) in
            let found = atom_there basis is s region comparable.is_one p among (told_tested basis is (prop p) stands.free_prop tested) in
            ⊎_elim
            (λ (none : atom_at region.atoms p ≡ None). let never : None ≡ Some found.0 = sym none ∙ found.1 in cc)
            (λ (last : atom_at region.atoms p ≡ Some atom.Other).
            let told : IsTold basis is s region comparable.is_one p atom.Other = found_told basis is s region comparable.is_one p atom.Other last in
            let plain : IsPlainKind told.declared.kind = atom_tells basis.fits is.domains (basis.constants (prop p)) told.declared atom.Other told.among in
            let same : told.declared ≡ declared = at_once model.props p.index told.declared declared told.is_declared here in
            let P : Kind → Type 0 = IsPlainKind in
            subst P (ap (λ (one_prop : Prop). one_prop.kind) same ∙ of_enum.1) plain)
            (open_atom model region.atoms p n several)

        -- the primary key's cell is that of the paired property
        pub key_pair : (pairing : List Pair) → IsOwned basis.schema t s pairing → (pair : Pair) → Contains pairing pair → pair.col ≡ c → p ≡ pair.prop
        key_pair pairing own pair paired at_col =
            let key : cell ≡ symbol.Prop pair.prop ∷ [] = key_cell basis is s region comparable.is_one (record { t = t; col = c; cell = cell; has = has }) pair
            (record { pairing = pairing; owned = own; paired = paired; at_col = at_col }) in
            let both : symbol.Prop p ∷ [] ≡ symbol.Prop pair.prop ∷ [] = sym alone ∙ key in
            cc

      -- the value of a symbol that faces what is known is the same
      pub faced : IsWithinLimits basis.schema → (v : Value) → settle model other.atoms cell_too ≡ known v → (one_symbol : Symbol) (n : Bool)
          → settle model region.atoms cell ≡ free one_symbol n → value_in values cell ≡ v
      faced limits v settled one_symbol n settled_here =
          let admissible : IsAdmissible basis 0 region values = rival_admissible basis is s one two limits region other comparable matched in
          let told = free_value basis region comparable.clear_one t c cell has is s comparable.is_one values admissible.allowed one_symbol n settled_here in
          let Compatible : Settled → Settled → Type 0 = λ first second. are_compatible first second ≡ true in
          let match : Compatible (free one_symbol n) (known v) =
          subst (Compatible (free one_symbol n)) settled (subst (λ first. Compatible first (settle model other.atoms cell_too)) settled_here
          (matched.cells t c cell cell_too has has_too)) in
          let both = and_parts (same_value v Null) n match in
          let null : v ≡ Null = (Decides-value v Null).0 both.0 in
          let several : possible model region.atoms one_symbol ≡ multi true = told.2 ∙ ap multi both.1 in
          let prop_is = null_of_nullable model region.atoms one_symbol several in
          let alone : cell ≡ symbol.Prop prop_is.0 ∷ [] = told.0 ∙ (λ k. prop_is.2 k ∷ []) in
          told.1 ∙ ap (value_under values) prop_is.2
          ∙ null_value prop_is.0 true alone (subst (λ one_of. possible model region.atoms one_of ≡ multi true) prop_is.2 several)
          (settled ∙ ap known null) prop_is.1 prop_is.3 prop_is.4
          ∙ sym null
