-- Whether a fragment selects an entity is decided by the region that holds it.
use Rattle.std.proofs.Common.{◌≡◌, ⊎_elim, inl, inr, List, [], ◌∷◌, map, find, All, Any, Contains, Option, Some, None, option_map, Bool, true, false, true≢false, ◌==◌, ◌&&◌, Decides, MatchBool, IsTrue, if◌then◌else◌, refl, sym, ap, subst, ◌∙◌}
use Rattle.std.specs.List.{list_all, list_any}
use Rattle.std.specs.Option.{option_map_or}
use Rattle.std.proofs.lemmas.Bool.{cond_both}
use Rattle.std.proofs.lemmas.Bool.Decides.{Decides-and, Decides-at, Decides-eqb, Decides-like, not_from_Decides}
use Rattle.std.proofs.lemmas.List.Elements.{All-cons, All-contains, All-head, All-nil, All-tail}
use Rattle.std.proofs.lemmas.Option.{slice_get_within}
use Rattle.emc_base.proofs.Mapped.{contains_filter, contains_map}
use Rattle.emc_base.proofs.Numbered.{filter_contains}
use Rattle.round_trip.specs.Words.{SetId, TypeId, PropId, Value, Null, Fragment, Pick, Cond, CondOn, Test, Entity, Hosted, IsA, IsPicked, MetByEntity, Passes, Selects, key_props, props_of, value_beside, value_of}
use Rattle.edm_types.specs.declared.mapping.CondOn.TheVariants as on
use Rattle.edm_types.specs.declared.mapping.Test.TheVariants.{IsNull, Equals}
use Rattle.round_trip.specs.soundness.mappings.Joined.{IsNoKey, member_of, prop, same}
use Rattle.round_trip.specs.soundness.Lookups.{IsUnderElement, set_key}
use Rattle.round_trip.specs.soundness.mappings.Mappings.{IsSoundFragment}
use Rattle.member_groups.specs.Tested.{HasCondition}
use Rattle.condition_logic.specs.declared.atoms.Atom.{Atom}
use Rattle.condition_logic.specs.declared.atoms.Atom.TheVariants as atom
use Rattle.condition_logic.specs.declared.atoms.AtomOf.{AtomOf}
use Rattle.schema_laws.specs.state_demand.Selecting.{is_picked, passes}
use Rattle.schema_laws.proofs.short_values.Places.{Decides-among}
use Rattle.schema_laws.proofs.state_demand.lists.Lists.{Decides-any, any_of, head_stands, member_cases, none_in_nil, of_any, tail_stands}
use Rattle.schema_laws.proofs.state_demand.writings.Selecting.{Decides-passes}
use Rattle.schema_laws.proofs.sound_demand.Fitting.{sound_fragment}
use Rattle.schema_laws.proofs.sound_demand.Keys.{inherits_keys}
use Rattle.schema_laws.proofs.sound_demand.owners.Pairing.{key_of_set}
use Rattle.regions.specs.declared.region.Region.{Region}
use Rattle.regions.specs.Atoms.{LiesIn}
use Rattle.regions.specs.Basis.{Basis}
use Rattle.regions.specs.Regions.{Holds, model_of, tested_props}
use Rattle.regions.specs.Symbols.{atom_passes, met_by_atoms, selects_region}
use Rattle.regions.specs.region_laws.IsBasis.{IsBasis}
use Rattle.regions.specs.region_laws.RegionAt.{atom_in, region_at}
use Rattle.schema_laws.proofs.sound_types.Inherited.{declared_above}
use Rattle.regions.proofs.region_laws.entities.Regions.{region_only}
use Rattle.regions.specs.region_laws.Held.{Holding}
use Rattle.schema_laws.proofs.state_demand.lists.Ids.{Decides-prop}

-- a test that is looked at only where another passes
Decides-then : {P Q : Type 0} (x y : Bool) → Decides x P → (P → Decides y Q) → Decides (x && y) (P × Q)
Decides-then true y d k = let p = d.0 refl in (λ told. (p, (k p).0 told), λ both. (k both.0).1 both.1)
Decides-then false y d k = (λ told. absurd (true≢false (sym told)), λ both. d.1 both.0)

-- a test of all members
Decides-members : {X : Type 0} (p : X → Bool) (P : X → Type 0) (xs : List X) → ((x : X) → Contains xs x → Decides (p x) (P x)) → Decides (list_all p xs) (All P xs)
Decides-members p P [] each = (λ told. All-nil P, λ all. refl)
Decides-members p P (x ∷ xs) each = Decides-like (p x && list_all p xs)
    (λ (both : P x × All P xs). All-cons P x xs both.0 both.1)
    (λ all. (All-head P x xs all, All-tail P x xs all))
    (Decides-and (p x) (list_all p xs) (each x (head_stands x xs)) (Decides-members p P xs (λ y has. each y (tail_stands x xs y has))))

-- a property that isn't among these has null beside it
null_beside : (p : PropId) (props : List PropId) (values : List Value) → ¬ Contains props p → value_beside p props values ≡ Null
null_beside p [] values none = refl
null_beside p (q ∷ props) [] none = refl
null_beside p (q ∷ props) (value ∷ values) none =
    let P : Value → Type 0 = λ v. v ≡ Null in
    cond_both (q.index == p.index) value (value_beside p props values) P
    (λ told. absurd (none (subst (Contains (q ∷ props)) ((Decides-prop q p).0 told) (head_stands q props))))
    (λ told. null_beside p props values (λ has. none (tail_stands q props p has)))

-- what is made of a property is found by the property
found_by : (f : PropId → AtomOf) → ((q : PropId) → (f q).prop ≡ q) → (props : List PropId) (p : PropId) → Contains props p
    → find (λ (told : AtomOf). told.prop.index == p.index) (map f props) ≡ Some (f p)
found_by f named [] p has = absurd (none_in_nil p has)
found_by f named (q ∷ props) p has =
    let P : Option AtomOf → Type 0 = λ found. found ≡ Some (f p) in
    cond_both ((f q).prop.index == p.index) (Some (f q)) (find (λ (told : AtomOf). told.prop.index == p.index) (map f props)) P
    (λ told. ap (λ one. Some (f one)) (sym (named q) ∙ (Decides-prop (f q).prop p).0 told))
    (λ told. ⊎_elim
    (λ (here : p ≡ q). absurd (not_from_Decides ((f q).prop.index == p.index) (Decides-prop (f q).prop p) told (named q ∙ sym here)))
    (λ (later : Contains props p). found_by f named props p later)
    (member_cases q props p has))

lost_by : (f : PropId → AtomOf) → ((q : PropId) → (f q).prop ≡ q) → (props : List PropId) (p : PropId) → ¬ Contains props p
    → find (λ (told : AtomOf). told.prop.index == p.index) (map f props) ≡ None
lost_by f named [] p none = refl
lost_by f named (q ∷ props) p none =
    let P : Option AtomOf → Type 0 = λ found. found ≡ None in
    cond_both ((f q).prop.index == p.index) (Some (f q)) (find (λ (told : AtomOf). told.prop.index == p.index) (map f props)) P
    (λ told. absurd (none (subst (Contains (q ∷ props)) (sym (named q) ∙ (Decides-prop (f q).prop p).0 told) (head_stands q props))))
    (λ told. lost_by f named props p (λ has. none (tail_stands q props p has)))

-- an atom passes a test, with whose constants it is told, as the values do that lie in it
Decides-by_atom : (constants : List Value) (test : Test) (a : Atom) (value : Value) → ((constant : Value) → test ≡ Equals constant → Contains constants constant)
    → LiesIn constants a value → Decides (atom_passes test a) (Passes test value)
Decides-by_atom constants test atom.Null value among lies = let P : Value → Type 0 = λ v. Decides (passes test Null) (Passes test v) in subst P (sym lies)
    (Decides-passes test Null)
Decides-by_atom constants test (atom.Is one) value among lies = let P : Value → Type 0 = λ v. Decides (passes test one) (Passes test v) in subst P (sym lies)
    (Decides-passes test one)
Decides-by_atom constants (IsNull true) atom.Other value among lies = (λ told. absurd (true≢false (sym told)), λ null. absurd (lies.0 null))
Decides-by_atom constants (IsNull false) atom.Other value among lies = (λ told. lies.0, λ some. refl)
Decides-by_atom constants (Equals constant) atom.Other value among lies = (
  (λ told. absurd (true≢false (sym told))),
  (λ is. absurd (lies.1 (subst (Contains constants) (sym is.0) (among constant refl)))),
)

module _ (basis : Basis) (is : IsBasis basis) (fragment : Fragment) (mapped : Contains basis.schema.mapping.fragments fragment) where
  sound : IsSoundFragment basis.schema fragment
  sound = sound_fragment basis.schema is.sound fragment mapped

  -- a condition on a property, in a fragment that picks a type
  module _ (cond : Cond) (asked : Contains fragment.conds cond) (p : PropId) (is_on : cond.on ≡ on.Prop p) (pick : Pick) (picked : Contains fragment.picks pick) where
    of_pick : Contains (props_of (model_of basis) pick.ty) p
    of_pick = All-contains (λ (one : Pick). Contains (props_of (model_of basis) one.ty) p) fragment.picks pick
        (sound.props p (inr (any_of (λ (one : Cond). one.on ≡ on.Prop p) fragment.conds cond asked is_on))) picked

    no_key : IsNoKey basis.schema (prop p)
    no_key =
        let declared = declared_above (model_of basis) is.sound.model p pick.ty of_pick in
        let under = All-contains (λ (one : Pick). IsUnderElement (model_of basis) fragment.set one.ty) fragment.picks pick sound.picks picked in
        let keys = (inherits_keys (model_of basis) is.sound.model).same in
        let key : key_props (model_of basis) declared.0.owner ≡ set_key (model_of basis) fragment.set =
        sym (keys pick.ty declared.0.owner declared.2) ∙ keys pick.ty under.0.element under.2 ∙ sym (key_of_set basis.schema is.sound fragment.set under.0 under.1) in (
          declared.0,
          declared.1,
          λ has. sound.no_key_prop p (any_of (λ (one : Cond). one.on ≡ on.Prop p) fragment.conds cond asked is_on) (subst
              (λ props. Contains props p) key has),
        )

    condition : HasCondition basis.schema fragment.table cond
    condition = inl (fragment, mapped, refl, asked)

    pub is_tested : IsTrue (basis.tested (prop p))
    is_tested = (is.tested (prop p) (slice_get_within (model_of basis).props p.index no_key.0 no_key.1)).1
        (prop p, same (prop p) no_key, inl (fragment.table, cond, condition, ap (member_of fragment.table) is_on))

    pub is_constant : (constant : Value) → cond.test ≡ Equals constant → Contains (basis.constants (prop p)) constant
    is_constant constant test = ((is.constants (prop p) (slice_get_within (model_of basis).props p.index no_key.0 no_key.1)).each constant).1
        (inl (prop p, same (prop p) no_key, (fragment.table, cond, condition, ap (member_of fragment.table) is_on, test)))

  Decides-picked : (t : TypeId) (pick : Pick) → Decides (is_picked basis.is_a t pick) (IsPicked (model_of basis) t pick)
  Decides-picked t pick = by pick.below
    where
      by : (below : Bool) → Decides (if below then basis.is_a t pick.ty else (t.index == pick.ty.index)) (MatchBool below (IsA (model_of basis) t pick.ty) (t ≡ pick.ty))
      by true = is.types.tells t pick.ty
      by false = Decides-like (t.index == pick.ty.index) (λ same i. record { index = same i }) (λ same. ap (λ (u : TypeId). u.index) same) (Decides-eqb t.index pick.ty.index)

  module _ (s : SetId) (entity : Entity) (links : List Hosted) (holds : Holds basis (region_at basis s entity links) entity links) where
    abbrev the_region : Region
    the_region = region_at basis s entity links

    -- a property of the type that is asked has an atom that tells the test's answer
    by_found : (p : PropId) (test : Test) → Contains (tested_props basis entity.ty) p → ((constant : Value) → test ≡ Equals constant
        → Contains (basis.constants (prop p)) constant)
        → Decides (met_by_atoms the_region.atoms (on.Prop p) test) (Passes test (value_of (model_of basis) entity p))
    by_found p test has among =
        let found = found_by (atom_in basis entity) (λ q. refl) (tested_props basis entity.ty) p has in
        let met : met_by_atoms the_region.atoms (on.Prop p) test ≡ atom_passes test (atom_in basis entity p).atom =
        ap (λ one. option_map_or (atom_passes test) (option_map (λ (told : AtomOf). told.atom) one) (passes test Null)) found in
        let Lies : AtomOf → Type 0 = λ told. LiesIn (basis.constants (prop told.prop)) told.atom (value_of (model_of basis) entity told.prop) in
        let lies = All-contains Lies the_region.atoms (atom_in basis entity p) holds.atoms (contains_map (atom_in basis entity) (tested_props basis entity.ty) p has) in
        Decides-at (met_by_atoms the_region.atoms (on.Prop p) test) (atom_passes test (atom_in basis entity p).atom) met
        (Decides-by_atom (basis.constants (prop p)) test (atom_in basis entity p).atom (value_of (model_of basis) entity p) among lies)

    -- one that the type hasn't counts as null
    by_lost : (p : PropId) (test : Test) → ¬ Contains (props_of (model_of basis) entity.ty) p
        → Decides (met_by_atoms the_region.atoms (on.Prop p) test) (Passes test (value_of (model_of basis) entity p))
    by_lost p test none =
        let lost = lost_by (atom_in basis entity) (λ q. refl) (tested_props basis entity.ty) p
        (λ has. none (filter_contains (λ (q : PropId). basis.tested (prop q)) (props_of (model_of basis) entity.ty) p has).0) in
        let met : met_by_atoms the_region.atoms (on.Prop p) test ≡ passes test Null =
        ap (λ one. option_map_or (atom_passes test) (option_map (λ (told : AtomOf). told.atom) one) (passes test Null)) lost in
        let null : value_of (model_of basis) entity p ≡ Null = null_beside p (props_of (model_of basis) entity.ty) entity.values none in
        let P : Value → Type 0 = λ v. Decides (passes test Null) (Passes test v) in
        Decides-at (met_by_atoms the_region.atoms (on.Prop p) test) (passes test Null) met (subst P (sym null) (Decides-passes test Null))

    met : (pick : Pick) → Contains fragment.picks pick → (cond : Cond) → Contains fragment.conds cond
        → Decides (met_by_atoms the_region.atoms cond.on cond.test) (MetByEntity (model_of basis) entity cond.on cond.test)
    met pick picked cond asked = by cond.on refl
      where
        by : (what : CondOn) → cond.on ≡ what → Decides (met_by_atoms the_region.atoms what cond.test) (MetByEntity (model_of basis) entity what cond.test)
        by (on.Col col) is_on = (λ told. tt, λ met. refl)
        by (on.Prop p) is_on = go (list_any (λ q. q.index == p.index) (props_of (model_of basis) entity.ty)) (Decides-among (props_of (model_of basis) entity.ty) p)
          where
            go : (b : Bool) → Decides b (Contains (props_of (model_of basis) entity.ty) p)
                → Decides (met_by_atoms the_region.atoms (on.Prop p) cond.test) (Passes cond.test (value_of (model_of basis) entity p))
            go true decides = by_found p cond.test
                (contains_filter (λ (q : PropId). basis.tested (prop q)) (props_of (model_of basis) entity.ty) p (decides.0 refl) (is_tested cond asked p is_on pick picked))
                (is_constant cond asked p is_on pick picked)
            go false decides = by_lost p cond.test (not_from_Decides false decides refl)

    Decides-held : Decides (selects_region basis the_region fragment) (Selects (model_of basis) fragment entity)
    Decides-held =
        let Picked : Type 0 = Any (IsPicked (model_of basis) entity.ty) fragment.picks in
        let Meets : Type 0 = All (λ (cond : Cond). MetByEntity (model_of basis) entity cond.on cond.test) fragment.conds in
        let picked : Bool = list_any (is_picked basis.is_a entity.ty) fragment.picks in
        let meets : Bool = list_all (λ (cond : Cond). met_by_atoms the_region.atoms cond.on cond.test) fragment.conds in
        Decides-like (picked && meets) (λ (both : Picked × Meets). record { picked = both.0; meets = both.1 }) (λ selected. (selected.picked, selected.meets))
        (Decides-then picked meets (Decides-any (is_picked basis.is_a entity.ty) (IsPicked (model_of basis) entity.ty) (Decides-picked entity.ty) fragment.picks)
        (λ any.
        let pick = of_any (IsPicked (model_of basis) entity.ty) fragment.picks any in
        Decides-members (λ (cond : Cond). met_by_atoms the_region.atoms cond.on cond.test) (λ (cond : Cond). MetByEntity (model_of basis) entity cond.on cond.test)
        fragment.conds (met pick.0 pick.1)))

  pub Decides-selected : (held : Holding basis) → Decides (selects_region basis held.region fragment) (Selects (model_of basis) fragment held.entity)
  Decides-selected held =
      let is_at : held.region ≡ region_at basis held.s held.entity held.links = region_only basis is held in
      let Held : Region → Type 0 = λ one. Holds basis one held.entity held.links in
      let P : Region → Type 0 = λ one. Decides (selects_region basis one fragment) (Selects (model_of basis) fragment held.entity) in
      subst P (sym is_at) (Decides-held held.s held.entity held.links (subst Held is_at held.holds))
