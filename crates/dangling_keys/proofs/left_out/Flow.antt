-- Symbols that stand for parts of keys have numbers of their own.
use Rattle.std.proofs.Common.{◌≡◌, ⊎_elim, inl, inr, ℕ, suc, ◌<◌, ◌≤◌, ◌==◌, List, [], ◌∷◌, length, slice_get, Contains, Bool, true, false, not, Option, Some, None, refl, sym, ap, subst, ◌∙◌, arith}
use Rattle.std.specs.Option.{option_map_or}
use Rattle.std.proofs.lemmas.Bool.{cond_both}
use Rattle.std.proofs.lemmas.Bool.Decides.{not_from_Decides}
use Rattle.std.proofs.lemmas.List.Elements.{All-contains}
use Rattle.std.proofs.lemmas.Option.{slice_get_within}
use Rattle.emc_base.proofs.Lists.{at_once}
use Rattle.emc_base.proofs.Mapped.{contains_at}
use Rattle.emc_base.proofs.Members.{contains_cons_cases, contains_nil}
use Rattle.round_trip.specs.Words.{AssocId, PropId, TypeId, Assoc, EntityModel, EntityType, At, key_props, props_of}
use Rattle.schema_laws.specs.short_values.Places.{place_in}
use Rattle.schema_laws.proofs.short_values.Places.{place_within}
use Rattle.schema_laws.proofs.sound_demand.Keys.{keys_few}
use Rattle.schema_laws.proofs.state_demand.lists.Ids.{Decides-prop}
use Rattle.cells.specs.Limits.{IsSmallModel, IsWithinLimits, most_props}
use Rattle.regions.specs.Basis.{Basis, Host}
use Rattle.regions.specs.declared.pattern.Focus.{Focus}
use Rattle.regions.specs.declared.pattern.Focus.TheVariants as focus
use Rattle.regions.specs.declared.pattern.Symbol.{Symbol}
use Rattle.regions.specs.declared.pattern.Symbol.TheVariants as symbol
use Rattle.regions.specs.declared.region.Region.{Region}
use Rattle.regions.specs.region_laws.IsBasis.{IsBasis}
use Rattle.regions.specs.region_laws.pattern.Allowed.{end_at}
use Rattle.regions.proofs.region_laws.entities.Flags.{one_host}
use Rattle.dangling_keys.specs.Flow.{IsFlow, IsLinkPart}

-- a property stands at its place, and so properties with one place are one
at_place : (p : PropId) (props : List PropId) → Contains props p → At props (place_in p props) p
at_place p [] has = absurd (contains_nil p has)
at_place p (q ∷ props) has =
    let P : ℕ → Type 0 = λ n. At (q ∷ props) n p in
    cond_both (q.index == p.index) 0 (suc (place_in p props)) P
    (λ told. ap Some ((Decides-prop q p).0 told))
    (λ told. ⊎_elim
    (λ (here : p ≡ q). absurd (not_from_Decides (q.index == p.index) (Decides-prop q p) told (sym here)))
    (λ (later : Contains props p). at_place p props later)
    (contains_cons_cases q props p has))

same_place : (p q : PropId) (props : List PropId) → Contains props p → Contains props q → place_in p props ≡ place_in q props → p ≡ q
same_place p q props has_p has_q same =
    let At_ : ℕ → Type 0 = λ n. At props n p in
    at_once props (place_in q props) p q (subst At_ same (at_place p props has_p)) (at_place q props has_q)

-- a type has few properties
props_few : (model : EntityModel) → IsSmallModel model → (t : TypeId) → length (props_of model t) ≤ 256
props_few model small t = by (slice_get model.types t.index) refl
  where
    by : (found : Option EntityType) → slice_get model.types t.index ≡ found → length (option_map_or (λ (one : EntityType). one.props) found []) ≤ 256
    by None here = omega arith
    by (Some type) here =
        let Few : EntityType → Type 0 = λ one. length one.props ≤ most_props in
        All-contains Few model.types type small.1 (contains_at model.types t.index type here)

module _ (basis : Basis) (is : IsBasis basis) (limits : IsWithinLimits basis.schema) where
  abbrev model : EntityModel
  model = basis.schema.model

  -- the place of a part of a key
  key_place : (t : TypeId) (p : PropId) → Contains (key_props model t) p → place_in p (key_props model t) < 4
  key_place t p has =
      let place = place_within p (key_props model t) has in
      let few = keys_few model is.sound.model t in
      omega (arith, place, few)

  prop_place : (t : TypeId) (p : PropId) → Contains (props_of model t) p → place_in p (props_of model t) < 256
  prop_place t p has =
      let place = place_within p (props_of model t) has in
      let few = props_few model limits.model t in
      omega (arith, place, few)

  assoc_place : (a : AssocId) (assoc : Assoc) → At model.assocs a.index assoc → a.index < 256
  assoc_place a assoc here =
      let inside = slice_get_within model.assocs a.index assoc here in
      let most = limits.model.0 in
      omega (arith, inside, most)

  -- the numbers come before those of entities that are added
  pub flow_small : (of : Focus) (one : Symbol) (i : ℕ) → IsFlow basis of one i → i < 2000
  flow_small (focus.Entity region) symbol.Null i by = absurd by
  flow_small (focus.Entity region) (symbol.Const value) i by = absurd by
  flow_small (focus.Entity region) (symbol.Prop p) i (inl by) = let place = key_place region.ty p by.0 in let is_it = by.1 in omega (arith, place, is_it)
  flow_small (focus.Entity region) (symbol.Prop p) i (inr by) = let place = prop_place region.ty p by.0.among in let is_it = by.1 in omega (arith, place, is_it)
  flow_small (focus.Entity region) (symbol.End a first p) i by =
      let place = key_place (end_at first by.0.assoc).ty p by.0.part in
      let few = assoc_place a by.0.assoc by.0.is_assoc in
      let is_it = by.1 in
      omega (arith, place, few, is_it)
  flow_small (focus.Link a) symbol.Null i by = absurd by
  flow_small (focus.Link a) (symbol.Const value) i by = absurd by
  flow_small (focus.Link a) (symbol.Prop p) i by = absurd by
  flow_small (focus.Link a) (symbol.End b true p) i by = let place = key_place (end_at true by.0.assoc).ty p by.0.part in let is_it = by.1 in omega (arith, place, is_it)
  flow_small (focus.Link a) (symbol.End b false p) i by = let place = key_place (end_at false by.0.assoc).ty p by.0.part in let is_it = by.1 in omega (arith, place, is_it)

  -- parts of partners' keys
  same_part : (region : Region) (a b : AssocId) (first second : Bool) (p q : PropId) (i : ℕ) → IsFlow basis (focus.Entity region) (symbol.End a first p) i
      → IsFlow basis (focus.Entity region) (symbol.End b second q) i → symbol.End a first p ≡ symbol.End b second q
  same_part region a b first second p q i one two =
      let place_one = key_place (end_at first one.0.assoc).ty p one.0.part in
      let place_two = key_place (end_at second two.0.assoc).ty q two.0.part in
      let is_one = one.1 in
      let is_two = two.1 in
      let same_index : a.index ≡ b.index = omega (arith, place_one, place_two, is_one, is_two) in
      let same_assoc : a ≡ b = λ k. record { index = same_index k } in
      let host_is : one.0.host ≡ two.0.host = one_host (basis.hosts region.set) (is.order region.set) one.0.host two.0.host one.0.hosts two.0.hosts
      (one.0.of_assoc ∙ same_assoc ∙ sym two.0.of_assoc) in
      let same_end : first ≡ second = one.0.at_far ∙ ap (λ (h : Host). not h.first_hosts) host_is ∙ sym two.0.at_far in
      let assoc_is : one.0.assoc ≡ two.0.assoc = at_once model.assocs b.index one.0.assoc two.0.assoc (subst (λ (c : AssocId). At model.assocs c.index one.0.assoc) same_assoc one.0.is_assoc) two.0.is_assoc in
      let keys : Bool → Assoc → List PropId = λ f assoc. key_props model (end_at f assoc).ty in
      let keys_are : keys first one.0.assoc ≡ keys second two.0.assoc = ap (λ (f : Bool). keys f one.0.assoc) same_end ∙ ap (keys second) assoc_is in
      let places : place_in p (keys first one.0.assoc) ≡ place_in q (keys second two.0.assoc) = omega (arith, place_one, place_two, is_one, is_two) in
      let same_prop : p ≡ q = same_place p q (keys second two.0.assoc) (subst (λ (list : List PropId). Contains list p) keys_are one.0.part) two.0.part
      (ap (place_in p) (sym keys_are) ∙ places) in
      λ k. symbol.End (same_assoc k) (same_end k) (same_prop k)

  -- parts of the keys at one end of a link
  same_side : (a b c : AssocId) (first : Bool) (p q : PropId) (one : IsLinkPart basis a b first p) (two : IsLinkPart basis a c first q)
      → place_in p (key_props model (end_at first one.assoc).ty) ≡ place_in q (key_props model (end_at first two.assoc).ty) → symbol.End b first p ≡ symbol.End c first q
  same_side a b c first p q one two places =
      let same_assoc : b ≡ c = one.of_assoc ∙ sym two.of_assoc in
      let assoc_is : one.assoc ≡ two.assoc = at_once model.assocs c.index one.assoc two.assoc (subst (λ (d : AssocId). At model.assocs d.index one.assoc) same_assoc one.is_assoc) two.is_assoc in
      let keys : Assoc → List PropId = λ assoc. key_props model (end_at first assoc).ty in
      let same_prop : p ≡ q = same_place p q (keys two.assoc) (subst (λ (assoc : Assoc). Contains (keys assoc) p) assoc_is one.part) two.part
      (ap (λ (assoc : Assoc). place_in p (keys assoc)) (sym assoc_is) ∙ places) in
      λ k. symbol.End (same_assoc k) first (same_prop k)

  -- symbols with one number are one
  pub flow_once : (of : Focus) (one two : Symbol) (i : ℕ) → IsFlow basis of one i → IsFlow basis of two i → one ≡ two
  flow_once (focus.Entity region) (symbol.Prop p) (symbol.Prop q) i (inl one) (inl two) =
      let first = one.1 in
      let second = two.1 in
      ap symbol.Prop (same_place p q (key_props model region.ty) one.0 two.0 (omega (arith, first, second)))
  flow_once (focus.Entity region) (symbol.Prop p) (symbol.Prop q) i (inr one) (inr two) =
      let first = one.1 in
      let second = two.1 in
      ap symbol.Prop (same_place p q (props_of model region.ty) one.0.among two.0.among (omega (arith, first, second)))
  flow_once (focus.Entity region) (symbol.Prop p) (symbol.Prop q) i (inl one) (inr two) =
      let place = key_place region.ty p one.0 in let first = one.1 in let second = two.1 in absurd (omega (arith, place, first, second))
  flow_once (focus.Entity region) (symbol.Prop p) (symbol.Prop q) i (inr one) (inl two) =
      let place = key_place region.ty q two.0 in let first = one.1 in let second = two.1 in absurd (omega (arith, place, first, second))
  flow_once (focus.Entity region) (symbol.Prop p) (symbol.End b second q) i (inl one) two =
      let place = key_place region.ty p one.0 in let first = one.1 in let is_two = two.1 in absurd (omega (arith, place, first, is_two))
  flow_once (focus.Entity region) (symbol.Prop p) (symbol.End b second q) i (inr one) two =
      let place = prop_place region.ty p one.0.among in let first = one.1 in let is_two = two.1 in absurd (omega (arith, place, first, is_two))
  flow_once (focus.Entity region) (symbol.End a first p) (symbol.Prop q) i one (inl two) =
      let place = key_place region.ty q two.0 in let is_one = one.1 in let second = two.1 in absurd (omega (arith, place, is_one, second))
  flow_once (focus.Entity region) (symbol.End a first p) (symbol.Prop q) i one (inr two) =
      let place = prop_place region.ty q two.0.among in let is_one = one.1 in let second = two.1 in absurd (omega (arith, place, is_one, second))
  flow_once (focus.Entity region) (symbol.End a first p) (symbol.End b second q) i one two = same_part region a b first second p q i one two
  flow_once (focus.Link a) (symbol.End b first p) (symbol.End c second q) i one two = link_parts a b c first second p q i one two
    where
      link_parts : (a b c : AssocId) (first second : Bool) (p q : PropId) (i : ℕ) → IsFlow basis (focus.Link a) (symbol.End b first p) i → IsFlow basis (focus.Link a) (symbol.End c second q) i
          → symbol.End b first p ≡ symbol.End c second q
      link_parts a b c true false p q i one two =
          let place = key_place (end_at true one.0.assoc).ty p one.0.part in let is_one = one.1 in let is_two = two.1 in absurd (omega (arith, place, is_one, is_two))
      link_parts a b c false true p q i one two =
          let place = key_place (end_at true two.0.assoc).ty q two.0.part in let is_one = one.1 in let is_two = two.1 in absurd (omega (arith, place, is_one, is_two))
      link_parts a b c true true p q i one two = let is_one = one.1 in let is_two = two.1 in same_side a b c true p q one.0 two.0 (omega (arith, is_one, is_two))
      link_parts a b c false false p q i one two = let is_one = one.1 in let is_two = two.1 in same_side a b c false p q one.0 two.0 (omega (arith, is_one, is_two))
  flow_once (focus.Entity region) symbol.Null two i one other = absurd one
  flow_once (focus.Entity region) (symbol.Const value) two i one other = absurd one
  flow_once (focus.Entity region) (symbol.Prop p) symbol.Null i one other = absurd other
  flow_once (focus.Entity region) (symbol.Prop p) (symbol.Const value) i one other = absurd other
  flow_once (focus.Entity region) (symbol.End a first p) symbol.Null i one other = absurd other
  flow_once (focus.Entity region) (symbol.End a first p) (symbol.Const value) i one other = absurd other
  flow_once (focus.Link a) symbol.Null two i one other = absurd one
  flow_once (focus.Link a) (symbol.Const value) two i one other = absurd one
  flow_once (focus.Link a) (symbol.Prop p) two i one other = absurd one
  flow_once (focus.Link a) (symbol.End b first p) symbol.Null i one other = absurd other
  flow_once (focus.Link a) (symbol.End b first p) (symbol.Const value) i one other = absurd other
  flow_once (focus.Link a) (symbol.End b first p) (symbol.Prop q) i one other = absurd other
