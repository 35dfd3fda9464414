-- The usual values of two ends in one cell differ: they are numbered, and have different numbers.
use Rattle.std.proofs.Common.{◌≡◌, ◌≢◌, ⊎_elim, ◌==◌, ◌≤◌, ℕ, suc, List, [], ◌∷◌, length, Contains, Bool, not, Some, sym, ap, subst, ◌∙◌, arith}
use Rattle.std.specs.Option.{option_map_or}
use Rattle.std.proofs.lemmas.Bool.{cond_both}
use Rattle.std.proofs.lemmas.Bool.Decides.{not_from_Decides}
use Rattle.std.proofs.lemmas.Option.{slice_get_within}
use Rattle.emc_base.proofs.Lists.{at_once}
use Rattle.round_trip.specs.Words.{TableId, ColId, AssocId, PropId, Value, Null, Kind, Assoc, At, key_props}
use Rattle.round_trip.specs.soundness.models.Inheritance.{IsKeyProp}
use Rattle.schema_laws.proofs.state_demand.lists.Lists.{member_cases, none_in_nil}
use Rattle.cells.specs.Limits.{IsWithinLimits}
use Rattle.regions.specs.declared.region.Region.{Region}
use Rattle.regions.specs.declared.pattern.Symbol.TheVariants as symbol
use Rattle.regions.specs.declared.pattern.Focus.TheVariants as focus
use Rattle.regions.specs.Basis.{Basis, Host}
use Rattle.regions.specs.Patterns.{pattern_of}
use Rattle.regions.specs.region_laws.IsBasis.{IsBasis}
use Rattle.schema_laws.proofs.state_demand.lists.Ids.{Decides-prop}
use Rattle.regions.specs.region_laws.pattern.Allowed.{end_at}
use Rattle.regions.specs.region_laws.pattern.Listed.{Lists}
use Rattle.regions.proofs.region_laws.pattern.symbols.Hosting.{assoc_here, end_prop, one_host, the_assoc}
use Rattle.regions.proofs.region_laws.pattern.Laws.{listed_from}
use Rattle.regions.proofs.region_laws.pattern.symbols.Standing.{IsEndOf, end_of}
use Rattle.region_states.specs.defaults.Defaults.{default_part}
use Rattle.schema_laws.specs.short_values.Fresh.{fresh_at, IsUse, Use, fresh, partner, partner_key}
use Rattle.schema_laws.specs.short_values.Places.{place_in}
use Rattle.schema_laws.proofs.sound_demand.Keys.{keys_few}
use Rattle.schema_laws.proofs.short_values.Places.{place_within, fresh_is}
use Rattle.schema_laws.proofs.sound_types.Inherited.{key_prop}
use Rattle.schema_laws.proofs.short_values.Short.{fresh_apart}
use Rattle.schema_laws.proofs.short_values.Uses.{one_use}

-- a property stands at its place
at_place : (p : PropId) (props : List PropId) → Contains props p → At props (place_in p props) p
at_place p [] has = absurd (none_in_nil p has)
at_place p (q ∷ props) has =
    let P : ℕ → Type 0 = λ n. At (q ∷ props) n p in
    cond_both (q.index == p.index) 0 (suc (place_in p props)) P
    (λ told. ap Some ((Decides-prop q p).0 told))
    (λ told. ⊎_elim
    (λ (here : p ≡ q). absurd (not_from_Decides (q.index == p.index) (Decides-prop q p) told (sym here)))
    (λ (later : Contains props p). at_place p props later)
    (member_cases q props p has))

-- and so properties with one place are one
same_place : (p q : PropId) (props : List PropId) → Contains props p → Contains props q → place_in p props ≡ place_in q props → p ≡ q
same_place p q props has_p has_q same =
    let At_ : ℕ → Type 0 = λ n. At props n p in
    at_once props (place_in q props) p q (subst At_ same (at_place p props has_p)) (at_place q props has_q)

module _ (basis : Basis) (is : IsBasis basis) (limits : IsWithinLimits basis.schema) (region : Region) (t : TableId) (c : ColId) where
  -- an end of an association that is hosted at the region's set: it is the partner's, and the property is a part of the key there
  record IsEnd (a : AssocId) (first : Bool) (p : PropId) : Type 0 where
    pub assoc : Assoc
    pub here : At basis.schema.model.assocs a.index assoc
    pub host : Host
    pub hosts : Contains (basis.hosts region.set) host
    pub of_host : host.assoc ≡ a
    pub partner : first ≡ not host.first_hosts
    pub among : Contains (key_props basis.schema.model (end_at first assoc).ty) p

  -- an end that is listed is such
  listed_end : (a : AssocId) (first : Bool) (p : PropId) → Lists (pattern_of basis (focus.Entity region)) t c (symbol.End a first p) → IsEnd a first p
  listed_end a first p lists =
      let by : IsEndOf basis (focus.Entity region) t c a first p =
      end_of basis (focus.Entity region) t c a first p (listed_from basis is (focus.Entity region) t c (symbol.End a first p) lists) in
      let assoc : Assoc = the_assoc basis is by.fragment by.mapped in
      let Here : AssocId → Type 0 = λ b. At basis.schema.model.assocs b.index assoc in
      let Key : PropId → Type 0 = λ q. Contains (key_props basis.schema.model (end_at first assoc).ty) q in
      record {
        assoc = assoc;
        here = subst Here by.of_assoc (assoc_here basis is by.fragment by.mapped);
        host = by.partner.0;
        hosts = by.partner.1;
        of_host = sym by.partner.3 ∙ by.of_assoc;
        partner = by.partner.4;
        among = subst Key by.at_prop (end_prop basis is by.fragment by.mapped first by.pair by.paired);
      }

  module _ (a : AssocId) (first : Bool) (p : PropId) (end : IsEnd a first p) where
    abbrev key : List PropId
    key = key_props basis.schema.model (end_at first end.assoc).ty

    -- what its number is for
    abbrev number_for : Use
    number_for = partner a.index (place_in p key)

    -- which is within the limits
    is_use : IsUse number_for
    is_use =
        let inside = slice_get_within basis.schema.model.assocs a.index end.assoc end.here in
        let most : length basis.schema.model.assocs ≤ 256 = limits.model.0 in
        let place = place_within p key end.among in
        let few = keys_few basis.schema.model is.sound.model (end_at first end.assoc).ty in
        (omega (arith, inside, most), omega (arith, place, few))

    -- its value is the one that is numbered for it
    numbered : (k : Kind) × (default_part basis 0 a first p ≡ fresh k 0 (partner_key a.index (place_in p key)))
    numbered =
        let is_key : IsKeyProp basis.schema.model p = key_prop basis.schema.model is.sound.model p (end_at first end.assoc).ty end.among in
        let at : Assoc → Value = λ assoc. fresh_at basis.schema.model 0 p (partner_key a.index (place_in p (key_props basis.schema.model (end_at first assoc).ty))) in (
          is_key.declared.kind,
          ap (λ found. option_map_or at found Null) end.here ∙ fresh_is basis.schema.model p is_key.declared is_key.is_declared 0 (partner_key a.index (place_in p key)),
        )

  -- ends with one number are one: they are of one association, at one end, and of one property
  module _ (a b : AssocId) (first second : Bool) (p q : PropId) (one : IsEnd a first p) (two : IsEnd b second q)
      (same : number_for a first p one ≡ number_for b second q two) where
    same_assoc : a ≡ b
    same_assoc = let number : a.index ≡ b.index = cc in λ k. record { index = number k }

    same_host : one.host ≡ two.host
    same_host = one_host basis is region.set one.host two.host one.hosts two.hosts (one.of_host ∙ same_assoc ∙ sym two.of_host)

    same_end : first ≡ second
    same_end = one.partner ∙ ap (λ (host : Host). not host.first_hosts) same_host ∙ sym two.partner

    one_assoc : one.assoc ≡ two.assoc
    one_assoc =
        let Here : AssocId → Type 0 = λ d. At basis.schema.model.assocs d.index one.assoc in
        at_once basis.schema.model.assocs b.index one.assoc two.assoc (subst Here same_assoc one.here) two.here

    same_key : key a first p one ≡ key b second q two
    same_key k = key_props basis.schema.model (end_at (same_end k) (one_assoc k)).ty

    same_prop : p ≡ q
    same_prop =
        let place : place_in p (key a first p one) ≡ place_in q (key b second q two) = cc in
        same_place p q (key b second q two) (subst (λ props. Contains props p) same_key one.among) two.among (ap (place_in p) (sym same_key) ∙ place)

    one_end : symbol.End a first p ≡ symbol.End b second q
    one_end k = symbol.End (same_assoc k) (same_end k) (same_prop k)

  -- two ends have different values
  pub ends_differ : (a b : AssocId) (first second : Bool) (p q : PropId) → Lists (pattern_of basis (focus.Entity region)) t c (symbol.End a first p)
      → Lists (pattern_of basis (focus.Entity region)) t c (symbol.End b second q) → symbol.End a first p ≢ symbol.End b second q
      → default_part basis 0 a first p ≢ default_part basis 0 b second q
  ends_differ a b first second p q lists_one lists_two different alike =
      let one : IsEnd a first p = listed_end a first p lists_one in
      let two : IsEnd b second q = listed_end b second q lists_two in
      let value_one = numbered a first p one in
      let value_two = numbered b second q two in
      let index = (fresh_apart value_one.0 value_two.0 0 0 (partner_key a.index (place_in p (key a first p one))) (partner_key b.index (place_in q (key b second q two)))
      (omega arith) (omega arith) (sym value_one.1 ∙ alike ∙ value_two.1)).1 in
      different (one_end a b first second p q one two (one_use (number_for a first p one) (number_for b second q two) (is_use a first p one) (is_use b second q two) index))
