-- Where the symbols of a pattern may stand.
use Rattle.std.proofs.Common.{◌≡◌, ◌≢◌, ◌⊎◌, ⊎_elim, inl, inr, ◌==◌, if◌then◌else◌, List, Bool, true, false, IsTrue, Any, Contains, refl, sym, ap, subst, ◌∙◌}
use Rattle.std.specs.List.{list_all, list_any}
use Rattle.std.proofs.lemmas.Bool.{and_parts}
use Rattle.std.proofs.lemmas.Bool.Decides.{Decides-eqb}
use Rattle.std.proofs.lemmas.List.Elements.{All-contains}
use Rattle.std.proofs.lemmas.List.Folds.{Any-from_list_any}
use Rattle.emc_base.proofs.Lists.{item_at}
use Rattle.round_trip.specs.Words.{SetId, TableId, ColId, AssocId, PropId, Fragment, LinkFragment, Pair, Pick, Cond, Test, IsA, key_columns, key_props, props_of}
use Rattle.round_trip.specs.soundness.mappings.Joined.{HostsPartner, IsNoKey, Joined}
use Rattle.round_trip.specs.soundness.mappings.Joined as joined
use Rattle.edm_types.specs.IsA.{same as same_type}
use Rattle.edm_types.specs.declared.mapping.Test.TheVariants.{IsNull, Equals}
use Rattle.round_trip.specs.soundness.Lookups.{columns_of, set_key}
use Rattle.round_trip.specs.soundness.mappings.Mappings.{HasPairIds, IsSoundFragment}
use Rattle.member_groups.specs.Tested.{IsWrittenTo}
use Rattle.schema_laws.specs.state_demand.Selecting.{is_picked}
use Rattle.schema_laws.proofs.state_demand.lists.Lists.{any_of, of_any, same_by_key}
use Rattle.schema_laws.proofs.state_demand.owners.Owners.{pairs_from_map}
use Rattle.schema_laws.proofs.sound_demand.Fitting.{sound_fragment}
use Rattle.regions.specs.region_laws.IsBasis.{IsBasis}
use Rattle.regions.specs.declared.region.Region.{Region}
use Rattle.regions.specs.declared.pattern.Symbol.TheVariants as symbol
use Rattle.regions.specs.declared.pattern.Focus.{Focus}
use Rattle.regions.specs.declared.pattern.Focus.TheVariants as focus
use Rattle.regions.specs.Basis.{Basis, Host}
use Rattle.regions.specs.Regions.{regions_of}
use Rattle.regions.specs.Symbols.{met_by_atoms, selects_region}
use Rattle.regions.specs.region_laws.pattern.Allowed.{IsFocus}
use Rattle.schema_laws.specs.sound_types.KeyParts.{IsPartOfKey}
use Rattle.regions.proofs.region_laws.pattern.symbols.Hosting.{col_or_not, end_col, end_prop, host_key_is, hosted_side}
use Rattle.regions.proofs.region_laws.pattern.symbols.Origins.{From, GivesSymbol, IsPartner, by_cond, by_end, by_host, by_pair, side}
use Rattle.regions.proofs.region_laws.pattern.types.Regions.{key_is}
use Rattle.schema_laws.proofs.sound_types.Inherited.{inherits_prop, key_among, key_is_part, part_of_type}

moved : (P : TableId → ColId → PropId → Type 0) (t u : TableId) (c d : ColId) (p q : PropId) → t ≡ u → c ≡ d → p ≡ q → P t c p → P u d q
moved P t u c d p q tables cols props so = subst (λ one. P one d q) tables (subst (λ one. P t one q) cols (subst (λ one. P t c one) props so))

module _ (basis : Basis) where
  -- a part of a key in a column of a primary key
  pub record StandsInKey (t : TableId) (col : ColId) (p : PropId) : Type 0 where
    pub part : IsPartOfKey basis.schema.model p
    pub key_col : Contains (key_columns basis.schema.store t) col

  -- a property that is no part of a key, in a column that is none either, to which an entity fragment writes it
  pub record StandsFree (t : TableId) (col : ColId) (p : PropId) : Type 0 where
    pub free_prop : IsNoKey basis.schema (joined.prop p)
    pub free_col : IsNoKey basis.schema (joined.col t col)
    pub written : IsWrittenTo basis.schema p (joined.col t col)

  abbrev pub Stands : TableId → ColId → PropId → Type 0
  Stands t col p = StandsInKey t col p ⊎ StandsFree t col p

  -- the two are joined
  pub joined_by : (t : TableId) (col : ColId) (p : PropId) → StandsFree t col p → Joined basis.schema (joined.prop p) (joined.col t col)
  joined_by t col p free =
      let fragment : Fragment = free.written.0 in
      let pair : Pair = free.written.1 in
      let P : PropId → joined.Member → Type 0 = λ q m. IsNoKey basis.schema (joined.prop q) × IsNoKey basis.schema m → Joined basis.schema (joined.prop q) m in
      let here : P pair.prop (joined.col fragment.table pair.col) = λ frees. joined.pair fragment pair free.written.2 free.written.3 frees.0 frees.1 in
      subst (P p) free.written.5 (subst (λ q. P q (joined.col fragment.table pair.col)) free.written.4 here) (free.free_prop, free.free_col)

-- no condition gives a property or an end
no_prop : (test : Test) (p : PropId) → GivesSymbol test (symbol.Prop p) → ⊥
no_prop (IsNull asked) p gives = let never = gives.1 in cc
no_prop (Equals constant) p gives = let never = gives in cc

no_end : (test : Test) (a : AssocId) (first : Bool) (p : PropId) → GivesSymbol test (symbol.End a first p) → ⊥
no_end (IsNull asked) a first p gives = let never = gives.1 in cc
no_end (Equals constant) a first p gives = let never = gives in cc

-- an end of a link that is told by a fragment
pub record IsEndOf (basis : Basis) (of : Focus) (t : TableId) (col : ColId) (a : AssocId) (first : Bool) (p : PropId) : Type 0 where
  pub fragment : LinkFragment
  pub mapped : Contains basis.schema.mapping.links fragment
  pub of_assoc : fragment.assoc ≡ a
  pub to_table : fragment.table ≡ t
  pub pair : Pair
  pub paired : Contains (side first fragment) pair
  pub at_col : pair.col ≡ col
  pub at_prop : pair.prop ≡ p
  pub partner : IsPartner basis of first fragment

pub end_of : (basis : Basis) (of : Focus) (t : TableId) (col : ColId) (a : AssocId) (first : Bool) (p : PropId) → From basis of t col (symbol.End a first p)
    → IsEndOf basis of t col a first p
end_of basis of t col a first p (by_pair fragment pair mapped to has at_col same chosen) = absurd (let never = same in cc)
end_of basis of t col a first p (by_host fragment other pair mapped to has at_col same hosting) = absurd (let never = same in cc)
end_of basis of t col a first p (by_end fragment other pair mapped to has at_col same partner) =
    let is_assoc : fragment.assoc ≡ a = cc in
    let is_end : other ≡ first = cc in
    let is_prop : pair.prop ≡ p = cc in
    record {
      fragment = fragment;
      mapped = mapped;
      of_assoc = is_assoc;
      to_table = to;
      pair = pair;
      paired = subst (λ b. Contains (side b fragment) pair) is_end has;
      at_col = at_col;
      at_prop = is_prop;
      partner = subst (λ b. IsPartner basis of b fragment) is_end partner;
    }
end_of basis of t col a first p (by_cond cond asked is gives) = absurd (no_end cond.test a first p gives)

module _ (basis : Basis) (is : IsBasis basis) where
  module _ (s : SetId) (region : Region) (has : Contains (regions_of basis s) region) where
    -- a pick of the region's type
    picked : (picks : List Pick) → list_any (is_picked basis.is_a region.ty) picks ≡ true → (pick : Pick) × Contains picks pick × IsA basis.schema.model region.ty pick.ty
    picked picks told =
        let found = of_any (λ (pick : Pick). is_picked basis.is_a region.ty pick ≡ true) picks (Any-from_list_any (is_picked basis.is_a region.ty) picks told) in
        (found.0, found.1, by found.0 found.0.below found.2)
      where
        by : (pick : Pick) (below : Bool) → (if below then basis.is_a region.ty pick.ty else (region.ty.index == pick.ty.index)) ≡ true → IsA basis.schema.model region.ty pick.ty
        by pick true yes_ = (is.types.tells region.ty pick.ty).0 yes_
        by pick false same =
            let number = (Decides-eqb region.ty.index pick.ty.index).0 same in
            let is_type : region.ty ≡ pick.ty = λ k. record { index = number k } in
            subst (IsA basis.schema.model region.ty) is_type (same_type region.ty)

    -- a fragment that selects the region writes properties of its type
    pub chosen_prop : (fragment : Fragment) → Contains basis.schema.mapping.fragments fragment → IsTrue (selects_region basis region fragment) → (pair : Pair)
        → Contains fragment.pairs pair
        → Contains (props_of basis.schema.model region.ty) pair.prop
    chosen_prop fragment mapped selects pair among =
        let told = (and_parts (list_any (is_picked basis.is_a region.ty) fragment.picks)
        (list_all (λ (cond : Cond). met_by_atoms region.atoms cond.on cond.test) fragment.conds) selects).0 in
        let pick = picked fragment.picks told in
        let Names : Pick → Type 0 = λ one. Contains (props_of basis.schema.model one.ty) pair.prop in
        let shared : Names pick.0 = All-contains Names fragment.picks pick.0 ((sound_fragment basis.schema is.sound fragment mapped).props pair.prop
        (inl (any_of (λ (one : Pair). one.prop ≡ pair.prop) fragment.pairs pair among refl))) pick.1 in
        inherits_prop basis.schema.model is.sound.model pair.prop region.ty pick.0.ty pick.2 shared

    module _ (fragment : Fragment) (mapped : Contains basis.schema.mapping.fragments fragment) (of_set : fragment.set ≡ region.set)
        (selects : IsTrue (selects_region basis region fragment)) (pair : Pair) (among : Contains fragment.pairs pair) where
      abbrev sound : IsSoundFragment basis.schema fragment
      sound = sound_fragment basis.schema is.sound fragment mapped

      set_key_is : set_key basis.schema.model fragment.set ≡ key_props basis.schema.model region.ty
      set_key_is = ap (set_key basis.schema.model) of_set ∙ sym (key_is basis is s region has)

      same_col : (one : Pair) → Contains fragment.pairs one → one.col ≡ pair.col → one ≡ pair
      same_col one there same =
          let key : Pair → ColId = λ p. p.col in
          same_by_key key fragment.pairs one pair (pairs_from_map (λ (a b : ColId). a ≢ b) key fragment.pairs sound.once.cols) there among same

      same_prop : (one : Pair) → Contains fragment.pairs one → one.prop ≡ pair.prop → one ≡ pair
      same_prop one there same =
          let key : Pair → PropId = λ p. p.prop in
          same_by_key key fragment.pairs one pair (pairs_from_map (λ (a b : PropId). a ≢ b) key fragment.pairs sound.once.props) there among same

      key_by_col : Contains (key_columns basis.schema.store fragment.table) pair.col → Contains (key_props basis.schema.model region.ty) pair.prop
      key_by_col key_col =
          let Written : ColId → Type 0 = λ col. Any (λ (one : Pair). (one.col ≡ col) × Contains (set_key basis.schema.model fragment.set) one.prop) fragment.pairs in
          let Here : Pair → Type 0 = λ one. (one.col ≡ pair.col) × Contains (set_key basis.schema.model fragment.set) one.prop in
          let found = of_any Here fragment.pairs (All-contains Written (key_columns basis.schema.store fragment.table) pair.col sound.key.cols key_col) in
          let Key : Pair → Type 0 = λ one. Contains (set_key basis.schema.model fragment.set) one.prop in
          subst (λ key. Contains key pair.prop) set_key_is (subst Key (same_col found.0 found.1 found.2.0) found.2.1)

      col_by_key : Contains (key_props basis.schema.model region.ty) pair.prop → Contains (key_columns basis.schema.store fragment.table) pair.col
      col_by_key key =
          let Written : PropId → Type 0 = λ p. Any (λ (one : Pair). (one.prop ≡ p) × Contains (key_columns basis.schema.store fragment.table) one.col) fragment.pairs in
          let Here : Pair → Type 0 = λ one. (one.prop ≡ pair.prop) × Contains (key_columns basis.schema.store fragment.table) one.col in
          let found = of_any Here fragment.pairs (All-contains Written (set_key basis.schema.model fragment.set) pair.prop sound.key.props
          (subst (λ props. Contains props pair.prop) (sym set_key_is) key)) in
          let Col : Pair → Type 0 = λ one. Contains (key_columns basis.schema.store fragment.table) one.col in
          subst Col (same_prop found.0 found.1 found.2.0) found.2.1

      pair_stands : Stands basis fragment.table pair.col pair.prop
      pair_stands = ⊎_elim
          (λ (key_col : Contains (key_columns basis.schema.store fragment.table) pair.col).
          inl (record { part = key_is_part basis.schema.model is.sound.model pair.prop region.ty (key_by_col key_col); key_col = key_col }))
          (λ (no_key : ¬ Contains (key_columns basis.schema.store fragment.table) pair.col).
          let ids : HasPairIds basis.schema fragment.table pair = All-contains (HasPairIds basis.schema fragment.table) fragment.pairs pair sound.ids.pairs among in
          let column = item_at (columns_of basis.schema.store fragment.table) pair.col.index ids.1 in
          let declared = item_at basis.schema.model.props pair.prop.index ids.0 in
          let there = chosen_prop fragment mapped selects pair among in
          inr (record {
            free_prop = (
              declared.0,
              declared.1,
              λ key. no_key (col_by_key
                  (part_of_type basis.schema.model is.sound.model pair.prop region.ty there (declared.0, declared.1, key))),
            );
            free_col = (column.0, column.1, no_key);
            written = (fragment, pair, mapped, among, refl, refl);
          }))
          (col_or_not (key_columns basis.schema.store fragment.table) pair.col)

    -- the pair of an end that hosts
    module _ (fragment : LinkFragment) (mapped : Contains basis.schema.mapping.links fragment) (host : Host) (is_host : Contains (basis.hosts region.set) host)
        (of_assoc : fragment.assoc ≡ host.assoc) (pair : Pair) (among : Contains (side host.first_hosts fragment) pair) where
      host_key : Contains (key_props basis.schema.model region.ty) pair.prop
      host_key = subst (λ key. Contains key pair.prop) (host_key_is basis is fragment mapped region.set host is_host of_assoc ∙ sym (key_is basis is s region has))
          (end_prop basis is fragment mapped host.first_hosts pair among)

      host_stands : Stands basis fragment.table pair.col pair.prop
      host_stands = inl (record {
        part = key_is_part basis.schema.model is.sound.model pair.prop region.ty host_key;
        key_col = All-contains (λ (one : Pair). Contains (key_columns basis.schema.store fragment.table) one.col) (side host.first_hosts fragment) pair
            (hosted_side basis is fragment mapped region.set host is_host of_assoc).all among;
      })

    -- a property that is listed is one of the type
    pub listed_prop : (t : TableId) (col : ColId) (p : PropId) → From basis (focus.Entity region) t col (symbol.Prop p) → Contains (props_of basis.schema.model region.ty) p
    listed_prop t col p (by_pair fragment pair mapped to among at_col same chosen) =
        let is_prop : pair.prop ≡ p = cc in
        subst (Contains (props_of basis.schema.model region.ty)) is_prop (chosen_prop fragment mapped chosen.1 pair among)
    listed_prop t col p (by_host fragment first pair mapped to among at_col same (host, is_host, linked, of_assoc, end)) =
        let is_prop : pair.prop ≡ p = cc in
        let own = subst (λ b. Contains (side b fragment) pair) end among in
        subst (Contains (props_of basis.schema.model region.ty)) is_prop
        (key_among basis.schema.model is.sound.model pair.prop region.ty (host_key fragment mapped host is_host of_assoc pair own))
    listed_prop t col p (by_end fragment first pair mapped to among at_col same partner) = absurd (let never = same in cc)
    listed_prop t col p (by_cond cond asked what gives) = absurd (no_prop cond.test p gives)

    region_stands : (t : TableId) (col : ColId) (p : PropId) → From basis (focus.Entity region) t col (symbol.Prop p) → Stands basis t col p
    region_stands t col p (by_pair fragment pair mapped to among at_col same chosen) =
        let is_prop : pair.prop ≡ p = cc in
        moved (Stands basis) fragment.table t pair.col col pair.prop p to at_col is_prop (pair_stands fragment mapped chosen.0 chosen.1 pair among)
    region_stands t col p (by_host fragment first pair mapped to among at_col same (host, is_host, linked, of_assoc, end)) =
        let is_prop : pair.prop ≡ p = cc in
        let own = subst (λ b. Contains (side b fragment) pair) end among in
        moved (Stands basis) fragment.table t pair.col col pair.prop p to at_col is_prop (host_stands fragment mapped host is_host of_assoc pair own)
    region_stands t col p (by_end fragment first pair mapped to among at_col same partner) = absurd (let never = same in cc)
    region_stands t col p (by_cond cond asked what gives) = absurd (no_prop cond.test p gives)

  -- a link lists no property
  pub link_no_prop : (a : AssocId) (t : TableId) (col : ColId) (p : PropId) → From basis (focus.Link a) t col (symbol.Prop p) → ⊥
  link_no_prop a t col p (by_pair fragment pair mapped to among at_col same chosen) = chosen
  link_no_prop a t col p (by_host fragment first pair mapped to among at_col same hosting) = hosting
  link_no_prop a t col p (by_end fragment first pair mapped to among at_col same partner) = let never = same in cc
  link_no_prop a t col p (by_cond cond asked what gives) = no_prop cond.test p gives

  -- a property that is listed
  pub prop_stands : (of : Focus) → IsFocus basis of → (t : TableId) (col : ColId) (p : PropId) → From basis of t col (symbol.Prop p) → Stands basis t col p
  prop_stands (focus.Entity region) (s, has) t col p from = region_stands s region has t col p from
  prop_stands (focus.Link a) here t col p from = absurd (link_no_prop a t col p from)

  -- an end that is listed
  pub end_stands : (of : Focus) (t : TableId) (col : ColId) (a : AssocId) (first : Bool) (p : PropId) → IsEndOf basis of t col a first p
      → Contains (key_columns basis.schema.store t) col ⊎ HostsPartner basis.schema t col
  end_stands of t col a first p by =
      let P : TableId → ColId → PropId → Type 0 = λ u c q. Contains (key_columns basis.schema.store u) c ⊎ HostsPartner basis.schema u c in
      moved P by.fragment.table t by.pair.col col by.pair.prop p by.to_table by.at_col by.at_prop (end_col basis is by.fragment by.mapped first by.pair by.paired)
