-- Whether a key dangles at a focus, by what is found there.
use Rattle.std.proofs.Common.{◌≡◌, ◌||◌, filter, ⊎_elim, inl, inr, List, All, Contains, Bool, true, false, not, Option, Some, None, Decides, refl, sym, ap, subst}
use Rattle.std.specs.List.{list_all, list_any}
use Rattle.std.proofs.lemmas.Bool.Decides.{Decides-and, Decides-like, Decides-not, not_from_Decides}
use Rattle.std.proofs.lemmas.List.Elements.{All-contains}
use Rattle.emc_base.proofs.FoundItems.{some_member}
use Rattle.emc_base.proofs.Lists.{all_from_members}
use Rattle.emc_base.proofs.Mapped.{contains_filter}
use Rattle.emc_base.proofs.Numbered.{filter_contains}
use Rattle.round_trip.specs.Words.{ColId, ForeignKey, IsA, Null, Pair, SetId}
use Rattle.schema_laws.proofs.sound_demand.owners.OneOwner.{one_owner}
use Rattle.schema_laws.proofs.state_demand.lists.Lists.{Decides-all, Decides-any, of_any}
use Rattle.schema_laws.proofs.state_demand.writings.Selecting.{Decides-value}
use Rattle.regions.specs.Basis.{Basis}
use Rattle.regions.specs.Patterns.{pattern_of}
use Rattle.regions.specs.Regions.{regions_of}
use Rattle.regions.specs.Settled.{Settled, free, known}
use Rattle.regions.specs.declared.pattern.Focus.{Focus}
use Rattle.regions.specs.declared.pattern.Focus.TheVariants as focus
use Rattle.regions.specs.declared.region.Region.{Region}
use Rattle.regions.specs.region_laws.IsBasis.{IsBasis}
use Rattle.region_states.specs.conflicts.Facts.{has_row}
use Rattle.region_states.specs.focus.Held.{HasRow}
use Rattle.conflict_laws.specs.rival.RivalValues.{is_null_cell}
use Rattle.conflict_laws.proofs.null.Listed.{Decides-row}
use Rattle.forced_entities.specs.Forced.{AreForced, IsForced, own_member}
use Rattle.forced_entities.specs.declared.member.Forced.{Forced}
use Rattle.dangling_keys.specs.Dangling.{DanglesAt, IsRowFocus, IsOwn, OwnsTable, OtherLacks}
use Rattle.dangling_keys.specs.Showing.{Fits, MayRefer, cell_at, fits, may_refer, not_null_for}
use Rattle.dangling_keys.proofs.told.Members.{Decides-fits}
use Rattle.dangling_search.specs.Found.{lacks_row}

null_decided : (cell : Settled) → Decides (is_null_cell cell) (cell ≡ known Null)
null_decided (known value) = Decides-like (is_null_cell (known value)) (λ same. ap known same) (λ same. let it : known value ≡ known Null = same in cc) (Decides-value value Null)
null_decided (free one nullable) = (λ told. absurd (let never : false ≡ true = told in cc), λ same. absurd (let never : free one nullable ≡ known Null = same in cc))

module _ (basis : Basis) (of : Focus) (key : ForeignKey) where
  pub refer_decided : Decides (may_refer basis of key) (MayRefer basis of key)
  refer_decided =
      let some : ColId → Bool = λ col. not (is_null_cell (cell_at basis of key.from col)) in
      Decides-like (may_refer basis of key) (λ both. record { row = both.0; some = both.1 }) (λ by. (by.row, by.some))
      (Decides-and (has_row (pattern_of basis of) key.from) (list_all some key.from_cols) (Decides-row (pattern_of basis of) key.from)
      (Decides-all some (λ (col : ColId). ¬ (cell_at basis of key.from col ≡ known Null))
      (λ col. Decides-not (is_null_cell (cell_at basis of key.from col)) (null_decided (cell_at basis of key.from col))) key.from_cols))

  pub refers_not : may_refer basis of key ≡ false → (principal : Option Region) → ¬ DanglesAt basis of key principal
  refers_not told principal dangles = not_from_Decides (may_refer basis of key) refer_decided told dangles.refers

  -- where no set owns the table nobody fits
  pub unowned_dangles : IsRowFocus basis of → MayRefer basis of key → ((u : SetId) (pairing : List Pair) → ¬ OwnsTable basis key.to u pairing) → DanglesAt basis of key None
  unowned_dangles rows may none = record { of_rows = rows; refers = may; lacks = λ u pairing owns one there by. none u pairing owns }

  module _ (is : IsBasis basis) (rows : IsRowFocus basis of) (may : MayRefer basis of key) (u : SetId) (pairing : List Pair) (owns : OwnsTable basis key.to u pairing) where
    abbrev FitsHere : Forced → Type 0
    FitsHere one = Fits basis of key u pairing one

    -- the owner and its pairing are one
    by_owner : (v : SetId) (pairs : List Pair) → OwnsTable basis key.to v pairs → (one : Forced) → Fits basis of key v pairs one → FitsHere one
    by_owner v pairs also one by =
        let same = one_owner basis.schema is.sound key.to v u pairs pairing also.owned owns.owned also.written in
        let P : SetId → List Pair → Type 0 = λ w list. Fits basis of key w list one in
        subst (P u) same.1 (subst (λ (w : SetId). P w pairs) same.0 by)

    back : (v : SetId) (pairs : List Pair) → OwnsTable basis key.to v pairs → (one : Forced) → FitsHere one → Fits basis of key v pairs one
    back v pairs also one by =
        let same = one_owner basis.schema is.sound key.to u v pairing pairs owns.owned also.owned owns.written in
        let P : SetId → List Pair → Type 0 = λ w list. Fits basis of key w list one in
        subst (P v) same.1 (subst (λ (w : SetId). P w pairing) same.0 by)

    -- the focus itself has the key
    module _ (region : Region) (is_focus : of ≡ focus.Entity region) (by : FitsHere (own_member basis region)) where
      own_is : IsOwn basis of (own_member basis region)
      own_is = subst (λ (it : Focus). IsOwn basis it (own_member basis region)) (sym is_focus) refl

      pub own_dangles : has_row (pattern_of basis of) key.to ≡ false → DanglesAt basis of key (Some region)
      own_dangles told = record {
        of_rows = rows;
        refers = may;
        lacks = inl (
          is_focus,
          record {
            pairing = pairing;
            owns = subst (λ (v : SetId). OwnsTable basis key.to v pairing) (sym by.of_set) owns;
            fits = subst (λ (it : Focus). Fits basis it key region.set pairing (own_member basis region)) is_focus
                (subst (λ (v : SetId). Fits basis of key v pairing (own_member basis region)) (sym by.of_set) by);
            no_row = λ has. not_from_Decides (has_row (pattern_of basis of) key.to) (Decides-row (pattern_of basis of) key.to) told
                (subst (λ (it : Focus). HasRow (pattern_of basis it) key.to) (sym is_focus) has);
          },
        );
      }

      pub own_not : has_row (pattern_of basis of) key.to ≡ true → (principal : Option Region) → ¬ DanglesAt basis of key principal
      own_not told None dangles = dangles.lacks u pairing owns (own_member basis region) (inl own_is) by
      own_not told (Some q) dangles = ⊎_elim
          (λ own. own.1.no_row (subst (λ (it : Focus). HasRow (pattern_of basis it) key.to) own.0 ((Decides-row (pattern_of basis of) key.to).0 told)))
          (λ (other : OtherLacks basis of key q). other.not_own (own_member basis region) own_is (back other.u other.pairing other.owns (own_member basis region) by))
          dangles.lacks

    -- or hasn't
    module _ (not_own : (own : Forced) → IsOwn basis of own → ¬ FitsHere own) (list : List Forced) (forced : AreForced basis of (not_null_for basis of key) list) where
      pub none_dangles : list_any (fits basis of key u pairing) list ≡ false → DanglesAt basis of key None
      none_dangles told = record {
        of_rows = rows;
        refers = may;
        lacks = λ v pairs also one there by. ⊎_elim
            (λ (own : IsOwn basis of one). not_own one own (by_owner v pairs also one by))
            (λ (is_forced : IsForced basis of (not_null_for basis of key) one).
            not_from_Decides (list_any (fits basis of key u pairing) list) (Decides-any (fits basis of key u pairing) FitsHere (Decides-fits basis of key u pairing) list) told
            (some_member FitsHere list one ((forced.listed one).1 is_forced) (by_owner v pairs also one by)))
            there;
      }

      abbrev IsBelow : Region → Forced → Type 0
      IsBelow q one = FitsHere one → IsA basis.schema.model q.ty one.ty

      below_decided : (q : Region) → Decides (list_all (λ one. not (fits basis of key u pairing one) || basis.is_a q.ty one.ty) list) (All (IsBelow q) list)
      below_decided q = Decides-all (λ (one : Forced). not (fits basis of key u pairing one) || basis.is_a q.ty one.ty) (IsBelow q) each list
        where
          each : (one : Forced) → Decides (not (fits basis of key u pairing one) || basis.is_a q.ty one.ty) (IsBelow q one)
          each one = by (fits basis of key u pairing one) (Decides-fits basis of key u pairing one)
            where
              by : (b : Bool) → Decides b (FitsHere one) → Decides (not b || basis.is_a q.ty one.ty) (IsBelow q one)
              by true fit = (λ told some. (is.types.tells q.ty one.ty).0 told, λ below. (is.types.tells q.ty one.ty).1 (below (fit.0 refl)))
              by false fit = (λ told some. absurd (let never : false ≡ true = fit.1 some in cc), λ below. refl)

      pub other_dangles : list_any (fits basis of key u pairing) list ≡ true → (q : Region) → Contains (filter (lacks_row basis key.to) (regions_of basis u)) q
          → list_all (λ one. not (fits basis of key u pairing one) || basis.is_a q.ty one.ty) list ≡ true → DanglesAt basis of key (Some q)
      other_dangles some q has below =
          let found = of_any FitsHere list ((Decides-any (fits basis of key u pairing) FitsHere (Decides-fits basis of key u pairing) list).0 some) in
          let kept = filter_contains (lacks_row basis key.to) (regions_of basis u) q has in
          let under = (below_decided q).0 below in
          record {
            of_rows = rows;
            refers = may;
            lacks = inr (record {
              u = u;
              pairing = pairing;
              owns = owns;
              one = found.0;
              is_there = inr ((forced.listed found.0).0 found.1);
              fits = found.2;
              not_own = not_own;
              listed = kept.0;
              under = λ other there by. ⊎_elim
                  (λ (own : IsOwn basis of other). absurd (not_own other own by))
                  (λ (is_forced : IsForced basis of (not_null_for basis of key) other). All-contains (IsBelow q) list other under ((forced.listed other).1 is_forced) by)
                  there;
              no_row = (Decides-not (has_row (pattern_of basis (focus.Entity q)) key.to) (Decides-row (pattern_of basis (focus.Entity q)) key.to)).0 kept.1;
            });
          }

      pub other_not : list_any (fits basis of key u pairing) list ≡ true
          → ((q : Region) → Contains (filter (lacks_row basis key.to) (regions_of basis u)) q → list_all (λ one. not (fits basis of key u pairing one) || basis.is_a q.ty one.ty) list ≡ false)
          → (principal : Option Region) → ¬ DanglesAt basis of key principal
      other_not some none None dangles =
          let found = of_any FitsHere list ((Decides-any (fits basis of key u pairing) FitsHere (Decides-fits basis of key u pairing) list).0 some) in
          dangles.lacks u pairing owns found.0 (inr ((forced.listed found.0).0 found.1)) found.2
      other_not some none (Some q) dangles = ⊎_elim
          (λ own. not_own (own_member basis q) (subst (λ (it : Focus). IsOwn basis it (own_member basis q)) (sym own.0) refl)
          (by_owner q.set own.1.pairing own.1.owns (own_member basis q) (subst (λ (it : Focus). Fits basis it key q.set own.1.pairing (own_member basis q)) (sym own.0) own.1.fits)))
          (λ (other : OtherLacks basis of key q).
          let same = one_owner basis.schema is.sound key.to other.u u other.pairing pairing other.owns.owned owns.owned other.owns.written in
          let in_list : Contains (filter (lacks_row basis key.to) (regions_of basis u)) q = contains_filter (lacks_row basis key.to) (regions_of basis u) q
          (subst (λ (v : SetId). Contains (regions_of basis v) q) same.0 other.listed)
          ((Decides-not (has_row (pattern_of basis (focus.Entity q)) key.to) (Decides-row (pattern_of basis (focus.Entity q)) key.to)).1 other.no_row) in
          let all : All (IsBelow q) list = all_from_members (IsBelow q) list (λ it has by. other.under it (inr ((forced.listed it).0 has)) (back other.u other.pairing other.owns it by)) in
          not_from_Decides (list_all (λ one. not (fits basis of key u pairing one) || basis.is_a q.ty one.ty) list) (below_decided q) (none q in_list) all)
          dangles.lacks

-- the focus's own entity is the only one
pub own_fits_not : (basis : Basis) (of : Focus) (key : ForeignKey) (u : SetId) (pairing : List Pair) (region : Region) → of ≡ focus.Entity region
    → fits basis of key u pairing (own_member basis region) ≡ false → (own : Forced) → IsOwn basis of own → ¬ Fits basis of key u pairing own
own_fits_not basis of key u pairing region is_focus told own is_own by =
    let same : own ≡ own_member basis region = subst (λ (it : Focus). IsOwn basis it own) is_focus is_own in
    not_from_Decides (fits basis of key u pairing (own_member basis region)) (Decides-fits basis of key u pairing (own_member basis region)) told (subst (Fits basis of key u pairing) same by)
