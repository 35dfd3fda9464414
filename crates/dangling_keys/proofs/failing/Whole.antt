-- Some legal state fails by a foreign key exactly where the key dangles at a focus; and the state that is shown of what is told fails by it.
use Rattle.std.proofs.Common.{◌≡◌, ◌↔◌, inl, inr, List, [], Contains, false, Option, Some, None, refl, sym, subst, ◌∙◌}
use Rattle.std.proofs.lemmas.Bool.{cond_both}
use Rattle.std.proofs.lemmas.Bool.Decides.{not_from_Decides}
use Rattle.emc_base.proofs.Mapped.{contains_at}
use Rattle.round_trip.specs.Words.{Assoc, AssocId, ForeignKey, IsA, LinkFragment, Pair, Place, SetId, TableId}
use Rattle.round_trip.specs.declared.FailKind.TheVariants as kind
use Rattle.schema_laws.specs.state_demand.Owners.{IsJoinedTo}
use Rattle.schema_laws.proofs.sound_demand.owners.OneOwner.{one_owner}
use Rattle.cells.specs.Limits.{IsWithinLimits}
use Rattle.regions.specs.Basis.{Basis}
use Rattle.regions.specs.Regions.{regions_of}
use Rattle.regions.specs.declared.pattern.Focus.{Focus}
use Rattle.regions.specs.declared.pattern.Focus.TheVariants as focus
use Rattle.regions.specs.declared.region.Region.{Region}
use Rattle.regions.specs.region_laws.IsBasis.{IsBasis}
use Rattle.regions.proofs.region_laws.listing.Listed.{set_is}
use Rattle.region_states.specs.conflicts.There.{NoneFailsBy}
use Rattle.region_states.proofs.focus.Listed.{row_joined}
use Rattle.forced_entities.specs.Forced.{own_member}
use Rattle.forced_entities.specs.declared.member.Forced.{Forced}
use Rattle.dangling_keys.specs.Dangling.{DanglesAt, IsDangling, IsThere, LacksRow, OtherLacks, OwnLacks, OwnsTable}
use Rattle.dangling_keys.specs.DanglingStates.{IsSupportedWhole, both_state, dangling_state, has_shown_key, lone_state}
use Rattle.dangling_keys.specs.Failing.{FailsAtKey, FailsByKey}
use Rattle.dangling_keys.specs.Laws.{Dangles, HasNoClash, IsPairedBy, IsShownToFail}
use Rattle.dangling_keys.specs.Showing.{Fits, MayRefer, fits}
use Rattle.dangling_keys.specs.declared.key.DanglingKey.{DanglingKey}
use Rattle.dangling_keys.proofs.failing.EntityFails.{none_fails, own_fails}
use Rattle.dangling_keys.proofs.failing.LinkFails.{link_none_fails}
use Rattle.dangling_keys.proofs.failing.OtherEntity.{other_fails, other_supported}
use Rattle.dangling_keys.proofs.failing.OtherLink.{other_link_fails, other_link_supported}
use Rattle.dangling_keys.proofs.referring.Shown.{FailsShown}
use Rattle.dangling_keys.proofs.told.Members.{Decides-fits}
use Rattle.dangling_keys.proofs.told.Told.{dangling_told}

module _ (basis : Basis) (given : HasNoClash basis) (key : ForeignKey) (is_key : Contains basis.schema.store.keys key) where
  is : IsBasis basis
  is = given.sound.is_basis

  limits : IsWithinLimits basis.schema
  limits = given.sound.limits

  none : NoneFailsBy basis.schema kind.Clash
  none = given.none

  -- what is shown of a focus, by the pairing of the set that owns the table
  abbrev Shown_at : Focus → List Pair → Option Region → Type 0
  Shown_at of pairing principal = FailsShown basis of key (dangling_state basis of key pairing principal)

  -- another entity that lacks the row, by its own set and this pairing
  module _ (of : Focus) (q : Region) (lacks : OtherLacks basis of key q) (pairing : List Pair) (owned : OwnsTable basis key.to q.set pairing) where
    of_set : q.set ≡ lacks.u
    of_set = set_is basis lacks.u q lacks.listed

    of_pairing : lacks.pairing ≡ pairing
    of_pairing = (one_owner basis.schema is.sound key.to lacks.u q.set lacks.pairing pairing lacks.owns.owned owned.owned owned.written).1

    fits_at : (it : Forced) → Fits basis of key lacks.u lacks.pairing it → Fits basis of key q.set pairing it
    fits_at it by = subst (λ list. Fits basis of key q.set list it) of_pairing (subst (λ (u : SetId). Fits basis of key u lacks.pairing it) (sym of_set) by)

    fits_back : (it : Forced) → Fits basis of key q.set pairing it → Fits basis of key lacks.u lacks.pairing it
    fits_back it by = subst (λ (u : SetId). Fits basis of key u lacks.pairing it) of_set (subst (λ list. Fits basis of key q.set list it) (sym of_pairing) by)

    listed : Contains (regions_of basis q.set) q
    listed = subst (λ (u : SetId). Contains (regions_of basis u) q) (sym of_set) lacks.listed

    under : (it : Forced) → IsThere basis of key it → Fits basis of key q.set pairing it → IsA basis.schema.model q.ty it.ty
    under it there by = lacks.under it there (fits_back it by)

  -- the focus itself has the key that is shown and lacks the row
  module _ (s : SetId) (region : Region) (has : Contains (regions_of basis s) region) (may : MayRefer basis (focus.Entity region) key) (lacks : OwnLacks basis region key)
      (pairing : List Pair) (owned : OwnsTable basis key.to region.set pairing) where
    abbrev The : Focus
    The = focus.Entity region

    own_fits : Fits basis The key region.set pairing (own_member basis region)
    own_fits = subst (λ list. Fits basis The key region.set list (own_member basis region))
        (one_owner basis.schema is.sound key.to region.set region.set lacks.pairing pairing lacks.owns.owned owned.owned owned.written).1 lacks.fits

    own_shown : Shown_at The pairing (Some region)
    own_shown = cond_both (fits basis The key region.set pairing (own_member basis region)) (lone_state basis The key) (both_state basis The key pairing region) (FailsShown basis The key)
        (λ told. own_fails basis is limits none s region has key is_key may lacks)
        (λ told. absurd (not_from_Decides (fits basis The key region.set pairing (own_member basis region)) (Decides-fits basis The key region.set pairing (own_member basis region)) told own_fits))

  module _ (s : SetId) (region : Region) (has : Contains (regions_of basis s) region) (may : MayRefer basis (focus.Entity region) key) where
    entity_shown : (principal : Option Region) → LacksRow basis (focus.Entity region) key principal → (pairing : List Pair) → IsPairedBy basis key pairing principal
        → Shown_at (focus.Entity region) pairing principal
    entity_shown None lacks pairing paired = none_fails basis is limits none s region has key is_key may lacks
    entity_shown (Some q) (inl own) pairing paired =
        subst (λ (r : Region). OwnLacks basis r key → OwnsTable basis key.to r.set pairing → Shown_at (focus.Entity region) pairing (Some r)) (same_region own.0)
        (λ lacks owned. own_shown s region has may lacks pairing owned) own.1 paired
      where
        same_region : focus.Entity region ≡ focus.Entity q → region ≡ q
        same_region same_focus = cc
    entity_shown (Some q) (inr other) pairing paired =
        let The : Focus = focus.Entity region in
        let own : Forced = own_member basis region in
        let not_own : ¬ Fits basis The key q.set pairing own = λ by. other.not_own own refl (fits_back The q other pairing paired own by) in
        cond_both (fits basis The key q.set pairing own) (lone_state basis The key) (both_state basis The key pairing q) (FailsShown basis The key)
        (λ told. absurd (not_own ((Decides-fits basis The key q.set pairing own).0 told)))
        (λ told. other_fails basis is limits none s region has key is_key may q pairing paired other.one other.is_there (fits_at The q other pairing paired other.one other.fits) not_own
        (listed The q other pairing paired) (under The q other pairing paired) other.no_row)

  module _ (t : TableId) (fragment : LinkFragment) (assoc : Assoc) (joined : IsJoinedTo basis.schema t fragment assoc) (may : MayRefer basis (focus.Link fragment.assoc) key) where
    abbrev Of_link : Focus
    Of_link = focus.Link fragment.assoc

    from_here : key.from ≡ t
    from_here = sym may.row.2 ∙ row_joined basis is t fragment assoc joined may.row.0 may.row.1

    joined_from : IsJoinedTo basis.schema key.from fragment assoc
    joined_from = subst (λ (u : TableId). IsJoinedTo basis.schema u fragment assoc) (sym from_here) joined

    link_shown : (principal : Option Region) → LacksRow basis Of_link key principal → (pairing : List Pair) → IsPairedBy basis key pairing principal → Shown_at Of_link pairing principal
    link_shown None lacks pairing paired = link_none_fails basis is limits none fragment assoc key is_key joined_from may lacks
    link_shown (Some q) (inl own) pairing paired = absurd (never own.0)
      where
        never : focus.Link fragment.assoc ≡ focus.Entity q → ⊥
        never same_focus = let nothing : focus.Link fragment.assoc ≡ focus.Entity q = same_focus in cc
    link_shown (Some q) (inr other) pairing paired =
        other_link_fails basis is limits none fragment assoc key is_key joined_from may q pairing paired other.one other.is_there (fits_at Of_link q other pairing paired other.one other.fits)
        (listed Of_link q other pairing paired) (under Of_link q other pairing paired) other.no_row

  pub dangling_shown : (of : Focus) (principal : Option Region) → DanglesAt basis of key principal → (pairing : List Pair) → IsPairedBy basis key pairing principal → Shown_at of pairing principal
  dangling_shown (focus.Entity region) principal dangles = entity_shown dangles.of_rows.0 region dangles.of_rows.1 dangles.refers principal dangles.lacks
  dangling_shown (focus.Link a) principal dangles =
      let its = dangles.of_rows.1 in
      let P : AssocId → Type 0 = λ b. MayRefer basis (focus.Link b) key → LacksRow basis (focus.Link b) key principal → (pairing : List Pair) → IsPairedBy basis key pairing principal
      → Shown_at (focus.Link b) pairing principal in
      let by : P a = subst P its.of_assoc (λ may lacks. link_shown dangles.of_rows.0 its.fragment its.assoc its.joined may principal lacks) in
      by dangles.refers dangles.lacks

  -- where it is another entity, the whole state is supported
  abbrev pub Supported_at : Focus → List Pair → Region → Type 0
  Supported_at of pairing q = has_shown_key basis of key pairing of q ≡ false → IsSupportedWhole basis of key pairing q

  module _ (s : SetId) (region : Region) (has : Contains (regions_of basis s) region) (may : MayRefer basis (focus.Entity region) key) (q : Region) (pairing : List Pair)
      (paired : OwnsTable basis key.to q.set pairing) where
    entity_supported : LacksRow basis (focus.Entity region) key (Some q) → Supported_at (focus.Entity region) pairing q
    entity_supported (inl own) told =
        let same : region ≡ q = same_region own.0 in
        let lacks : OwnLacks basis region key = subst (λ (r : Region). OwnLacks basis r key) (sym same) own.1 in
        let owned : OwnsTable basis key.to region.set pairing = subst (λ (r : Region). OwnsTable basis key.to r.set pairing) (sym same) paired in
        let here : fits basis (focus.Entity region) key region.set pairing (own_member basis region) ≡ false =
        subst (λ (r : Region). fits basis (focus.Entity region) key r.set pairing (own_member basis region) ≡ false) (sym same) told in
        absurd (not_from_Decides (fits basis (focus.Entity region) key region.set pairing (own_member basis region))
        (Decides-fits basis (focus.Entity region) key region.set pairing (own_member basis region)) here (own_fits s region has may lacks pairing owned))
      where
        same_region : focus.Entity region ≡ focus.Entity q → region ≡ q
        same_region same_focus = cc
    entity_supported (inr other) told =
        let The : Focus = focus.Entity region in
        other_supported basis is limits none s region has key is_key may q pairing paired other.one other.is_there (fits_at The q other pairing paired other.one other.fits)
        (λ by. other.not_own (own_member basis region) refl (fits_back The q other pairing paired (own_member basis region) by)) (listed The q other pairing paired)
        (under The q other pairing paired) other.no_row

  pub both_supported : (of : Focus) (q : Region) → DanglesAt basis of key (Some q) → (pairing : List Pair) → OwnsTable basis key.to q.set pairing → Supported_at of pairing q
  both_supported (focus.Entity region) q dangles pairing paired = entity_supported dangles.of_rows.0 region dangles.of_rows.1 dangles.refers q pairing paired dangles.lacks
  both_supported (focus.Link a) q dangles pairing paired =
      let its = dangles.of_rows.1 in
      let P : AssocId → Type 0 = λ b. MayRefer basis (focus.Link b) key → LacksRow basis (focus.Link b) key (Some q) → Supported_at (focus.Link b) pairing q in
      let by : P a = subst P its.of_assoc (λ may lacks told. link_supported its.fragment its.assoc may lacks (joined_from dangles.of_rows.0 its.fragment its.assoc its.joined may)) in
      by dangles.refers dangles.lacks
    where
      link_supported : (fragment : LinkFragment) (assoc : Assoc) → MayRefer basis (focus.Link fragment.assoc) key → LacksRow basis (focus.Link fragment.assoc) key (Some q)
          → IsJoinedTo basis.schema key.from fragment assoc → IsSupportedWhole basis (focus.Link fragment.assoc) key pairing q
      link_supported fragment assoc may (inl own) joined = absurd (never own.0)
        where
          never : focus.Link fragment.assoc ≡ focus.Entity q → ⊥
          never same_focus = let nothing : focus.Link fragment.assoc ≡ focus.Entity q = same_focus in cc
      link_supported fragment assoc may (inr other) joined =
          let Of_link : Focus = focus.Link fragment.assoc in
          other_link_supported basis is limits none fragment assoc key is_key joined may q pairing paired other.one other.is_there (fits_at Of_link q other pairing paired other.one other.fits)
          (listed Of_link q other pairing paired) (under Of_link q other pairing paired) other.no_row

  -- some set owns the table by a pairing where a row is told of a region
  pub own_pairing : (of : Focus) (principal : Option Region) → LacksRow basis of key principal → (pairing : List Pair) × IsPairedBy basis key pairing principal
  own_pairing of None lacks = ([], refl)
  own_pairing of (Some q) (inl own) = (own.1.pairing, own.1.owns)
  own_pairing of (Some q) (inr other) = (other.pairing, subst (λ (u : SetId). OwnsTable basis key.to u other.pairing) (sym (set_is basis other.u q other.listed)) other.owns)

  pub dangling_fails : (of : Focus) (principal : Option Region) → DanglesAt basis of key principal → FailsByKey basis key
  dangling_fails of principal dangles =
      let paired = own_pairing of principal dangles.lacks in
      let shown = dangling_shown of principal dangles paired.0 paired.1 in
      record { place = shown.place; state = dangling_state basis of key paired.0 principal; at = shown.at }

  pub failing_told : FailsByKey basis key → Dangles basis key
  failing_told by =
      let told = dangling_told basis is limits none by.place by.state by.state by.at.fails in
      (told.0.focus, told.0.principal, subst (λ (one : ForeignKey). DanglesAt basis told.0.focus one told.0.principal) (told.2 ∙ by.at.of_key) told.1.dangles)

pub keys_decided : (basis : Basis) → HasNoClash basis → (key : ForeignKey) → Contains basis.schema.store.keys key → FailsByKey basis key ↔ Dangles basis key
keys_decided basis given key is_key = (failing_told basis given key is_key, λ dangles. dangling_fails basis given key is_key dangles.0 dangles.1 dangles.2)

pub told_fails : (basis : Basis) → HasNoClash basis → (told : DanglingKey) (dangling : IsDangling basis told) → FailsByKey basis dangling.key
told_fails basis given told dangling =
    dangling_fails basis given dangling.key (contains_at basis.schema.store.keys told.key.index dangling.key dangling.is_key) told.focus told.principal dangling.dangles

pub told_shown : (basis : Basis) → HasNoClash basis → (told : DanglingKey) (dangling : IsDangling basis told) → IsShownToFail basis told dangling
told_shown basis given told dangling pairing paired place named =
    let is_key = contains_at basis.schema.store.keys told.key.index dangling.key dangling.is_key in
    let shown = dangling_shown basis given dangling.key is_key told.focus told.principal dangling.dangles pairing paired in
    subst (λ (at : Place). FailsAtKey basis dangling.key at (dangling_state basis told.focus dangling.key pairing told.principal)) (sym (shown.only place named)) shown.at
