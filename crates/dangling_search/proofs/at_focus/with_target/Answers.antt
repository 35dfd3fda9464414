use Rattle.std.proofs.Common.{List, Some, Contains, sym, ap, subst, ◌∙◌}
use Rattle.std.proofs.lemmas.Bool.{false_from_ne_true}
use Rattle.std.specs.Option.{option_copied}
use Rattle.round_trip.specs.Words.{PropId}
use Rattle.regions.specs.declared.region.Region.{Region}
use Rattle.regions.specs.declared.pattern.Pattern.{Pattern}
use Rattle.regions.proofs.region_laws.pattern.Choices.{found_passes, none_passes}
use Rattle.region_states.specs.region_basis.BasisOf.{basis_of}
use Rattle.region_states.proofs.region_basis.Bases.{basis_is}
use Rattle.region_states.specs.conflicts.Facts.{has_row}
use Rattle.std.specs.List.{list_any}
use Rattle.forced_entities.specs.Forced.{AreForced}
use Rattle.forced_entities.specs.declared.member.Forced.{Forced}
use Rattle.dangling_keys.specs.Dangling.{DanglesAt}
use Rattle.dangling_keys.specs.Showing.{fits}
use Rattle.dangling_search.specs.Found.{OwnFits, is_below_all}
use Rattle.dangling_search.proofs.Telling.{none_dangles, other_dangles, other_not, own_dangles, own_not}
use Rattle.dangling_search.proofs.at_focus.with_target.Goals as goal

pub returns-then-has_row : goal.returns-then-has_row
returns-then-has_row c =
    let basis = basis_of c.args.parts.now in
    let told = subst (λ found. OwnFits basis c.args.look.of.now c.args.key.now c.args.target.now.owned (option_copied found)) c.in-Some.is c.in_ok-region.ensures in
    own_not basis c.args.look.of.now c.args.key.now (basis_is c.args.parts.now c.requires.parts) c.requires.of c.requires.refers c.args.target.now.owned.set c.args.target.now.owned.pairing c.requires.target.0
    c.in-Some.region.now told.0 told.1 (ap (λ (pattern : Pattern). has_row pattern c.args.key.now.to) (sym c.requires.look) ∙ sym c.has_row.ensures ∙ c.if-has_row.true)

pub returns-in-Some : goal.returns-in-Some
returns-in-Some c =
    let basis = basis_of c.args.parts.now in
    let told = subst (λ found. OwnFits basis c.args.look.of.now c.args.key.now c.args.target.now.owned (option_copied found)) c.in-Some.is c.in_ok-region.ensures in
    subst (λ (region : Region). DanglesAt basis c.args.look.of.now c.args.key.now (Some region)) (sym c.in_ok-copy_region.ensures)
    (own_dangles basis c.args.look.of.now c.args.key.now (basis_is c.args.parts.now c.requires.parts) c.requires.of c.requires.refers c.args.target.now.owned.set c.args.target.now.owned.pairing c.requires.target.0
    c.in-Some.region.now told.0 told.1 (ap (λ (pattern : Pattern). has_row pattern c.args.key.now.to) (sym c.requires.look) ∙ sym c.has_row.ensures ∙ c.if-has_row.false))

pub returns-then-not-some_fits : goal.returns-then-not-some_fits
returns-then-not-some_fits c =
    let basis = basis_of c.args.parts.now in
    let not_own = subst (λ found. OwnFits basis c.args.look.of.now c.args.key.now c.args.target.now.owned (option_copied found)) c.in_default.is c.in_ok-region.ensures in
    let forced = subst (λ (props : List PropId). AreForced basis c.args.look.of.now props c.in_ok-list.list) (c.as_slice.ensures.items ∙ c.in_ok-not_null.ensures) c.in_ok-list.ensures in
    none_dangles basis c.args.look.of.now c.args.key.now (basis_is c.args.parts.now c.requires.parts) c.requires.of c.requires.refers c.args.target.now.owned.set c.args.target.now.owned.pairing c.requires.target.0
    not_own c.in_ok-list.list forced
    (ap (list_any (fits basis c.args.look.of.now c.args.key.now c.args.target.now.owned.set c.args.target.now.owned.pairing)) (sym c.as_slice-2.ensures.items) ∙ sym c.some_fits.ensures
    ∙ c.if-not-some_fits.true)

pub returns-in-Some-2 : goal.returns-in-Some-2
returns-in-Some-2 c =
    let basis = basis_of c.args.parts.now in
    let owned = c.args.target.now.owned in
    let not_own = subst (λ found. OwnFits basis c.args.look.of.now c.args.key.now c.args.target.now.owned (option_copied found)) c.in_default.is c.in_ok-region.ensures in
    let forced = subst (λ (props : List PropId). AreForced basis c.args.look.of.now props c.in_ok-list.list) (c.as_slice.ensures.items ∙ c.in_ok-not_null.ensures) c.in_ok-list.ensures in
    let test = λ (list : List Forced). is_below_all basis c.args.look.of.now c.args.key.now owned list in
    let found = found_passes (test c.as_slice-3.result.now) c.args.target.now.lacking c.in-Some-2.region.now
    (sym c.in_ok-region-2.ensures ∙ ap option_copied c.in-Some-2.is) in
    subst (λ (region : Region). DanglesAt basis c.args.look.of.now c.args.key.now (Some region)) (sym c.in_ok-copy_region-in-Some-2.ensures)
    (other_dangles basis c.args.look.of.now c.args.key.now (basis_is c.args.parts.now c.requires.parts) c.requires.of c.requires.refers owned.set owned.pairing c.requires.target.0
    not_own c.in_ok-list.list forced
    (ap (list_any (fits basis c.args.look.of.now c.args.key.now owned.set owned.pairing)) (sym c.as_slice-2.ensures.items) ∙ sym c.some_fits.ensures
    ∙ c.if-not-some_fits.false)
    c.in-Some-2.region.now (subst (λ (list : List Region). Contains list c.in-Some-2.region.now) c.requires.target.1 found.0)
    (ap (λ (list : List Forced). test list c.in-Some-2.region.now) (sym c.as_slice-3.ensures.items) ∙ found.1))

pub returns : goal.returns
returns c =
    let basis = basis_of c.args.parts.now in
    let owned = c.args.target.now.owned in
    let not_own = subst (λ found. OwnFits basis c.args.look.of.now c.args.key.now c.args.target.now.owned (option_copied found)) c.in_default.is c.in_ok-region.ensures in
    let forced = subst (λ (props : List PropId). AreForced basis c.args.look.of.now props c.in_ok-list.list) (c.as_slice.ensures.items ∙ c.in_ok-not_null.ensures) c.in_ok-list.ensures in
    let test = λ (list : List Forced). is_below_all basis c.args.look.of.now c.args.key.now owned list in
    other_not basis c.args.look.of.now c.args.key.now (basis_is c.args.parts.now c.requires.parts) c.requires.of c.requires.refers owned.set owned.pairing c.requires.target.0
    not_own c.in_ok-list.list forced
    (ap (list_any (fits basis c.args.look.of.now c.args.key.now owned.set owned.pairing)) (sym c.as_slice-2.ensures.items) ∙ sym c.some_fits.ensures
    ∙ c.if-not-some_fits.false)
    (λ region has. ap (λ (list : List Forced). test list region) (sym c.as_slice-3.ensures.items)
    ∙ false_from_ne_true (test c.as_slice-3.result.now region) (λ told.
    none_passes (test c.as_slice-3.result.now) c.args.target.now.lacking region (sym c.in_ok-region-2.ensures ∙ ap option_copied c.in-None.is)
    (subst (λ (list : List Region). Contains list region) (sym c.requires.target.1) has) told))
