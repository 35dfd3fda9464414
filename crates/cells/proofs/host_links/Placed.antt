-- Links that are added to the map of a set.
use Rattle.std.proofs.Common.{◌≡◌, ◌≢◌, ◌==◌, ◌<◌, ◌≤◌, ⊎_elim, ℕ, List, [], ◌++◌, append-nil, length, slice_get, get_or, All, Option, None, Some, option_and_then, Bool, true, false, if◌then◌else◌, refl, sym, ap, subst, ◌∙◌}
use Rattle.std.proofs.Math.ListN.{set}
use Rattle.std.specs.BTreeMap.{BTreeMap, IsEmpty, get, is_at}
use Rattle.std.specs.Cmp.Lexicographic.{slice_cmp}
use Rattle.std.specs.Map.{lookup}
use Rattle.std.specs.Option.{unwrap_or}
use Rattle.std.proofs.lemmas.Bool.{cases_eq, cases_lt}
use Rattle.std.proofs.lemmas.Bool.Decides.{Decides-eqb}
use Rattle.std.proofs.lemmas.List.{get_or-set_other, get_or-set_same, length-set}
use Rattle.std.proofs.lemmas.Option.{get_or_from_slice_get, slice_get-get_or, slice_get_past, slice_get_within}
use Rattle.emc_base.specs.Lists.{At}
use Rattle.emc_base.specs.Order.{value_cmp}
use Rattle.round_trip.specs.soundness.models.ModelIds.{HasModelIds}
use Rattle.round_trip.specs.Words.{Assoc, AssocId, EntityModel, Hosted, Link, LinkFragId, SetId, Value}
use Rattle.cells.specs.HostedLinks.{host_set, hosted_at, of_key}
use Rattle.table_owners.specs.declared.places.LinkPlace.TheVariants as place
use Rattle.cells.specs.host_links.Grouped.{links_at_key, links_of}

abbrev pub Kept : Type 0
Kept = BTreeMap (List Value) (List Hosted)

module _ (maps : List Kept) (h : ℕ) (now : Kept) where
  -- the map that is put at a place, and those at other places
  set_here : h < length maps → At (set maps h now) h now
  set_here within =
      slice_get-get_or (set maps h now) h now (subst (λ n. h < n) (sym (length-set maps h now)) within) ∙ ap Some (get_or-set_same maps h now now within)

  set_there : (j : ℕ) → j ≢ h → slice_get (set maps h now) j ≡ slice_get maps j
  set_there j other = ⊎_elim
      (λ (within : j < length maps).
      slice_get-get_or (set maps h now) j now (subst (λ n. j < n) (sym (length-set maps h now)) within) ∙ ap Some (get_or-set_other maps h j now now other)
      ∙ sym (slice_get-get_or maps j now within))
      (λ (past : length maps ≤ j). slice_get_past (set maps h now) j (subst (λ n. n ≤ j) (sym (length-set maps h now)) past) ∙ sym (slice_get_past maps j past))
      (cases_lt j (length maps))

-- the host's set is one of which there is a map, if both ends' are
pub host_within : (first_hosts : Bool) (assoc : Assoc) (n : ℕ) → assoc.first.set.index < n → assoc.second.set.index < n → (host_set first_hosts assoc).index < n
host_within true assoc n first second = first
host_within false assoc n first second = second

-- the sets of both ends of an association of the model are some of which there are maps
pub ends_within : (model : EntityModel) (items : List Assoc) (i n : ℕ) (assoc : Assoc) → HasModelIds model → items ≡ model.assocs → i < length items → assoc ≡ get_or items i assoc
    → n ≡ length model.sets → (assoc.first.set.index < n) × (assoc.second.set.index < n)
ends_within model items i n assoc ids same within is size =
    let Within : ℕ → Assoc → Type 0 = λ m a. (a.first.set.index < m) × (a.second.set.index < m) in
    let there : i < length model.assocs = subst (λ (list : List Assoc). i < length list) same within in
    let ends = ids.ends i assoc there in
    let here : get_or model.assocs i assoc ≡ assoc = sym (is ∙ ap (λ (list : List Assoc). get_or list i assoc) same) in
    subst (λ m. Within m assoc) (sym size) (subst (Within (length model.sets)) here (ends.0.0, ends.1.0))

-- what the map of a set holds
abbrev of_map : List Value → Option Kept → List Hosted
of_map key found = unwrap_or (option_and_then (λ (by_key : Kept). get (slice_cmp value_cmp) by_key key) found) []

module _ (maps : List Kept) (was now : Kept) (first_hosts : Bool) (number : LinkFragId) (a : AssocId) (assoc : Assoc) (links : List Link)
    (within : (host_set first_hosts assoc).index < length maps) (here : At maps (host_set first_hosts assoc).index was)
    (grown : (key : List Value) → links_at_key now [] key ≡ links_at_key was [] key ++ of_key first_hosts a key links) where
  abbrev h : ℕ
  h = (host_set first_hosts assoc).index

  -- links that are added to the map of their hosts' set are those that the entities of all sets host
  pub set_grown : (s : SetId) (key : List Value) → links_of (set maps h now) [] s key ≡ links_of maps [] s key ++ hosted_at (place.Hosted first_hosts number) a assoc s key links
  set_grown s key = ⊎_elim own other (cases_eq h s.index)
    where
      Goal : Type 0
      Goal = links_of (set maps h now) [] s key ≡ links_of maps [] s key ++ hosted_at (place.Hosted first_hosts number) a assoc s key links

      own : h ≡ s.index → Goal
      own same =
          let told : (h == s.index) ≡ true = (Decides-eqb h s.index).1 same in
          ap (of_map key) (ap (slice_get (set maps h now)) (sym same) ∙ set_here maps h now within)
          ∙ grown key
          ∙ ap (λ found. found ++ of_key first_hosts a key links) (sym (ap (of_map key) (ap (slice_get maps) (sym same) ∙ here)))
          ∙ sym (ap (λ b. links_of maps [] s key ++ (if b then of_key first_hosts a key links else [])) told)

      other : h ≢ s.index → Goal
      other apart = by (h == s.index) refl
        where
          by : (b : Bool) → (h == s.index) ≡ b → Goal
          by true is = absurd (apart ((Decides-eqb h s.index).0 is))
          by false is =
              ap (of_map key) (set_there maps h now s.index (λ same. apart (sym same)))
              ∙ sym (append-nil (links_of maps [] s key))
              ∙ sym (ap (λ b. links_of maps [] s key ++ (if b then of_key first_hosts a key links else [])) is)

-- empty maps hold no link
pub none_yet : (maps : List Kept) → All IsEmpty maps → (s : SetId) (key : List Value) → links_of maps [] s key ≡ []
none_yet maps empty s key = by (slice_get maps s.index) refl
  where
    by : (found : Option Kept) → slice_get maps s.index ≡ found → of_map key (slice_get maps s.index) ≡ []
    by None is = ap (of_map key) is
    by (Some kept) is =
        let within = slice_get_within maps s.index kept is in
        let bare : kept.entries ≡ [] = subst IsEmpty (get_or_from_slice_get maps s.index kept kept is) (empty s.index kept within) in
        ap (of_map key) is ∙ ap (λ (entries : List (List Value × List Hosted)). unwrap_or (lookup (is_at (slice_cmp value_cmp key)) entries) []) bare
