-- What the lists hold that a map lists by forms.
use Rattle.std.proofs.Common.{◌≡◌, ℕ, ◌<◌, List, map, filter, length, get_or, All, AllPairs, Contains, Bool, sym, ap, subst, ◌∙◌, arith}
use Rattle.std.specs.BTreeMap.{BTreeMap, IsOrdered, values}
use Rattle.std.specs.Global.{Vec}
use Rattle.std.specs.Ordering.{is_eq}
use Rattle.std.specs.declared.cmp.Ordering.TheVariants.{Equal}
use Rattle.std.proofs.lemmas.Cmp.{tied_back}
use Rattle.std.proofs.lemmas.List.Kept.{AllPairs-filter}
use Rattle.std.proofs.lemmas.Option.{slice_get-get_or, slice_get_within}
use Rattle.emc_base.specs.Lists.{At}
use Rattle.emc_base.proofs.Lists.{all_from_members, at_once, item_at}
use Rattle.emc_base.proofs.Mapped.{contains_at}
use Rattle.emc_base.proofs.Numbered.{all_pairs_map, filter_contains, map_contains}
use Rattle.emc_base.proofs.facts.Orderings.{is_equal}
use Rattle.regions.specs.Basis.{Basis}
use Rattle.regions.proofs.region_laws.lists.Found.{place_of}
use Rattle.containment.specs.declared.same_conflicts.forms.Form.{Form}
use Rattle.containment.specs.declared.same_conflicts.forms.Held.{Held}
use Rattle.containment.specs.declared.same_conflicts.written.Written.{Written}
use Rattle.containment.specs.same_conflicts.Forms.{form_cmp, form_of}
use Rattle.groupings.specs.item_groups.Groups.{items_of}
use Rattle.containment.specs.same_conflicts.Rivals.{AreGrouped, IsFormAt}
use Rattle.containment.specs.same_conflicts.Written.{region_in}
use Rattle.groupings.proofs.item_groups.Keyed.{list_of, list_with}
use Rattle.containment.proofs.same_conflicts.Ordered.{form_total, forms_same, links_same}

module _ (basis : Basis) (written : List Written) (groups : BTreeMap Form (Vec ℕ)) (grouped : AreGrouped basis written groups) (ordered : IsOrdered form_cmp groups) where
  abbrev test : Form → Form × ℕ → Bool
  test form one = is_eq (form_cmp one.0 form)

  module _ (list : Vec ℕ) (among : Contains (values groups) list) where
    -- the list is that of a form
    of_form : (form : Form) × (list.items ≡ items_of form_cmp grouped.formed form)
    of_form = list_of form_cmp form_total groups grouped.formed grouped.at ordered list among

    -- each place in it is of a region of this form
    listed : (p : ℕ) → Contains list.items p → (one : Form × ℕ) × IsFormAt basis written p one × (form_cmp one.0 of_form.0 ≡ Equal)
    listed p has =
        let kept : List (Form × ℕ) = filter (test of_form.0) grouped.formed in
        let image = map_contains (λ (one : Form × ℕ). one.1) kept p (subst (λ items. Contains items p) of_form.1 has) in
        let found = filter_contains (test of_form.0) grouped.formed image.0 image.1 in
        let place = place_of grouped.formed image.0 found.0 in
        let at = grouped.forms.each place.0 image.0 place.1 in
        let same : place.0 ≡ p = sym at.place ∙ image.2 in
        (image.0, subst (λ i. IsFormAt basis written i image.0) same at, is_equal (form_cmp image.0.0 of_form.0) found.1)

    -- so it is a place
    pub places_below : All (λ place. place < length written) list.items
    places_below = all_from_members (λ place. place < length written) list.items
        (λ p has. (let one = (listed p has).1 in slice_get_within written p one.one one.here))

    -- the places rise
    pub places_rise : AllPairs (λ p q. p < q) list.items
    places_rise = subst (AllPairs (λ p q. p < q)) (sym of_form.1) (all_pairs_map (λ p q. p < q) (λ (one : Form × ℕ). one.1) (filter (test of_form.0) grouped.formed)
        (AllPairs-filter (λ (a b : Form × ℕ). a.1 < b.1) (test of_form.0) grouped.formed rise))
      where
        rise : AllPairs (λ (a b : Form × ℕ). a.1 < b.1) grouped.formed
        rise i j d before within =
            let under : i < length grouped.formed = omega (arith, before, within) in
            let first = (grouped.forms.each i (get_or grouped.formed i d) (slice_get-get_or grouped.formed i d under)).place in
            let second = (grouped.forms.each j (get_or grouped.formed j d) (slice_get-get_or grouped.formed j d within)).place in
            omega (arith, before, first, second)

    -- and the same links are there
    pub same_links : (p q : ℕ) (one two : Written) → Contains list.items p → Contains list.items q → At written p one → At written q two
        → map (λ assoc. assoc.index) (region_in one).linked ≡ map (λ assoc. assoc.index) (region_in two).linked
    same_links p q one two has has_too at there =
        let first = listed p has in
        let second = listed q has_too in
        let equal = form_total.congr first.0.0 of_form.0 second.0.0 first.2 ∙ tied_back form_total second.0.0 of_form.0 second.2 in
        let is_one = at_once written p first.1.one one first.1.here at in
        let is_two = at_once written q second.1.one two second.1.here there in
        sym (ap (λ (w : Written). map (λ assoc. assoc.index) (region_in w).linked) is_one)
        ∙ sym (ap (λ (shown : List ℕ × List (ℕ × List Held)). shown.0) first.1.told)
        ∙ links_same first.0.0 second.0.0 equal
        ∙ ap (λ (shown : List ℕ × List (ℕ × List Held)). shown.0) second.1.told
        ∙ ap (λ (w : Written). map (λ assoc. assoc.index) (region_in w).linked) is_two

  -- the places of regions of one form stand in one list
  pub same_list : (p q : ℕ) (one two : Written) → At written p one → At written q two → form_of basis (region_in one) ≡ form_of basis (region_in two)
      → (list : Vec ℕ) × Contains (values groups) list × Contains list.items p × Contains list.items q
  same_list p q one two at there same =
      let first = formed_at p one at in
      let second = formed_at q two there in
      let is_one = at_once written p (first.2).one one first.2.here at in
      let is_two = at_once written q (second.2).one two second.2.here there in
      let equal = forms_same second.0.0 first.0.0
      (second.2.told ∙ ap (λ (w : Written). form_of basis (region_in w)) is_two ∙ sym same ∙ sym (ap (λ (w : Written). form_of basis (region_in w)) is_one) ∙ sym first.2.told) in
      let found = list_with form_cmp form_total groups grouped.formed grouped.at first.0 second.0 first.1 second.1 equal in
      (found.0, found.1, subst (Contains found.0.items) first.2.place found.2, subst (Contains found.0.items) second.2.place found.3)
    where
      formed_at : (i : ℕ) (w : Written) → At written i w → (one : Form × ℕ) × Contains grouped.formed one × IsFormAt basis written i one
      formed_at i w here =
          let found = item_at grouped.formed i (subst (λ n. i < n) (sym grouped.forms.size) (slice_get_within written i w here)) in
          (found.0, contains_at grouped.formed i found.0 found.1, grouped.forms.each i found.0 found.1)
