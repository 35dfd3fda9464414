-- The rules of sets and those of links and principals together.
use Rattle.std.proofs.Common.{◌≡◌, ◌⊎◌, ⊎_elim, inl, inr, Option, None, sym, subst}
use Rattle.groupings.specs.least_fault.Least.{IsLeast, earlier}
use Rattle.groupings.proofs.least_fault.Leasts.{least_of_both, least_same}
use Rattle.round_trip.specs.Words.{Breach, EntityModel, State, IsBreachOf, IsLegal, IsState}
use Rattle.round_trip.specs.soundness.models.Models.{IsSoundModel}
use Rattle.entity_state.specs.breach_order.Founds.{found_cmp}
use Rattle.entity_state.specs.breach_order.FoundOrder.{found_cmp_total}
use Rattle.entity_state.specs.declared.breach_order.found.Found.{Found}
use Rattle.state_legality.specs.set_legality.Tells.{AreLegalSets, BreaksSets}
use Rattle.state_legality.proofs.set_legality.Kept.{kept}
use Rattle.state_legality.proofs.set_legality.Unbroken.{legal_set}
use Rattle.state_legality.specs.link_legality.Tells.{BreaksLinks, KeepsLinkRules}
use Rattle.state_legality.proofs.link_legality.Kept.{no_breach}
use Rattle.state_legality.proofs.link_legality.Unbroken.{keeps_rules}
use Rattle.state_legality.specs.Tells.{BreaksState}

module _ (model : EntityModel) (state : State) where
  all_rules : (found : Found) → BreaksSets model state found ⊎ BreaksLinks model state found → BreaksState model state found
  all_rules found (inl (inl one)) = inl one
  all_rules found (inl (inr (inl two))) = inr (inl two)
  all_rules found (inl (inr (inr (inl three)))) = inr (inr (inl three))
  all_rules found (inl (inr (inr (inr four)))) = inr (inr (inr (inl four)))
  all_rules found (inr rest) = inr (inr (inr (inr rest)))

  by_part : (found : Found) → BreaksState model state found → BreaksSets model state found ⊎ BreaksLinks model state found
  by_part found (inl one) = inl (inl one)
  by_part found (inr (inl two)) = inl (inr (inl two))
  by_part found (inr (inr (inl three))) = inl (inr (inr (inl three)))
  by_part found (inr (inr (inr (inl four)))) = inl (inr (inr (inr four)))
  by_part found (inr (inr (inr (inr rest)))) = inr rest

  -- the least of both parts is the least of all
  pub least_of_all : (in_sets in_links both : Option Found) → both ≡ earlier found_cmp in_sets in_links
      → IsLeast found_cmp (BreaksSets model state) in_sets → IsLeast found_cmp (BreaksLinks model state) in_links → IsLeast found_cmp (BreaksState model state) both
  least_of_all in_sets in_links both is sets links =
      subst (IsLeast found_cmp (BreaksState model state)) (sym is)
      (least_same found_cmp (λ found. BreaksSets model state found ⊎ BreaksLinks model state found) (BreaksState model state) (earlier found_cmp in_sets in_links) all_rules by_part
      (least_of_both found_cmp found_cmp_total (BreaksSets model state) (BreaksLinks model state) in_sets in_links sets links))

  -- a state is legal where its sets are, and its links and principals
  pub legal_from : IsState model state → AreLegalSets model state.entities → KeepsLinkRules model state → IsLegal model state
  legal_from shape sets links = record { shape = shape; sets = λ s set here. sets s.index set here; links = links.links; principals = links.principals }

  pub sets_of : IsLegal model state → AreLegalSets model state.entities
  sets_of legal s set here = legal.sets (record { index = s }) set here

  pub links_of : IsLegal model state → KeepsLinkRules model state
  links_of legal = record { links = legal.links; principals = legal.principals }

  -- where nothing is found, it is legal
  pub legal_where_clean : IsSoundModel model → IsState model state → IsLeast found_cmp (BreaksState model state) None → IsLegal model state
  legal_where_clean sound shape none = legal_from shape
      (λ s set here. legal_set model sound state (λ found breaks. none found (all_rules found (inl breaks))) s set here)
      (keeps_rules model state sound (λ found breaks. none found (all_rules found (inr breaks))))

  -- and where it is legal, nothing is
  pub clean_where_legal : IsLegal model state → (found : Found) → ¬ BreaksState model state found
  clean_where_legal legal found breaks = ⊎_elim (kept model state (sets_of legal) found) (no_breach model state (links_of legal) found) (by_part found breaks)

  pub no_first_breach : (breach : Breach) → IsLegal model state → ¬ IsBreachOf model state breach
  no_first_breach breach legal first = clean_where_legal legal (record { rule = breach.rule; spot = first.spot; place = breach.place }) first.broken
