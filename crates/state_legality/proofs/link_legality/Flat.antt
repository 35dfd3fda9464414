-- What is found association by association is just what breaks the rules of links and principals.
use Rattle.std.proofs.Common.{◌≡◌, ⊎_elim, inl, inr, ℕ, List, [], ◌∷◌, ◌++◌, Option, Some, None, MatchOption, refl, sym, ap, subst}
use Rattle.emc_base.specs.Lists.{At}
use Rattle.groupings.specs.least_fault.Least.{Among, IsLeast}
use Rattle.groupings.proofs.least_fault.Leasts.{least_same}
use Rattle.round_trip.specs.Words.{AssocId, EntityModel, Assoc, Constraint, Link, State, place_at, key_of, IsIndependent, links_in}
use Rattle.round_trip.specs.legality.Breaches.{BreaksEnd, BreaksOnce, BreaksCount, BreaksPrincipal}
use Rattle.entity_state.specs.breach_order.Founds.{found_cmp}
use Rattle.entity_state.specs.declared.breach_order.found.Found.{Found}
use Rattle.entity_state.proofs.breach_order.Finds.{from_parts}
use Rattle.state_legality.specs.declared.link_legality.side.Side.{Side}
use Rattle.state_legality.specs.declared.link_legality.side.Side.TheVariants.{First, Second}
use Rattle.state_legality.specs.link_legality.Principals.{IsLostAt}
use Rattle.state_legality.specs.link_legality.Tells.{BreaksLinks, HasLooseLink, HasMiscounted, HasDouble, BreaksAtSide, BreaksIndependent, BreaksAssoc}

module _ (model : EntityModel) (state : State) where
  -- what breaks a rule at the association of this number
  abbrev pub AssocBreaks : ℕ → Assoc → Found → Type 0
  AssocBreaks i assoc = BreaksAssoc model state (record { index = i }) assoc

  module _ (a : ℕ) (assoc : Assoc) (here : At model.assocs a assoc) where
    abbrev numbered : AssocId
    numbered = record { index = a }

    module _ (independent : IsIndependent assoc) (found : Found) where
      loose_breaks : (side : Side) → HasLooseLink model state numbered assoc side found → BreaksLinks model state found
      loose_breaks First some = inl (
        ap (λ (f : Found). f.rule) some.holds.found_is,
        record {
          a = a;
          i = some.i;
          assoc = assoc;
          link = some.item;
          stands = record { is_assoc = here; independent = independent; is_link = some.here };
          broken = inl (ap (λ (f : Found). f.spot) some.holds.found_is, ap (λ (f : Found). f.place) some.holds.found_is, some.holds.broken);
        },
      )
      loose_breaks Second some = inl (
        ap (λ (f : Found). f.rule) some.holds.found_is,
        record {
          a = a;
          i = some.i;
          assoc = assoc;
          link = some.item;
          stands = record { is_assoc = here; independent = independent; is_link = some.here };
          broken = inr (ap (λ (f : Found). f.spot) some.holds.found_is, ap (λ (f : Found). f.place) some.holds.found_is, some.holds.broken);
        },
      )

      double_breaks : HasDouble numbered assoc (links_in state numbered) found → BreaksLinks model state found
      double_breaks some =
          let repeat = some.repeat in
          let links : List Link = links_in state numbered in
          inr (inl (
            ap (λ (f : Found). f.rule) some.found_is,
            record {
              a = a;
              i = some.i;
              earlier = repeat.earlier;
              assoc = assoc;
              link = repeat.item;
              stands = record { is_assoc = here; independent = independent; is_link = repeat.here };
              other_stands = record { is_assoc = here; independent = independent; is_link = subst (λ (link : Link). At links repeat.earlier link) repeat.like repeat.there };
              before = repeat.before;
              spot_is = ap (λ (f : Found). f.spot) some.found_is;
              place_is = ap (λ (f : Found). f.place) some.found_is;
            },
          ))

      miscounted_breaks : (side : Side) → HasMiscounted model state numbered assoc side found → BreaksLinks model state found
      miscounted_breaks First some = inr (inr (inl (
        ap (λ (f : Found). f.rule) some.holds.found_is,
        (
          a,
          some.i,
          assoc,
          inl (
            ap (λ (f : Found). f.spot) some.holds.found_is,
            record {
              entity = some.item;
              is_assoc = here;
              independent = independent;
              stands = some.here;
              typed = some.holds.stands;
              broken = some.holds.broken;
              place_is = ap (λ (f : Found). f.place) some.holds.found_is;
            },
          ),
        ),
      )))
      miscounted_breaks Second some = inr (inr (inl (
        ap (λ (f : Found). f.rule) some.holds.found_is,
        (
          a,
          some.i,
          assoc,
          inr (
            ap (λ (f : Found). f.spot) some.holds.found_is,
            record {
              entity = some.item;
              is_assoc = here;
              independent = independent;
              stands = some.here;
              typed = some.holds.stands;
              broken = some.holds.broken;
              place_is = ap (λ (f : Found). f.place) some.holds.found_is;
            },
          ),
        ),
      )))

      side_breaks : (side : Side) → BreaksAtSide model state numbered assoc side found → BreaksLinks model state found
      side_breaks side = ⊎_elim (loose_breaks side) (miscounted_breaks side)

      independent_breaks : BreaksIndependent model state numbered assoc found → BreaksLinks model state found
      independent_breaks = ⊎_elim (⊎_elim (side_breaks First) (side_breaks Second)) double_breaks

    lost_breaks : (constraint : Constraint) → assoc.constraint ≡ Some constraint → (found : Found) → IsLostAt model state numbered assoc constraint found → BreaksLinks model state found
    lost_breaks constraint is found some =
        let lost = some.lost in
        inr (inr (inr (
          ap (λ (f : Found). f.rule) lost.holds.found_is,
          record {
            a = a;
            i = lost.i;
            assoc = assoc;
            constraint = constraint;
            set = some.set;
            entity = lost.item;
            is_assoc = here;
            constrained = is;
            stands = record { is_set = some.is_set; is_entity = lost.here };
            typed = lost.holds.stands;
            not_null = lost.holds.not_null;
            broken = lost.holds.broken;
            spot_is = ap (λ (f : Found). f.spot) lost.holds.found_is;
            place_is = ap (λ (f : Found). f.place) lost.holds.found_is;
          },
        )))

  found_breaks : (found : Found) → Among AssocBreaks model.assocs found → BreaksLinks model state found
  found_breaks found some = by some.item.constraint refl some.holds
    where
      by : (constraint : Option Constraint) → some.item.constraint ≡ constraint
          → MatchOption constraint (BreaksIndependent model state (record { index = some.i }) some.item found) (λ one. IsLostAt model state (record { index = some.i }) some.item one found)
          → BreaksLinks model state found
      by None is breaks = independent_breaks some.i some.item some.here is found breaks
      by (Some constraint) is breaks = lost_breaks some.i some.item some.here constraint is found breaks

  at_independent : (a : ℕ) (assoc : Assoc) (found : Found) → At model.assocs a assoc → IsIndependent assoc → BreaksIndependent model state (record { index = a }) assoc found
      → Among AssocBreaks model.assocs found
  at_independent a assoc found here is breaks =
      let P : Option Constraint → Type 0 = λ constraint.
      MatchOption constraint (BreaksIndependent model state (record { index = a }) assoc found) (λ one. IsLostAt model state (record { index = a }) assoc one found) in
      record { i = a; item = assoc; here = here; holds = subst P (sym is) breaks }

  at_constraint : (a : ℕ) (assoc : Assoc) (constraint : Constraint) (found : Found) → At model.assocs a assoc → assoc.constraint ≡ Some constraint
      → IsLostAt model state (record { index = a }) assoc constraint found → Among AssocBreaks model.assocs found
  at_constraint a assoc constraint found here is breaks =
      let P : Option Constraint → Type 0 = λ one.
      MatchOption one (BreaksIndependent model state (record { index = a }) assoc found) (λ other. IsLostAt model state (record { index = a }) assoc other found) in
      record { i = a; item = assoc; here = here; holds = subst P (sym is) breaks }

  end_found : (found : Found) → found.rule ≡ 5 → BreaksEnd model state found.spot found.place → Among AssocBreaks model.assocs found
  end_found found rule breaks = at_independent breaks.a breaks.assoc found breaks.stands.is_assoc breaks.stands.independent (inl (⊎_elim
      (λ first. inl (inl (record {
        i = breaks.i;
        item = breaks.link;
        here = breaks.stands.is_link;
        holds = record {
          broken = first.2;
          found_is = from_parts found 5 (breaks.a ∷ breaks.i ∷ 0 ∷ []) (place_at breaks.assoc.set_name (breaks.link.first ++ breaks.link.second) breaks.assoc.first.role) rule first.0 first.1;
        };
      })))
      (λ second. inr (inl (record {
        i = breaks.i;
        item = breaks.link;
        here = breaks.stands.is_link;
        holds = record {
          broken = second.2;
          found_is = from_parts found 5 (breaks.a ∷ breaks.i ∷ 1 ∷ []) (place_at breaks.assoc.set_name (breaks.link.first ++ breaks.link.second) breaks.assoc.second.role) rule second.0 second.1;
        };
      })))
      breaks.broken))

  once_found : (found : Found) → found.rule ≡ 6 → BreaksOnce model state found.spot found.place → Among AssocBreaks model.assocs found
  once_found found rule breaks = at_independent breaks.a breaks.assoc found breaks.stands.is_assoc breaks.stands.independent (inr (record {
    i = breaks.i;
    repeat = record {
      earlier = breaks.earlier;
      before = breaks.before;
      item = breaks.link;
      other = breaks.link;
      here = breaks.stands.is_link;
      there = breaks.other_stands.is_link;
      like = refl;
    };
    found_is = from_parts found 6 (breaks.a ∷ breaks.i ∷ []) (place_at breaks.assoc.set_name (breaks.link.first ++ breaks.link.second) []) rule breaks.spot_is breaks.place_is;
  }))

  count_found : (found : Found) → found.rule ≡ 7 → BreaksCount model state found.spot found.place → Among AssocBreaks model.assocs found
  count_found found rule (a, i, assoc, inl (spot_is, wrong)) = at_independent a assoc found wrong.is_assoc wrong.independent (inl (inl (inr (record {
    i = i;
    item = wrong.entity;
    here = wrong.stands;
    holds = record {
      stands = wrong.typed;
      broken = wrong.broken;
      found_is = from_parts found 7 (a ∷ 0 ∷ i ∷ []) (place_at assoc.set_name (key_of model wrong.entity) assoc.first.role) rule spot_is wrong.place_is;
    };
  }))))
  count_found found rule (a, i, assoc, inr (spot_is, wrong)) = at_independent a assoc found wrong.is_assoc wrong.independent (inl (inr (inr (record {
    i = i;
    item = wrong.entity;
    here = wrong.stands;
    holds = record {
      stands = wrong.typed;
      broken = wrong.broken;
      found_is = from_parts found 7 (a ∷ 1 ∷ i ∷ []) (place_at assoc.set_name (key_of model wrong.entity) assoc.second.role) rule spot_is wrong.place_is;
    };
  }))))

  principal_found : (found : Found) → found.rule ≡ 8 → BreaksPrincipal model state found.spot found.place → Among AssocBreaks model.assocs found
  principal_found found rule breaks = at_constraint breaks.a breaks.assoc breaks.constraint found breaks.is_assoc breaks.constrained (record {
    set = breaks.set;
    is_set = breaks.stands.is_set;
    lost = record {
      i = breaks.i;
      item = breaks.entity;
      here = breaks.stands.is_entity;
      holds = record {
        stands = breaks.typed;
        not_null = breaks.not_null;
        broken = breaks.broken;
        found_is = from_parts found 8 (breaks.a ∷ breaks.i ∷ []) (place_at breaks.set.name (key_of model breaks.entity) breaks.assoc.set_name) rule breaks.spot_is breaks.place_is;
      };
    };
  })

  breach_found : (found : Found) → BreaksLinks model state found → Among AssocBreaks model.assocs found
  breach_found found (inl end) = end_found found end.0 end.1
  breach_found found (inr (inl once)) = once_found found once.0 once.1
  breach_found found (inr (inr (inl count))) = count_found found count.0 count.1
  breach_found found (inr (inr (inr principal))) = principal_found found principal.0 principal.1

  -- the least that is found at the associations is the least breach
  pub least_links : (found : Option Found) → IsLeast found_cmp (Among AssocBreaks model.assocs) found → IsLeast found_cmp (BreaksLinks model state) found
  least_links found = least_same found_cmp (Among AssocBreaks model.assocs) (BreaksLinks model state) found found_breaks breach_found
