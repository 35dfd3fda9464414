-- A fragment that hides the links of an association with a table of its own: what is computed of it, and what is so.
use Rattle.std.proofs.Common.{ℕ, List, [], Contains, IsTrue, sym, subst}
use Rattle.round_trip.specs.Words.{AssocId, Link, State, TableId, links_in}
use Rattle.round_trip.specs.declared.FailKind.TheVariants as kind
use Rattle.cells.specs.Limits.{IsWithinLimits}
use Rattle.regions.specs.declared.pattern.Focus.TheVariants as focus
use Rattle.regions.specs.declared.pattern.PatternRow.{PatternRow}
use Rattle.regions.specs.Basis.{Basis}
use Rattle.regions.specs.Patterns.{Valuation, by_link, pattern_of}
use Rattle.regions.specs.region_laws.Held.{StandingLink}
use Rattle.regions.specs.region_laws.IsBasis.{IsBasis}
use Rattle.regions.specs.region_laws.pattern.Allowed.{AllowedFocus, IsAllowedLink}
use Rattle.regions.specs.region_laws.pattern.Described.{HasNoClashes}
use Rattle.region_states.specs.conflicts.Conflicts.{IsTableOf}
use Rattle.region_states.specs.conflicts.Facts.{disagrees_at}
use Rattle.region_states.specs.conflicts.There.{NoneFailsBy}
use Rattle.failure_laws.specs.Facts.{HidesLink}
use Rattle.failure_laws.proofs.links.LinkHides.{Decides-hides}
use Rattle.failure_laws.proofs.links.LinkRows.{row_clear}
use Rattle.failure_laws.proofs.witness.facts.Differing.{Decides-link_row}
use Rattle.failure_laws.proofs.witness.facts.LinkValues.{is_link_focus, plain_allowed, standing}

module _ (basis : Basis) (is : IsBasis basis) (limits : IsWithinLimits basis.schema) (none : NoneFailsBy basis.schema kind.Clash) (a : AssocId) (t : TableId)
    (of : IsTableOf basis a t) where
  abbrev IsClearLink : AssocId → Type 0
  IsClearLink b = (row : PatternRow) → Contains (pattern_of basis (focus.Link b)).rows row → HasNoClashes basis.schema.model [] row

  -- no row of its pattern clashes
  clear : IsClearLink a
  clear =
      let it : StandingLink basis = standing basis is a t of limits in
      let Stands : AssocId → Type 0 = λ b. Contains (links_in it.state b) it.link in
      let stands : Stands of.fragment.assoc = subst Stands (sym of.of_assoc) it.stands in
      subst IsClearLink of.of_assoc (λ row is_row. (row_clear basis is t of.fragment of.assoc of.joined it.state it.legal it.link stands none row is_row).clear)

  abbrev told_link : (values : Valuation) → IsAllowedLink basis a values → AllowedFocus basis
  told_link values allowed = record { of = focus.Link a; is_focus = is_link_focus basis is a t of; values = values; allowed = allowed }

  module _ (place : List ℕ) where
    pub link_hides_so : IsTrue (disagrees_at basis (focus.Link a) place) → HidesLink basis a place
    link_hides_so told =
        let found = (Decides-hides basis a place).0 told in
        let it : StandingLink basis = standing basis is a t of limits in
        let values : Valuation = by_link basis.schema.model it.assoc it.link in
        let allowed : IsAllowedLink basis a values = plain_allowed basis is a t of limits in
        record {
          fragment = found.0;
          mapped = found.1;
          at_place = found.2.0;
          of_assoc = found.2.1.0;
          values = values;
          allowed = allowed;
          hidden = λ shows. found.2.1.1 ((Decides-link_row basis is (told_link values allowed) clear found.0 found.1).1 shows);
        }

    pub link_hides_computed : HidesLink basis a place → IsTrue (disagrees_at basis (focus.Link a) place)
    link_hides_computed so = (Decides-hides basis a place).1 (
      so.fragment,
      so.mapped,
      (
        so.at_place,
        (so.of_assoc, λ told. so.hidden ((Decides-link_row basis is (told_link so.values so.allowed) clear so.fragment so.mapped).0 told)),
      ),
    )
