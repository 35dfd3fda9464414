-- Some values are allowed of the links of an association that has a table of its own: the keys of its plain link.
use Rattle.std.proofs.Common.{subst, arith}
use Rattle.round_trip.specs.Words.{AssocId, Assoc, At, IsIndependent}
use Rattle.schema_laws.proofs.sound_demand.Fitting.{sound_link}
use Rattle.cells.specs.Limits.{IsWithinLimits}
use Rattle.regions.specs.Basis.{Basis}
use Rattle.regions.specs.Patterns.{by_link}
use Rattle.regions.specs.region_laws.Held.{StandingLink}
use Rattle.regions.specs.region_laws.IsBasis.{IsBasis}
use Rattle.regions.specs.region_laws.pattern.Allowed.{IsAllowedLink, IsFocus}
use Rattle.regions.specs.declared.pattern.Focus.TheVariants as focus
use Rattle.regions.proofs.region_laws.pattern.values.Allowed.{link_allowed}
use Rattle.population.specs.Given.{HasNumbers}
use Rattle.population.specs.LinkStates.{link_state, plain_link}
use Rattle.population.proofs.supporting.LinkStates.{link_holds}
use Rattle.region_states.specs.conflicts.Conflicts.{IsTableOf}
use Rattle.round_trip.specs.Words.{TableId}

module _ (basis : Basis) (is : IsBasis basis) (a : AssocId) (t : TableId) (of : IsTableOf basis a t) where
  -- the association
  pub assoc_there : At basis.schema.model.assocs a.index of.assoc
  assoc_there = let P : AssocId → Type 0 = λ b. At basis.schema.model.assocs b.index of.assoc in subst P of.of_assoc of.joined.is_assoc

  pub is_link_focus : IsFocus basis (focus.Link a)
  is_link_focus = (of.assoc, assoc_there)

  pub is_independent : IsIndependent of.assoc
  is_independent = (sound_link basis.schema is.sound of.fragment of.joined.is_fragment of.assoc of.joined.is_assoc).independent

  module _ (limits : IsWithinLimits basis.schema) where
    pub numbers : HasNumbers basis.schema.model 0
    numbers = record { sound = is.sound.model; few = limits.model.0; row = omega arith }

    -- the plain link stands in a legal state
    abbrev pub standing : StandingLink basis
    standing =
        let holds = link_holds basis.schema.model 0 numbers a of.assoc assoc_there is_independent in
        record {
          state = link_state basis.schema.model 0 a of.assoc;
          legal = holds.legal;
          a = a;
          assoc = of.assoc;
          is_assoc = assoc_there;
          link = plain_link basis.schema.model 0 of.assoc;
          stands = holds.linked;
        }

    pub plain_allowed : IsAllowedLink basis a (by_link basis.schema.model of.assoc (plain_link basis.schema.model 0 of.assoc))
    plain_allowed = link_allowed basis is standing
