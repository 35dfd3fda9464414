use Rattle.dangling_keys.proofs.left_out.Apart.{entity_apart, link_apart}
use Rattle.dangling_keys.proofs.left_out.LeftOut.{entity_holds, entity_no_null, link_held}
use Rattle.dangling_keys.proofs.referring.EntityParts.{shows_apart}
use Rattle.dangling_keys.proofs.laws.what_is_not_forced_is_left_out.Goals as goal

pub returns-clause-entities : goal.returns-clause-entities
returns-clause-entities c basis sound outer region not_null of = entity_apart basis sound.is_basis sound.limits outer of.row of.s region of.listed not_null of.open_

pub returns-clause-focus : goal.returns-clause-focus
returns-clause-focus c basis sound outer region not_null of = record {
  holds = entity_holds basis sound.is_basis sound.limits outer of.row of.s region of.listed not_null of.open_;
  no_null = entity_no_null basis sound.is_basis sound.limits outer of.row of.s region of.listed not_null of.open_;
}

pub returns-clause-links : goal.returns-clause-links
returns-clause-links c basis sound outer a assoc of = link_apart basis sound.is_basis sound.limits outer of.row a assoc of.here of.independent

pub returns-clause-link : goal.returns-clause-link
returns-clause-link c basis sound outer a assoc of = link_held basis sound.is_basis sound.limits outer of.row a assoc of.here of.independent

pub returns-clause-shown : goal.returns-clause-shown
returns-clause-shown c basis sound key is_key of row may = shows_apart basis sound.is_basis sound.limits key is_key of row may
