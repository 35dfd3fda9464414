-- A detail of a line of an order.
use Rattle.std.proofs.Common.{refl, arith}
use Rattle.std.specs.Prelude.{false}
use Rattle.edm_types.specs.IsA.{same}
use Rattle.worked_examples.specs.Ids.{prop_id, type_id}
use Rattle.worked_examples.specs.sound_examples.Lines.{line_number_prop, line_order_prop}
use Rattle.worked_examples.specs.supported.Details.{DetailAsks, DetailAsksFirst, DetailIsLegal, DetailStands, detail, detail_number_prop, detail_order_prop, detail_state, detail_type, details_model, details_set, one_detail}
use Rattle.worked_examples.proofs.facts.Entities.{MayStand}
use Rattle.worked_examples.proofs.facts.Values.{short_fits, whole_fits}
use Rattle.worked_examples.proofs.supported_states.Given.{GivenFacts, legal_without, short_for}
use Rattle.worked_examples.proofs.supported_states.sound.Details.{sound}

pub asks_first : DetailAsksFirst
asks_first = refl

pub asks : DetailAsks
asks = refl

pub stands : DetailStands
stands = refl

may_stand : MayStand details_model details_set (detail 7 3)
may_stand = record {
  shape = (detail_type, refl, refl);
  type = record { concrete = (detail_type, refl, refl); under = same (type_id 2) };
  fits = (
    record { declared = detail_order_prop; is_declared = refl; fits = whole_fits false 7 (omega arith) },
    (record { declared = detail_number_prop; is_declared = refl; fits = short_fits false 3 (omega arith) }, tt),
  );
}

facts : GivenFacts details_model one_detail
facts = record {
  each = (record { set = details_set; is_set = refl; stands = may_stand; free = refl }, tt);
  apart = (tt, tt);
  short = (
    (
      short_for details_model (prop_id 1) line_order_prop refl 7 tt (omega arith),
      (short_for details_model (prop_id 2) line_number_prop refl 3 tt (omega arith), tt),
    ),
    tt,
  );
}

pub legal : DetailIsLegal
legal = legal_without details_model sound (omega arith) one_detail facts detail_state stands
