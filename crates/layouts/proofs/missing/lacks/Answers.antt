use Rattle.std.proofs.Common.{sym, ◌∙◌}
use Rattle.layouts.proofs.missing.lacks.Goals as goal

pub returns-then-is_required : goal.returns-then-is_required
returns-then-is_required c = (
  λ none. record {
    required = c.is_required.ensures.0 c.if-is_required.true;
    object = sym c.is_object.ensures ∙ c.if-not-is_object.false;
    absent = c.has_none.ensures.0 none;
  },
  λ lacks. c.has_none.ensures.1 lacks.absent,
)
