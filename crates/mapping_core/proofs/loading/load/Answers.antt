use Rattle.std.proofs.Common.{sym, subst}
use Rattle.mapping_core.specs.Accepted.{IsAccepted}
use Rattle.mapping_core.specs.Rules.{IsRead}
use Rattle.mapping_core.proofs.loading.load.Goals as goal

pub load_legal-requires-clause-made : goal.load_legal-requires-clause-made
load_legal-requires-clause-made c =
    let made = c.parts-made.ensures in record {
      read = subst IsRead (sym made.lends) made.read;
      accepted = subst IsAccepted (sym made.lends) made.accepted;
      parts = made.parts;
      update_views = made.update_views;
      query_views = made.query_views;
    }
