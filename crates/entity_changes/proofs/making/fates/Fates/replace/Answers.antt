use Rattle.std.proofs.Common.{◌∙◌, refl, sym}
use Rattle.entity_changes.proofs.making.Put.{put_first, put_never}
use Rattle.entity_changes.proofs.making.fates.Fates.replace.Goals as goal

pub returns-in_ok-insert : goal.returns-in_ok-insert
returns-in_ok-insert g c = record {
  behind = refl;
  fates = put_first c.args.spot c.args.item c.args.self.now.by_spot c.insert.new.self
      (sym c.contains_key.ensures ∙ c.if-not-contains_key.true) c.in_ok-insert.ensures.updates.0;
}

pub returns-else-not-contains_key : goal.returns-else-not-contains_key
returns-else-not-contains_key g c = record {
  behind = refl;
  fates = put_never c.args.spot c.args.item.now c.args.self.now.by_spot (sym c.contains_key.ensures ∙ c.if-not-contains_key.false);
}
