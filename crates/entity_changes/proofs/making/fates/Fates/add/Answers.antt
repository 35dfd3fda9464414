use Rattle.std.proofs.Common.{refl}
use Rattle.std.specs.BTreeMap.{get}
use Rattle.entity_changes.specs.Spots.{spot_cmp}
use Rattle.entity_changes.specs.making.Fates.{survivor}
use Rattle.entity_changes.proofs.Kept.{lent_kept, lent_more}
use Rattle.entity_changes.proofs.making.fates.Fates.add.Goals as goal

pub returns-in_ok-push : goal.returns-in_ok-push
returns-in_ok-push g c = record {
  fates = refl;
  lists = lent_more c.args.self.now.behind.items c.args.place (survivor (get spot_cmp c.args.self.now.by_spot c.args.spot.now) c.args.item.now)
      c.index_mut.result.now c.push.new.self c.in-Some.kept c.in-Some.ensures c.requires c.index_mut.ensures.value c.in_ok-push.ensures.items;
}

pub returns-in_default : goal.returns-in_default
returns-in_default g c = record {
  fates = refl;
  lists = lent_kept c.args.self.now.behind.items c.args.place
      (survivor (get spot_cmp c.args.self.now.by_spot c.args.spot.now) c.args.item.now) c.in_default.ensures c.requires;
}
