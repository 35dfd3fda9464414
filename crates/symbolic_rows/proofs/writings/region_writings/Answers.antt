use Rattle.std.proofs.Common.{map, ap}
use Rattle.symbolic_rows.specs.Written.{in_symbols}
use Rattle.symbolic_rows.proofs.Hosted.{region_writes}
use Rattle.symbolic_rows.proofs.writings.region_writings.Goals as goal

pub returns : goal.returns
returns c =
    region_writes c.args.parts.now c.requires c.args.region.now (map in_symbols c.new-writings.result.items) (map in_symbols c.add_entities.new.writings.items)
    (map in_symbols c.add_hosted.new.writings.items) (ap (map in_symbols) c.new-writings.ensures.items) c.in_ok-add_entities.ensures c.in_ok-add_hosted.ensures
