use Rattle.std.proofs.Common.{◌++◌, List, sym}
use Rattle.table_owners.specs.declared.table_writers.writer.Writer.{Writer}
use Rattle.msl_rules.specs.OwnerRules.{PlacedWriter, placed, writers_of_both, writers_of_end, writers_of_link}
use Rattle.msl_fragments.specs.msl_owners.Spots.{place_of}
use Rattle.msl_fragments.proofs.msl_owners.Adding.{adds_both, adds_same}
use Rattle.msl_fragments.proofs.msl_owners.Found.{placed_each}
use Rattle.msl_fragments.proofs.msl_owners.links.OfLink.add.Goals as goal

pub returns : goal.returns
returns c =
    let model = c.args.self.now.names.now.model.now in
    let store = c.args.self.now.names.now.store.now in
    let made = c.args.self.now.made.now in
    let assoc = c.args.assoc.now in
    let place = place_of c.args.self.now.spot in
    let At : List Writer → List PlacedWriter = placed model store place in
    let first = At (writers_of_end model store made assoc.first made.first) in
    let second = At (writers_of_end model store made assoc.second made.second) in
    let both = At (writers_of_both model store made assoc) in
    adds_same c.args.all.now c.add_both.new.all (first ++ second ++ both) (At (writers_of_link model store made assoc)) (sym (placed_each model store place made assoc))
    (adds_both c.args.all.now c.add_end-2.new.all c.add_both.new.all (first ++ second) both
    (adds_both c.args.all.now c.add_end.new.all c.add_end-2.new.all first second c.in_ok-add_end.ensures c.in_ok-add_end-2.ensures) c.in_ok-add_both.ensures)
