use Rattle.std.proofs.Common.{◌≡◌, ◌++◌, ◌&&◌, Bool, true, false, not, List, [], ◌∷◌, ap, sym, ◌∙◌}
use Rattle.round_trip.specs.Words.{Mapping, Pair, key_columns}
use Rattle.round_trip.specs.Between.{schema_of}
use Rattle.table_owners.specs.declared.table_writers.writer.Owner.TheVariants as owner
use Rattle.table_owners.specs.declared.table_writers.writer.Writer.{Writer}
use Rattle.msl_rules.specs.OwnerRules.{PlacedWriter, are_exactly, is_one, placed, writers_of_both}
use Rattle.msl_fragments.specs.msl_owners.Spots.{place_of}
use Rattle.msl_fragments.proofs.msl_owners.Adding.{adds_none, adds_same}
use Rattle.msl_fragments.proofs.msl_owners.Found.{both_by}
use Rattle.msl_fragments.proofs.msl_owners.Hosted.{same_answer, tells_joined}
use Rattle.msl_fragments.proofs.msl_owners.links.OfLink.add_both.Goals as goal

pub returns-then-not-is_joined : goal.returns-then-not-is_joined
returns-then-not-is_joined c =
    let model = c.args.self.now.names.now.model.now in
    let store = c.args.self.now.names.now.store.now in
    let made = c.args.self.now.made.now in
    let assoc = c.args.assoc.now in
    let all = c.args.all.now in
    let none : Mapping = record { fragments = []; links = [] } in
    let test : Bool = are_exactly (key_columns store made.table) (made.first ++ made.second) && not (is_one assoc.first.mult) && not (is_one assoc.second.mult) in
    let is : test ≡ false
    = sym (same_answer c.is_joined.result test (c.is_joined.ensures model none) (tells_joined (schema_of model store none) made assoc)) ∙ c.if-not-is_joined.true in
    let At : List Writer → List PlacedWriter = placed model store (place_of c.args.self.now.spot) in
    adds_same all all [] (At (writers_of_both model store made assoc)) (ap At (sym (both_by model store made assoc false is))) (adds_none all)

pub returns : goal.returns
returns c =
    let model = c.args.self.now.names.now.model.now in
    let store = c.args.self.now.names.now.store.now in
    let made = c.args.self.now.made.now in
    let assoc = c.args.assoc.now in
    let none : Mapping = record { fragments = []; links = [] } in
    let test : Bool = are_exactly (key_columns store made.table) (made.first ++ made.second) && not (is_one assoc.first.mult) && not (is_one assoc.second.mult) in
    let is : test ≡ true
    = sym (same_answer c.is_joined.result test (c.is_joined.ensures model none) (tells_joined (schema_of model store none) made assoc)) ∙ c.if-not-is_joined.false in
    let At : List Writer → List PlacedWriter = placed model store (place_of c.args.self.now.spot) in
    let Of : List Pair → Writer = λ key. record { table = made.table; owner = owner.Assoc made.assoc; key = key } in
    adds_same c.args.all.now c.push.new.self (At (Of c.empty.result ∷ [])) (At (writers_of_both model store made assoc))
    (ap (λ (key : List Pair). At (Of key ∷ [])) c.empty.ensures ∙ ap At (sym (both_by model store made assoc true is))) c.in_ok-push.ensures
