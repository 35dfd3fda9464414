use Rattle.std.proofs.Common.{◌≡◌, ◌↔◌, true, false, List, [], ◌∷◌, IsTrue, ap, sym, subst, ◌∙◌}
use Rattle.round_trip.specs.Words.{Mapping, Pair, key_columns}
use Rattle.round_trip.specs.FailsAt.{IsHostedAt}
use Rattle.round_trip.specs.Between.{schema_of}
use Rattle.table_owners.specs.declared.table_writers.writer.Writer.{Writer}
use Rattle.msl_rules.specs.OwnerRules.{PlacedWriter, are_exactly, placed, writers_of_end}
use Rattle.msl_fragments.specs.msl_owners.SetWriters.{writer_of_set}
use Rattle.msl_fragments.specs.msl_owners.Spots.{place_of}
use Rattle.msl_fragments.proofs.msl_owners.Adding.{adds_none, adds_same}
use Rattle.msl_fragments.proofs.msl_owners.Found.{end_by}
use Rattle.msl_fragments.proofs.msl_owners.Hosted.{same_answer, tells_hosted}
use Rattle.msl_fragments.proofs.msl_owners.links.OfLink.add_end.Goals as goal

pub returns-then-not-is_hosted : goal.returns-then-not-is_hosted
returns-then-not-is_hosted c =
    let model = c.args.self.now.names.now.model.now in
    let store = c.args.self.now.names.now.store.now in
    let made = c.args.self.now.made.now in
    let pairs = c.args.pairs.now in
    let all = c.args.all.now in
    let none : Mapping = record { fragments = []; links = [] } in
    let P : List Pair → Type 0 = λ ps. IsTrue c.is_hosted.result ↔ IsHostedAt (schema_of model store none) made.table ps in
    let is : are_exactly (key_columns store made.table) pairs ≡ false
    = sym (same_answer c.is_hosted.result (are_exactly (key_columns store made.table) pairs) (subst P c.as_slice.ensures.items (c.is_hosted.ensures model none))
    (tells_hosted (schema_of model store none) made.table pairs)) ∙ c.if-not-is_hosted.true in
    adds_same all all [] (placed model store (place_of c.args.self.now.spot) (writers_of_end model store made c.args.end.now pairs))
    (ap (placed model store (place_of c.args.self.now.spot)) (sym (end_by model store made c.args.end.now pairs false is))) (adds_none all)

pub returns : goal.returns
returns c =
    let model = c.args.self.now.names.now.model.now in
    let store = c.args.self.now.names.now.store.now in
    let made = c.args.self.now.made.now in
    let end = c.args.end.now in
    let pairs = c.args.pairs.now in
    let none : Mapping = record { fragments = []; links = [] } in
    let P : List Pair → Type 0 = λ ps. IsTrue c.is_hosted.result ↔ IsHostedAt (schema_of model store none) made.table ps in
    let is : are_exactly (key_columns store made.table) pairs ≡ true
    = sym (same_answer c.is_hosted.result (are_exactly (key_columns store made.table) pairs) (subst P c.as_slice.ensures.items (c.is_hosted.ensures model none))
    (tells_hosted (schema_of model store none) made.table pairs)) ∙ c.if-not-is_hosted.false in
    let At : List Writer → List PlacedWriter = placed model store (place_of c.args.self.now.spot) in
    let writer = c.in_ok-writer.ensures ∙ ap (writer_of_set model store end.set made.table) c.as_slice-2.ensures.items in
    adds_same c.args.all.now c.push.new.self (At (c.in_ok-writer.writer ∷ [])) (At (writers_of_end model store made end pairs))
    (ap (λ (one : Writer). At (one ∷ [])) writer ∙ ap At (sym (end_by model store made end pairs true is))) c.in_ok-push.ensures
