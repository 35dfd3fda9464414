use Rattle.std.proofs.Common.{◌≡◌, List, ℕ, [], ◌∷◌, Option, ap, sym, ◌∙◌}
use Rattle.layouts.proofs.rule_places.LeastFound.{none_of}
use Rattle.round_trip.specs.Words.{PropId}
use Rattle.schema_names.specs.SchemaNames.{set_named, table_named}
use Rattle.table_owners.specs.declared.table_writers.writer.Writer.{Writer}
use Rattle.msl_rules.specs.Found.{pairs_in, prop_of_picks, set_numbered, table_numbered}
use Rattle.msl_rules.specs.OwnerRules.{PlacedWriter, writers_at_site}
use Rattle.msl_rules.specs.Sites.{Site}
use Rattle.msl_fragments.specs.msl_owners.SetWriters.{writer_of_set}
use Rattle.msl_fragments.proofs.msl_owners.Adding.{adds_none, adds_same}
use Rattle.msl_fragments.proofs.msl_owners.Found.{site_found, site_lacks}
use Rattle.msl_fragments.proofs.msl_owners.Writers.{site_at}
use Rattle.msl_fragments.proofs.msl_owners.fragments.OfTypes.add_fragment.Goals as goal

pub returns-in_default-table_named : goal.returns-in_default-table_named
returns-in_default-table_named c =
    let self = c.args.self.now in
    let model = self.of.names.now.model.now in
    let store = self.of.names.now.store.now in
    let all = c.args.all.now in
    let site : Site = site_at model store self.of.place self.of.set.now self.place self.types.now (c.args.place, c.args.fragment.now) in
    let set = sym (c.set_named.ensures ∙ ap (set_named model) c.as_str.ensures.text) ∙ c.in-Some.is in
    let table = sym (c.table_named.ensures ∙ ap (table_named store) c.as_str-2.ensures.text) ∙ none_of c.table_named.result c.in_default-table_named.not-Some in
    adds_same all all [] (writers_at_site model store site) (sym (site_lacks model store site c.in-Some.set set table)) (adds_none all)

pub returns : goal.returns
returns c =
    let self = c.args.self.now in
    let model = self.of.names.now.model.now in
    let store = self.of.names.now.store.now in
    let types = self.types.now in
    let fragment = c.args.fragment.now in
    let s = c.in-Some.set in
    let t = c.in-Some-table_named.table in
    let site : Site = site_at model store self.of.place self.of.set.now self.place types (c.args.place, fragment) in
    let set = sym (c.set_named.ensures ∙ ap (set_named model) c.as_str.ensures.text) ∙ c.in-Some.is in
    let table = sym (c.table_named.ensures ∙ ap (table_named store) c.as_str-2.ensures.text) ∙ c.in-Some-table_named.is in
    let named = c.picked_type-ty.ensures ∙ ap (prop_of_picks model) c.as_slice.ensures.items in
    let writer : c.in_ok-writer.writer ≡ writer_of_set model store (set_numbered s) (table_numbered t) (pairs_in model store (prop_of_picks model types.picks) t fragment.pairs)
    = c.in_ok-writer.ensures ∙ (λ k. writer_of_set model store (set_numbered (c.in_ok-narrow.ensures k)) (table_numbered t) (pairs_in model store (named k) t fragment.pairs)) in
    let At : Writer → List PlacedWriter = λ one. record { place = site.place; writer = one } ∷ [] in
    adds_same c.args.all.now c.push.new.self (At c.in_ok-writer.writer) (writers_at_site model store site)
    (ap At writer ∙ sym (site_found model store site s t set table)) c.in_ok-push.ensures
