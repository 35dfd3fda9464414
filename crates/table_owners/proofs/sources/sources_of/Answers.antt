use Rattle.std.proofs.Common.{rules, ◌≡◌, length, replicate, None, ap, ◌∙◌}
use Rattle.std.proofs.lemmas.List.{length-replicate}
use Rattle.round_trip.specs.Between.{schema_of}
use Rattle.table_owners.proofs.columns.Sourcing.{are_sources}
use Rattle.table_owners.proofs.sources.sources_of.Goals as goal

pub returns-clause-size : goal.returns-clause-size
returns-clause-size c =
    let none : c.in_ok-sources.sources.items ≡ replicate c.len.result None = c.in_ok-sources.ensures.items_if_clones_equal (λ y is. search rules) in
    c.put_links.ensures.size ∙ c.put_entities.ensures.size ∙ ap length none ∙ length-replicate c.len.result None ∙ c.len.ensures.count

pub returns-clause-sources : goal.returns-clause-sources
returns-clause-sources c = λ model.
    let none : c.in_ok-sources.sources.items ≡ replicate (length c.args.store.now.tables) None =
    c.in_ok-sources.ensures.items_if_clones_equal (λ y is. search rules) ∙ ap (λ n. replicate n None) c.len.ensures.count in
    are_sources (schema_of model c.args.store.now c.args.mapping.now) c.in_ok-sources.sources.items c.put_entities.new.sources.items c.put_links.new.sources.items
    none c.put_entities.ensures (c.put_links.ensures.puts model)
