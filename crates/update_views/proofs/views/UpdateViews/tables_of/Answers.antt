use Rattle.std.proofs.Common.{Result, Ok, Err, IfOk, ap, ◌∙◌}
use Rattle.update_views.specs.Placed.{keys_in_sets}
use Rattle.update_views.proofs.Whole.{whole}
use Rattle.update_views.proofs.views.UpdateViews.tables_of.Goals as goal

-- what follows from a result is so of it
follows : {T E : Type 0} (P Q : T → Type 0) → ((value : T) → P value → Q value) → (result : Result T E) → IfOk result P → IfOk result Q
follows P Q each (Ok value) is = each value is
follows P Q each (Err fault) is = tt

pub tables_by-requires-clause-keys : goal.tables_by-requires-clause-keys
tables_by-requires-clause-keys c = c.as_slice.ensures.value ∙ c.in_ok-keys.ensures ∙ ap (keys_in_sets c.args.parts.now.model.now) c.entity_lists.ensures

pub returns : goal.returns
returns c = record {
  tables = follows _ _ (λ tables is. whole c.args.parts.now c.requires.parts c.args.self.now c.requires.views c.in_ok-hosts.hosts c.args.state.now c.requires.few
      c.in_ok-hosts.ensures c.requires.legal c.requires.clear tables is) c.tables_by.result c.tables_by.ensures;
}
