use Rattle.std.proofs.Common.{sym, ◌∙◌}
use Rattle.std.proofs.lemmas.Slice.Eq.{bytes_eq-Decides}
use Rattle.schema_names.proofs.NearPlaces.{prop_here}
use Rattle.schema_names.proofs.names.SchemaNames.prop_at.Goals as goal

pub returns-then-eq : goal.returns-then-eq
returns-then-eq c =
    let self = c.args.self.now in
    let same = (bytes_eq-Decides c.args.name.now c.as_str.result.now).0 (sym c.eq.ensures ∙ c.if-eq.true) ∙ c.as_str.ensures.text in
    prop_here self.model.now self.inherits.named c.args.ty c.in_ok-get.field-0.now c.args.number c.in_ok-prop.prop.now c.in_ok-declared.declared.now c.args.name.now
    (sym c.in_ok-get.ensures.item) (sym c.in_ok-prop.ensures.item) (sym c.in_ok-declared.ensures.item) same
