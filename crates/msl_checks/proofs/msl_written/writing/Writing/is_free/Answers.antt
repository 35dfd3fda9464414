use Rattle.std.proofs.Common.{◌↔◌, IsTrue, not, sym, subst}
use Rattle.edm_types.specs.declared.mapping.CondOn.{CondOn}
use Rattle.round_trip.specs.soundness.mappings.Joined.{IsBarred, member_of}
use Rattle.round_trip.specs.soundness.mappings.Joined.Member.{prop}
use Rattle.msl_checks.specs.msl_written.Within.{schema_in, table_in}
use Rattle.msl_checks.proofs.msl_written.Free.{told_free}
use Rattle.msl_checks.proofs.msl_written.writing.Writing.is_free.Goals as goal

pub returns-in-Prop : goal.returns-in-Prop
returns-in-Prop c =
    let self = c.args.self.now in
    let Tells : CondOn → Type 0 = λ what. IsTrue (not c.has_prop.result) ↔ (¬ IsBarred (schema_in self.between) (member_of (table_in self) what)) in
    subst Tells (sym c.in-Prop.is) (told_free (schema_in self.between) self.between.barred.now (prop c.in-Prop.prop) c.has_prop.result self.between.told c.has_prop.ensures)
