-- The classes break no rule.
use Rattle.csdl_model.specs.csdl_sound.Classes.{classes}
use Rattle.csdl_model.specs.csdl_sound.SoundMeaning.{KeepsRules}
use Rattle.csdl_model.proofs.csdl_sound.classes.ClassesResolve.{repeats_none, resolves_all}
use Rattle.csdl_model.proofs.csdl_sound.classes.ClassesSets.{keeps_constraints, keeps_sets}
use Rattle.csdl_model.proofs.csdl_sound.classes.ClassesTypes.{keeps_types}

pub classes_keep : KeepsRules classes
classes_keep = record {
  types = record { repeats_none = repeats_none; resolves_all = resolves_all; keeps_types = keeps_types };
  constraints = keeps_constraints;
  sets = keeps_sets;
}
