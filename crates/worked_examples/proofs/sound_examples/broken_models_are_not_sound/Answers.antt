use Rattle.worked_examples.proofs.sound_examples.models.BrokenModels as broken
use Rattle.worked_examples.proofs.sound_examples.broken_models_are_not_sound.Goals as goal

pub returns : goal.returns
returns c = record {
  key = broken.no_optional_key;
  base = broken.no_own_base;
  forest = broken.no_lost_employees;
  concrete = broken.no_nobody;
  mults = broken.no_paired;
  arrows = broken.no_own_principal;
  names = broken.no_inherited_name;
  principal = broken.no_unlisted;
}
