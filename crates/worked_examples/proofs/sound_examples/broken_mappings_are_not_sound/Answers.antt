use Rattle.worked_examples.proofs.sound_examples.mappings.SeatsMapped.{no_swapped}
use Rattle.worked_examples.proofs.sound_examples.mappings.BrokenMappings as broken
use Rattle.worked_examples.proofs.sound_examples.broken_mappings_are_not_sound.Goals as goal

pub returns : goal.returns
returns c = record {
  key = broken.no_keyless;
  condition = broken.no_one_id;
  constant = broken.no_wrong_sort;
  bound = broken.no_short;
  property = broken.no_salaried;
  place = broken.no_doubled;
  owner = broken.no_crowded;
  host = broken.no_one_boss;
  joined = broken.no_told_boss;
  joined_enum = broken.no_enum_boss;
  constraint = broken.no_mapped_owner;
  pairing = no_swapped;
}
