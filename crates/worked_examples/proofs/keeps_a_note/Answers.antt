use Rattle.worked_examples.proofs.people.Notes as notes
use Rattle.worked_examples.proofs.keeps_a_note.Goals as goal

pub returns : goal.returns
returns c = record {
  free = notes.free;
  written = notes.written;
  asked = notes.asked_is_not;
  unwritten = notes.unwritten;
  erased = notes.erased;
  kept = notes.kept;
}
