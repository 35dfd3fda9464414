use Rattle.std.proofs.Common.{refl, ◌∙◌}
use Rattle.mapping_run.specs.declared.answers.status.Status.TheVariants.{SinkFault}
use Rattle.mapping_run.specs.World.{World, world}
use Rattle.mapping_run.proofs.Complete.{complete}
use Rattle.mapping_run.proofs.Endings.{all_written, broken_off, gave_up, none_written, not_nothing}
use Rattle.mapping_run.proofs.commands.run.Goals as goal

pub returns-then-is_empty : goal.returns-then-is_empty
returns-then-is_empty g c =
    let before : World = world (g.F.Files.held c.args.files.now) (g.F.Files.fault_count c.args.files.now) (g.W.Sink.written_to c.args.out.now) (g.W.Sink.fault_count c.args.out.now) in
    let after : World = world (g.F.Files.held c.answer_of.new.files) (g.F.Files.fault_count c.answer_of.new.files) (g.W.Sink.written_to c.args.out.now) (g.W.Sink.fault_count c.args.out.now) in
    let ended = none_written g.F.Files.may_fail c.args.words.now before after
    c.in-Ok.answer c.as_slice.result.now c.in-Ok.ensures c.as_slice.ensures.bytes c.if-is_empty.ensures refl refl in
    record { headline = ended; complete = complete c.what_is_accepted_is_not_refused.ensures.limit c.what_is_accepted_is_saved.ensures g.F.Files.may_fail c.args.words.now before after c.in-Ok.answer.status ended }

pub returns-in-Ok-put : goal.returns-in-Ok-put
returns-in-Ok-put g c =
    let before : World = world (g.F.Files.held c.args.files.now) (g.F.Files.fault_count c.args.files.now) (g.W.Sink.written_to c.args.out.now) (g.W.Sink.fault_count c.args.out.now) in
    let after : World = world (g.F.Files.held c.answer_of.new.files) (g.F.Files.fault_count c.answer_of.new.files) (g.W.Sink.written_to c.put.new.self) (g.W.Sink.fault_count c.put.new.self) in
    let ended = all_written g.F.Files.may_fail c.args.words.now before after
    c.in-Ok.answer c.as_slice-2.result.now c.in-Ok.ensures c.as_slice-2.ensures.bytes
    c.in-Ok-put.ensures.cause c.in-Ok-put.ensures.writes in
    record { headline = ended; complete = complete c.what_is_accepted_is_not_refused.ensures.limit c.what_is_accepted_is_saved.ensures g.F.Files.may_fail c.args.words.now before after c.in-Ok.answer.status ended }

pub returns-in-Err-Failed : goal.returns-in-Err-Failed
returns-in-Err-Failed g c =
    let before : World = world (g.F.Files.held c.args.files.now) (g.F.Files.fault_count c.args.files.now) (g.W.Sink.written_to c.args.out.now) (g.W.Sink.fault_count c.args.out.now) in
    let after : World = world (g.F.Files.held c.answer_of.new.files) (g.F.Files.fault_count c.answer_of.new.files) (g.W.Sink.written_to c.put.new.self) (g.W.Sink.fault_count c.put.new.self) in
    let ended = broken_off g.F.Files.may_fail c.args.words.now before after
    c.in-Ok.answer c.as_slice-2.result.now c.in-Ok.ensures c.as_slice-2.ensures.bytes
    (λ empty. not_nothing c.as_slice.result.now c.if-is_empty.ensures (c.as_slice.ensures.bytes ∙ empty))
    c.in-Err-Failed.field-0 c.in-Err-Failed.field-0-is c.in-Err-Failed.ensures.writes c.in-Err-Failed.ensures.cause in
    record { headline = ended; complete = complete c.what_is_accepted_is_not_refused.ensures.limit c.what_is_accepted_is_saved.ensures g.F.Files.may_fail c.args.words.now before after SinkFault ended }

-- memory ran out in the sink
pub returns-clause-headline : goal.returns-clause-headline
returns-clause-headline g c =
    let before : World = world (g.F.Files.held c.args.files.now) (g.F.Files.fault_count c.args.files.now) (g.W.Sink.written_to c.args.out.now) (g.W.Sink.fault_count c.args.out.now) in
    let after : World = world (g.F.Files.held c.answer_of.new.files) (g.F.Files.fault_count c.answer_of.new.files) (g.W.Sink.written_to c.put.new.self) (g.W.Sink.fault_count c.put.new.self) in
    gave_up g.F.Files.may_fail c.args.words.now before after c.in-Ok.answer c.as_slice-2.result.now c.in-Ok.ensures c.as_slice-2.ensures.bytes
    c.in-Err-Memory.field-0 c.in-Err-Memory.field-0-is c.in-Err-Memory.ensures.writes c.in-Err-Memory.ensures.cause
