use Rattle.std.proofs.Common.{◌∙◌, List, ap, bytes_eq, find, sym}
use Rattle.std.specs.Option.{option_copied}
use Rattle.round_trip.specs.Words.{Table}
use Rattle.texts.proofs.command_texts.Named.{found_named, one_named}
use Rattle.texts.proofs.command_texts.data.table_named.Goals as goal

pub unreachable-requires : goal.unreachable-requires
unreachable-requires c =
    let name = c.args.name.now in
    let tables = c.args.store.now.tables in
    let first = λ (among : List Table). find (λ one. bytes_eq one.name name) among in
    one_named name tables c.requires (ap first (sym c.as_slice.ensures.items) ∙ sym c.first_named.ensures ∙ ap option_copied c.in-None.is)

pub returns-clause-among : goal.returns-clause-among
returns-clause-among c =
    let name = c.args.name.now in
    let tables = c.args.store.now.tables in
    let first = λ (among : List Table). find (λ one. bytes_eq one.name name) among in
    let found = ap first (sym c.as_slice.ensures.items) ∙ sym c.first_named.ensures ∙ ap option_copied c.in-Some.is in
    (found_named name tables c.in-Some.table.now found).0

pub returns-clause-named : goal.returns-clause-named
returns-clause-named c =
    let name = c.args.name.now in
    let tables = c.args.store.now.tables in
    let first = λ (among : List Table). find (λ one. bytes_eq one.name name) among in
    let found = ap first (sym c.as_slice.ensures.items) ∙ sym c.first_named.ensures ∙ ap option_copied c.in-Some.is in
    (found_named name tables c.in-Some.table.now found).1
