use Rattle.std.proofs.Common.{◌<◌, ◌-◌, length, take, inl, inr, refl, ap, ◌∙◌, arith}
use Rattle.graphs.specs.declared.arrow_cycles.search.Mark.TheVariants.{New, OnPath, Closed}
use Rattle.graphs.specs.declared.arrow_cycles.search.Search.{Search}
use Rattle.graphs.proofs.arrow_cycles.Places.{at_read}
use Rattle.graphs.proofs.arrow_cycles.Steps.{end_inside, end_next, joined_step, passed_step}
use Rattle.graphs.proofs.arrow_cycles.search.Search.follow.Goals as goal

pub index-requires : goal.index-requires
index-requires c =
    let inside : c.args.end < length c.args.self.now.marks.items =
    end_inside c.args.ends.now c.args.self.now c.requires.search c.args.group c.args.end c.requires.last c.requires.within in
    omega (arith, inside)

pub open-requires-clause-next : goal.open-requires-clause-next
open-requires-clause-next c =
    let old = c.args.self.now in
    let inside = end_inside c.args.ends.now old c.requires.search c.args.group c.args.end c.requires.last c.requires.within in
    end_next c.args.ends.now old c.requires.search c.args.group c.args.end c.requires.last
    (at_read old.marks.items c.args.end c.index.result.now New inside c.index.ensures c.in-New.is)

pub returns-then-position-group : goal.returns-then-position-group
returns-then-position-group c =
    let old = c.args.self.now in
    let now : Search = record { marks = old.marks; path = old.path; groups = c.pop.new.self; pending = old.pending; components = old.components } in
    let inside = end_inside c.args.ends.now old c.requires.search c.args.group c.args.end c.requires.last c.requires.within in
    let on_path = at_read old.marks.items c.args.end c.index.result.now (OnPath c.in-OnPath.position) inside c.index.ensures c.in-OnPath.is in
    joined_step c.args.ends.now old c.requires.search now c.args.group c.args.end c.requires.last refl refl refl
    c.in-OnPath.position on_path c.if-position-group.true (c.pop.ensures.rest ∙ ap (λ n. take (n - 1) old.groups.items) old.groups.ok.0) refl

pub returns-else-position-group : goal.returns-else-position-group
returns-else-position-group c =
    let old = c.args.self.now in
    let now : Search = record { marks = old.marks; path = old.path; groups = old.groups; pending = c.pop-else-position-group.new.self; components = old.components } in
    let inside = end_inside c.args.ends.now old c.requires.search c.args.group c.args.end c.requires.last c.requires.within in
    let on_path = at_read old.marks.items c.args.end c.index.result.now (OnPath c.in-OnPath.position) inside c.index.ensures c.in-OnPath.is in
    passed_step c.args.ends.now old c.requires.search now c.args.group c.args.end c.requires.last refl refl refl
    (inr (c.in-OnPath.position, on_path, c.if-position-group.false)) refl
    (c.pop-else-position-group.ensures.rest ∙ ap (λ n. take (n - 1) old.pending.items) old.pending.ok.0)

pub returns-in-Closed : goal.returns-in-Closed
returns-in-Closed c =
    let old = c.args.self.now in
    let now : Search = record { marks = old.marks; path = old.path; groups = old.groups; pending = c.pop-in-Closed.new.self; components = old.components } in
    let inside = end_inside c.args.ends.now old c.requires.search c.args.group c.args.end c.requires.last c.requires.within in
    let complete = at_read old.marks.items c.args.end c.index.result.now (Closed c.in-Closed.field-0) inside c.index.ensures c.in-Closed.is in
    passed_step c.args.ends.now old c.requires.search now c.args.group c.args.end c.requires.last refl refl refl
    (inl (c.in-Closed.field-0, complete)) refl
    (c.pop-in-Closed.ensures.rest ∙ ap (λ n. take (n - 1) old.pending.items) old.pending.ok.0)
