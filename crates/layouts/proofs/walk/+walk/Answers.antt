use Rattle.std.proofs.Common.{◌≡◌, ⊎_elim, ◌<◌, ◌≤◌, ◌+◌, ℕ, List, [], Option, Some, None, String, Global, refl, sym, ap, subst, ◌∙◌, arith, string_bytes}
use Rattle.std.proofs.lemmas.Option.{slice_get_read, slice_get-map}
use Rattle.std.specs.Option.{option_map}
use Rattle.std.specs.Result.{IfOk}
use Rattle.std.proofs.lemmas.Result.{IfOk-weaker}
use Rattle.serde_json.specs.declared.value.Value.{Value}
use Rattle.layouts.specs.declared.fault.Fault.{Fault}
use Rattle.layouts.specs.declared.form.Form.{Form}
use Rattle.layouts.specs.Forms.{Fits, IsFaultOf}
use Rattle.serde_json.specs.Data.{Data, depth, members_depth}
use Rattle.serde_json.specs.View.{members_view, view}
use Rattle.emc_base.specs.Lists.{At}
use Rattle.json_form.specs.declared.pointer.Step.TheVariants.{Member, Item}
use Rattle.json_form.specs.Nodes.{part_of}
use Rattle.json_form.specs.TreeParts.{items_in}
use Rattle.json_form.proofs.Depths.{entry_depth, item_depth}
use Rattle.json_form.proofs.Views.{members_in-entries, members_in-None}
use Rattle.groupings.specs.least_fault.Least.{Among, IsLeast}
use Rattle.groupings.proofs.least_fault.Leasts.{AmongFirst, least_all, least_more}
use Rattle.layouts.specs.FaultOrder.{fault_cmp_total}
use Rattle.layouts.specs.Faults.{fault_cmp}
use Rattle.layouts.specs.Inside.{IsEntryFault, IsItemFault, IsMemberFault, IsPartFault, Under, after}
use Rattle.layouts.proofs.Faults.{least_under}
use Rattle.layouts.proofs.Walks.{Passed, among_map, among_none, array_least, list_least, object_least, pair_least, passed_all, passed_more, passed_next, passed_none}
use Rattle.layouts.specs.declared.form.Form.TheVariants.{Object, Array, Pair, List as ListOf}
use Rattle.layouts.proofs.walk.+walk.Goals.{first_in_object-in-Some+in_ok-inside-in-Some, first_in_object-in-None}
use Rattle.layouts.proofs.walk.+walk.Goals as goal

pub first_in_members-first_in_member-requires : goal.first_in_members-first_in_member-requires
first_in_members-first_in_member-requires t c =
    let entry : String Global × Value = (c.in-Some.name.now, c.in-Some.value.now) in
    let entries = c.args.members.now.entries in
    let next = passed_next c.args.shape entries c.loop-name.name-iterator c.loop-name.found entry c.next.new.self
    c.in-Some.ensures.steps c.loop-name.invariant in
    let less : depth (view c.in-Some.value.now) ≤ members_depth (members_view entries) = entry_depth entries next.0 entry next.1 in
    let is : depth (part_of c.new.result) ≡ depth (view c.in-Some.value.now) = ap depth c.new.ensures in
    (omega (arith, less, is, c.decreases), tt)

pub first_in_members-loop-name-preserved : goal.first_in_members-loop-name-preserved
first_in_members-loop-name-preserved t c =
    let entry : String Global × Value = (c.in-Some.name.now, c.in-Some.value.now) in
    let entries = c.args.members.now.entries in
    let more = c.in_ok-inside.inside in
    let P : Option Fault → Type 0 = λ found. Passed c.args.shape entries c.next.new.self found in
    let Q : List ℕ × Data → Type 0 = λ member. IsLeast fault_cmp (IsMemberFault c.args.shape member.0 member.1) more in
    let same : (c.as_str.result.now, part_of c.new.result) ≡ (string_bytes entry.0, view entry.1) =
    λ i. (c.as_str.ensures.value i, c.new.ensures i) in
    subst P (sym c.earlier-found.ensures)
    (passed_more c.args.shape entries c.loop-name.name-iterator c.loop-name.found more entry c.next.new.self
    c.in-Some.ensures.steps (λ i. subst Q same c.in_ok-inside.ensures) c.loop-name.invariant)

pub first_in_members-loop-name-init : goal.first_in_members-loop-name-init
first_in_members-loop-name-init t c =
    passed_none c.args.shape c.args.members.now.entries c.into_iter-name-iterator.result
    (c.into_iter-name-iterator.ensures.into_iter_gives ∙ c.iter-name-items.ensures.rest)

pub first_in_members-returns : goal.first_in_members-returns
first_in_members-returns t c =
    passed_all c.args.shape c.args.members.now.entries c.loop-name.name-iterator c.loop-name.found c.in-None.ensures.steps.0
    c.loop-name.invariant

pub first_in_items-first_in_item-requires : goal.first_in_items-first_in_item-requires
first_in_items-first_in_item-requires t c =
    let d = part_of c.args.node in
    let items = c.items-item-items.result.now in
    let part = view c.item-item.result in
    let at = slice_get_read items _ c.loop-i.i _ refl c.loop-i-test.true c.item-item.is in
    let P : List Data → Type 0 = λ parts. At parts c.loop-i.i part in
    let here : At (items_in d) c.loop-i.i part = subst P c.items-item-items.ensures (slice_get-map view items c.loop-i.i ∙ ap (option_map view) at) in
    let less : depth part < depth d = item_depth d c.loop-i.i part here in
    let is : depth (part_of c.new.result) ≡ depth (view c.item-item.result) = ap depth c.new.ensures in
    (omega (arith, less, is, c.decreases), tt)

pub first_in_items-loop-i-preserved : goal.first_in_items-loop-i-preserved
first_in_items-loop-i-preserved t c =
    let items = c.items-item-items.result.now in
    let more = c.in_ok-inside.inside in
    let Item : ℕ → Value → Fault → Type 0 = λ i item. IsItemFault c.args.form i (view item) in
    let P : Option Fault → Type 0 = λ found. IsLeast fault_cmp (AmongFirst Item items (c.loop-i.i + 1)) found in
    let Q : Data → Type 0 = λ part. IsLeast fault_cmp (IsItemFault c.args.form c.loop-i.i part) more in
    subst P (sym c.earlier-found.ensures)
    (least_more fault_cmp fault_cmp_total Item items c.loop-i.i c.item-item.result c.loop-i.found more
    (slice_get_read items _ c.loop-i.i _ refl c.loop-i-test.true c.item-item.is)
    c.loop-i.invariant (subst Q c.new.ensures c.in_ok-inside.ensures))

pub first_in_items-returns : goal.first_in_items-returns
first_in_items-returns t c =
    let items = c.items-item-items.result.now in
    let Item : ℕ → Value → Fault → Type 0 = λ i item. IsItemFault c.args.form i (view item) in
    let P : List Data → Type 0 = λ parts. IsLeast fault_cmp (Among (IsItemFault c.args.form) parts) c.loop-i.found in
    subst P c.items-item-items.ensures
    (among_map c.args.form items c.loop-i.found
    (least_all fault_cmp fault_cmp_total Item items c.loop-i.i c.loop-i.found c.loop-i-test.false c.loop-i.invariant))

pub first_in_member-first_in_part-requires : goal.first_in_member-first_in_part-requires
first_in_member-first_in_part-requires t c = (omega (arith, c.requires), tt)

pub first_in_object-returns : goal.first_in_object-returns
first_in_object-returns t c =
    let d = part_of c.args.node in
    let P : Option Fault → Type 0 = λ found. IsLeast fault_cmp (IsFaultOf (Object c.args.shape) d) found in
    subst P (sym c.earlier.ensures)
    (elim c.match-members.branch [
      | first_in_object-in-Some+in_ok-inside-in-Some w ↦
          let entries = w.in-Some.members.now.entries in
          let Q : Option Fault → Type 0 = λ found. IsLeast fault_cmp (Among (IsEntryFault c.args.shape) entries) found in
          object_least c.args.shape d c.rows_of.result.now entries c.rows_of.ensures (members_in-entries d entries w.in-Some.ensures)
          c.in_ok-missing.missing c.match-members.inside c.requires c.in_ok-missing.ensures
          (subst Q (sym w.inside-is) w.in_ok-inside-in-Some.ensures)
      | first_in_object-in-None w ↦
          let Q : Option Fault → Type 0 = λ found. IsLeast fault_cmp (Among (IsEntryFault c.args.shape) []) found in
          object_least c.args.shape d c.rows_of.result.now [] c.rows_of.ensures (members_in-None d w.in-None.ensures)
          c.in_ok-missing.missing c.match-members.inside c.requires c.in_ok-missing.ensures
          (subst Q (sym w.inside-is) (among_none (IsEntryFault c.args.shape)))
    ])

pub first_fault-returns-in-List : goal.first_fault-returns-in-List
first_fault-returns-in-List t c =
    let d = part_of c.args.node in
    let P : Form → Type 0 = λ form. Fits form d in
    let Q : Form → Type 0 = λ form. IfOk c.first_in_items.result (λ found. IsLeast fault_cmp (IsFaultOf form d) found) in
    let fits : Fits (ListOf c.in-List.leaf) d = subst P c.in-List.is (c.fits.ensures.0 c.if-not-fits.false) in
    subst Q (sym c.in-List.is)
    (IfOk-weaker c.first_in_items.result _ _ (λ found least. list_least c.in-List.leaf d found fits least) c.first_in_items.ensures)

pub first_fault-returns-in-Array : goal.first_fault-returns-in-Array
first_fault-returns-in-Array t c =
    let d = part_of c.args.node in
    let P : Form → Type 0 = λ form. Fits form d in
    let Q : Form → Type 0 = λ form. IfOk c.first_in_items-in-Array.result (λ found. IsLeast fault_cmp (IsFaultOf form d) found) in
    let fits : Fits c.args.form d = c.fits.ensures.0 c.if-not-fits.false in
    ⊎_elim
    (λ (is : c.args.form ≡ Array c.in-Array.shape). subst Q (sym is)
    (IfOk-weaker c.first_in_items-in-Array.result _ _ (λ found least. array_least c.in-Array.shape d found (subst P is fits) least)
    c.first_in_items-in-Array.ensures))
    (λ (is : c.args.form ≡ Pair c.in-Array.shape). subst Q (sym is)
    (IfOk-weaker c.first_in_items-in-Array.result _ _ (λ found least. pair_least c.in-Array.shape d found (subst P is fits) least)
    c.first_in_items-in-Array.ensures))
    c.in-Array.is

pub first_in_item-returns-in-None : goal.first_in_item-returns-in-None
first_in_item-returns-in-None t c =
    let P : Option Fault → Type 0 = λ found. IsLeast fault_cmp (IsFaultOf c.args.form (part_of c.args.node)) found in
    least_under (Item c.args.i) (IsFaultOf c.args.form (part_of c.args.node)) None (subst P c.in-None.is c.in_ok-first_fault.ensures)

pub first_in_item-returns-in_ok-seen-in-Some : goal.first_in_item-returns-in_ok-seen-in-Some
first_in_item-returns-in_ok-seen-in-Some t c =
    let IsInside : Fault → Type 0 = IsFaultOf c.args.form (part_of c.args.node) in
    let P : Option Fault → Type 0 = λ found. IsLeast fault_cmp IsInside found in
    let Q : Fault → Type 0 = λ seen. IsLeast fault_cmp (Under (Item c.args.i) IsInside) (Some seen) in
    let placed : after (Item c.args.i) c.in-Some.fault ≡ c.in_ok-seen-in-Some.seen =
    sym (c.in_ok-seen-in-Some.ensures ∙ (λ i. after (Item (c.in-Ok.ensures.1 i)) c.in-Some.fault)) in
    subst Q placed (least_under (Item c.args.i) IsInside (Some c.in-Some.fault) (subst P c.in-Some.is c.in_ok-first_fault.ensures))

pub first_in_member-returns-in-Some : goal.first_in_member-returns-in-Some
first_in_member-returns-in-Some t c =
    let IsPart : Fault → Type 0 = IsPartFault c.args.shape c.args.name.now (part_of c.args.node) in
    let P : Option Fault → Type 0 = λ found. IsLeast fault_cmp IsPart found in
    let Q : Option Fault → Type 0 = λ seen. IsLeast fault_cmp (Under (Member c.args.name.now) IsPart) seen in
    IfOk-weaker c.after_member.result (λ seen. seen ≡ Some (after (Member c.args.name.now) c.in-Some.fault)) Q
    (λ seen is. subst Q (sym is) (least_under (Member c.args.name.now) IsPart (Some c.in-Some.fault) (subst P c.in-Some.is c.in_ok-first_in_part.ensures)))
    c.after_member.ensures
