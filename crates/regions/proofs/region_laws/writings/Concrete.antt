-- What one fragment writes is what its symbols say.
use Rattle.std.proofs.Common.{◌≡◌, List, [], ◌∷◌, ◌++◌, map, flat_map, Bool, true, false, if◌then◌else◌, refl, sym, ◌∙◌}
use Rattle.std.proofs.lemmas.List.{map-append}
use Rattle.std.proofs.lemmas.List.Elements.{All-contains}
use Rattle.std.proofs.lemmas.Simd.{map-map}
use Rattle.round_trip.specs.Words.{TypeId, PropId, ColId, AssocId, Value, EntityModel, Assoc, Fragment, LinkFragment, Pair, Cond, CondOn, Test, Entity, Link, end_cells, entity_cells, link_cells, key_props, value_beside}
use Rattle.edm_types.specs.declared.mapping.CondOn.TheVariants as on
use Rattle.edm_types.specs.declared.mapping.Test.TheVariants.{IsNull, Equals}
use Rattle.schema_laws.specs.state_demand.MadeTables.{given_by_cond, given_cells}
use Rattle.schema_laws.specs.state_demand.Writings.{entity_writing, link_writing}
use Rattle.schema_laws.proofs.state_demand.lists.Places.{map_agree}
use Rattle.regions.specs.declared.pattern.Symbol.{Symbol}
use Rattle.regions.specs.declared.pattern.Symbol.TheVariants as symbol
use Rattle.regions.specs.Symbols.{cond_symbols, conds_symbols, end_symbols, fragment_writing, link_fragment_writing}
use Rattle.regions.specs.Patterns.{Valuation, by_entity, value_under}
use Rattle.regions.specs.region_laws.Concrete.{TellsEnd, concrete}

-- a condition gives what its symbol says
cond_concrete : (valuation : Valuation) (what : CondOn) (test : Test) → given_by_cond what test ≡ concrete valuation (cond_symbols what test)
cond_concrete valuation (on.Col col) (Equals constant) = refl
cond_concrete valuation (on.Col col) (IsNull true) = refl
cond_concrete valuation (on.Col col) (IsNull false) = refl
cond_concrete valuation (on.Prop p) (Equals constant) = refl
cond_concrete valuation (on.Prop p) (IsNull true) = refl
cond_concrete valuation (on.Prop p) (IsNull false) = refl

concrete_append : (valuation : Valuation) (one two : List (ColId × Symbol)) → concrete valuation (one ++ two) ≡ concrete valuation one ++ concrete valuation two
concrete_append valuation one two = map-append (λ (cell : ColId × Symbol). (cell.0, value_under valuation cell.1)) one two

conds_concrete : (valuation : Valuation) (conds : List Cond) → flat_map (λ cond. given_by_cond cond.on cond.test) conds ≡ concrete valuation (conds_symbols conds)
conds_concrete valuation [] = refl
conds_concrete valuation (cond ∷ conds) =
    let first = cond_concrete valuation cond.on cond.test in
    let rest = conds_concrete valuation conds in
    (λ k. first k ++ rest k) ∙ sym (concrete_append valuation (cond_symbols cond.on cond.test) (conds_symbols conds))

pub entity_concrete : (model : EntityModel) (fragment : Fragment) (entity : Entity) (part : AssocId → Bool → PropId → Value)
    → given_cells (entity_writing model fragment entity) ≡ concrete (by_entity model entity part) (fragment_writing fragment).cells
entity_concrete model fragment entity part =
    let valuation : Valuation = by_entity model entity part in
    let as_symbol : Pair → ColId × Symbol = λ pair. (pair.col, symbol.Prop pair.prop) in
    let with_value : ColId × Symbol → ColId × Value = λ cell. (cell.0, value_under valuation cell.1) in
    let own : entity_cells model fragment entity ≡ concrete valuation (map as_symbol fragment.pairs) = sym (map-map with_value as_symbol fragment.pairs) in
    let conds = conds_concrete valuation fragment.conds in
    (λ k. own k ++ conds k) ∙ sym (concrete_append valuation (map as_symbol fragment.pairs) (conds_symbols fragment.conds))

-- one end of a link
end_concrete : (model : EntityModel) (valuation : Valuation) (a : AssocId) (first hosts : Bool) (ty : TypeId) (pairs : List Pair) (key : List Value)
    → TellsEnd model valuation a first hosts ty pairs key → end_cells model ty pairs key ≡ concrete valuation (end_symbols a first hosts pairs)
end_concrete model valuation a first hosts ty pairs key told =
    let as_symbol : Pair → ColId × Symbol = λ pair. (pair.col, if hosts then symbol.Prop pair.prop else symbol.End a first pair.prop) in
    let with_value : ColId × Symbol → ColId × Value = λ cell. (cell.0, value_under valuation cell.1) in
    let Told : Pair → Type 0 = λ pair. value_under valuation (if hosts then symbol.Prop pair.prop else symbol.End a first pair.prop) ≡ value_beside pair.prop
    (key_props model ty) key in
    let given : Pair → ColId × Value = λ pair. (pair.col, value_beside pair.prop (key_props model ty) key) in
    map_agree given (λ pair. with_value (as_symbol pair)) pairs (λ pair has. let is = sym (All-contains Told pairs pair told has) in λ k. (pair.col, is k))
    ∙ sym (map-map with_value as_symbol pairs)

pub link_concrete : (model : EntityModel) (fragment : LinkFragment) (assoc : Assoc) (link : Link) (valuation : Valuation) (first_hosts second_hosts : Bool)
    → TellsEnd model valuation fragment.assoc true first_hosts assoc.first.ty fragment.first link.first
    → TellsEnd model valuation fragment.assoc false second_hosts assoc.second.ty fragment.second link.second
    → given_cells (link_writing model fragment assoc link) ≡ concrete valuation (link_fragment_writing first_hosts second_hosts fragment).cells
link_concrete model fragment assoc link valuation first_hosts second_hosts told_first told_second =
    let one : List (ColId × Symbol) = end_symbols fragment.assoc true first_hosts fragment.first in
    let two : List (ColId × Symbol) = end_symbols fragment.assoc false second_hosts fragment.second in
    let first = end_concrete model valuation fragment.assoc true first_hosts assoc.first.ty fragment.first link.first told_first in
    let second = end_concrete model valuation fragment.assoc false second_hosts assoc.second.ty fragment.second link.second told_second in
    let ends : link_cells model assoc fragment link ≡ concrete valuation (one ++ two) = (λ k. first k ++ second k) ∙ sym (concrete_append valuation one two) in
    let conds = conds_concrete valuation fragment.conds in
    (λ k. ends k ++ conds k) ∙ sym (concrete_append valuation (one ++ two) (conds_symbols fragment.conds))
