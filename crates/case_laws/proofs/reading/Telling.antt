-- Rows at a key that meet a case tell an entity and links.
use Rattle.std.proofs.Common.{◌≡◌, inl, inr, List, [], ◌∷◌, Bool, Contains, refl, sym, ap, subst, ◌∙◌}
use Rattle.std.specs.Option.{option_map_or}
use Rattle.graphs.proofs.base_chains.orders.Orders.{place_of_member}
use Rattle.emc_base.proofs.Lists.{all_from_members}
use Rattle.emc_base.proofs.Mapped.{contains_at}
use Rattle.emc_base.proofs.facts.Zipped.{zipped_left, zipped_right}
use Rattle.round_trip.specs.Words.{SetId, TableId, ColId, AssocId, PropId, Entity, Hosted, Null, Tables, Value, props_of, value_of}
use Rattle.condition_logic.specs.declared.atoms.Atom.{Atom}
use Rattle.condition_logic.specs.declared.atoms.Atom.TheVariants as atom
use Rattle.condition_logic.specs.declared.atoms.AtomOf.{AtomOf}
use Rattle.schema_laws.proofs.state_demand.lists.Lists.{head_stands}
use Rattle.schema_laws.proofs.sound_types.Once.{props_once}
use Rattle.regions.specs.declared.region.Region.{Region}
use Rattle.regions.specs.declared.pattern.Focus.TheVariants as focus
use Rattle.regions.specs.declared.pattern.Symbol.TheVariants as symbol
use Rattle.regions.specs.Basis.{Basis, Host}
use Rattle.regions.specs.Settled.{is_nullable, multi, of_atom, possible, single}
use Rattle.regions.specs.region_laws.IsBasis.{IsBasis}
use Rattle.regions.proofs.region_laws.listing.Listed.{set_is}
use Rattle.regions.proofs.region_laws.listing.Possible.{linked_hosts}
use Rattle.regions.proofs.region_laws.pattern.Laws.{listed_from}
use Rattle.regions.proofs.region_laws.pattern.symbols.Standing.{listed_prop}
use Rattle.region_states.proofs.defaults.Listed.{told_found, told_is}
use Rattle.case_laws.specs.declared.region_cases.case.Case.{Case}
use Rattle.case_laws.specs.region_cases.Cases.{case_of}
use Rattle.case_laws.specs.region_cases.Meets.{AreLinksOf, HaveLinksOf, IsEntityOf, IsLinkOf, ShowsValue}
use Rattle.case_laws.specs.Reading.{DecidesFree}
use Rattle.case_laws.specs.Told.{AreTold, IsMet, IsReadable}
use Rattle.case_laws.proofs.lists.Chosen.{AreChosen, AreChosenFor, chosen_items, chosen_values}
use Rattle.case_laws.proofs.reading.Parts.{link_there}
use Rattle.case_laws.proofs.reading.Readable.{IsValue, some_value}
use Rattle.case_laws.proofs.shown.Shown.{AreAlone, one_link, prop_shown, shows_value}

module _ (is_free : TableId → ColId → Bool) (basis : Basis) (is : IsBasis basis) (decides : DecidesFree basis.schema is_free) (s : SetId) (region : Region)
    (readable : IsReadable basis s region) (tables : Tables) (key : List Value) (met : IsMet basis is_free s region tables key)
    (are_alone : AreAlone is_free basis is decides s region readable.listed readable.clear tables key) where
  abbrev case : Case
  case = case_of is_free basis region

  abbrev props : List PropId
  props = props_of basis.schema.model region.ty

  abbrev Has : PropId → Value → Type 0
  Has = IsValue is_free basis is decides s region readable tables key met

  -- a value for each property
  chosen : AreChosen Has props
  chosen = chosen_values Has props (props_once basis.schema.model is.sound.model region.ty) (some_value is_free basis is decides s region readable tables key met)

  abbrev the_entity : Entity
  the_entity = record { ty = region.ty; values = chosen.values }

  value_is : (p : PropId) → Contains props p → Has p (value_of basis.schema.model the_entity p)
  value_is p among = chosen.each p among

  shown_is : (p : PropId) (value : Value) → ShowsValue basis tables key case p value → value_of basis.schema.model the_entity p ≡ value
  shown_is p value shown =
      let by = prop_shown is_free basis is decides s region readable.listed readable.clear tables key p value shown in
      let from = listed_from basis is (focus.Entity region) by.t by.col (symbol.Prop p) (symbol.Prop p ∷ [], by.has, head_stands (symbol.Prop p) []) in
      either by.nullable by.several (value_is p (listed_prop basis is s region readable.listed by.t by.col p from))
    where
      either : (n : Bool) → possible basis.schema.model region.atoms (symbol.Prop p) ≡ multi n → Has p (value_of basis.schema.model the_entity p)
          → value_of basis.schema.model the_entity p ≡ value
      either n several (inl one) = let never : multi n ≡ single (value_of basis.schema.model the_entity p) = sym several ∙ one in cc
      either n several (inr too) = met.meets.one p (value_of basis.schema.model the_entity p) value
          (shows_value is_free basis is decides s region readable.listed readable.clear tables key p (value_of basis.schema.model the_entity p) too) shown

  -- the value of an atom that has one
  atom_is : (told : AtomOf) → Contains region.atoms told → (a : Atom) → told.atom ≡ a → (value : Value) → of_atom a ≡ single value
      → value_of basis.schema.model the_entity told.prop ≡ value
  atom_is told among a same value one =
      let can : possible basis.schema.model region.atoms (symbol.Prop told.prop) ≡ single value =
      ap (λ found. option_map_or of_atom found (multi (is_nullable basis.schema.model told.prop))) (told_found basis is s region readable.listed told among) ∙ ap of_atom same ∙ one in
      either can (value_is told.prop (told_is basis is s region readable.listed told among).of_type)
    where
      either : possible basis.schema.model region.atoms (symbol.Prop told.prop) ≡ single value → Has told.prop (value_of basis.schema.model the_entity told.prop)
          → value_of basis.schema.model the_entity told.prop ≡ value
      either can (inl alone) =
          let same_one : single (value_of basis.schema.model the_entity told.prop) ≡ single value = sym alone ∙ can in cc
      either can (inr shown) = let never : multi shown.nullable ≡ single value = sym shown.several ∙ can in cc

  entity_told : IsEntityOf basis tables key case the_entity
  entity_told = record {
    typed = refl;
    size = chosen.size;
    shown = shown_is;
    nulls = all_from_members (λ (told : AtomOf). told.atom ≡ atom.Null → value_of basis.schema.model the_entity told.prop ≡ Null) region.atoms
        (λ told among same. atom_is told among atom.Null same Null refl);
    single = λ value. all_from_members (λ (told : AtomOf). told.atom ≡ atom.Is value → value_of basis.schema.model the_entity told.prop ≡ value) region.atoms
        (λ told among same. atom_is told among (atom.Is value) same value refl);
  }

  -- a link for each flag
  abbrev IsLink : AssocId → Hosted → Type 0
  IsLink a hosted = IsLinkOf basis tables key case hosted × (hosted.assoc ≡ a)

  some_link : (a : AssocId) → Contains region.linked a → (hosted : Hosted) × IsLink a hosted
  some_link a linked =
      let found = linked_hosts basis is s region readable.listed a linked in
      let host : Host = found.0 in
      let is_host : Contains (basis.hosts region.set) host = subst (λ u. Contains (basis.hosts u) host) (sym (set_is basis s region readable.listed)) found.1 in
      let link = link_there is_free basis is decides s region readable tables key met host is_host (subst (Contains region.linked) found.2 linked) in
      (link.0, (link.1, link.2 ∙ sym found.2))

  abbrev IsItsLink : AssocId → Hosted → Type 0
  IsItsLink a hosted = (hosted.assoc ≡ a) × IsLinkOf basis tables key case hosted

  links_chosen : AreChosenFor IsLink region.linked
  links_chosen = chosen_items IsLink region.linked some_link

  links_told : HaveLinksOf basis tables key case links_chosen.items
  links_told = record {
    tells = λ hosted. (
      (λ among. (links_chosen.only hosted among).2.0),
      λ told.
          let found = links_chosen.all hosted.assoc told.linked in
          let same : found.0 ≡ hosted = one_link is_free basis is decides s region readable.listed readable.clear tables key are_alone found.0 hosted found.2.0 told found.2.1 in
          subst (Contains links_chosen.items) same found.1,
    );
  }

  -- links in the order of associations are just those
  pub listed_links : (links : List Hosted) → AreLinksOf basis tables key case links → HaveLinksOf basis tables key case links
  listed_links links are = record {
    tells = λ hosted. (
      (λ among. (zipped_right IsItsLink region.linked links are among.0 hosted (place_of_member links hosted among)).2.1),
      λ told.
          let found = zipped_left IsItsLink region.linked links are told.linked.0 hosted.assoc (place_of_member region.linked hosted.assoc told.linked) in
          let same : found.0 ≡ hosted = one_link is_free basis is decides s region readable.listed readable.clear tables key are_alone found.0 hosted found.2.1 told found.2.0 in
          subst (Contains links) same (contains_at links told.linked.0 found.0 found.1),
    );
  }

  pub some_told : (entity : Entity) × (links : List Hosted) × AreTold basis is_free s region tables key entity links
  some_told = (the_entity, links_chosen.items, record { entity_told = entity_told; links_told = links_told })
