-- What stands where it is looked for first: where names are apart, it is the first of its name.
use Rattle.std.proofs.Common.{◌≡◌, ℕ, zero, suc, ◌<◌, List, [], ◌∷◌, map, find, get_or, slice_get, AllPairs, IsTrue, Bool, true, false, cond, Option, Some, None, refl, sym, ap, subst, ◌∙◌, arith}
use Rattle.std.specs.List.{AllZip}
use Rattle.std.specs.Option.{option_and_then, option_map_or}
use Rattle.std.specs.Str.{bytes_eq}
use Rattle.std.proofs.lemmas.Bool.{false_from_ne_true}
use Rattle.std.proofs.lemmas.Option.{get_or_from_slice_get, slice_get_within}
use Rattle.std.proofs.lemmas.Slice.Eq.{bytes_eq-Decides}
use Rattle.emc_base.specs.Lists.{At}
use Rattle.emc_base.proofs.facts.Zipped.{zip_at}
use Rattle.groupings.specs.name_places.GivenNames.{first_place}
use Rattle.groupings.specs.name_places.PlacesIn.{place_in}
use Rattle.groupings.proofs.name_places.FirstPlaces.{own_place}
use Rattle.groupings.proofs.name_places.KnownNames.{not_apart}
use Rattle.round_trip.specs.Words.{EntityModel, EntityType, Prop, PropId, StoreModel, Table, TypeId, props_of}
use Rattle.edm_types.specs.Forest.{type_numbered}
use Rattle.schema_laws.specs.sound_types.PropNames.{HaveOtherNames}
use Rattle.schema_names.specs.declared.columns.TableColumns.{TableColumns}
use Rattle.schema_names.specs.Columns.{AreColumnsOf, IsOfColumns}
use Rattle.schema_names.specs.SchemaNames.{IsColumnAt, column_named, has_name, prop_named}

-- one item more in each of two lists

-- images that agree place by place
pub zip_same : {X Y Z : Type 0} (f : X → Z) (g : Y → Z) (xs : List X) (ys : List Y) → AllZip (λ x y. g y ≡ f x) xs ys → map g ys ≡ map f xs
zip_same f g [] [] all = refl
zip_same f g [] (y ∷ ys) all = absurd all
zip_same f g (x ∷ xs) [] all = absurd all
zip_same f g (x ∷ xs) (y ∷ ys) all = λ k. all.0 k ∷ zip_same f g xs ys all.1 k

pub zip_weaker : {X Y : Type 0} (P Q : X → Y → Type 0) (xs : List X) (ys : List Y) → ((x : X) (y : Y) → P x y → Q x y) → AllZip P xs ys → AllZip Q xs ys
zip_weaker P Q [] [] each all = tt
zip_weaker P Q [] (y ∷ ys) each all = absurd all
zip_weaker P Q (x ∷ xs) [] each all = absurd all
zip_weaker P Q (x ∷ xs) (y ∷ ys) each all = (each x y all.0, zip_weaker P Q xs ys each all.1)

-- where each table has its columns, the columns are those of the tables
abbrev pub HaveColumns : List Table → List TableColumns → Type 0
HaveColumns tables columns = AllZip (λ table known. IsOfColumns table.cols known) tables columns

pub columns_known : (tables : List Table) (columns : List TableColumns) → HaveColumns tables columns → AreColumnsOf tables columns
columns_known tables columns have = record {
  places = zip_same first known_of tables columns (zip_weaker Of (λ table known. known_of known ≡ first table) tables columns (λ table known is. is.places) have);
  apart = λ t table known at_table at_known. (zip_at Of tables columns t table known have at_table at_known).apart;
}
  where
    first : Table → List ℕ → Option ℕ
    first table = first_place (λ col. col.name) table.cols

    known_of : TableColumns → List ℕ → Option ℕ
    known_of known = place_in known.places

    Of : Table → TableColumns → Type 0
    Of table known = IsOfColumns table.cols known

-- a column with the name is the first of it where the table is known to have its columns apart
pub column_here : (store : StoreModel) (columns : List TableColumns) (t : ℕ) (name : List ℕ) (place : ℕ) (known : TableColumns) (table : Table)
    → AreColumnsOf store.tables columns → At columns t known → At store.tables t table → IsTrue known.apart → IsColumnAt table name place
    → column_named store t name ≡ Some place
column_here store columns t name place known table are at_known at_table apart here =
    let named = own_place (λ col. col.name) table.cols place here.0 here.1 (λ given. not_apart (λ col. col.name) table.cols place here.0 here.1 given ((are.apart t table known at_table at_known).0 apart)) in
    ap (option_and_then (λ (held : Table). first_place (λ col. col.name) held.cols name)) at_table
    ∙ ap (first_place (λ col. col.name) table.cols) here.2
    ∙ named

-- the first that passes, where no earlier one does
find_first : {X : Type 0} (p : X → Bool) (xs : List X) (k : ℕ) (x : X) → At xs k x → p x ≡ true → ((i : ℕ) (y : X) → i < k → At xs i y → p y ≡ false) → find p xs ≡ Some x
find_first p [] k x here passes none = absurd cc
find_first p (z ∷ xs) zero x here passes none =
    let same : z ≡ x = cc in
    ap (λ (passing : Bool). cond passing (Some z) (find p xs)) (ap p same ∙ passes) ∙ ap Some same
find_first p (z ∷ xs) (suc k) x here passes none =
    ap (λ (passing : Bool). cond passing (Some z) (find p xs)) (none 0 z (omega arith) refl)
    ∙ find_first p xs k x here passes (λ i y below at. none (suc i) y (omega arith) at)

module _ (model : EntityModel) (names_apart : (t : TypeId) → AllPairs (HaveOtherNames model) (props_of model t)) where
  -- a property of a type that has the name is the first of it
  pub prop_here : (t : ℕ) (type : EntityType) (number : ℕ) (prop : PropId) (declared : Prop) (name : List ℕ)
      → At model.types t type → At type.props number prop → At model.props prop.index declared → name ≡ declared.name → prop_named model t name ≡ Some prop
  prop_here t type number prop declared name at_type at_prop at_declared same =
      let props_are : props_of model (type_numbered t) ≡ type.props = ap (λ (found : Option EntityType). option_map_or (λ (one : EntityType). one.props) found []) at_type in
      let P : List PropId → Type 0 = λ props. AllPairs (HaveOtherNames model) props in
      let apart = subst P props_are (names_apart (type_numbered t)) in
      let has : has_name model name prop ≡ true =
      ap (λ (found : Option Prop). option_map_or (λ (one : Prop). bytes_eq name one.name) found false) at_declared ∙ (bytes_eq-Decides name declared.name).1 same in
      ap (find (has_name model name)) props_are ∙ find_first (has_name model name) type.props number prop at_prop has (earlier apart)
    where
      earlier : AllPairs (HaveOtherNames model) type.props → (i : ℕ) (other : PropId) → i < number → At type.props i other → has_name model name other ≡ false
      earlier apart i other below at_other = false_from_ne_true (has_name model name other) (λ is. by (slice_get model.props other.index) refl is)
        where
          pair : HaveOtherNames model other prop
          pair =
              let one : get_or type.props i other ≡ other = get_or_from_slice_get type.props i other other at_other in
              let two : get_or type.props number other ≡ prop = get_or_from_slice_get type.props number prop other at_prop in
              let P : PropId → Type 0 = λ p. HaveOtherNames model p (get_or type.props number other) in
              subst (HaveOtherNames model other) two (subst P one (apart i number other below (slice_get_within type.props number prop at_prop)))

          by : (found : Option Prop) → slice_get model.props other.index ≡ found → option_map_or (λ (one : Prop). bytes_eq name one.name) found false ≡ true → ⊥
          by None here is = absurd cc
          by (Some one) here is = pair one declared here at_declared (sym ((bytes_eq-Decides name one.name).0 is) ∙ same)
