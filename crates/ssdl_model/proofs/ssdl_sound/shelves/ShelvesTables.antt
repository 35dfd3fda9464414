-- The shelves keep V13 and V21 to V25.
use Rattle.std.proofs.Common.{◌≡◌, ◌≢◌, ⊎_elim, inl, inr, ℕ, ℤ, ◌||◌, not, pos, Bool, true, List, [], ◌∷◌, drop, Contains, Some, codes, refl, sym, ap, ◌∙◌, arith}
use Rattle.std.specs.Prelude.{◌≤ℤ◌}
use Rattle.std.specs.List.{list_all, list_any}
use Rattle.std.specs.Option.{is_some}
use Rattle.std.specs.Str.{bytes_eq}
use Rattle.std.proofs.lemmas.Bool.{not-true}
use Rattle.std.proofs.lemmas.Int.{ints}
use Rattle.std.proofs.lemmas.Option.{same_Some}
use Rattle.emc_base.proofs.Lists.{passes_at}
use Rattle.graphs.proofs.base_chains.orders.Orders.{place_of_member}
use Rattle.layouts.specs.declared.fault.Fault.{Fault}
use Rattle.layouts.specs.declared.rule.Rule.TheVariants.{KeyColumn}
use Rattle.layouts.specs.rule_places.Places.{InList}
use Rattle.round_trip.specs.soundness.Kinds.{largest_bound}
use Rattle.csdl_names.specs.declared.csdl_lists.raw.RawBound.TheVariants.{Absent, Number}
use Rattle.csdl_names.specs.declared.csdl_lists.raw.RawProp.{RawProp}
use Rattle.csdl_types.specs.Keys.{IsFailingKeyProp, IsKeySimple}
use Rattle.csdl_types.specs.PropTypes.{BreaksBound}
use Rattle.csdl_meaning.specs.School.{needed, optional}
use Rattle.groupings.proofs.name_places.ByTests.{each_once, differ_tells, is_new, not_among}
use Rattle.emc_base.proofs.FoundItems.{member_of}
use Rattle.layouts.proofs.rule_places.NoFaults.{none_in}
use Rattle.csdl_meaning.proofs.examples.NoTypeFaults.{fits, key_by, not_none, others_pass}
use Rattle.ssdl_model.specs.ssdl_lists.Columns.{HasColumnLength, column_simple}
use Rattle.ssdl_model.specs.ssdl_rules.ForeignKeys.{BreaksForeignKey, IsForeignKeyFault, PointsToItself}
use Rattle.ssdl_model.specs.ssdl_rules.StoreRules.{BreaksStoreRules}
use Rattle.ssdl_model.specs.ssdl_rules.TableRules.{HasNullableKey, IsColumnFault, IsTableFault}
use Rattle.ssdl_model.specs.ssdl_sound.Shelves.{books, places, shelves, standing}
use Rattle.ssdl_model.proofs.ssdl_sound.shelves.ShelvesNames.{by_place, names}

-- V13, V21: a column that has a type, and a bound only where it may have one
typed : (column : RawProp) → is_some (column_simple column.kind) ≡ true → ¬ BreaksBound (HasColumnLength column.kind) column.bound → (fault : Fault) → ¬ IsColumnFault 0 column fault
typed column some fine fault = ⊎_elim (λ bound. fine bound.0) (λ type. not_none (column_simple column.kind) some type.0)

-- V13: a bound of a text
text_bound : (number : ℤ) → pos 1 ≤ℤ number → number ≤ℤ pos largest_bound → ¬ BreaksBound (HasColumnLength (codes "nvarchar")) (Number number)
text_bound number = fits (HasColumnLength (codes "nvarchar")) number (inr (inl refl))

-- V22: no column is both in the key and nullable, by a test
abbrev is_free : List (List ℕ) → RawProp → Bool
is_free key column = not column.nullable || is_new (λ prop. prop.name) key column

none_nullable : (key : List (List ℕ)) (columns : List RawProp) → list_all (is_free key) columns ≡ true → ¬ HasNullableKey key columns
none_nullable key columns test some =
    let found = member_of (λ (column : RawProp). Contains key column.name × (column.nullable ≡ true)) columns some in
    let free = passes_at (is_free key) columns found.1.0 found.0 test (place_of_member columns found.0 found.1) in
    not_among found.0.name key
    (not-true (list_any (bytes_eq found.0.name) key) (sym (ap (λ nullable. not nullable || is_new (λ (prop : RawProp). prop.name) key found.0) found.2.1) ∙ free))
    found.2.0

-- V23: the column isn't of a type that a key may have
abbrev FailsKey : RawProp → Type 0
FailsKey column = ¬ IsKeySimple (column_simple column.kind)

-- the keys
abbrev book_key : List (List ℕ)
book_key = codes "Id" ∷ []

abbrev place_key : List (List ℕ)
place_key = codes "Room" ∷ codes "Row" ∷ []

-- V13, V21
book_columns : (fault : Fault) → ¬ InList (codes "Property") IsColumnFault books.props fault
book_columns = none_in IsColumnFault (codes "Property") books.props (
  typed (needed (codes "Id") (codes "int")) refl (λ no. no),
  (
    typed (optional (codes "Title") (codes "nvarchar") (Number (pos 80))) refl (text_bound (pos 80) (omega (arith, ints)) (omega (arith, ints))),
    (
      typed (optional (codes "Row") (codes "smallint") Absent) refl (λ no. no),
      (
        typed (optional (codes "Room") (codes "nvarchar") (Number (pos 9))) refl (text_bound (pos 9) (omega (arith, ints)) (omega (arith, ints))),
        (typed (optional (codes "Cover") (codes "varbinary(max)") Absent) refl (λ no. no), tt),
      ),
    ),
  ),
)

place_columns : (fault : Fault) → ¬ InList (codes "Property") IsColumnFault places.props fault
place_columns = none_in IsColumnFault (codes "Property") places.props (
  typed (needed (codes "Row") (codes "smallint")) refl (λ no. no),
  (typed (needed (codes "Room") (codes "nvarchar(max)")) refl (λ no. no), tt),
)

-- V13, V21 to V23
books_keep : (fault : Fault) → ¬ IsTableFault 0 books fault
books_keep fault = ⊎_elim (book_columns fault) (⊎_elim
    (λ key. ⊎_elim (λ none. none (key_by book_key (λ none. absurd cc) (omega arith) refl)) (none_nullable book_key books.props refl) key.0)
    (none_in (λ k. IsFailingKeyProp KeyColumn FailsKey book_key) (codes "Property") books.props
    ((λ fault broken. broken.0.1 tt), others_pass KeyColumn FailsKey book_key 1 (drop 1 books.props) refl) fault))

places_keep : (fault : Fault) → ¬ IsTableFault 1 places fault
places_keep fault = ⊎_elim (place_columns fault) (⊎_elim
    (λ key. ⊎_elim (λ none. none (key_by place_key (λ none. absurd cc) (omega arith) refl)) (none_nullable place_key places.props refl) key.0)
    (none_in (λ k. IsFailingKeyProp KeyColumn FailsKey place_key) (codes "Property") places.props
    ((λ fault broken. broken.0.1 tt), ((λ fault broken. broken.0.1 tt), tt)) fault))

-- V24
fits_key : ¬ BreaksForeignKey names shelves standing by_place
fits_key = ⊎_elim
    (λ other. other (each_once (codes "On" ∷ codes "Book" ∷ []) (codes "On" ∷ codes "Book" ∷ []) refl refl refl))
    (⊎_elim
    (λ other. other (each_once (codes "Room" ∷ codes "Row" ∷ []) (codes "Row" ∷ codes "Room" ∷ []) refl refl refl))
    (⊎_elim
    (λ twice. twice (differ_tells (λ name. name) (codes "Row" ∷ codes "Room" ∷ []) refl))
    (⊎_elim (λ other. other refl) (λ none. none))))

-- V25: the two types differ
other_type : (one other : ℕ) → one ≢ other → ¬ (Some one ≡ Some other)
other_type one other differ same = differ (same_Some one other same)

elsewhere : ¬ PointsToItself names shelves standing by_place
elsewhere same = other_type 1 0 (λ one. absurd (omega arith)) same.0

pub keeps_tables : (fault : Fault) → ¬ BreaksStoreRules shelves fault
keeps_tables fault = ⊎_elim
    (none_in IsTableFault (codes "EntityType") shelves.types (books_keep, (places_keep, tt)) fault)
    (none_in (IsForeignKeyFault names shelves) (codes "Association") shelves.associations ((λ fault. ⊎_elim (λ unlike. fits_key unlike.0) (λ itself. elsewhere itself.0)), tt) fault)
