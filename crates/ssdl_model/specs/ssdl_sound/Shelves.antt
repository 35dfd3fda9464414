-- A small store: books stand on shelves. The types stand in another order than the tables, references are by Namespace or by Alias, and the
-- foreign key names its columns in another order than the key. What it means.
use Rattle.std.specs.Prelude.{pos, [], ◌∷◌, Some, None, true, false, codes}
use Rattle.emc_base.specs.declared.value.Kind.TheVariants as kind
use Rattle.edm_types.specs.declared.store.StoreModel.{StoreModel}
use Rattle.csdl_names.specs.declared.csdl_lists.raw.RawAssociation.{RawAssociation}
use Rattle.csdl_names.specs.declared.csdl_lists.raw.RawBound.TheVariants.{Absent, Number}
use Rattle.csdl_names.specs.declared.csdl_lists.raw.RawModel.{RawModel}
use Rattle.csdl_names.specs.declared.csdl_lists.raw.RawType.{RawType}
use Rattle.csdl_meaning.specs.School.{needed, optional}
use Rattle.ssdl_model.specs.ssdl_making.StoreMeaning.{col_numbered, table_numbered}

-- a book stands on a shelf or on none
abbrev pub books : RawType
books = record {
  name = codes "Book";
  base = None;
  is_abstract = false;
  key = Some (codes "Id" ∷ []);
  props =
      needed (codes "Id") (codes "int")
      ∷ optional (codes "Title") (codes "nvarchar") (Number (pos 80))
      ∷ optional (codes "Row") (codes "smallint") Absent
      ∷ optional (codes "Room") (codes "nvarchar") (Number (pos 9))
      ∷ optional (codes "Cover") (codes "varbinary(max)") Absent
      ∷ [];
  navs = [];
}

abbrev pub places : RawType
places = record {
  name = codes "Shelf";
  base = None;
  is_abstract = false;
  key = Some (codes "Room" ∷ codes "Row" ∷ []);
  props = needed (codes "Row") (codes "smallint") ∷ record { name = codes "Room"; kind = codes "nvarchar(max)"; nullable = false; bound = Absent } ∷ [];
  navs = [];
}

-- from the book to the shelf, the row first
abbrev pub standing : RawAssociation
standing = record {
  name = codes "FK_Stands";
  ends = record { role = codes "On"; ty = codes "Self.Shelf"; multiplicity = codes "0..1" } ∷ record { role = codes "Book"; ty = codes "Shelves.Book"; multiplicity = codes "*" } ∷ [];
  constraint = Some (record {
    principal = record { role = codes "On"; props = codes "Row" ∷ codes "Room" ∷ [] };
    dependent = record { role = codes "Book"; props = codes "Row" ∷ codes "Room" ∷ [] };
  });
}

abbrev pub shelves : RawModel
shelves = record {
  namespace = codes "Shelves";
  alias = Some (codes "Self");
  container = record {
    name = codes "Store";
    sets = record { name = codes "dbo.Shelves"; element = codes "Self.Shelf" } ∷ record { name = codes "dbo.Books"; element = codes "Shelves.Book" } ∷ [];
    association_sets = [];
  };
  types = books ∷ places ∷ [];
  enums = [];
  associations = standing ∷ [];
}

abbrev pub shelf_store : StoreModel
shelf_store = record {
  namespace = codes "Shelves";
  container = codes "Store";
  tables =
      record {
        name = codes "dbo.Shelves";
        cols = record { name = codes "Row"; kind = kind.Int16; nullable = false } ∷ record { name = codes "Room"; kind = kind.Text None; nullable = false } ∷ [];
        key = col_numbered 1 ∷ col_numbered 0 ∷ [];
      }
      ∷ record {
        name = codes "dbo.Books";
        cols =
            record { name = codes "Id"; kind = kind.Int32; nullable = false }
            ∷ record { name = codes "Title"; kind = kind.Text (Some 80); nullable = true }
            ∷ record { name = codes "Row"; kind = kind.Int16; nullable = true }
            ∷ record { name = codes "Room"; kind = kind.Text (Some 9); nullable = true }
            ∷ record { name = codes "Cover"; kind = kind.Binary None; nullable = true }
            ∷ [];
        key = col_numbered 0 ∷ [];
      }
      ∷ [];
  keys =
      record {
        name = codes "FK_Stands";
        from = table_numbered 1;
        from_cols = col_numbered 2 ∷ col_numbered 3 ∷ [];
        to = table_numbered 0;
        to_cols = col_numbered 0 ∷ col_numbered 1 ∷ [];
      }
      ∷ [];
}
