-- How the names of a list are hashed: under two keys that are drawn from all of them.
use Rattle.std.specs.Prelude.{ℕ, List, fold, flat_map}
use Rattle.core.specs.declared.hash.sip.DefaultHasher.{DefaultHasher}
use Rattle.core.specs.Hash as fed
use Rattle.core.specs.Hash.DefaultHasher.{initial, with_keys, write, finish}
use Rattle.groupings.specs.declared.name_places.hashes.NameHashes.{NameHashes}

-- the hasher of one name, with its keys
abbrev pub initial_hasher : NameHashes → DefaultHasher
initial_hasher hashes = with_keys hashes.key0 hashes.key1

-- what a hasher with a fixed key becomes by all names
abbrev pub fed_all : List (List ℕ) → DefaultHasher
fed_all names = fold write initial (flat_map fed.str names)

-- the keys that are drawn from all names: what it answers then, and what it answers after one byte more
abbrev pub drawn_from : List (List ℕ) → NameHashes
drawn_from names = record { key0 = finish (fed_all names); key1 = finish (fold write (fed_all names) (fed.u8 0)) }
