-- Values that are built of 64-bit integers, UTF-8 and keys in order.
use Rattle.std.specs.Prelude.{◌≡◌, ℕ, ◌^◌, ◌<◌, List, ⊤, negsuc, pos, IsUtf8}
use Rattle.std.specs.Ordering.{nat_cmp}
use Rattle.std.specs.declared.cmp.Ordering.TheVariants.{Greater}
use Rattle.std.specs.Cmp.Lexicographic.{slice_cmp}
use Rattle.serde_json.specs.Data.{Num, unsigned, negative, float, Data, null, boolean, number, string, array, object, Items, no_items, item, Members, no_members, member}

-- a number that fits into 64 bits
abbrev pub IsBuiltNum : Num → Type 0
IsBuiltNum (unsigned n) = n < 2 ^ 64
IsBuiltNum (negative (pos n)) = ⊥
IsBuiltNum (negative (negsuc n)) = n < 2 ^ 63
IsBuiltNum (float x) = ⊥

-- k comes after each key
abbrev pub IsAfterAll : List ℕ → Members → Type 0
IsAfterAll k no_members = ⊤
IsAfterAll k (member l d ms) = (slice_cmp nat_cmp k l ≡ Greater) × IsAfterAll k ms

-- each key comes after those that were found
abbrev pub AreAfter : Members → Members → Type 0
AreAfter found no_members = ⊤
AreAfter found (member k d ms) = IsAfterAll k found × AreAfter found ms

-- integers of 64 bits, UTF-8, and keys in order, each once
abbrev mutual
  pub IsBuilt : Data → Type 0
  IsBuilt null = ⊤
  IsBuilt (boolean b) = ⊤
  IsBuilt (number n) = IsBuiltNum n
  IsBuilt (string s) = IsUtf8 s
  IsBuilt (array ds) = AreBuilt ds
  IsBuilt (object ms) = MembersAreBuilt ms

  pub AreBuilt : Items → Type 0
  AreBuilt no_items = ⊤
  AreBuilt (item d ds) = IsBuilt d × AreBuilt ds

  pub MembersAreBuilt : Members → Type 0
  MembersAreBuilt no_members = ⊤
  MembersAreBuilt (member k d ms) = IsUtf8 k × IsBuilt d × AreAfter (member k d no_members) ms × MembersAreBuilt ms
