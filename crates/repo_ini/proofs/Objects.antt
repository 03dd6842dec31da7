-- An object of built values is built, where its keys are in order.
use Rattle.std.proofs.Common.{◌≡◌, ◌&&◌, ℕ, Bool, true, false, List, ap, ◌∙◌}
use Rattle.std.specs.Ordering.{ordering_reverse}
use Rattle.std.proofs.lemmas.Bool.{and_parts}
use Rattle.std.proofs.lemmas.Cmp.{nat_list_cmp_total}
use Rattle.json.proofs.Printed.Utf8.{are_ascii, IsUtf8-are_ascii}
use Rattle.serde_json.specs.Data.{Data, null, boolean, number, string, array, object, Members, no_members, member}
use Rattle.base_devices.specs.Order.{is_before}
use Rattle.repo_ini.proofs.Orders.{less_from}
use Rattle.repo_ini.specs.Built.{IsBuilt, AreAfter, MembersAreBuilt}

abbrev pub comes_first : List ℕ → Members → Bool
comes_first k no_members = true
comes_first k (member l d ms) = is_before k l && comes_first k ms

abbrev pub members_in_order : Members → Bool
members_in_order no_members = true
members_in_order (member k d ms) = are_ascii k && (comes_first k ms && members_in_order ms)

-- the keys are ASCII, and in order
abbrev pub keys_in_order : Data → Bool
keys_in_order (object ms) = members_in_order ms
keys_in_order d = false

abbrev pub ValuesAreBuilt : Members → Type 0
ValuesAreBuilt no_members = Unit {0}
ValuesAreBuilt (member k d ms) = IsBuilt d × ValuesAreBuilt ms

abbrev pub HasBuilt : Data → Type 0
HasBuilt (object ms) = ValuesAreBuilt ms
HasBuilt d = ⊥

after_one : (k : List ℕ) (d : Data) (ms : Members) → comes_first k ms ≡ true → AreAfter (member k d no_members) ms
after_one k d no_members h = tt
after_one k d (member l e ms) h =
    let p = and_parts (is_before k l) (comes_first k ms) h in
    ((nat_list_cmp_total.antisymm l k ∙ ap ordering_reverse (less_from k l p.0), tt), after_one k d ms p.1)

members_built : (ms : Members) → members_in_order ms ≡ true → ValuesAreBuilt ms → MembersAreBuilt ms
members_built no_members h g = tt
members_built (member k d ms) h g =
    let p = and_parts (are_ascii k) (comes_first k ms && members_in_order ms) h in
    let q = and_parts (comes_first k ms) (members_in_order ms) p.1 in
    (IsUtf8-are_ascii k p.0, g.0, after_one k d ms q.0, members_built ms q.1 g.1)

pub IsBuilt-object : (d : Data) → keys_in_order d ≡ true → HasBuilt d → IsBuilt d
IsBuilt-object null h g = absurd g
IsBuilt-object (boolean b) h g = absurd g
IsBuilt-object (number n) h g = absurd g
IsBuilt-object (string s) h g = absurd g
IsBuilt-object (array ds) h g = absurd g
IsBuilt-object (object ms) h g = members_built ms h g
