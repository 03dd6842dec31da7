-- The names below a folder, as a map of names lists them.
use Rattle.std.proofs.Common.{◌≡◌, ℕ, List, length, Option, Some, None, Vec, refl, sym, ap, subst}
use Rattle.std.specs.Prelude.{Contains}
use Rattle.std.specs.declared.alloc.Global.{Global}
use Rattle.std.specs.String.{string_cmp}
use Rattle.std.specs.BTreeMap.{IsOrdered, get_by_text}
use Rattle.base_devices.specs.Content.{Name, IsListing, is_below}
use Rattle.memory_devices.specs.Agrees.{bytes_at}
use Rattle.memory_devices.proofs.Maps.{Map, items_of}
use Rattle.memory_devices.proofs.Listing.{listed, listed_each, listed_found, listed_in_order}

abbrev size_of : Vec ℕ Global → ℕ
size_of v = length v.items

of_items : (o : Option (Vec ℕ Global)) (bytes : List ℕ) → items_of o ≡ Some bytes → (v : Vec ℕ Global) × (o ≡ Some v) × (v.items ≡ bytes)
of_items None bytes is = cc
of_items (Some v) bytes is = (v, refl, cc is)

abbrev pub below_listed : Name → Map → List (Name × ℕ)
below_listed folder m = listed (is_below folder) size_of m.entries

pub below_listing : (folder : Name) (m : Map) → IsOrdered string_cmp m → IsListing folder (bytes_at m) (below_listed folder m)
below_listing folder m ordered = record {
  each = λ name size has. let shows = listed_each (is_below folder) size_of m ordered (name, size) has in (shows.2, (shows.0.items, ap items_of shows.1, sym shows.3));
  all = λ name bytes below is.
      let v = of_items (get_by_text m name) bytes is in
      subst (λ (b : List ℕ). Contains (below_listed folder m) (name, length b)) v.2 (listed_found (is_below folder) size_of m.entries name v.0 below v.1);
  order = listed_in_order (is_below folder) size_of m.entries ordered;
}
