-- The entry of a path among files in the order of their paths.
use Rattle.std.proofs.Common.{◌≡◌, inl, inr, ℕ, ◌<◌, Bool, true, false, List, [], ◌∷◌, map, length, get_or, Less, Equal, Greater, nat_cmp, Option, Some, None, refl, sym, ap, ◌∙◌}
use Rattle.std.specs.Prelude.{if◌then◌else◌, bytes_eq}
use Rattle.std.specs.Cmp.Lexicographic.{slice_cmp}
use Rattle.std.specs.List.{HoldsAt}
use Rattle.std.specs.List.Sorted.{IsPartitionPoint}
use Rattle.std.proofs.lemmas.Bool.{and_parts}
use Rattle.std.proofs.lemmas.Slice.Eq.{bytes_eq-Decides}
use Rattle.base_devices.specs.Order.{is_before, are_after, are_in_order}
use Rattle.base_model.specs.Text.{Text, In}
use Rattle.base_model.specs.Values.{FileEntry, file_entry_of}
use Rattle.base_model.specs.declared.files.FileEntry as rust
use Rattle.repo_ini.proofs.Orders.{not_itself}
use Rattle.backup_plan.specs.Listed.{entry_at}
use Rattle.backup_plan.proofs.Lists.{in_map, of_map, map_map}
use Rattle.backup_plan.proofs.Searched.{in_at, later, found, absent}

abbrev pub path_of : FileEntry → Text
path_of e = e.path

abbrev pub name_of : rust.FileEntry → Text
name_of e = path_of (file_entry_of e)

not_same : (a b : Text) → (a ≡ b → ⊥) → bytes_eq a b ≡ false
not_same a b other = by (bytes_eq a b) refl where
  by : (r : Bool) → bytes_eq a b ≡ r → r ≡ false
  by true is = absurd (other ((bytes_eq-Decides a b).0 is))
  by false is = refl

entry_none : (key : Text) (es : List FileEntry) → ((e : FileEntry) → In e es → e.path ≡ key → ⊥) → entry_at key es ≡ None
entry_none key [] none = refl
entry_none key (e ∷ es) none = ap (λ (b : Bool). if b then Some e else entry_at key es) (not_same e.path key (none e (inl refl))) ∙ entry_none key es (λ x i. none x (inr i))

entry_some : (key : Text) (e : FileEntry) (es : List FileEntry) (x : FileEntry) → are_after e.path (map path_of es) ≡ true → In x (e ∷ es) → x.path ≡ key → entry_at key (e ∷ es) ≡ Some x
entry_some key e es x order (inl is) same =
    let at : bytes_eq e.path key ≡ true = (bytes_eq-Decides e.path key).1 (ap path_of (sym is) ∙ same) in
    ap (λ (b : Bool). if b then Some e else entry_at key es) at ∙ ap (λ (y : FileEntry). let o : Option FileEntry = Some y in o) (sym is)
entry_some key e [] x order (inr i) same = absurd i
entry_some key e (f ∷ fs) x order (inr i) same =
    let other : e.path ≡ key → ⊥ = λ is. not_itself e.path x.path (later path_of e.path (f ∷ fs) x order i) (is ∙ sym same) in
    let p = and_parts (is_before e.path f.path) (are_after f.path (map path_of fs)) order in
    ap (λ (b : Bool). if b then Some e else entry_at key (f ∷ fs)) (not_same e.path key other) ∙ entry_some key f fs x p.1 i same

ordered_some : (key : Text) (es : List FileEntry) (x : FileEntry) → are_in_order (map path_of es) ≡ true → In x es → x.path ≡ key → entry_at key es ≡ Some x
ordered_some key [] x order i same = absurd i
ordered_some key (e ∷ es) x order i same = entry_some key e es x order i same

module _ (old : List rust.FileEntry) (order : are_in_order (map path_of (map file_entry_of old)) ≡ true) (key : Text) (i : ℕ) where
  -- the entry that a search finds
  pub entry_found : (d : rust.FileEntry) → HoldsAt (λ e. slice_cmp nat_cmp (name_of e) key ≡ Equal) old i → i < length old → entry_at key (map file_entry_of old) ≡ Some (file_entry_of (get_or old i d))
  entry_found d h less =
      ordered_some key (map file_entry_of old) (file_entry_of (get_or old i d)) order
      (in_map file_entry_of old (get_or old i d) (in_at old i d less))
      (found name_of key old i d h)

  -- where it finds none there is none
  pub entry_absent : IsPartitionPoint (λ e. slice_cmp nat_cmp (name_of e) key ≡ Less) (λ e. slice_cmp nat_cmp (name_of e) key ≡ Greater) old i → entry_at key (map file_entry_of old) ≡ None
  entry_absent point = entry_none key (map file_entry_of old) (λ e here same.
      let r = of_map file_entry_of old e here in
      absent name_of key old i point r.0 r.1 (ap path_of r.2 ∙ same))

  pub ordered_names : are_in_order (map name_of old) ≡ true
  ordered_names = ap are_in_order (sym (map_map path_of file_entry_of old)) ∙ order
