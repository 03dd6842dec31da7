-- A folder with something in it that is kept is kept.
use Rattle.std.proofs.Common.{◌≡◌, ℕ, Bool, true, false, List, [], ◌∷◌, ◌++◌, length, drop, refl, sym, ap, ◌∙◌, append_assoc, arith}
use Rattle.std.specs.Prelude.{◌||◌, ◌&&◌, ◌==◌, codes, bytes_eq}
use Rattle.std.specs.List.{list_any, onto_first}
use Rattle.std.proofs.lemmas.Bool.{and_parts}
use Rattle.std.proofs.lemmas.Bool.Decides.{Decides-eqb}
use Rattle.std.proofs.lemmas.List.Folds.{list_any-append}
use Rattle.std.proofs.lemmas.List.Splits.{slice_split-cons_yes, slice_split-cons_no, length-slice_split}
use Rattle.std.proofs.lemmas.Slice.Eq.{starts_is, bytes_eq-Decides}
use Rattle.base_devices.specs.Content.{is_below}
use Rattle.base_devices.specs.declared.data_folder.Node.{Node}
use Rattle.base_devices.specs.declared.data_folder.Node.TheVariants as nodes
use Rattle.base_model.specs.Text.{Text, ◌⫽◌}
use Rattle.base_model.specs.Paths.{elements}
use Rattle.base_model.proofs.Below.{below_prefix}
use Rattle.backup_plan.specs.Omitted.{is_passing, is_within, is_emptied, is_folder, is_settings_folder, is_of_top, is_by_name, is_omitted}

-- what is so of one is so of the other
abbrev Implies : Bool → Bool → Type 0
Implies a b = a ≡ true → b ≡ true

or_map : (a b c d : Bool) → Implies a c → Implies b d → Implies (a || b) (c || d)
or_map true b c d f g h = ap (λ (x : Bool). x || d) (f refl)
or_map false b true d f g h = refl
or_map false b false d f g h = g h

and_map : (a b c : Bool) → Implies b c → Implies (a && b) (a && c)
and_map true b c f h = f h
and_map false b c f h = h

-- ---- elements

some_element : (t : Text) → elements t ≡ [] → ⊥
some_element t e = let count = length-slice_split (λ b. b == 47) t in let none : length (elements t) ≡ 0 = ap length e in omega (arith, count, none)

onto_append : (c : ℕ) (es fs : List Text) → (es ≡ [] → ⊥) → onto_first c (es ++ fs) ≡ onto_first c es ++ fs
onto_append c [] fs some = absurd (some refl)
onto_append c (e ∷ es) fs some = refl

elements_append : (prefix last : Text) → elements (prefix ⫽ last) ≡ elements prefix ++ elements last
elements_append [] last = slice_split-cons_yes (λ b. b == 47) 47 last refl
elements_append (c ∷ cs) last = by (c == 47) refl (elements_append cs last) where
  by : (b : Bool) → (c == 47) ≡ b → elements (cs ⫽ last) ≡ elements cs ++ elements last → elements ((c ∷ cs) ⫽ last) ≡ elements (c ∷ cs) ++ elements last
  by true is rest = slice_split-cons_yes (λ b. b == 47) c (cs ⫽ last) is ∙ ap (λ (es : List Text). [] ∷ es) rest ∙ sym (ap (λ (es : List Text). es ++ elements last) (slice_split-cons_yes (λ b. b == 47) c cs is))
  by false is rest = slice_split-cons_no (λ b. b == 47) c (cs ⫽ last) is ∙ ap (onto_first c) rest ∙ onto_append c (elements cs) (elements last) (some_element cs) ∙ sym (ap (λ (es : List Text). es ++ elements last) (slice_split-cons_no (λ b. b == 47) c cs is))

module _ (prefix last : Text) where
  any_element : (p : Text → Bool) → Implies (list_any p (elements prefix)) (list_any p (elements (prefix ⫽ last)))
  any_element p h = ap (list_any p) (elements_append prefix last) ∙ list_any-append p (elements prefix) (elements last) ∙ ap (λ (b : Bool). b || list_any p (elements last)) h

  -- what lies below a name, and all below that
  below : (name : Text) → Implies (is_below name prefix) (is_below name (prefix ⫽ last))
  below name h =
      let folder = name ++ 47 ∷ [] in
      let is = (starts_is Decides-eqb prefix folder (is_below name prefix) refl).0 h in
      (starts_is Decides-eqb (prefix ⫽ last) folder (is_below name (prefix ⫽ last)) refl).1 (drop (length folder) prefix ++ 47 ∷ last)
      (ap (λ (t : Text). t ⫽ last) is ∙ append_assoc folder (drop (length folder) prefix) (47 ∷ last))

  itself : (name : Text) → bytes_eq prefix name ≡ true → is_below name (prefix ⫽ last) ≡ true
  itself name h = below_prefix name last (prefix ⫽ last) (ap (λ (t : Text). t ⫽ last) ((bytes_eq-Decides prefix name).0 h))

  within : (name : Text) → Implies (is_within name prefix) (is_within name (prefix ⫽ last))
  within name h = right (bytes_eq (prefix ⫽ last) name) (is_below name (prefix ⫽ last)) (by (bytes_eq prefix name) refl h)
    where
      right : (a b : Bool) → b ≡ true → (a || b) ≡ true
      right true b e = refl
      right false b e = e

      by : (b : Bool) → bytes_eq prefix name ≡ b → (b || is_below name prefix) ≡ true → is_below name (prefix ⫽ last) ≡ true
      by true is k = itself name is
      by false is k = below name k

  two : (a b : Text) → Implies (is_within a prefix || is_within b prefix) (is_within a (prefix ⫽ last) || is_within b (prefix ⫽ last))
  two a b = or_map _ _ _ _ (within a) (within b)

  emptied : (online : Bool) → Implies (is_emptied online prefix) (is_emptied online (prefix ⫽ last))
  emptied online =
      or_map _ _ _ _ (or_map _ _ _ _ (or_map _ _ _ _ (or_map _ _ _ _ (or_map _ _ _ _ (or_map _ _ _ _ (or_map _ _ _ _
      (below (codes "pg_replslot")) (below (codes "pg_dynshmem"))) (below (codes "pg_notify"))) (below (codes "pg_serial")))
      (below (codes "pg_snapshots"))) (below (codes "pg_stat_tmp"))) (below (codes "pg_subtrans")))
      (and_map online _ _ (below (codes "pg_wal")))

  of_top : (online : Bool) → Implies (is_of_top online prefix) (is_of_top online (prefix ⫽ last))
  of_top online = or_map _ _ _ _ (or_map _ _ _ _ (or_map _ _ _ _
      (two (codes "postmaster.pid") (codes "postmaster.opts")) (two (codes "recovery.signal") (codes "standby.signal")))
      (and_map online _ _ (two (codes "backup_label") (codes "tablespace_map"))))
      (emptied online)

  settings : (node : Node) → Implies (is_settings_folder prefix nodes.Folder) (is_settings_folder (prefix ⫽ last) node)
  settings node h = left (is_below (codes "postgresql.auto.conf") (prefix ⫽ last)) (bytes_eq (prefix ⫽ last) (codes "postgresql.auto.conf") && is_folder node) (by (is_below (codes "postgresql.auto.conf") prefix) refl h)
    where
      left : (a b : Bool) → a ≡ true → (a || b) ≡ true
      left a b e = ap (λ (x : Bool). x || b) e

      by : (b : Bool) → is_below (codes "postgresql.auto.conf") prefix ≡ b → (b || (bytes_eq prefix (codes "postgresql.auto.conf") && true)) ≡ true → is_below (codes "postgresql.auto.conf") (prefix ⫽ last) ≡ true
      by true is k = below (codes "postgresql.auto.conf") is
      by false is k = itself (codes "postgresql.auto.conf") (and_parts (bytes_eq prefix (codes "postgresql.auto.conf")) true k).0

  by_name : (node : Node) → Implies (is_by_name prefix nodes.Folder) (is_by_name (prefix ⫽ last) node)
  by_name node = or_map _ _ _ _ (any_element is_passing) (λ h. (let e : ◌≡◌ {A = Bool} false true = h in cc e))

  omitted : (online : Bool) (node : Node) → Implies (is_omitted online prefix nodes.Folder) (is_omitted online (prefix ⫽ last) node)
  omitted online node = or_map _ _ _ _ (or_map _ _ _ _ (by_name node) (of_top online)) (settings node)

  -- where something in a folder is kept, the folder is
  pub parent_kept : (online : Bool) (node : Node) → is_omitted online (prefix ⫽ last) node ≡ false → is_omitted online prefix nodes.Folder ≡ false
  parent_kept online node keep = by (is_omitted online prefix nodes.Folder) refl
    where
      by : (b : Bool) → is_omitted online prefix nodes.Folder ≡ b → b ≡ false
      by true is = sym (omitted online node is) ∙ keep
      by false is = refl
