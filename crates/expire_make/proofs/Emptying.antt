-- Folders of labels that aren't listed are emptied, name by name.
use Rattle.std.proofs.Common.{◌≡◌, ◌≢◌, ◌⊎◌, ⊎_elim, inl, inr, ℕ, ◌+◌, ◌<◌, ◌≤◌, List, [], ◌∷◌, ◌++◌, length, length-append, get_or, drop, Option, Some, None, refl, ap, ◌∙◌, sym, subst, arith, string_bytes, IsTrue}
use Rattle.std.specs.Prelude.{IfSome, IsSome, Contains, nat_eq}
use Rattle.std.specs.List.{starts_with}
use Rattle.base_devices.specs.declared.disk.Found.{Found}
use Rattle.base_devices.specs.Content.{Name, Value, Content, AreFolders, IsFolderName, is_below}
use Rattle.base_devices.specs.States.{DiskState, OnlyReads}
use Rattle.base_disk.specs.Dropped.{IsAbsent}
use Rattle.base_model.specs.declared.labels.BackupKind.{BackupKind}
use Rattle.base_model.specs.declared.labels.BackupKind.TheVariants.{Full, Diff, Incr}
use Rattle.base_model.specs.declared.labels.Label.{Label}
use Rattle.base_model.specs.declared.labels.Later.{Later}
use Rattle.base_model.specs.Dates.{stamp}
use Rattle.base_model.specs.Names.{backup_folder, label_folder, label_text, later_text, letter}
use Rattle.base_model.specs.Text.{Text, In, ◌⫽◌}
use Rattle.archive_lookup.proofs.Orders.{in_of}
use Rattle.repo_keys.proofs.Seeking.{opened, ended}
use Rattle.repo_pair.specs.Member.{IsPlain}
use Rattle.expire_make.specs.Losing.{TakesAway, IsTextUnlisted, IsUnlisted, names_of}
use Rattle.expire_make.proofs.LabelFolders.{below_is}
use Rattle.expire_make.proofs.Removals.{absent_stays}

-- ---- the names of a listing

-- has this in front
abbrev pub After : Text → Name → Type 0
After prefix n = IsTrue (starts_with nat_eq n prefix)

-- each such name is absent, or still to come
abbrev pub AbsentBut : Text → List Found → ℕ → Option Content → Type 0
AbsentBut prefix found i now = (n : Name) → In n (names_of found) → IsTrue (starts_with nat_eq n prefix) → IsAbsent now n ⊎ In n (names_of (drop i found))

module _ (prefix : Text) where
  pub absent_next : (found : List Found) (i : ℕ) (x : Found) (name : Name) (a b : DiskState) → i < length found → x ≡ get_or found i x → name ≡ string_bytes x.name → TakesAway (λ n. IsTrue (starts_with nat_eq n prefix)) a b
      → (IsTrue (starts_with nat_eq name prefix) → IsAbsent b.view.now name) → AbsentBut prefix found i a.view.now → AbsentBut prefix found (i + 1) b.view.now
  absent_next found i x name a b low is named takes one gone n at front = ⊎_elim
      (λ absent. inl (absent_stays (After prefix) a b n takes absent))
      (λ (j : In n (names_of (drop i found))). ⊎_elim
      (λ (e : n ≡ string_bytes x.name). inl (subst (λ (k : Name). IsAbsent b.view.now k) (named ∙ sym e) (one (subst (λ (k : Name). IsTrue (starts_with nat_eq k prefix)) (e ∙ sym named) front))))
      (λ k. inr k)
      (subst (λ (l : List Found). In n (names_of l)) (opened (λ (y : Found). string_bytes y.name) found i x low is) j))
      (gone n at front)

  pub absent_last : (found : List Found) (i : ℕ) (now : Option Content) → length found ≤ i → AbsentBut prefix found i now → (n : Name) → In n (names_of found) → IsTrue (starts_with nat_eq n prefix) → IsAbsent now n
  absent_last found i now end gone n at front = ⊎_elim (λ h. h) (λ (j : In n (names_of (drop i found))). absurd (subst (λ (l : List Found). In n (names_of l)) (ended (λ (y : Found). string_bytes y.name) found i end) j)) (gone n at front)

-- ---- the folders

-- each that is named as such a label is empty, or still to come
abbrev pub EmptiedBut : Text → List Label → List Text → List Text → Option Content → Type 0
EmptiedBut stanza labels all ahead now = (x : Text) → In x all → IsTextUnlisted labels x → (n : Name) → IsTrue (is_below (backup_folder stanza ⫽ x) n) → IsAbsent now n ⊎ In x ahead

module _ (stanza : Text) (labels : List Label) where
  pub emptied_next : (all : List Text) (y : Text) (rest : List Text) (a b : DiskState) → TakesAway (IsUnlisted stanza labels) a b
      → (IsTextUnlisted labels y → (n : Name) → IsTrue (is_below (backup_folder stanza ⫽ y) n) → IsAbsent b.view.now n) → EmptiedBut stanza labels all (y ∷ rest) a.view.now → EmptiedBut stanza labels all rest b.view.now
  emptied_next all y rest a b takes one gone x at off n below = ⊎_elim
      (λ absent. inl (absent_stays (IsUnlisted stanza labels) a b n takes absent))
      (λ j. ⊎_elim (λ (e : x ≡ y). inl (one (subst (λ (t : Text). IsTextUnlisted labels t) e off) n (subst (λ (t : Text). IsTrue (is_below (backup_folder stanza ⫽ t) n)) e below))) (λ k. inr k) j)
      (gone x at off n below)

-- ---- the text of a label is the name of a folder

plain_append : (x y : Text) → IsPlain x → IsPlain y → IsPlain (x ++ y)
plain_append [] y a b = b
plain_append (c ∷ x) y a b = (a.0, plain_append x y a.1 b)

digit : (n : ℕ) → 48 + n ≢ 47
digit n e = omega (arith, e)

stamp_plain : (t : ℕ) → IsPlain (stamp t)
unfolding stamp
stamp_plain t = (digit _, (digit _, (digit _, (digit _, (digit _, (digit _, (digit _, (digit _, (λ (e : 45 ≡ 47). omega (arith, e), (digit _, (digit _, (digit _, (digit _, (digit _, (digit _, tt)))))))))))))))

letter_plain : (k : BackupKind) → letter k ≢ 47
letter_plain Full e = omega (arith, e)
letter_plain Diff e = omega (arith, e)
letter_plain Incr e = omega (arith, e)

later_plain : (o : Option Later) → IsPlain (later_text o)
later_plain None = tt
later_plain (Some l) = (λ (e : 95 ≡ 47). omega (arith, e), plain_append (stamp l.time) (letter l.kind ∷ []) (stamp_plain l.time) (letter_plain l.kind, tt))

label_plain : (l : Label) → IsPlain (label_text l)
label_plain l = plain_append (stamp l.full) (70 ∷ later_text l.later) (stamp_plain l.full) (λ (e : 70 ≡ 47). omega (arith, e), later_plain l.later)

no_slash : (x : Text) → IsPlain x → In 47 x → ⊥
no_slash [] plain at = at
no_slash (c ∷ x) plain (inl e) = plain.0 (sym e)
no_slash (c ∷ x) plain (inr at) = no_slash x plain.1 at

label_named : (l : Label) → IsFolderName (label_text l)
label_named l = (
  λ e. let none = ap length e in omega (arith, none, length-append (stamp l.full) (70 ∷ later_text l.later)),
  λ (at : Contains (label_text l) 47). no_slash (label_text l) (label_plain l) (in_of (label_text l) 47 at),
)

-- ---- once the folders that are there were gone through

module _ (stanza : Text) (labels : List Label) (folder : Text) (known : List Name) (a m b : DiskState) (is : folder ≡ backup_folder stanza) (looks : OnlyReads a m) (folders : IfSome a.view.now (λ f. AreFolders folder f known))
    (takes : TakesAway (IsUnlisted stanza labels) m b) (gone : (x : Text) → In x known → IsTextUnlisted labels x → (n : Name) → IsTrue (is_below (backup_folder stanza ⫽ x) n) → IsAbsent b.view.now n) where
  pub unlisted_gone : (n : Name) → IsUnlisted stanza labels n → IsAbsent b.view.now n
  unlisted_gone n u = by a.view.now refl folders
    where
      was_absent : (o : Option Content) → a.view.now ≡ o → IsAbsent o n → IsAbsent b.view.now n
      was_absent o e none = absent_stays (IsUnlisted stanza labels) m b n takes (subst (λ (o : Option Content). IsAbsent o n) (sym (looks.now ∙ e)) none)

      by : (o : Option Content) → a.view.now ≡ o → IfSome o (λ f. AreFolders folder f known) → IsAbsent b.view.now n
      by None e l = was_absent None e tt
      by (Some f) e l = there (f n) refl
        where
          there : (v : Value) → f n ≡ v → IsAbsent b.view.now n
          there None none = was_absent (Some f) e none
          there (Some bytes) some =
              let text = label_text u.label in
              let r = below_is (label_folder stanza u.label) n u.below in
              let name = r.1 ∙ ap (λ (t : Text). (t ⫽ text) ++ 47 ∷ r.0) (sym is) in
              let has = subst (λ (t : Text). IsSome (f t)) name (subst (λ (v : Value). IsSome v) (sym some) refl) in
              gone text (in_of known text (l.all text r.0 (label_named u.label) has)) (record { label = u.label; is_label = u.is_label; text_is = refl; not_listed = u.not_listed }) n u.below
