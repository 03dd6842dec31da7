-- The latest second of a list's labels, and a draft of what was taken.
use Rattle.std.proofs.Common.{◌≡◌, ◌⊎◌, refl, ⊎_elim, inl, inr, ℕ, zero, suc, ◌+◌, ◌<◌, ◌≤◌, List, [], ◌∷◌, ◌++◌, length, map, take, get_or, Option, Some, None, sym, ◌∙◌, ap, subst, arith}
use Rattle.std.specs.Prelude.{IfSome, IsSome, string_bytes}
use Rattle.std.proofs.lemmas.List.{map-append}
use Rattle.base_devices.specs.Content.{Content, IsListing}
use Rattle.base_devices.specs.declared.disk.Found.{Found}
use Rattle.base_devices.specs.Order.{is_before}
use Rattle.base_devices.specs.States.{last_second}
use Rattle.base_model.specs.declared.labels.Entry as rust_entry
use Rattle.base_model.specs.declared.labels.Label.{Label}
use Rattle.base_model.specs.declared.labels.Later.{Later}
use Rattle.base_model.specs.declared.wal.WalPart.{WalPart}
use Rattle.base_model.specs.InfoFiles.{IsLabel, label_kind}
use Rattle.base_model.specs.ManifestText.{IsWalPart, HasItsPrior}
use Rattle.base_model.specs.Text.{Text, In}
use Rattle.base_model.specs.Names.{label_text}
use Rattle.base_model.specs.Values.{Entry, BackupInfo, entry_of}
use Rattle.backup_plan.proofs.Lists.{in_parts, passed}
use Rattle.backup_record.specs.declared.manifest_record.Head.{Head}
use Rattle.backup_record.specs.Bounds.{MayFollow}
use Rattle.backup_record.specs.Making.{labels_of}
use Rattle.base_model.proofs.Pushed.{in_left}
use Rattle.cmd_backup_common.specs.Seconds.{later_second, second_of, AreBefore, HasFilesBelow, IsNext, ListsSecond}
use Rattle.cmd_backup_common.proofs.StampOrder.{label_before}

-- what lies at a place of a list is in it
pub in_got : {X : Type 0} (xs : List X) (i : ℕ) (x : X) → i < length xs → x ≡ get_or xs i x → In x xs
in_got [] i x less e = absurd (omega (arith, less))
in_got (y ∷ ys) zero x less e = inl e
in_got (y ∷ ys) (suc i) x less e = inr (in_got ys i x (omega (arith, less)) e)

-- the labels of one entry more
labels_more : (listed : List rust_entry.Entry) (i : ℕ) (x : rust_entry.Entry) → i < length listed → x ≡ get_or listed i x
    → labels_of (map entry_of (take (i + 1) listed)) ≡ labels_of (map entry_of (take i listed)) ++ x.label ∷ []
labels_more listed i x less is = ap labels_of (passed entry_of listed i x less is) ∙ map-append (λ (e : Entry). e.label) (map entry_of (take i listed)) (entry_of x ∷ [])

in_last : {X : Type 0} (xs : List X) (x : X) → In x (xs ++ x ∷ [])
in_last [] x = inl refl
in_last (y ∷ ys) x = inr (in_last ys x)

-- of one entry more: the second is its own, or the one before
pub latest_own : (listed : List rust_entry.Entry) (i : ℕ) (x : rust_entry.Entry) → i < length listed → x ≡ get_or listed i x → (second : ℕ) → second ≡ second_of x.label
    → ListsSecond (labels_of (map entry_of (take (i + 1) listed))) second
latest_own listed i x less is second own = (x.label, subst (λ (ls : List Label). In x.label ls) (sym (labels_more listed i x less is)) (in_last (labels_of (map entry_of (take i listed))) x.label), sym own)

pub latest_kept : (listed : List rust_entry.Entry) (i latest : ℕ) (x : rust_entry.Entry) → i < length listed → x ≡ get_or listed i x → (latest ≡ 0) ⊎ ListsSecond (labels_of (map entry_of (take i listed))) latest
    → (latest ≡ 0) ⊎ ListsSecond (labels_of (map entry_of (take (i + 1) listed))) latest
latest_kept listed i latest x less is (inl none) = inl none
latest_kept listed i latest x less is (inr l) = inr (l.0, subst (λ (ls : List Label). In l.0 ls) (sym (labels_more listed i x less is)) (in_left l.0 (labels_of (map entry_of (take i listed))) (x.label ∷ []) l.1), l.2)

-- one entry more
pub latest_more : (listed : List rust_entry.Entry) (i latest : ℕ) (x : rust_entry.Entry) → i < length listed → x ≡ get_or listed i x → AreBefore (labels_of (map entry_of (take i listed))) (latest + 1) →
    (new : ℕ) → second_of x.label ≤ new → latest ≤ new → AreBefore (labels_of (map entry_of (take (i + 1) listed))) (new + 1)
latest_more listed i latest x less is before new here rest l at = ⊎_elim
    (λ (old : In l (labels_of (map entry_of (take i listed)))). omega (arith, before l old, rest))
    (λ (last : In l (x.label ∷ [])). ⊎_elim (λ (e : l ≡ x.label). subst (λ (m : Label). second_of m < new + 1) (sym e) (omega (arith, here))) (λ (none : ⊥). absurd none) last)
    (in_parts (labels_of (map entry_of (take i listed))) (x.label ∷ []) l (subst (λ (ls : List Label). In l ls) all at))
  where
    all : labels_of (map entry_of (take (i + 1) listed)) ≡ labels_of (map entry_of (take i listed)) ++ x.label ∷ []
    all = labels_more listed i x less is

-- what is found below a folder lies there
pub lists_files : (folder : Text) (now : Option Content) (found : List Found) → 0 < length found → IfSome now (λ f. IsListing folder f (map (λ x. (string_bytes x.name, x.size)) found)) → IfSome now (HasFilesBelow folder)
lists_files folder None found some l = tt
lists_files folder (Some f) [] some l = absurd (omega (arith, some))
lists_files folder (Some f) (x ∷ xs) some l =
    let e = l.each (string_bytes x.name) x.size (0, omega arith, refl) in
    (string_bytes x.name, e.0, subst (λ (v : Option (List ℕ)). IsSome v) (sym e.1.1) refl)

-- a label is named by no later second than it states
full_within : (full : ℕ) (later : Option Later) → full ≤ later_second full later
full_within full None = omega arith
full_within full (Some l) = omega arith

-- a full backup that is named by such a second may be listed after the others
pub may_follow : (second : ℕ) (before : BackupInfo) (h : Head) → IsNext second before → In h.cluster before.history → h.label ≡ record { full = second; later = None } → h.prior ≡ None → h.wal ≡ None → h.start ≡ second → h.stop ≤ last_second → MayFollow h before
may_follow second before h next cluster label prior wal start stop = record {
  label = subst (λ (l : Label). IsLabel l) (sym label) (record { full = next.in_range; later = tt });
  later = λ l at. ap (λ (m : Label). is_before (label_text l) (label_text m)) label ∙ label_before l second (omega (arith, next.later l at, full_within l.full l.later)) next.in_range;
  prior = subst (λ (l : Label). HasItsPrior (label_kind l) h.prior) (sym label) prior;
  listed = subst (λ (o : Option Label). IfSome o (λ l. In l (labels_of before.backups))) (sym prior) tt;
  start = omega (arith, start, next.in_range);
  stop = stop;
  cluster = cluster;
  wal = subst (λ (o : Option WalPart). IfSome o IsWalPart) (sym wal) tt;
}
