-- The label file of a running server's backup, among its other files.
use Rattle.std.proofs.Common.{◌≡◌, ◌≢◌, ◌<◌, ◌≤◌, ◌+◌, ◌^◌, ℕ, true, Bool, List, [], ◌∷◌, ◌++◌, length, get_or, Option, Some, None, refl, sym, ◌∙◌, ap, subst, arith, rules, slice_get, append_assoc, lit≤}
use Rattle.std.specs.Prelude.{codes, Contains, IfSome, ◌||◌, option_map, string_bytes}
use Rattle.json.proofs.Printed.Utf8.{IsUtf8-are_ascii}
use Rattle.std.proofs.lemmas.List.{length-append}
use Rattle.sha1.specs.Sha1.{sha1}
use Rattle.base_text.proofs.Digests.{IsSum-sha1}
use Rattle.base_disk.proofs.Below.{below_prefix}
use Rattle.base_devices.specs.Content.{Name, is_below}
use Rattle.base_devices.specs.Crash.{IsTemporary}
use Rattle.base_devices.specs.States.{last_second}
use Rattle.base_model.specs.Text.{Text, ◌⫽◌}
use Rattle.base_model.specs.declared.files.FileEntry as rust_file
use Rattle.base_model.specs.ManifestText.{IsFileEntry}
use Rattle.base_model.specs.Values.{FileEntry, file_entry_of}
use Rattle.base_model.specs.Paths.{IsPath}
use Rattle.base_model.proofs.Temporary.{entry_lasts}
use Rattle.repo_pair.specs.Member.{IsPlain}
use Rattle.backup_plan.specs.Listed.{Taken, control_path}
use Rattle.backup_plan.proofs.Lists.{of_map}
use Rattle.backup_record.specs.Further.{IsFurther, MayBeAdded, entry_in}
use Rattle.backup_record.proofs.Adding.{RepresentsBeside}
use Rattle.backup_record.proofs.Planned.{names_other}
use Rattle.backup_make.specs.declared.draft.Draft.{Draft}
use Rattle.backup_make.specs.Draft.{stanza_of, taken_in, folders_in, old_in, folder_of, is_own_of, label_name, further_in, IsDraft, IsFree}
use Rattle.backup_make.specs.declared.online.Online as rust
use Rattle.backup_make.specs.Online.{Online, IsOnline, online_of, part_in, label_path, label_entry}
use Rattle.backup_make.specs.Stored.{AreNames}
use Rattle.backup_make.proofs.Drafted.{few_bundles, names_is}
use Rattle.backup_make.proofs.Far.{no_slash}

-- ---- its path

is_path : IsPath (codes "backup_label")
is_path = record { utf8 = IsUtf8-are_ascii (codes "backup_label") refl; short = lit≤ tt; bytes = refl; elements_hold = refl }

lasts : ¬ IsTemporary (codes "backup_label")
lasts t = let n : length (codes "backup_label") ≡ length t.prefix + length (codes ".pgbackrest.tmp") = ap (λ (x : Text). length x) t.is ∙ length-append t.prefix (codes ".pgbackrest.tmp") in omega (arith, n)

plain : IsPlain (codes "backup_label")
plain = search rules

first_apart : (p : Text) → get_or p 0 0 ≢ 98 → codes "backup_label" ≢ p
first_apart p off e = off (ap (λ (x : Text). get_or x 0 0) (sym e))

none_of : (t : Text) → length t ≡ 0 → t ≡ []
none_of [] e = refl
none_of (c ∷ t) e = absurd (omega (arith, e))

-- it keeps the rules of a manifest's file
label_rules : (folders : List Text) (text : Text) (stop : ℕ) → length text < 2 ^ 32 → stop ≤ last_second → IsFileEntry folders (label_entry text stop)
label_rules folders text stop short within = record {
  path = is_path;
  lasting = lasts;
  placed = λ prefix last is. absurd (no_slash prefix last (codes "backup_label") plain (sym is));
  signal = (first_apart (codes "recovery.signal") (λ (e : 114 ≡ 98). omega (arith, e)), first_apart (codes "standby.signal") (λ (e : 115 ≡ 98). omega (arith, e)));
  size = omega (arith, short);
  time = omega (arith, within);
  sum = IsSum-sha1 text;
  empty = λ none. (ap sha1 (none_of text none), refl, refl);
  reference = tt;
  bundle = tt;
}

-- ---- its name

pub no_slash_in : ¬ Contains (codes "backup_label") 47
no_slash_in = search rules

module _ (d : Draft) where
  -- as the program makes it
  pub named : (folder files name given : Text) → folder ≡ folder_of d → files ≡ folder ++ codes "/pg_data" → name ≡ files ++ codes "/backup_label" → given ≡ name → given ≡ label_name d
  named folder files name given a b c e = e ∙ c ∙ ap (λ (x : Text). x ++ codes "/backup_label") (b ∙ ap (λ (x : Text). x ++ codes "/pg_data") a) ∙ append_assoc (folder_of d) (codes "/pg_data") (codes "/backup_label")

  pub label_own : is_own_of d (label_name d) ≡ true
  label_own = ap (λ (b : Bool). b || is_below (folder_of d ⫽ codes "bundle") (label_name d))
      (below_prefix (folder_of d ⫽ codes "pg_data") label_path (label_name d) (sym (append_assoc (folder_of d) (codes "/pg_data") (47 ∷ label_path))))

  pub label_lasts : ¬ IsTemporary (label_name d)
  label_lasts = entry_lasts (stanza_of d) d.label [] (label_entry [] 0) (label_rules [] [] 0 (omega arith) (omega arith))

  module _ (h : IsDraft d) (free : IsFree d) where
    -- no job has it
    pub label_apart : (names : List Name) → AreNames d names → (j : ℕ) (n : Name) → slice_get names j ≡ Some n → n ≢ label_name d
    label_apart names are j n is =
        let r = of_map (λ (f : Taken). f.path) (taken_in d) control_path h.control in
        names_other (stanza_of d) d.label h.plan.settings (old_in d) (taken_in d) (folders_in d) h.plan.equal h.listing.file_order h.listing.files r.0 r.1 (few_bundles d h)
        label_path free.file j n (subst (λ (ns : List Name). slice_get ns j ≡ Some n) (names_is d h names are) is)

-- ---- its entry

-- it describes the label file
pub label_is : (d : Draft) (o : Option Online) (stop : ℕ) → IfSome (further_in d o stop) (IsFurther (stanza_of d) d.label)
label_is d None stop = tt
label_is d (Some o) stop = record { own = refl; size = refl; digest = refl; at = refl }

module _ (d : Draft) (o : Option Online) (free : IfSome o (λ _. IsFree d)) (stop : ℕ) where
  -- it may be added
  pub label_may : IfSome o IsOnline → stop ≤ last_second → IfSome (entry_in (further_in d o stop)) (MayBeAdded (taken_in d) (folders_in d))
  label_may is within = by o free is
    where
      by : (o : Option Online) → IfSome o (λ _. IsFree d) → IfSome o IsOnline → IfSome (entry_in (further_in d o stop)) (MayBeAdded (taken_in d) (folders_in d))
      by None f x = tt
      by (Some y) f x = record { rules = label_rules (folders_in d) y.label_file stop x.short within; own = refl; free = f.file; apart = f.folder; short = x.short }

  -- and it is besides the others
  pub label_beside : IfSome (further_in d o stop) (RepresentsBeside (stanza_of d) d.label (taken_in d))
  label_beside = by o free
    where
      by : (o : Option Online) → IfSome o (λ _. IsFree d) → IfSome (further_in d o stop) (RepresentsBeside (stanza_of d) d.label (taken_in d))
      by None f = tt
      by (Some y) f = record { is = record { own = refl; size = refl; digest = refl; at = refl }; free = f.file }

-- ---- as the program has it

module _ (d : Draft) (p : Option rust.Online) (stop : ℕ) where
  -- it is that of the label file
  pub label_entries : (e : Option rust_file.FileEntry) → option_map file_entry_of e ≡ option_map (λ (x : rust.Online). label_entry (string_bytes x.label_file) stop) p → option_map file_entry_of e ≡ entry_in (further_in d (option_map online_of p) stop)
  label_entries e is = is ∙ by p
    where
      by : (p : Option rust.Online) → option_map (λ (x : rust.Online). label_entry (string_bytes x.label_file) stop) p ≡ entry_in (further_in d (option_map online_of p) stop)
      by None = refl
      by (Some x) = refl

  -- and it may be added
  pub label_added : (e : Option rust_file.FileEntry) → option_map file_entry_of e ≡ option_map (λ (x : rust.Online). label_entry (string_bytes x.label_file) stop) p → IfSome (option_map online_of p) (λ _. IsFree d) → IfSome (option_map online_of p) IsOnline → stop ≤ last_second
      → IfSome e (λ x. MayBeAdded (taken_in d) (folders_in d) (file_entry_of x))
  label_added e is free online within = by e (subst (λ (o : Option FileEntry). IfSome o (MayBeAdded (taken_in d) (folders_in d))) (sym (label_entries e is)) (label_may d (option_map online_of p) free stop online within))
    where
      by : (e : Option rust_file.FileEntry) → IfSome (option_map file_entry_of e) (MayBeAdded (taken_in d) (folders_in d)) → IfSome e (λ x. MayBeAdded (taken_in d) (folders_in d) (file_entry_of x))
      by None h = tt
      by (Some x) h = h

  -- and so is the part of the log
  pub part_same : option_map (λ (x : rust.Online). x.wal) p ≡ part_in (option_map online_of p)
  part_same = by p
    where
      by : (p : Option rust.Online) → option_map (λ (x : rust.Online). x.wal) p ≡ part_in (option_map online_of p)
      by None = refl
      by (Some x) = refl
