-- Whether a text of backup.info lists a backup shows in one byte: the first of its second section's name.
use Rattle.std.proofs.Common.{◌≡◌, ℕ, zero, suc, ◌-◌, ◌<◌, List, [], ◌∷◌, ◌++◌, length, map, get_or, Option, Some, refl, ap, ◌∙◌, sym, arith, codes}
use Rattle.std.specs.Prelude.{slice_get}
use Rattle.std.specs.List.{flat_map}
use Rattle.std.proofs.lemmas.Fmt.{decimal_digit}
use Rattle.sha1.specs.Sha1.{sha1}
use Rattle.base_text.specs.Sum.{sum_text}
use Rattle.base_model.specs.declared.clusters.Cluster.{Cluster}
use Rattle.base_model.specs.Text.{Text}
use Rattle.base_model.specs.InfoText.{Section, head, section_text, text_with, signed_text}
use Rattle.base_model.specs.Fields.{section, by_key, at_number, fields_of}
use Rattle.base_model.specs.InfoFiles.{IsBackupText, backup_sections, cluster_fields, cluster_field}
use Rattle.base_model.specs.Values.{Entry, BackupInfo}

head_text : section_text head ≡ codes "[backrest]\nbackrest-format=5\n\n"
head_text = ap (λ d. codes "[backrest]\nbackrest-format=" ++ (((d ++ 10 ∷ []) ++ []) ++ 10 ∷ [])) (decimal_digit 5 (omega arith))

-- the first byte of `backup:current`, or of `db`
abbrev pub mark : List Entry → ℕ
mark [] = 100
mark (e ∷ es) = 98

abbrev marked_byte : List ℕ → ℕ
marked_byte text = get_or text 31 0

following_head : (digits : Text) (ss : List Section) → marked_byte (text_with digits ss) ≡ marked_byte ((codes "[backrest]\nbackrest-format=5\n\n" ++ flat_map section_text ss) ++ (codes "[backrest]\nbackrest-checksum=\"" ++ (digits ++ 34 ∷ 10 ∷ [])))
unfolding text_with
following_head digits ss = ap (λ (h : List ℕ). marked_byte ((h ++ flat_map section_text ss) ++ (codes "[backrest]\nbackrest-checksum=\"" ++ (digits ++ 34 ∷ 10 ∷ [])))) head_text

-- a number within a history has an entry
there : {X : Type 0} (xs : List X) (n : ℕ) → n < length xs → (x : X) × (slice_get xs n ≡ Some x)
there [] n h = absurd (omega arith)
there (x ∷ xs) zero h = (x, refl)
there (x ∷ xs) (suc n) h = there xs n (omega arith)

marked : (digits : Text) (current : ℕ) (history : List Cluster) (backups : List Entry) (c : Cluster) → at_number current history ≡ Some c →
    marked_byte (text_with digits (backup_sections (record { current = current; history = history; backups = backups }))) ≡ mark backups
unfolding backup_sections
marked digits current history [] c is = following_head digits _ ∙ ap (λ (o : Option Cluster). marked_byte ((codes "[backrest]\nbackrest-format=5\n\n" ++ flat_map section_text (section (codes "db") (fields_of cluster_fields o) ++ section (codes "db:history") (by_key (map cluster_field history)))) ++ (codes "[backrest]\nbackrest-checksum=\"" ++ (digits ++ 34 ∷ 10 ∷ [])))) is
marked digits current history (e ∷ es) c is = following_head digits _

pub mark_of : (v : BackupInfo) (b : Text) → IsBackupText v b → marked_byte b ≡ mark v.backups
mark_of v b is =
    let n = is.rules.current in
    let x = there v.history (v.current - 1) (omega (arith, n.0, n.1)) in
    ap marked_byte is.spelled ∙ marked (sum_text (sha1 (signed_text (backup_sections v)))) v.current v.history v.backups x.0 x.1

pub one_mark : (v w : BackupInfo) (b : Text) → IsBackupText v b → IsBackupText w b → mark v.backups ≡ mark w.backups
one_mark v w b p q = sym (mark_of v b p) ∙ mark_of w b q
