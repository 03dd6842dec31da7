-- Names that differ.
use Rattle.std.proofs.Common.{◌≡◌, ◌≢◌, ℕ, ◌+◌, ◌<◌, ◌≤◌, ◌^◌, ◌%◌, [], ◌∷◌, ◌++◌, length, ap, ◌∙◌, sym, arith, length-append, get_or, append_assoc, lit<}
use Rattle.std.proofs.lemmas.List.{append_cancel_left}
use Rattle.std.proofs.Math.ListN.{get_or-append}
use Rattle.std.proofs.lemmas.Fmt.{decimal_by_steps}
use Rattle.std.specs.Prelude.{codes, decimal}
use Rattle.base_model.specs.Text.{Text, ◌⫽◌}
use Rattle.base_model.specs.Names.{copy_of, archive_info, backup_info, archive_folder, id_text, archive_text}
use Rattle.base_text.specs.Sum.{sum_text}
use Rattle.base_model.specs.Represents.{IsArchiveFile}

-- texts whose bytes differ at a place differ
differ : (a b : Text) (k : ℕ) → get_or a k 0 ≢ get_or b k 0 → a ≢ b
differ a b k apart e = apart (ap (λ t. get_or t k 0) e)

pub copy_apart : (name : Text) → name ≢ copy_of name
copy_apart name e = absurd (omega (arith, ap length e, length-append name (codes ".copy")))

pub pairs_apart : (stanza : Text) → archive_info stanza ≢ backup_info stanza
pairs_apart stanza = differ (archive_info stanza) (backup_info stanza) 0 (λ e. let h : 97 ≡ 98 = e in omega arith)

pub archive_backup_copy_apart : (stanza : Text) → archive_info stanza ≢ copy_of (backup_info stanza)
archive_backup_copy_apart stanza = differ (archive_info stanza) (copy_of (backup_info stanza)) 0 (λ e. let h : 97 ≡ 98 = e in omega arith)

pub archive_copy_backup_apart : (stanza : Text) → copy_of (archive_info stanza) ≢ backup_info stanza
archive_copy_backup_apart stanza = differ (copy_of (archive_info stanza)) (backup_info stanza) 0 (λ e. let h : 97 ≡ 98 = e in omega arith)

pub copies_apart : (stanza : Text) → copy_of (archive_info stanza) ≢ copy_of (backup_info stanza)
copies_apart stanza = differ (copy_of (archive_info stanza)) (copy_of (backup_info stanza)) 0 (λ e. let h : 97 ≡ 98 = e in omega arith)

pub file_backup_apart : (stanza name : Text) → IsArchiveFile stanza name → name ≢ backup_info stanza
file_backup_apart stanza name file e = let h : ◌≡◌ {A = ℕ} 97 98 = ap (λ t. get_or t 0 0) (sym file.is ∙ e) in omega arith

pub file_backup_copy_apart : (stanza name : Text) → IsArchiveFile stanza name → name ≢ copy_of (backup_info stanza)
file_backup_copy_apart stanza name file e = let h : ◌≡◌ {A = ℕ} 97 98 = ap (λ t. get_or t 0 0) (sym file.is ∙ e) in omega arith

-- a decimal begins with a digit
pub decimal_begins : (n : ℕ) → n < 2 ^ 64 → (0 < length (decimal n)) × (get_or (decimal n) 0 0 ≤ 57)
decimal_begins n small = decimal_by_steps (λ m ds. (0 < length ds) × (get_or ds 0 0 ≤ 57)) (λ m l. (omega arith, omega arith))
    (λ m ds l h. (omega (arith, length-append ds ((48 + m % 10) ∷ [])), omega (arith, get_or-append ds ((48 + m % 10) ∷ []) 0 0 h.0, h.1))) n small

-- what follows a decimal doesn't change its first byte
begins : (n : ℕ) (rest : Text) → n < 2 ^ 64 → get_or (decimal n ++ rest) 0 0 ≤ 57
begins n rest small = let h = decimal_begins n small in omega (arith, get_or-append (decimal n) rest 0 0 h.0, h.1)

-- a name below the archive's folder that isn't that of a file
below_apart : (stanza name other : Text) → IsArchiveFile stanza name → 57 < get_or other 0 0 → name ≢ archive_folder stanza ⫽ other
below_apart stanza name other file large e =
    let below = append_cancel_left (archive_folder stanza) (47 ∷ (id_text file.id ⫽ archive_text file.file (sum_text file.sum))) (47 ∷ other) (sym file.is ∙ e) in
    let first : get_or (id_text file.id ⫽ archive_text file.file (sum_text file.sum)) 0 0 ≡ get_or other 0 0 = ap (λ t. get_or t 1 0) below in
    let whole : id_text file.id ⫽ archive_text file.file (sum_text file.sum) ≡ decimal file.id.version ++ ((45 ∷ decimal file.id.number) ++ 47 ∷ archive_text file.file (sum_text file.sum))
    = append_assoc (decimal file.id.version) (45 ∷ decimal file.id.number) (47 ∷ archive_text file.file (sum_text file.sum)) in
    absurd (omega (arith, first, ap (λ t. get_or t 0 0) whole, begins file.id.version ((45 ∷ decimal file.id.number) ++ 47 ∷ archive_text file.file (sum_text file.sum)) (omega (arith, file.fits.version))))

pub file_info_apart : (stanza name : Text) → IsArchiveFile stanza name → name ≢ archive_info stanza
file_info_apart stanza name file = below_apart stanza name (codes "archive.info") file (lit< tt)

pub file_info_copy_apart : (stanza name : Text) → IsArchiveFile stanza name → name ≢ copy_of (archive_info stanza)
file_info_copy_apart stanza name file e = below_apart stanza name (codes "archive.info.copy") file (lit< tt) (e ∙ append_assoc (archive_folder stanza) (47 ∷ codes "archive.info") (codes ".copy"))
