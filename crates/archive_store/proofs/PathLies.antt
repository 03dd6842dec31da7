-- A file's paths lie directly in its folder.
use Rattle.std.proofs.Common.{rules, ◌≡◌, ◌≢◌, ◌<◌, ℕ, zero, suc, Bool, true, false, [], ◌∷◌, ◌++◌, ◌/◌, ◌%◌, slice_index, length, ◌∙◌, sym, arith}
use Rattle.std.specs.Prelude.{Contains, codes, slice_index_or}
use Rattle.hex.specs.Hex.{encode_with, lower_digits}
use Rattle.base_devices.specs.Content.{Name, LiesDirectlyIn}
use Rattle.base_model.specs.declared.wal.ArchiveId.{ArchiveId}
use Rattle.base_model.specs.declared.wal.ArchiveName.{ArchiveName}
use Rattle.base_model.specs.declared.wal.ArchiveName.TheVariants.{Segment as Whole, Partial, History, Backup}
use Rattle.base_model.specs.Text.{Text, hex_upper}
use Rattle.base_model.specs.Names.{wal_text, segment_text}
use Rattle.archive_lookup.specs.Paths.{Lacks, has_sum}
use Rattle.archive_lookup.specs.OnlyReads.{file_place, dash, sum_digits}
use Rattle.archive_store.specs.Pushes.{IsPathOf}
use Rattle.archive_lookup.proofs.Cuts.{lacks_append, hex_lacks}
use Rattle.archive_lookup.proofs.OnePath.{segment_lacks, history_lacks, history_slash}
use Rattle.archive_lookup.proofs.Looked.{in_place}

index_lacks : (c : ℕ) (t : Text) → Lacks c t → c ≢ 0 → (i : ℕ) → slice_index t i ≢ c
index_lacks c [] lacks some i e = some (sym e)
index_lacks c (x ∷ t) lacks some zero e = lacks.0 e
index_lacks c (x ∷ t) lacks some (suc i) e = index_lacks c t lacks.1 some i e

encoded_lacks : (c : ℕ) (t s : Text) → Lacks c t → c ≢ 0 → Lacks c (encode_with t s)
unfolding encode_with
encoded_lacks c t [] lacks some = tt
encoded_lacks c t (b ∷ s) lacks some = (index_lacks c t lacks some (b / 16), (index_lacks c t lacks some (b % 16), encoded_lacks c t s lacks some))

digits_slash : Lacks 47 lower_digits
digits_slash = search rules

partial_slash : Lacks 47 (codes ".partial")
partial_slash = search rules

backup_slash : Lacks 47 (codes ".backup")
backup_slash = search rules

dash_slash : (b : Bool) → Lacks 47 (dash b)
dash_slash true = ((λ e. let h : ◌≡◌ {A = ℕ} 45 47 = e in omega arith), tt)
dash_slash false = tt

sum_slash : (b : Bool) (sum : Text) → Lacks 47 (sum_digits b sum)
sum_slash true sum = encoded_lacks 47 lower_digits sum digits_slash (λ e. let h : ◌≡◌ {A = ℕ} 47 0 = e in omega arith)
sum_slash false sum = tt

pub wal_slash : (name : ArchiveName) → Lacks 47 (wal_text name)
wal_slash (Whole s) = segment_lacks 47 s (omega arith)
wal_slash (Partial s) = lacks_append 47 (segment_text s) (codes ".partial") (segment_lacks 47 s (omega arith)) partial_slash
wal_slash (History t) = history_lacks 47 t (omega arith) history_slash
wal_slash (Backup s n) = lacks_append 47 (segment_text s ++ 46 ∷ hex_upper 8 n) (codes ".backup")
    (lacks_append 47 (segment_text s) (46 ∷ hex_upper 8 n) (segment_lacks 47 s (omega arith)) (λ e. let h : ◌≡◌ {A = ℕ} 46 47 = e in omega arith, hex_lacks 47 8 n (omega arith)))
    backup_slash

none_at : (c : ℕ) (t : Text) → Lacks c t → (k : ℕ) → k < length t → slice_index_or t k c ≡ c → ⊥
none_at c [] lacks k lt e = absurd (omega arith)
none_at c (x ∷ t) lacks zero lt e = lacks.0 e
none_at c (x ∷ t) lacks (suc k) lt e = none_at c t lacks.1 k (omega arith) e

pub lacks_not : (c : ℕ) (t : Text) → Lacks c t → ¬ Contains t c
lacks_not c t lacks at = none_at c t lacks at.0 at.1 at.2

pub path_lies : (stanza : Text) (id : ArchiveId) (name : ArchiveName) (n : Name) → IsPathOf stanza id name n → LiesDirectlyIn (file_place stanza id name) n
path_lies stanza id name n is =
    let last = wal_text name ++ (dash (has_sum name) ++ sum_digits (has_sum name) is.0) in (
      last,
      is.2 ∙ in_place stanza id name is.0,
      lacks_not 47 last (lacks_append 47 (wal_text name) (dash (has_sum name) ++ sum_digits (has_sum name) is.0) (wal_slash name)
          (lacks_append 47 (dash (has_sum name)) (sum_digits (has_sum name) is.0) (dash_slash (has_sum name)) (sum_slash (has_sum name) is.0))),
    )
