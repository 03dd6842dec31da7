-- The parts of segments' names.
use Rattle.std.proofs.Common.{◌≡◌, ◌≢◌, ℕ, Bool, false, bytes_eq, [], ◌∷◌, ◌++◌, length, codes, sym, ◌∙◌, arith, length-append, append_assoc}
use Rattle.std.proofs.lemmas.List.{append-nil}
use Rattle.std.proofs.lemmas.Slice.Eq.{bytes_eq-Decides}
use Rattle.base_model.specs.declared.wal.Segment.{Segment}
use Rattle.base_model.specs.declared.wal.ArchiveName.{ArchiveName}
use Rattle.base_model.specs.declared.wal.ArchiveName.TheVariants.{Segment as Whole, Partial, History, Backup}
use Rattle.base_model.specs.Text.{Text, hex_upper}
use Rattle.base_model.specs.Names.{segment_text, wal_text}
use Rattle.repo_names.proofs.Digits.{seam, length-hex_upper}

pub length-segment_text : (s : Segment) → length (segment_text s) ≡ 24
length-segment_text s =
    omega (arith, length-append (hex_upper 8 s.timeline ++ hex_upper 8 s.log) (hex_upper 8 s.seg), length-append (hex_upper 8 s.timeline) (hex_upper 8 s.log), length-hex_upper 8 s.timeline, length-hex_upper 8 s.log, length-hex_upper 8 s.seg)

-- what a failed comparison shows
pub unlike : (r : Bool) (xs ys zs : Text) → r ≡ bytes_eq xs ys → r ≡ false → ys ≡ zs → xs ≢ zs
unlike r xs ys zs is is_not same e = cc ((bytes_eq-Decides xs ys).1 (e ∙ sym same), is, is_not)

-- the fields one by one
pub fields_of : (s : Segment) (rest : Text) → segment_text s ++ rest ≡ hex_upper 8 s.timeline ++ (hex_upper 8 s.log ++ (hex_upper 8 s.seg ++ rest))
fields_of s rest =
    append_assoc (hex_upper 8 s.timeline ++ hex_upper 8 s.log) (hex_upper 8 s.seg) rest
    ∙ append_assoc (hex_upper 8 s.timeline) (hex_upper 8 s.log) (hex_upper 8 s.seg ++ rest)

-- what follows the name of a segment is the same
pub same_rest : (s t : Segment) (xs ys : Text) → segment_text s ++ xs ≡ segment_text t ++ ys → xs ≡ ys
same_rest s t xs ys e = (seam (segment_text s) (segment_text t) xs ys (length-segment_text s ∙ sym (length-segment_text t)) e).1

-- where no segment is in front, only a timeline's history is left
pub no_name : (text : Text) → ((n : ℕ) → text ≢ hex_upper 8 n ++ codes ".history") → ((s : Segment) (rest : Text) → text ≢ segment_text s ++ rest) → (name : ArchiveName) → text ≢ wal_text name
no_name text no_history no_segment (Whole s) e = no_segment s [] (e ∙ sym (append-nil (segment_text s)))
no_name text no_history no_segment (Partial s) e = no_segment s (codes ".partial") e
no_name text no_history no_segment (Backup s n) e = no_segment s (46 ∷ hex_upper 8 n ++ codes ".backup") (e ∙ append_assoc (segment_text s) (46 ∷ hex_upper 8 n) (codes ".backup"))
no_name text no_history no_segment (History n) e = no_history n e

-- where a segment is in front, what follows it decides
pub no_ending : (text : Text) (s : Segment) (rest : Text) → text ≡ segment_text s ++ rest → ((n : ℕ) → text ≢ hex_upper 8 n ++ codes ".history") → rest ≢ [] → rest ≢ codes ".partial"
    → ((n : ℕ) → rest ≢ 46 ∷ hex_upper 8 n ++ codes ".backup") → (name : ArchiveName) → text ≢ wal_text name
no_ending text s rest is no_history no_whole no_partial no_backup (Whole t) e = no_whole (same_rest s t rest [] (sym is ∙ e ∙ sym (append-nil (segment_text t))))
no_ending text s rest is no_history no_whole no_partial no_backup (Partial t) e = no_partial (same_rest s t rest (codes ".partial") (sym is ∙ e))
no_ending text s rest is no_history no_whole no_partial no_backup (Backup t n) e =
    no_backup n (same_rest s t rest (46 ∷ hex_upper 8 n ++ codes ".backup") (sym is ∙ e ∙ append_assoc (segment_text t) (46 ∷ hex_upper 8 n) (codes ".backup")))
no_ending text s rest is no_history no_whole no_partial no_backup (History n) e = no_history n e
