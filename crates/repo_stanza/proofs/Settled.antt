-- The list to which two values validate is that of the stanza that the disk has.
use Rattle.std.proofs.Common.{◌≡◌, inl, inr, List, [], ◌∷◌, ◌++◌, length, Option, Some, None, refl, sym, ◌∙◌, ap, subst, arith, length-append}
use Rattle.std.proofs.lemmas.List.{length-map}
use Rattle.base_devices.specs.Content.{Content}
use Rattle.base_model.specs.declared.clusters.Cluster.{Cluster}
use Rattle.base_model.specs.Text.{Text}
use Rattle.base_model.specs.Names.{copy_of, archive_info, backup_info}
use Rattle.base_model.specs.Pair.{MemberIs, PairIs}
use Rattle.base_model.specs.InfoFiles.{IsArchiveText, IsBackupText}
use Rattle.base_model.specs.Values.{ArchiveInfo, BackupInfo, Entry}
use Rattle.base_model.specs.Repository.{Stanza, Repository, identity_of}
use Rattle.base_model.specs.Represents.{Represents, HasStanza, archive_value, backup_value}
use Rattle.repo_info.proofs.OneArchive.{one_archive_pair}
use Rattle.repo_stanza.specs.Judging.{Validates, As, Without}
use Rattle.repo_stanza.proofs.NewStanza.{no_pair}

-- one text, one list
abbrev pub OneList : Type 0
OneList = (v w : BackupInfo) (t : Text) → IsBackupText v t → IsBackupText w t → v ≡ w

one_member : OneList → (f : Content) (n : Text) (v w : BackupInfo) → MemberIs IsBackupText f n v → MemberIs IsBackupText f n w → v ≡ w
one_member one f n v w x y =
    let same : x.0 ≡ y.0 = (let z : ◌≡◌ {A = Option Text} (Some x.0) (Some y.0) = sym x.1 ∙ y.1 in cc) in
    one v w y.0 (subst (IsBackupText v) same x.2) y.2

pub one_pair : OneList → (f : Content) (n : Text) (v w : BackupInfo) → PairIs IsBackupText f n v → PairIs IsBackupText f n w → v ≡ w
one_pair one f n v w (inl x) (inl y) = one_member one f n v w x y
one_pair one f n v w (inl x) (inr y) = absurd (y.0 v x)
one_pair one f n v w (inr x) (inl y) = absurd (x.0 w y)
one_pair one f n v w (inr x) (inr y) = one_member one f (copy_of n) v w x.1 y.1

-- lists with one more at the end
pub same_prefix : (xs ys : List Cluster) (x y : Cluster) → xs ++ x ∷ [] ≡ ys ++ y ∷ [] → xs ≡ ys
same_prefix [] [] x y e = refl
same_prefix [] (b ∷ ys) x y e = absurd (omega (arith, ap length e, length-append ys (y ∷ [])))
same_prefix (a ∷ xs) [] x y e = absurd (omega (arith, ap length e, length-append xs (x ∷ [])))
same_prefix (a ∷ xs) (b ∷ ys) x y e =
    let first : a ≡ b = cc in
    let rest : xs ++ x ∷ [] ≡ ys ++ y ∷ [] = cc in
    ap (λ (z : Cluster). z ∷ xs) first ∙ ap (λ (zs : List Cluster). b ∷ zs) (same_prefix xs ys x y rest)

module _ (stanza : Text) (f : Content) (a : ArchiveInfo) (archive : PairIs IsArchiveText f (archive_info stanza) a) where
  -- where the archive pair has a value there is a stanza
  pub has_stanza : (r : Repository) → Represents stanza f r → (s : Stanza) × (r ≡ Some s) × HasStanza stanza f s
  has_stanza None x = absurd (no_pair IsArchiveText f (archive_info stanza) a x.archive_pair archive)
  has_stanza (Some s) h = (s, refl, h)

  module _ (one_list : OneList) (v w : BackupInfo) (backup : PairIs IsBackupText f (backup_info stanza) v) (settles : Validates a v w) (s : Stanza) (h : HasStanza stanza f s) where
    same_count : length a.history ≡ length s.history
    same_count = ap (λ (x : ArchiveInfo). length x.history) (one_archive_pair f (archive_info stanza) a (archive_value s) archive h.archive_pair) ∙ length-map s.history identity_of

    settled_by : Validates a v w → (x : Option Cluster) → v ≡ backup_value s x → w ≡ backup_value s None
    settled_by (As same is) None e = is ∙ e
    settled_by (As same is) (Some c) e =
        let count = ap (λ (b : BackupInfo). length b.history) e in
        absurd (omega (arith, ap length same, length-map v.history identity_of, count, length-append s.history (c ∷ []), same_count))
    settled_by (Without p is) None e =
        let count = ap (λ (b : BackupInfo). length b.history) e in
        absurd (omega (arith, count, ap length p.whole, ap length p.same, length-map p.earlier identity_of, length-append p.earlier (p.last ∷ []), same_count))
    settled_by (Without p is) (Some c) e =
        let earlier : p.earlier ≡ s.history = same_prefix p.earlier s.history p.last c (sym p.whole ∙ ap (λ (b : BackupInfo). b.history) e) in
        is
        ∙ ap (λ (cs : List Cluster). (let b : BackupInfo = record { current = length cs; history = cs; backups = v.backups } in b)) earlier
        ∙ ap (λ (es : List Entry). (let b : BackupInfo = record { current = length s.history; history = s.history; backups = es } in b)) (ap (λ (b : BackupInfo). b.backups) e)

    pub settled_list : w ≡ backup_value s None
    settled_list = settled_by settles h.pending (one_pair one_list f (backup_info stanza) v (backup_value s h.pending) backup h.backup_pair)
