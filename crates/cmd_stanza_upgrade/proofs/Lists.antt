-- The list to which the values of the two pairs validate.
use Rattle.std.proofs.Common.{◌≡◌, List, length, Option, Some, None, inl, inr, ap, arith}
use Rattle.std.specs.Prelude.{IfSome}
use Rattle.std.proofs.lemmas.List.{length-map}
use Rattle.base_devices.specs.Content.{Content}
use Rattle.base_model.specs.declared.clusters.ArchiveInfo as rust_archive_info
use Rattle.base_model.specs.declared.clusters.BackupInfo as rust_backup_info
use Rattle.base_model.specs.declared.clusters.ClusterId.{ClusterId}
use Rattle.base_model.specs.Repository.{identity_of}
use Rattle.base_model.specs.Text.{Text}
use Rattle.base_model.specs.Values.{ArchiveInfo, BackupInfo, archive_info_of, backup_info_of}
use Rattle.repo_stanza.specs.declared.control.Control.{Control}
use Rattle.repo_stanza.specs.Judging.{HasList, IsOf, Validates, As, Without}
use Rattle.repo_stanza.specs.Pairs.{AreTogether, HasStanzaOf}
use Rattle.cmd_setup.specs.Readies.{IsArchiveOf, IsBackupOf}

-- its history has as many clusters as the archive pair's
pub same_length : (a : ArchiveInfo) (b w : BackupInfo) → Validates a b w → length w.history ≡ length a.history
same_length a b w (As same is) =
    omega (arith, ap (λ (v : BackupInfo). length v.history) is, length-map b.history identity_of, ap (λ (h : List ClusterId). length h) same)
same_length a b w (Without p is) =
    omega (arith, ap (λ (v : BackupInfo). length v.history) is, length-map p.earlier identity_of, ap (λ (h : List ClusterId). length h) p.same)

-- the values that were read validate to this list
pub have_list : (stanza : Text) (now : Option Content) (archive : rust_archive_info.ArchiveInfo) (backup list : rust_backup_info.BackupInfo)
    → IsArchiveOf stanza now archive → IsBackupOf stanza now backup → Validates (archive_info_of archive) (backup_info_of backup) (backup_info_of list)
    → IfSome now (λ f. HasList stanza f (archive_info_of archive) (backup_info_of list))
have_list stanza None archive backup list a b settles = tt
have_list stanza (Some f) archive backup list a b settles = record { backup = backup_info_of backup; pairs = record { archive = a.0; backup = b.0 }; settles = settles }

together : (a : ArchiveInfo) (b w : BackupInfo) → Validates a b w → AreTogether a b
together a b w (As same is) = inl same
together a b w (Without p is) = inr p

of_cluster : (stanza : Text) (known : Control) (a : ArchiveInfo) (w : BackupInfo) (f : Content) → IsOf known a → HasList stanza f a w → HasStanzaOf stanza known f
of_cluster stanza known a w f of has = record {
  archive = a;
  backup = has.backup;
  pairs = has.pairs;
  together = together a has.backup w has.settles;
  current = of.current;
  is_current = of.is_current;
  same = of.same;
}

-- pairs with such a list whose current cluster is this one are of a stanza of it
pub has_stanza : (stanza : Text) (known : Control) (now : Option Content) (a : ArchiveInfo) (w : BackupInfo) → IsOf known a → IfSome now (λ f. HasList stanza f a w)
    → IfSome now (HasStanzaOf stanza known)
has_stanza stanza known None a w of has = tt
has_stanza stanza known (Some f) a w of has = of_cluster stanza known a w f of has
