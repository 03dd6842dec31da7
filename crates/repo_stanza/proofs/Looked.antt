-- What the two pairs state as they are read.
use Rattle.std.proofs.Common.{◌≡◌, ◌⊎◌, inl, inr, ℕ, ◌≤◌, [], Option, Some, None, Result, Ok, Err, refl, ◌∙◌, sym, subst, arith}
use Rattle.std.specs.Prelude.{IfSome, IfNone, IfOk, IfErr, IsSomeAnd, IsErrAnd, String, string_bytes}
use Rattle.std.specs.declared.alloc.Global.{Global}
use Rattle.base_devices.specs.Content.{Content}
use Rattle.base_devices.specs.Cause.{Rises}
use Rattle.base_model.specs.declared.clusters.ArchiveInfo as rust_archive_info
use Rattle.base_model.specs.declared.clusters.BackupInfo as rust_backup_info
use Rattle.base_model.specs.Text.{Text}
use Rattle.base_model.specs.Names.{archive_info, backup_info}
use Rattle.base_model.specs.Values.{BackupInfo, archive_info_of, backup_info_of}
use Rattle.base_model.specs.InfoFiles.{IsArchiveText, IsBackupText, info_limit}
use Rattle.base_model.specs.Pair.{PairIs, PairAbsent}
use Rattle.repo_pair.specs.Causes.{AreDamaged}
use Rattle.repo_info.specs.BackupForm.{IsBackupForm}
use Rattle.repo_stanza.specs.declared.control.Control.{Control}
use Rattle.repo_stanza.specs.declared.fault.StanzaFault.{StanzaFault}
use Rattle.repo_stanza.specs.declared.fault.StanzaFault.TheVariants.{InfoDamaged, HistoryDiffers, StanzaMismatch, ArchiveLost, FilesFound, Disk, NoMemory}
use Rattle.repo_stanza.specs.declared.pair_rules.PairValues.{PairValues}
use Rattle.repo_stanza.specs.Pairs.{LacksStanza}
use Rattle.repo_stanza.specs.Judging.{Validates, IsOf, KeepsStanza, Refuses, Lost, Alone, NotOf, Differing, Other}
use Rattle.repo_stanza.specs.Causes.{ReadCause, CreateCause, HasDamage, OfBackup, OfBackupBeside, OfNoBackup}
use Rattle.repo_stanza.proofs.NewStanza.{at_known}

-- a fault that is handed on
pub handed : {T E : Type 0} (r : Result T E) (e : E) (P : E → Type 0) → IsErrAnd r (λ x. x ≡ e) → P e → IfErr r P
handed (Ok v) e P is p = tt
handed (Err x) e P is p = subst P (sym is) p

each : (now : Option Content) (P : Content → Type 0) → ((f : Content) → now ≡ Some f → P f) → IfSome now P
each None P h = tt
each (Some f) P h = h f refl

module _ (stanza : Text) (known : Control) (now : Option Content) (archive : Option rust_archive_info.ArchiveInfo)
    (archive_found : IfSome archive (λ v. IfSome now (λ f. PairIs IsArchiveText f (archive_info stanza) (archive_info_of v))))
    (archive_missing : IfNone archive (IfSome now (λ f. PairAbsent f (archive_info stanza)))) where
  archive_is : (v : rust_archive_info.ArchiveInfo) → archive ≡ Some v → (f : Content) → now ≡ Some f → PairIs IsArchiveText f (archive_info stanza) (archive_info_of v)
  archive_is v is f at =
      let P : Option rust_archive_info.ArchiveInfo → Type 0 = λ o. IfSome o (λ v. IfSome now (λ f. PairIs IsArchiveText f (archive_info stanza) (archive_info_of v))) in
      let found : P (Some v) = subst P is archive_found in
      at_known (λ f. PairIs IsArchiveText f (archive_info stanza) (archive_info_of v)) now f at found

  archive_absent : archive ≡ None → (f : Content) → now ≡ Some f → PairAbsent f (archive_info stanza)
  archive_absent is f at =
      let P : Option rust_archive_info.ArchiveInfo → Type 0 = λ o. IfNone o (IfSome now (λ f. PairAbsent f (archive_info stanza))) in
      let missing : P None = subst P is archive_missing in
      at_known (λ f. PairAbsent f (archive_info stanza)) now f at missing

  -- why the backup pair isn't read
  pub backup_cause : (rose more : Type 0) → (rose → more) → (name : Text) → name ≡ backup_info stanza → (e : StanzaFault) → ReadCause IsBackupText IsBackupForm info_limit name now rose e → CreateCause stanza known now more e
  backup_cause rose more wider name is (InfoDamaged word main copy) h = each now _ (λ f at. go archive refl f at)
    where
      same : string_bytes word ≡ backup_info stanza
      same = h.0 ∙ is

      go : (o : Option rust_archive_info.ArchiveInfo) → archive ≡ o → (f : Content) → now ≡ Some f → HasDamage stanza f (string_bytes word) main copy
      go None none f at = OfBackup same (archive_absent none f at) (at_known _ now f at (subst (λ (n : Text). IfSome now (λ f. AreDamaged IsBackupText IsBackupForm info_limit f n main copy)) is h.1))
      go (Some v) some f at = OfBackupBeside same (archive_info_of v) (archive_is v some f at) (at_known _ now f at (subst (λ (n : Text). IfSome now (λ f. AreDamaged IsBackupText IsBackupForm info_limit f n main copy)) is h.1))
  backup_cause rose more wider name is Disk h = wider h
  backup_cause rose more wider name is NoMemory h = tt
  backup_cause rose more wider name is (HistoryDiffers at) h = absurd h
  backup_cause rose more wider name is (StanzaMismatch kept found) h = absurd h
  backup_cause rose more wider name is (ArchiveLost label) h = absurd h
  backup_cause rose more wider name is (FilesFound found) h = absurd h

  module _ (backup : Option rust_backup_info.BackupInfo) (backup_found : IfSome backup (λ v. IfSome now (λ f. PairIs IsBackupText f (backup_info stanza) (backup_info_of v))))
      (backup_missing : IfNone backup (IfSome now (λ f. PairAbsent f (backup_info stanza)))) where
    backup_is : (v : rust_backup_info.BackupInfo) → backup ≡ Some v → (f : Content) → now ≡ Some f → PairIs IsBackupText f (backup_info stanza) (backup_info_of v)
    backup_is v is f at =
        let P : Option rust_backup_info.BackupInfo → Type 0 = λ o. IfSome o (λ v. IfSome now (λ f. PairIs IsBackupText f (backup_info stanza) (backup_info_of v))) in
        let found : P (Some v) = subst P is backup_found in
        at_known (λ f. PairIs IsBackupText f (backup_info stanza) (backup_info_of v)) now f at found

    backup_absent : backup ≡ None → (f : Content) → now ≡ Some f → PairAbsent f (backup_info stanza)
    backup_absent is f at =
        let P : Option rust_backup_info.BackupInfo → Type 0 = λ o. IfNone o (IfSome now (λ f. PairAbsent f (backup_info stanza))) in
        let missing : P None = subst P is backup_missing in
        at_known (λ f. PairAbsent f (backup_info stanza)) now f at missing

    -- there is no stanza
    lacking_at : archive ≡ None → IfSome backup (λ b. (backup_info_of b).backups ≡ []) → (f : Content) → now ≡ Some f → LacksStanza stanza f
    lacking_at none nothing f at = record { archive = archive_absent none f at; backup = go backup refl nothing }
      where
        go : (o : Option rust_backup_info.BackupInfo) → backup ≡ o → IfSome o (λ b. (backup_info_of b).backups ≡ []) → PairAbsent f (backup_info stanza) ⊎ ((b : BackupInfo) × PairIs IsBackupText f (backup_info stanza) b × (b.backups ≡ []))
        go None is h = inl (backup_absent is f at)
        go (Some b) is h = inr (backup_info_of b, backup_is b is f at, h)

    pub lacking : {E : Type 0} (r : Result (Option PairValues) E) → IfOk r (λ o. IfNone o ((archive ≡ None) × IfSome backup (λ b. (backup_info_of b).backups ≡ []))) → IfOk r (λ o. IfNone o (IfSome now (LacksStanza stanza)))
    lacking (Err e) h = tt
    lacking (Ok (Some k)) h = tt
    lacking (Ok None) h = each now (LacksStanza stanza) (λ f at. lacking_at h.0 h.1 f at)

    -- there is one
    keeps_at : (k : PairValues) → archive ≡ Some k.archive → IsSomeAnd backup (λ b. Validates (archive_info_of k.archive) (backup_info_of b) (backup_info_of k.backup)) → IsOf known (archive_info_of k.archive) → (f : Content) → now ≡ Some f → KeepsStanza stanza known f (archive_info_of k.archive) (backup_info_of k.backup)
    keeps_at k is settles of f at = go backup refl settles
      where
        go : (o : Option rust_backup_info.BackupInfo) → backup ≡ o → IsSomeAnd o (λ b. Validates (archive_info_of k.archive) (backup_info_of b) (backup_info_of k.backup)) → KeepsStanza stanza known f (archive_info_of k.archive) (backup_info_of k.backup)
        go None none h = absurd h
        go (Some b) some h = record { backup = backup_info_of b; pairs = record { archive = archive_is k.archive is f at; backup = backup_is b some f at }; settles = h; of = of }

    pub keeping : {E : Type 0} (r : Result (Option PairValues) E) → IfOk r (λ o. IfSome o (λ k. (archive ≡ Some k.archive) × IsSomeAnd backup (λ b. Validates (archive_info_of k.archive) (backup_info_of b) (backup_info_of k.backup)) × IsOf known (archive_info_of k.archive)))
        → IfOk r (λ o. IfSome o (λ k. IfSome now (λ f. KeepsStanza stanza known f (archive_info_of k.archive) (backup_info_of k.backup))))
    keeping (Err e) h = tt
    keeping (Ok None) h = tt
    keeping (Ok (Some k)) h = each now _ (λ f at. keeps_at k h.0 h.1 h.2 f at)

    -- why the values are refused
    refused_at : (rose : Type 0) (name : String Global) → string_bytes name ≡ backup_info stanza → (e : StanzaFault) → Refuses known archive backup name e → CreateCause stanza known now rose e
    refused_at rose name is e (Lost none b some t) = subst (λ (x : StanzaFault). CreateCause stanza known now rose x) (sym t.is)
        (each now _ (λ f at. record { archive = archive_absent none f at; backup = backup_info_of b; reads = backup_is b some f at; first = t.first; others = t.others; listed = t.listed; is = refl }))
    refused_at rose name is e (Alone a some none e_is) = subst (λ (x : StanzaFault). CreateCause stanza known now rose x) (sym e_is)
        (each now _ (λ f at. OfNoBackup is (archive_info_of a) (archive_is a some f at) (backup_absent none f at) refl refl))
    refused_at rose name is e (NotOf a b some other (Differing t)) = subst (λ (x : StanzaFault). CreateCause stanza known now rose x) (sym t.is)
        (each now _ (λ f at. record { archive = archive_info_of a; backup = backup_info_of b; pairs = record { archive = archive_is a some f at; backup = backup_is b other f at }; differ = t.differ; settled = t.settled }))
    refused_at rose name is e (NotOf a b some other (Other together t)) = subst (λ (x : StanzaFault). CreateCause stanza known now rose x) (sym t.is)
        (each now _ (λ f at. record { archive = archive_info_of a; backup = backup_info_of b; pairs = record { archive = archive_is a some f at; backup = backup_is b other f at }; together = together; current = t.current; is_current = t.is_current; is_kept = refl; is_found = refl; apart = t.apart }))

    pub refused : {T : Type 0} (rose : Type 0) (name : String Global) → string_bytes name ≡ backup_info stanza → (r : Result T StanzaFault) → IfErr r (Refuses known archive backup name) → IfErr r (CreateCause stanza known now rose)
    refused rose name is (Ok v) h = tt
    refused rose name is (Err e) h = refused_at rose name is e h

pub rises_from : (a b c : ℕ) → a ≤ b → Rises b c → Rises a c
rises_from a b c le h = omega (arith, le, h)
