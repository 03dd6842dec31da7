-- How the command ends before the server is asked, by its answer, and after it.
use Rattle.std.proofs.Common.{◌≡◌, ◌⊎◌, inl, inr, ℕ, ◌++◌, List, Option, Some, None, option_map, refl, ap, sym, subst}
use Rattle.std.specs.Prelude.{IfSome, IfErr, Result, Ok, Err}
use Rattle.std.proofs.lemmas.List.{append_assoc}
use Rattle.base_devices.specs.Content.{Content}
use Rattle.base_devices.specs.States.{ConnectionState}
use Rattle.base_model.specs.declared.clusters.ArchiveInfo as rust_archive_info
use Rattle.base_model.specs.declared.clusters.BackupInfo as rust_backup_info
use Rattle.base_model.specs.Text.{Text}
use Rattle.base_model.specs.Values.{ArchiveInfo, BackupInfo, archive_info_of, backup_info_of}
use Rattle.server_talk.specs.declared.session.fault.ServerFault.{ServerFault}
use Rattle.server_talk.specs.Rows.{system_query}
use Rattle.server_talk.specs.Sends.{startup_of, query_of, closing}
use Rattle.server_talk.proofs.Ends.{ended_or}
use Rattle.repo_stanza.specs.declared.control.Control.{Control}
use Rattle.repo_stanza.specs.Causes.{HistoriesDiffer}
use Rattle.repo_stanza.specs.Pairs.{DifferFirst, HasPending, identities}
use Rattle.cmd_setup.specs.Readies.{IsArchiveOf, IsBackupOf}
use Rattle.cmd_types.specs.declared.stages.object.Object.{Object}
use Rattle.cmd_types.specs.declared.stages.object.Object.TheVariants as objects
use Rattle.cmd_types.specs.declared.stages.halt.Halt.{Halt}
use Rattle.cmd_types.specs.declared.stages.halt.Halt.TheVariants.{Refused, Failed, NoMemory}
use Rattle.cmd_types.specs.Halts.{HaltCause, Never, Only}
use Rattle.cmd_types.specs.Risen.{none, rose_in}
use Rattle.cmd_stanza_create.specs.declared.server.Server as code
use Rattle.cmd_stanza_create.specs.Server.{Server}
use Rattle.cmd_stanza_create.specs.Talking.{Ended, AskCause, AsksIfAny, ClosesOrFails}
use Rattle.cmd_stanza_create.proofs.Undone.{only_rose}
use Rattle.cmd_stanza_upgrade.specs.declared.fault.UpgradeCommandFault.{UpgradeCommandFault}
use Rattle.cmd_stanza_upgrade.specs.declared.fault.UpgradeCommandFault.TheVariants as faults
use Rattle.cmd_stanza_upgrade.specs.Faults.{of_server, Differs, UpgradeListCause, UpgradeCommandCause, ClosesTalk, OnRefused, OnFailed}

-- ---- the talk

-- values that differ are found before it
pub differ_closes : (a : ArchiveInfo) (b : BackupInfo) (s : ConnectionState) (halt : Halt UpgradeCommandFault) → HaltCause (Differs a b) Never halt → ClosesTalk s s halt
differ_closes a b s (Refused (faults.HistoryDiffers at)) h = refl
differ_closes a b s (Refused (faults.Server fault)) h = absurd h
differ_closes a b s (Refused (faults.TooMany limit)) h = absurd h
differ_closes a b s (Refused (faults.TooLong name limit)) h = absurd h
differ_closes a b s (Failed object) h = tt
differ_closes a b s NoMemory h = tt

closes_of : (old new : ConnectionState) (asked : Halt ServerFault) → ClosesOrFails old new asked → ClosesTalk old new (of_server asked)
closes_of old new (Refused fault) h = h
closes_of old new (Failed object) h = tt
closes_of old new NoMemory h = tt

pub asked_closes : (old new : ConnectionState) (asked : Halt ServerFault) (halt : Halt UpgradeCommandFault) → halt ≡ of_server asked → ClosesOrFails old new asked → ClosesTalk old new halt
asked_closes old new asked halt is h = subst (ClosesTalk old new) (sym is) (closes_of old new asked h)

-- where the server's answer was right, the talk was ended; without a server nothing was sent
ended_or_same : (asked : Option code.Server) (old new : ConnectionState) → (asked ≡ None → new ≡ old) → AsksIfAny asked old new → Ended new.sent ⊎ (new.sent ≡ old.sent)
ended_or_same None old new quiet asks = inr (ap (λ (s : ConnectionState). s.sent) (quiet refl))
ended_or_same (Some s) old new quiet asks = by (ended_or prefix old.sent new.sent ⊥ (inl
    (subst (λ (t : List ℕ). new.sent ≡ option_map (λ (said : List ℕ). said ++ t) old.sent) (sym (append_assoc (startup_of s.user.now s.database.now) (query_of system_query) closing)) asks.1)))
  where
    prefix : List ℕ
    prefix = startup_of s.user.now s.database.now ++ query_of system_query

    by : Ended new.sent ⊎ ⊥ → Ended new.sent ⊎ (new.sent ≡ old.sent)
    by (inl ended) = inl ended
    by (inr never) = absurd never

module _ (stanza : Text) (known : Control) (repo : Option Content) (failed : Object → Type 0) (asked : Option code.Server) (old new : ConnectionState)
    (quiet : asked ≡ None → new ≡ old) (asks : AsksIfAny asked old new) where
  pub list_closes : {T : Type 0} (result : Result T (Halt UpgradeCommandFault)) → IfErr result (HaltCause (UpgradeListCause stanza known repo) failed) → IfErr result (ClosesTalk old new)
  list_closes (Ok x) h = tt
  list_closes (Err (Refused (faults.HistoryDiffers at))) h = absurd h
  list_closes (Err (Refused (faults.Server fault))) h = absurd h
  list_closes (Err (Refused (faults.TooMany limit))) h = ended_or_same asked old new quiet asks
  list_closes (Err (Refused (faults.TooLong name limit))) h = ended_or_same asked old new quiet asks
  list_closes (Err (Failed object)) h = tt
  list_closes (Err NoMemory) h = tt

-- ---- why it ends

module _ (why : UpgradeCommandFault → Type 0) (failed : Object → Type 0) where
  pub refused_of : (halt : Halt UpgradeCommandFault) → HaltCause why failed halt → OnRefused why halt
  refused_of (Refused fault) h = h
  refused_of (Failed object) h = tt
  refused_of NoMemory h = tt

  pub failed_of : (halt : Halt UpgradeCommandFault) → HaltCause why failed halt → OnFailed failed halt
  failed_of (Refused fault) h = tt
  failed_of (Failed object) h = h
  failed_of NoMemory h = tt

  pub err_refused : {T : Type 0} (result : Result T (Halt UpgradeCommandFault)) → IfErr result (HaltCause why failed) → IfErr result (OnRefused why)
  err_refused (Ok x) h = tt
  err_refused (Err halt) h = refused_of halt h

  pub err_failed : {T : Type 0} (result : Result T (Halt UpgradeCommandFault)) → IfErr result (HaltCause why failed) → IfErr result (OnFailed failed)
  err_failed (Ok x) h = tt
  err_failed (Err halt) h = failed_of halt h

  both_of : (halt : Halt UpgradeCommandFault) → OnRefused why halt → OnFailed failed halt → HaltCause why failed halt
  both_of (Refused fault) h x = h
  both_of (Failed object) h x = x
  both_of NoMemory h x = tt

  -- the two together
  pub err_both : {T : Type 0} (result : Result T (Halt UpgradeCommandFault)) → IfErr result (OnRefused why) → IfErr result (OnFailed failed) → IfErr result (HaltCause why failed)
  err_both (Ok x) h y = tt
  err_both (Err halt) h y = both_of halt h y

histories_differ : (stanza : Text) (repo : Option Content) (archive : rust_archive_info.ArchiveInfo) (backup : rust_backup_info.BackupInfo) → IsArchiveOf stanza repo archive → IsBackupOf stanza repo backup →
    (at : ℕ) → DifferFirst at (archive_info_of archive).history (identities (backup_info_of backup)) × ¬ HasPending (archive_info_of archive) (backup_info_of backup) → IfSome repo (λ f. HistoriesDiffer stanza f at)
histories_differ stanza None archive backup a b at h = tt
histories_differ stanza (Some f) archive backup a b at h = record {
  archive = archive_info_of archive;
  backup = backup_info_of backup;
  pairs = record { archive = a.0; backup = b.0 };
  differ = h.0;
  settled = h.1;
}

module _ (stanza : Text) (known : Control) (server : Option Server) (repo : Option Content) (pending : Option (List ℕ)) (repo_rose server_rose : Type 0) where
  abbrev Rises : Object → Type 0
  Rises = rose_in (record none { repo = repo_rose; server = server_rose })

  abbrev Cause : Halt UpgradeCommandFault → Type 0
  Cause = HaltCause (UpgradeCommandCause stanza known server repo pending) Rises

  pub differ_cause : (archive : rust_archive_info.ArchiveInfo) (backup : rust_backup_info.BackupInfo) → IsArchiveOf stanza repo archive → IsBackupOf stanza repo backup →
      (halt : Halt UpgradeCommandFault) → HaltCause (Differs (archive_info_of archive) (backup_info_of backup)) Never halt → Cause halt
  differ_cause archive backup a b (Refused (faults.HistoryDiffers at)) h = histories_differ stanza repo archive backup a b at h
  differ_cause archive backup a b (Refused (faults.Server fault)) h = absurd h
  differ_cause archive backup a b (Refused (faults.TooMany limit)) h = absurd h
  differ_cause archive backup a b (Refused (faults.TooLong name limit)) h = absurd h
  differ_cause archive backup a b (Failed object) h = absurd h
  differ_cause archive backup a b NoMemory h = tt

  cause_of : (asked : Halt ServerFault) → HaltCause (AskCause server known.system pending) (Only objects.Server server_rose) asked → Cause (of_server asked)
  cause_of (Refused fault) h = h
  cause_of (Failed object) h = only_rose objects.Server object Rises server_rose (λ x. x) h
  cause_of NoMemory h = tt

  pub asked_cause : (asked : Halt ServerFault) (halt : Halt UpgradeCommandFault) → halt ≡ of_server asked → HaltCause (AskCause server known.system pending) (Only objects.Server server_rose) asked → Cause halt
  asked_cause asked halt is h = subst Cause (sym is) (cause_of asked h)

  pub list_cause : {T : Type 0} (result : Result T (Halt UpgradeCommandFault)) → IfErr result (HaltCause (UpgradeListCause stanza known repo) (Only objects.Repo repo_rose)) → IfErr result Cause
  list_cause (Ok x) h = tt
  list_cause (Err (Refused (faults.HistoryDiffers at))) h = absurd h
  list_cause (Err (Refused (faults.Server fault))) h = absurd h
  list_cause (Err (Refused (faults.TooMany limit))) h = h
  list_cause (Err (Refused (faults.TooLong name limit))) h = h
  list_cause (Err (Failed object)) h = only_rose objects.Repo object Rises repo_rose (λ x. x) h
  list_cause (Err NoMemory) h = tt
