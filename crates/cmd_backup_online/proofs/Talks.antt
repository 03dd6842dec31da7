-- How the talk with the server ends a backup, and why.
use Rattle.std.proofs.Common.{◌≡◌, ◌⊎◌, inl, inr, ℕ, ◌++◌, List, [], Option, Some, None, option_map, refl, sym, ◌∙◌, ap, subst}
use Rattle.std.proofs.lemmas.List.{append_assoc}
use Rattle.base_devices.specs.Cause.{Rises}
use Rattle.base_devices.specs.Links.{LinkState}
use Rattle.base_devices.specs.DataFolder.{Nodes}
use Rattle.base_model.specs.Text.{Text}
use Rattle.base_model.specs.Values.{BackupInfo, FileEntry}
use Rattle.std.specs.Prelude.{◌≤◌, IfOk, IfErr, OnErr, Result, Ok, Err, string_bytes}
use Rattle.backup_make.specs.declared.online.Online as rust_online
use Rattle.backup_make.specs.Online.{online_of}
use Rattle.server_talk.specs.declared.backups.begun.Begun.{Begun}
use Rattle.server_talk.specs.declared.backups.begun.Finished.{Finished}
use Rattle.server_talk.specs.Ending.{StartsAt}
use Rattle.cmd_types.proofs.Counts.{rises_from}
use Rattle.server_talk.specs.declared.backups.fault.OnlineFault.{OnlineFault}
use Rattle.server_talk.specs.declared.backups.fault.OnlineFault.TheVariants as talks
use Rattle.server_talk.specs.Causes.{TalkCause, ShowsFault, StartCause, StopCause, Closes}
use Rattle.server_talk.specs.Telling.{ShowsBegun, ShowsStop, StopReplies, Starts, finished_stop, stopping}
use Rattle.server_talk.specs.Views.{session_view}
use Rattle.server_talk.specs.declared.session.fault.ServerFault.{ServerFault}
use Rattle.server_talk.specs.declared.session.fault.ServerFault.TheVariants as server
use Rattle.server_talk.specs.Reads.{Sends}
use Rattle.server_talk.specs.Rows.{stop_query}
use Rattle.server_talk.specs.Sends.{Ended, closing, query_of}
use Rattle.server_talk.proofs.Ends.{ended_or}
use Rattle.worker_pool.specs.declared.dispatch.fault.Lost.{Lost}
use Rattle.cmd_types.specs.declared.stages.object.Object.{Object}
use Rattle.cmd_types.specs.declared.stages.object.Object.TheVariants as objects
use Rattle.cmd_types.specs.declared.stages.halt.Halt.{Halt}
use Rattle.cmd_types.specs.declared.stages.halt.Halt.TheVariants.{Refused, Failed, NoMemory}
use Rattle.cmd_types.specs.Halts.{HaltCause, Only}
use Rattle.cmd_types.specs.Risen.{none, rose_in}
use Rattle.cmd_backup_common.specs.declared.parts.fault.BackupFault.{BackupFault}
use Rattle.cmd_backup_offline.specs.declared.order.OfflineOrder.{OfflineOrder}
use Rattle.cmd_backup_online.specs.declared.fault.OnlineBackupFault.{OnlineBackupFault}
use Rattle.cmd_backup_online.specs.declared.fault.OnlineBackupFault.TheVariants as faults
use Rattle.cmd_backup_online.specs.Faults.{of_backup, of_server, of_talk}
use Rattle.cmd_backup_online.specs.Gathering.{GatherCause}
use Rattle.cmd_backup_online.specs.Talking.{EndsTalk, SpokenCause}
use Rattle.cmd_backup_online.specs.Modelled.{OfTalk, StopsWith, TalkFails}
use Rattle.cmd_backup_online.proofs.Gatherings.{OrTree}

-- ---- the end

pub talk_ends : (rose : Type 0) (sent : Option (List ℕ)) (fault : OnlineFault) (h : Halt OnlineBackupFault) → h ≡ of_talk fault → Closes rose sent fault → EndsTalk rose sent h
talk_ends rose sent fault h is closes = λ other. closes (λ starved. other (is ∙ ap of_talk starved))

pub sends_end : (before now : ℕ) (old new : Option (List ℕ)) → Sends before now old new closing → Ended new ⊎ Rises before now
sends_end before now old new sends = ended_or [] old new (Rises before now) sends

-- what ends with a stop is ended
pub stop_ends : (prefix : List ℕ) (old new : Option (List ℕ)) → new ≡ option_map (λ (s : List ℕ). s ++ prefix ++ stopping) old → Ended new
stop_ends prefix None new is = subst Ended (sym is) tt
stop_ends prefix (Some s) new is = subst Ended (sym is) (s ++ prefix ++ query_of stop_query, sym (append_assoc (s ++ prefix) (query_of stop_query) closing))

-- ---- why it ends

module _ (Why : OnlineFault → Type 0) (rose : Type 0) (T : ServerFault → Type 0) (to : (f : ServerFault) → TalkCause ⊥ T f → Why (talks.Server f)) where
  pub server_halt : (f : ServerFault) → TalkCause rose T f → HaltCause (OfTalk Why) (Only objects.Server rose) (of_server f)
  server_halt server.NoMemory h = tt
  server_halt server.ServerConnection h = (refl, h)
  server_halt (server.ServerSaid code text) h = to (server.ServerSaid code text) h
  server_halt (server.AuthUnsupported code) h = to (server.AuthUnsupported code) h
  server_halt (server.ServerForm at) h = to (server.ServerForm at) h
  server_halt (server.ServerEnded at) h = to (server.ServerEnded at) h
  server_halt (server.SystemMismatch kept found) h = to (server.SystemMismatch kept found) h
  server_halt (server.TooLong n) h = to (server.TooLong n) h
  server_halt (server.TooMany n) h = to (server.TooMany n) h

pub stop_halt : (b : Begun) (old new : Option (List ℕ)) (rose : Type 0) (fault : OnlineFault) → StopCause b old new rose fault → HaltCause (OfTalk (StopCause b old new ⊥)) (Only objects.Server rose) (of_talk fault)
stop_halt b old new rose (talks.Server f) h = server_halt (StopCause b old new ⊥) rose (ShowsFault old (λ bytes. StopReplies (session_view b.session, bytes))) (λ g k. k) f h
stop_halt b old new rose talks.TablespaceMap h = h
stop_halt b old new rose (talks.SpanWrong start last) h = h

pub start_halt : (kept : ℕ) (old : Option (List ℕ)) (rose : Type 0) (fault : OnlineFault) → StartCause kept old rose fault → HaltCause (OfTalk (StartCause kept old ⊥)) (Only objects.Server rose) (of_talk fault)
start_halt kept old rose (talks.Server f) h = server_halt (StartCause kept old ⊥) rose (ShowsFault old (Starts kept)) (λ g k. k) f h
start_halt kept old rose talks.TablespaceMap h = absurd h
start_halt kept old rose (talks.SpanWrong start last) h = absurd h

-- ---- as the whole talk's

-- the repository, the data folder, the server or the clock failed
abbrev pub OrServer : Type 0 → Type 0 → Type 0 → Type 0 → Object → Type 0
OrServer repo tree rose clock = rose_in (record none { repo = repo; tree = tree; server = rose; clock = clock })

module _ (stanza : Text) (order : OfflineOrder) (nodes : Option Nodes) (list : BackupInfo) (files : List FileEntry) (links : List LinkState) (before : List Lost) (system : ℕ) (old new : Option (List ℕ)) (repo tree rose clock : Type 0) where
  abbrev Whole : Halt OnlineBackupFault → Type 0
  Whole = HaltCause (SpokenCause stanza order nodes list files links before system old new) (OrServer repo tree rose clock)

  only_server : (o : Object) → Only objects.Server rose o → OrServer repo tree rose clock o
  only_server o h = subst (OrServer repo tree rose clock) (sym h.0) h.1

  talk_spoken : (Why : OnlineFault → Type 0) → ((f : OnlineFault) → Why f → TalkFails system old new f) → (e : OnlineBackupFault) → OfTalk Why e → SpokenCause stanza order nodes list files links before system old new e
  talk_spoken Why to (faults.Take f) h = absurd h
  talk_spoken Why to (faults.Server f) h = to (talks.Server f) h
  talk_spoken Why to faults.TablespaceMap h = to talks.TablespaceMap h
  talk_spoken Why to (faults.SpanWrong start last) h = to (talks.SpanWrong start last) h
  talk_spoken Why to (faults.NotArrived s n) h = absurd h
  talk_spoken Why to (faults.Ambiguous x y) h = absurd h

  pub spoken : (Why : OnlineFault → Type 0) → ((f : OnlineFault) → Why f → TalkFails system old new f) → (h : Halt OnlineBackupFault) → HaltCause (OfTalk Why) (Only objects.Server rose) h → Whole h
  spoken Why to (Refused e) h = talk_spoken Why to e h
  spoken Why to (Failed o) h = only_server o h
  spoken Why to NoMemory h = tt

  pub not_started : (h : Halt OnlineBackupFault) → HaltCause (OfTalk (StartCause system old ⊥)) (Only objects.Server rose) h → Whole h
  not_started h cause = spoken (StartCause system old ⊥) (λ f k. inl k) h cause

  pub not_stopped : (b : Begun) (following : Option (List ℕ)) → ShowsBegun system old following b → (h : Halt OnlineBackupFault) → HaltCause (OfTalk (StopCause b following new ⊥)) (Only objects.Server rose) h → Whole h
  not_stopped b following shows h cause = spoken (StopCause b following new ⊥) (λ f k. inr (b, following, shows, k)) h cause

  tree_or : (o : Object) → OrTree repo tree clock o → OrServer repo tree rose clock o
  tree_or objects.Repo h = h
  tree_or objects.Spool h = absurd h
  tree_or objects.TheDataFolder h = h
  tree_or objects.Server h = absurd h
  tree_or objects.Others h = absurd h
  tree_or objects.Clock h = h
  tree_or objects.Locks h = absurd h
  tree_or objects.Config h = absurd h
  tree_or objects.Output h = absurd h

  taken : (h : Halt BackupFault) → HaltCause (GatherCause stanza order nodes list files links before) (OrTree repo tree clock) h → Whole (of_backup h)
  taken (Refused e) h = h
  taken (Failed o) h = tree_or o h
  taken NoMemory h = tt

  -- given up for this, or memory ran out at that
  pub given_up : (h : Halt BackupFault) (k : Halt OnlineBackupFault) → (k ≡ of_backup h) ⊎ (k ≡ NoMemory) → HaltCause (GatherCause stanza order nodes list files links before) (OrTree repo tree clock) h → Whole k
  given_up h k (inl is) cause = subst Whole (sym is) (taken h cause)
  given_up h k (inr is) cause = subst Whole (sym is) tt

-- ---- what is handed on

pub on_err : {T E : Type 0} (P : Type 0) (result : Result T E) → P → OnErr result P
on_err P (Ok x) p = tt
on_err P (Err e) p = p

-- a talk that went well is ended, however the backup then ends
pub ended_before : {T : Type 0} (result : Result T (Halt OnlineBackupFault)) (same : Halt OnlineBackupFault → Type 0) (rose : Type 0) (prefix : List ℕ) (old new : Option (List ℕ)) → new ≡ option_map (λ (s : List ℕ). s ++ prefix ++ stopping) old → IfErr result (λ h. same h ⊎ EndsTalk rose new h)
ended_before (Ok x) same rose prefix old new is = tt
ended_before (Err h) same rose prefix old new is = inr (λ other. inl (stop_ends prefix old new is))

pub stops_with : (result : Result rust_online.Online (Halt OnlineBackupFault)) (begun : Begun) (old new : Option (List ℕ)) (f : Finished) → StartsAt begun.size begun.from begun.segment f.wal → ShowsStop begun old new (finished_stop f)
    → IfOk result (λ o. o.wal ≡ f.wal) → IfOk result (λ o. string_bytes o.label_file ≡ string_bytes f.label_file) → IfOk result (λ o. StopsWith begun old new (online_of o))
stops_with (Ok o) begun old new f begins stops part label = record { finished = f; begins = begins; stops = stops; part_is = part; label_is = label }
stops_with (Err e) begun old new f begins stops part label = tt

pub server_from : (a b c : ℕ) → a ≤ b → (o : Object) → Only objects.Server (Rises b c) o → Only objects.Server (Rises a c) o
server_from a b c le o h = (h.0, rises_from a b c le h.1)
