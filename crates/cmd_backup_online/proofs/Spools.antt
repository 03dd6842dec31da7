-- What the steps of others do to the spool, as a part of the command's log.
use Rattle.std.proofs.Common.{◌≡◌, ◌++◌, ◌∷◌, List, [], Bool, true, false, Option, Some, None, refl, sym, ◌∙◌, ap, subst}
use Rattle.std.specs.Prelude.{IsSome, IfSome}
use Rattle.std.proofs.lemmas.List.{append-nil, append_cancel_left}
use Rattle.base_devices.specs.Content.{Content}
use Rattle.base_devices.specs.Links.{LinkState}
use Rattle.base_devices.specs.Moments.{View, LeavesNoMore}
use Rattle.base_model.specs.declared.labels.BackupKind.{BackupKind}
use Rattle.base_model.specs.declared.labels.BackupKind.TheVariants.{Full, Diff, Incr}
use Rattle.base_model.specs.declared.wal.ArchiveName.{ArchiveName}
use Rattle.base_model.specs.Text.{Text}
use Rattle.base_model.specs.Repository.{Repository, Backup}
use Rattle.base_model.specs.Steps.{Command, Turn, ArchivePushAsync, MakeBackup, after, all_of, steps_of}
use Rattle.base_model.specs.Log.{Done, IsDrained, KeepsRepository, KeepsSpool}
use Rattle.base_model.specs.Steady.{IsBegun, IsSteady}
use Rattle.base_model.proofs.Steady.{steady_rests}
use Rattle.base_crash_lists.specs.Beside.{StaysBeside}
use Rattle.archive_lookup.specs.Stored.{ChangesArchive}
use Rattle.archive_lookup.specs.Turns.{Turned, Account}
use Rattle.archive_wait.specs.TurnsDone.{TurnsDone, MarksByTurns, all_ended, turns_of}
use Rattle.archive_wait.proofs.Backups.{leads_made, leads_waited}
use Rattle.archive_wait.proofs.Marks.{none_more}
use Rattle.cmd_types.specs.declared.stages.plan.SyncScope.TheVariants.{Whole}
use Rattle.cmd_types.specs.DisksEffect.{Reached, to_end, turned_back, stopped, OnAll, SpoolEffect, RepoEffect, DisksEffect}
use Rattle.archive_store.specs.Still.{still_self}
use Rattle.cmd_types.proofs.Besides.{archive_beside, still_beside}
use Rattle.cmd_types.proofs.Lifted.{none_as, spool_stays}
use Rattle.repo_text_lemmas.proofs.Lists.{one_list}
use Rattle.repo_text_lemmas.proofs.Manifests.{one_manifest}
use Rattle.backup_make.specs.declared.draft.Draft.{Draft}
use Rattle.backup_make.specs.Draft.{stanza_of}
use Rattle.backup_make.specs.Made.{LeavesList}
use Rattle.backup_lemmas.proofs.Begun.{BeginsBackup, no_vacant}
use Rattle.backup_lemmas.proofs.Following.{moves_steady}
use Rattle.backup_lemmas.proofs.Running.{done_part, left_moves}
use Rattle.cmd_backup_online.specs.Doing.{DoesOnline, Received, IsOnlineBy, IsOnlineOf, MarksOnline, RunsOnline, TakesTurns}
use Rattle.cmd_backup_online.proofs.Doings.{by_account, with_account, turns_taken}

-- ---- of one command

module _ (stanza : Text) (ts : List Turn) (b : Backup) (repo spool new_spool : View) where
  -- a wait is a part of the backup that it is for
  marks_part : (ended : Bool) → SpoolEffect Whole stanza (ArchivePushAsync ts) ended repo spool new_spool → SpoolEffect Whole stanza (MakeBackup ts b None) false repo spool new_spool
  marks_part ended goes = record {
    known = goes.known;
    past = goes.past;
    keeps = λ q log some known begun k. let x = goes.keeps q log some known begun k in record {
      fixed = x.fixed;
      receipts = λ f leaves name sum fits has. let y = x.receipts f leaves name sum fits has in (y.0, (y.1.0, y.1.1, leads_waited ts b None ended y.1.0 y.0 y.1.2), y.2);
    };
    between = λ q log some known begun k t f lo hi leaves name sum fits has.
        let y = goes.between q log some known begun k t f lo hi leaves name sum fits has in (y.0, (y.1.0, y.1.1, leads_waited ts b None false y.1.0 y.0 y.1.2), y.2);
  }

  -- the steps of others alone are a part of themselves
  turns_part : (ended : Bool) → SpoolEffect Whole stanza (ArchivePushAsync ts) ended repo spool new_spool → SpoolEffect Whole stanza (ArchivePushAsync ts) false repo spool new_spool
  turns_part ended goes = record {
    known = goes.known;
    past = goes.past;
    keeps = λ q log some known begun k. let x = goes.keeps q log some known begun k in record {
      fixed = x.fixed;
      receipts = λ f leaves name sum fits has. let y = x.receipts f leaves name sum fits has in (y.0, (y.1.0, y.1.1, (y.1.2.0, y.1.2.1, done_part ended y.1.2.0 (steps_of (ArchivePushAsync ts) y.1.0) y.1.2.2)), y.2);
    };
    between = goes.between;
  }

  -- a wait whose steps of others succeeded, and then the backup
  marks_whole : SpoolEffect Whole stanza (ArchivePushAsync ts) true repo spool new_spool → SpoolEffect Whole stanza (MakeBackup ts b None) true repo spool new_spool
  marks_whole goes = record {
    known = goes.known;
    past = goes.past;
    keeps = λ q log some known begun k. let x = goes.keeps q log some known begun k in record {
      fixed = x.fixed;
      receipts = λ f leaves name sum fits has.
          let y = x.receipts f leaves name sum fits has in
          let all = all_of (steps_of (MakeBackup [] b None) y.0) in
          (after y.0 all, (y.1.0, y.1.1, leads_made ts b None true y.1.0 y.0 (after y.0 all) y.1.2 (all, refl, refl)), still y.0 name sum y.2);
    };
    between = (marks_part true goes).between;
  }
    where
      -- what a drain has stored stays as the backup is listed
      still : (r : Repository) (name : ArchiveName) (sum : Text) → IsDrained r name sum → IsDrained (after r (all_of (steps_of (MakeBackup [] b None) r))) name sum
      still None name sum drained = absurd drained
      still (Some s) name sum drained = drained

-- ---- of the wait

module _ (a b c w : View) (rests : LeavesNoMore a b) (now_same : b.now ≡ a.now) (d : Draft) (begins : BeginsBackup d b) (leaves : LeavesList d b c) where
  known_b : IsSome a.now → IsSome b.now
  known_b some = subst (λ (o : Option Content). IsSome o) (sym now_same) some

  -- the disk is still steady at its repository as the wait begins
  steady_there : (r : Repository) → IsSome a.now → IsSteady (stanza_of d) r a → IsSteady (stanza_of d) r c
  steady_there None some steady = absurd (no_vacant one_list d b begins (known_b some) (steady_rests (stanza_of d) None a b rests now_same steady))
  steady_there (Some s) some steady = moves_steady (stanza_of d) (Some s) b c (left_moves one_list one_manifest d b c begins leaves s (known_b some) (steady_rests (stanza_of d) (Some s) a b rests now_same steady))

  keeps_there : (q : Repository) (log : List Done) → IsSome a.now → IsBegun (stanza_of d) q log a → KeepsRepository (stanza_of d) q log c
  keeps_there q log some begun = let steady = steady_there begun.repository some begun.steady in record {
    fixed = steady.fixed;
    places = steady.places;
    represents = λ f there. record { repository = begun.repository; reached = begun.reached; sound = begun.sound; represents = steady.represents f there };
  }

  module _ (old account : Option Account) (s t : View) where
    wait_goes : (whole : Bool) (k : Account) (went : TurnsDone whole old k c w s t) → k.stanza ≡ stanza_of d → SpoolEffect Whole (stanza_of d) (ArchivePushAsync (turns_of went.turned)) (all_ended (turns_of went.turned)) a s t
    wait_goes whole k went of =
        let marks : MarksByTurns (stanza_of d) (turns_of went.turned) c s t = subst (λ (x : Text). MarksByTurns x (turns_of went.turned) c s t) of went.spool in record {
          known = marks.known;
          past = record { later = went.spool_only.time.later; kept = went.spool_only.time.same; unsynced = went.spool_only.time.same_unsynced };
          keeps = λ q log some known begun k. marks.keeps q log (leaves.now.known (known_b some)) known (record { repository = keeps_there q log some begun; receipts = k });
          between = λ q log some known begun k. marks.between q log (leaves.now.known (known_b some)) known (record { repository = keeps_there q log some begun; receipts = k });
        }

    pub waited_marks : (stanza : Text) → stanza_of d ≡ stanza → (whole : Bool) (reached : Reached) → (reached ≡ to_end → whole ≡ true) → IfSome account (λ k. TurnsDone whole old k c w s t) → MarksOnline stanza reached old account a s t
    waited_marks stanza is whole reached well went = with_account account (λ k. TurnsDone whole old k c w s t) _ went (λ k x of. (
      x.turned,
      turns_taken whole old k c w s t x,
      all_ended (turns_of x.turned),
      at_end reached (λ at. x.ended (well at)),
      subst (λ (z : Text). SpoolEffect Whole z (ArchivePushAsync (turns_of x.turned)) (all_ended (turns_of x.turned)) a s t) is (wait_goes whole k x (of ∙ sym is)),
    ))
      where
        at_end : (r : Reached) {P : Type 0} → (r ≡ to_end → P) → OnAll r P
        at_end to_end h = h refl
        at_end turned_back h = tt
        at_end stopped h = tt

-- no step of others was waited for
pub still_marks : (stanza : Text) (reached : Reached) (old account : Option Account) → account ≡ old → (repo s : View) → MarksOnline stanza reached old account repo s s
still_marks stanza reached None account is repo s = subst (λ (o : Option Account). MarksOnline stanza reached None o repo s s) (sym is) tt
still_marks stanza reached (Some k) account is repo s = subst (λ (o : Option Account). MarksOnline stanza reached (Some k) o repo s s) (sym is) (λ of. (
  [],
  record { before = k.turns; was = refl; is = sym (append-nil k.turns) },
  true,
  well reached,
  spool_stays Whole stanza (ArchivePushAsync []) true repo s idle,
))
  where
    idle : (q : Repository) (log : List Done) → KeepsSpool stanza q log s → KeepsSpool stanza q (record { command = ArchivePushAsync []; acknowledged = true } ∷ log) s
    idle q log keeps = record {
      fixed = keeps.fixed;
      receipts = λ f leaves name sum fits has. let x = keeps.receipts f leaves name sum fits has in (x.0, none_more true q log x.0 x.1, x.2);
    }

    well : (r : Reached) → OnAll r (◌≡◌ {A = Bool} true true)
    well to_end = refl
    well turned_back = tt
    well stopped = tt

-- ---- of both disks

all_both : (reached : Reached) {P Q R : Type 0} → OnAll reached P → OnAll reached Q → (P → Q → R) → OnAll reached R
all_both to_end p q to = to p q
all_both turned_back p q to = tt
all_both stopped p q to = tt

abbrev turns_at : Option Account → List Turned
turns_at None = []
turns_at (Some k) = k.turns

-- the steps of others that an account continued by are the same from both sides
pub one_turns : (k : Account) (old : Option Account) (xs ys : List Turned) → TakesTurns xs old k → TakesTurns ys old k → ys ≡ xs
one_turns k old xs ys x y =
    let same : ◌≡◌ {A = Option Account} (Some (record { stanza = k.stanza; turns = x.before })) (Some (record { stanza = k.stanza; turns = y.before })) = sym x.was ∙ y.was in
    let before : x.before ≡ y.before = ap turns_at same in
    append_cancel_left y.before ys xs (sym y.is ∙ x.is ∙ ap (λ (l : List Turned). l ++ xs) before)

-- after these steps of others
module _ (stanza : Text) (kind : BackupKind) (used : List LinkState) (received_reply : Received) (reached : Reached) (repo spool new_repo new_spool : View) (ts : List Turned) (ended : Bool) (well : OnAll reached (ended ≡ true)) (goes : SpoolEffect Whole stanza (ArchivePushAsync (turns_of ts)) ended repo spool new_spool) where
  both : (b : Backup) → RepoEffect Whole stanza (MakeBackup (turns_of ts) b None) reached repo new_repo → DisksEffect Whole stanza (MakeBackup (turns_of ts) b None) reached repo spool new_repo new_spool
  both b h = record {
    part = record { does = h.part; marks = marks_part stanza (turns_of ts) b repo spool new_spool ended goes };
    whole = all_both reached well h.whole (λ e w. record { does = w; marks = marks_whole stanza (turns_of ts) b repo spool new_spool (subst (λ (x : Bool). SpoolEffect Whole stanza (ArchivePushAsync (turns_of ts)) x repo spool new_spool) e goes) });
    turned = none_as reached _ _ (λ p. record { does = p; marks = turns_part stanza (turns_of ts) b repo spool new_spool ended goes }) h.turned;
  }

  a_backup : (k : BackupKind) (label : Option Text) (command : Command) → IsOnlineBy k used (turns_of ts) label stanza repo.now command → (b : Backup) × (command ≡ MakeBackup (turns_of ts) b None)
  a_backup Full label command h = (h.0, h.1)
  a_backup Diff label command h = (h.0, h.1)
  a_backup Incr label command h = (h.0, h.1)

  made : (command : Command) → IsOnlineOf kind used received_reply stanza repo.now ts command → RepoEffect Whole stanza command reached repo new_repo → DisksEffect Whole stanza command reached repo spool new_repo new_spool
  made command (label, known, online) h =
      let x = a_backup kind label command online in
      subst (λ (x : Command). DisksEffect Whole stanza x reached repo spool new_repo new_spool) (sym x.1) (both x.0 (subst (λ (x : Command). RepoEffect Whole stanza x reached repo new_repo) x.1 h))

-- the command does both
pub runs_online : (stanza : Text) (kind : BackupKind) (used : List LinkState) (received_reply : Received) (reached : Reached) (old account : Option Account) (repo spool new_repo new_spool : View) → DoesOnline stanza kind used received_reply reached old account repo new_repo → MarksOnline stanza reached old account repo spool new_spool
    → RunsOnline stanza kind used received_reply reached old account repo spool new_repo new_spool
runs_online stanza kind used received_reply reached old None repo spool new_repo new_spool does marks = tt
runs_online stanza kind used received_reply reached old (Some k) repo spool new_repo new_spool does marks = λ of. by (does of) (marks of)
  where
    by : (turned : List Turned) × TakesTurns turned old k × ((command : Command) × IsOnlineOf kind used received_reply stanza repo.now turned command × RepoEffect Whole stanza command reached repo new_repo)
        → (turned : List Turned) × TakesTurns turned old k × (ended : Bool) × OnAll reached (ended ≡ true) × SpoolEffect Whole stanza (ArchivePushAsync (turns_of turned)) ended repo spool new_spool
        → (turned : List Turned) × TakesTurns turned old k × ((command : Command) × IsOnlineOf kind used received_reply stanza repo.now turned command × DisksEffect Whole stanza command reached repo spool new_repo new_spool)
    by (ts, taken, (command, is, h)) (us, also, ended, well, goes) =
        let same = one_turns k old ts us taken also in (
          ts,
          taken,
          (
            command,
            is,
            made stanza kind used received_reply reached repo spool new_repo new_spool ts ended well
                (subst (λ (xs : List Turned). SpoolEffect Whole stanza (ArchivePushAsync (turns_of xs)) ended repo spool new_spool) same goes) command is h,
          ),
        )

-- ---- it keeps to the stanza

pub spool_still : (stanza : Text) (account : Option Account) (s : View) → IfSome account (λ k. k.stanza ≡ stanza → StaysBeside stanza s s)
spool_still stanza account s = by_account account _ (λ k at of. still_beside stanza s s (still_self s))

pub spool_waited : (stanza : Text) (whole : Bool) (old account : Option Account) (c w s t : View) → IfSome account (λ k. TurnsDone whole old k c w s t) → IfSome account (λ k. k.stanza ≡ stanza → StaysBeside stanza s t)
spool_waited stanza whole old account c w s t went = with_account account (λ k. TurnsDone whole old k c w s t) _ went (λ k x of.
    archive_beside stanza s t (subst (λ (z : Text). ChangesArchive z s t) of x.spool_only))
