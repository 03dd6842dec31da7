-- What an upgrade of a list did, and how it ends.
use Rattle.std.proofs.Common.{◌≡◌, ◌⊎◌, inl, inr, ℕ, ◌+◌, ◌≤◌, length, Option, Some, refl, ap, ◌∙◌, sym, subst, arith, true, false}
use Rattle.std.specs.Prelude.{IfOk, IfErr, IfSome, IsSome, Result, Ok, Err}
use Rattle.base_devices.specs.Content.{Content}
use Rattle.base_devices.specs.Moments.{View, LeavesNoMore}
use Rattle.base_model.specs.declared.clusters.Cluster.{Cluster}
use Rattle.base_model.specs.Text.{Text}
use Rattle.base_model.specs.Repository.{Repository, IsSound}
use Rattle.base_model.specs.Represents.{Represents}
use Rattle.base_model.specs.Steady.{IsSteady, EachImage}
use Rattle.base_model.specs.Steps.{Command, StanzaUpgrade, Reading, all_of, steps_of, upgraded}
use Rattle.base_model.specs.Now.{NowRepresents}
use Rattle.base_model.specs.Values.{ArchiveInfo, BackupInfo}
use Rattle.base_model.proofs.Upgraded.{upgrade_sound, upgrade_part, upgrade_now_part, upgrade_now_whole}
use Rattle.repo_stanza.specs.declared.control.Control.{Control}
use Rattle.repo_stanza.specs.declared.stanza_upgrade.Upgraded.{Upgraded}
use Rattle.repo_stanza.specs.declared.stanza_upgrade.Upgraded.TheVariants.{New, Same}
use Rattle.repo_stanza.specs.declared.upgrade_fault.UpgradeFault.{UpgradeFault}
use Rattle.repo_stanza.specs.declared.upgrade_fault.UpgradeFault.TheVariants.{TooMany, TooLong, Disk, NoMemory as UpgradeMemory}
use Rattle.repo_stanza.specs.HealingPair.{HaveTexts}
use Rattle.repo_stanza.specs.Judging.{HasList, IsOf}
use Rattle.repo_stanza.specs.Pairs.{PairsAgree}
use Rattle.repo_stanza.specs.UpgradeCauses.{UpgradeCause, OnLimit}
use Rattle.repo_stanza.specs.Upgrading.{IfAdded, IfKept, most_clusters, longer_archive_text, longer_backup_text}
use Rattle.archive_store.specs.Still.{IsStill}
use Rattle.cmd_types.specs.declared.stages.object.Object.TheVariants.{Repo}
use Rattle.cmd_types.specs.declared.stages.halt.Halt.{Halt}
use Rattle.cmd_types.specs.declared.stages.halt.Halt.TheVariants.{NoMemory}
use Rattle.cmd_types.specs.declared.stages.outcome.Outcome.{Outcome}
use Rattle.cmd_types.specs.declared.stages.outcome.Outcome.TheVariants.{Finished, Absent, FindingsFound}
use Rattle.cmd_types.specs.declared.stages.plan.SyncScope.TheVariants.{Whole}
use Rattle.cmd_types.specs.Halts.{HaltCause, Only}
use Rattle.cmd_types.specs.Reached.{OnFinished, reached_by}
use Rattle.cmd_types.specs.DisksEffect.{turned_back, stopped, OnNone, IsPart, DoesPart, DoesWhole, RepoEffect}
use Rattle.cmd_types.proofs.Doing.{rests_part}
use Rattle.cmd_stanza_upgrade.specs.declared.fault.UpgradeCommandFault.{UpgradeCommandFault}
use Rattle.cmd_stanza_upgrade.specs.Faults.{upgrade_early, of_upgrade, UpgradeListCause}
use Rattle.cmd_stanza_upgrade.specs.Texts.{line_of}
use Rattle.cmd_stanza_upgrade.specs.Upgrading.{IsUpgraded}
use Rattle.cmd_stanza_upgrade.proofs.Lists.{has_stanza}

-- ---- what was done

module _ (stanza : Text) (c : Cluster) (a d : View) (known : IsSome a.now → IsSome d.now)
    (part : (r : Repository) → IsSome a.now → NowRepresents stanza r a.now → NowRepresents stanza r d.now ⊎ NowRepresents stanza (upgraded c r) d.now)
    (moves : (r : Repository) → IsSteady stanza r a → IsSome a.now → EachImage stanza (λ g. Represents stanza g r ⊎ Represents stanza g (upgraded c r)) a d) where
  abbrev command : Command
  command = StanzaUpgrade (Some c)

  -- the stanza is as before or upgraded, and sound
  sound_part : (r : Repository) → IsSound r → (g : Content) → Represents stanza g r ⊎ Represents stanza g (upgraded c r) → IsPart stanza command r g
  sound_part r sound g p = let x = upgrade_part stanza c r g p in (x.0, x.1, x.2, upgrade_sound (Some c) r false x.0 sound x.1)

  moves_part : (r : Repository) → IsSound r → EachImage stanza (λ g. Represents stanza g r ⊎ Represents stanza g (upgraded c r)) a d → EachImage stanza (IsPart stanza command r) a d
  moves_part r sound m = record {
    later = m.later;
    past = m.past;
    past_unsynced = m.past_unsynced;
    known = m.known;
    fixed = m.fixed;
    places = m.places;
    leaves = λ t f lo hi leaves. sound_part r sound f (m.leaves t f lo hi leaves);
  }

  does_part : DoesPart Whole stanza command a d
  does_part = record {
    part = upgrade_now_part stanza c a.now d.now known part;
    goes = λ r some steady sound. moves_part r sound (moves r steady some);
  }

  refused_does : LeavesNoMore a d → d.now ≡ a.now → RepoEffect Whole stanza command turned_back a d
  refused_does rests same = record { part = does_part; whole = tt; turned = rests_part Whole stanza Reading a d rests same }

  stopped_does : RepoEffect Whole stanza command stopped a d
  stopped_does = record { part = does_part; whole = tt; turned = tt }

  -- it was refused, or stopped
  does_of : (e : UpgradeFault) → OnLimit e (LeavesNoMore a d) → OnLimit e (d.now ≡ a.now) → RepoEffect Whole stanza command (reached_by upgrade_early (Err (of_upgrade e))) a d
  does_of (TooMany limit) rests same = refused_does rests same
  does_of (TooLong name limit) rests same = refused_does rests same
  does_of Disk rests same = stopped_does
  does_of UpgradeMemory rests same = stopped_does

  pub halted_does : (e : UpgradeFault) (halt : Halt UpgradeCommandFault) → halt ≡ of_upgrade e → OnLimit e (LeavesNoMore a d) → OnLimit e (d.now ≡ a.now) → RepoEffect Whole stanza command (reached_by upgrade_early (Err halt)) a d
  halted_does e halt is rests same = subst (λ (h : Halt UpgradeCommandFault). RepoEffect Whole stanza command (reached_by upgrade_early (Err h)) a d) (sym is) (does_of e rests same)

  module _ (done : (r : Repository) → IsSome a.now → NowRepresents stanza r a.now → NowRepresents stanza (upgraded c r) d.now)
      (made : (r : Repository) → IsSteady stanza r a → IsSome a.now → IsSteady stanza (upgraded c r) d) where
    does_whole : DoesWhole Whole stanza command a d
    does_whole = record {
      done = upgrade_now_whole stanza c a.now d.now known done;
      ends = λ r some steady sound. (made r steady some, upgrade_sound (Some c) r true (all_of (steps_of command r)) sound refl);
    }

    -- it was added or kept, and there was memory for the line or none
    pub ended_does : (result : Result Outcome (Halt UpgradeCommandFault)) (P : Text → Type 0) → IfOk result (λ o. OnFinished o P) → IfErr result (λ h. h ≡ NoMemory) → RepoEffect Whole stanza command (reached_by upgrade_early result) a d
    ended_does (Ok (Finished lines)) P line starved = record { part = does_part; whole = does_whole; turned = tt }
    ended_does (Ok (Absent name)) P line starved = absurd line
    ended_does (Ok (FindingsFound lines count)) P line starved = absurd line
    ended_does (Err h) P line starved = subst (λ (h : Halt UpgradeCommandFault). RepoEffect Whole stanza command (reached_by upgrade_early (Err h)) a d) (sym starved) stopped_does

-- ---- where it is refused, the disk is still

still_of : (a d : View) (e : UpgradeFault) → OnLimit e (LeavesNoMore a d) → OnLimit e (d.now ≡ a.now) → OnNone (reached_by {E = UpgradeCommandFault} upgrade_early (Err (of_upgrade e))) (IsStill a d)
still_of a d (TooMany limit) rests same = record { now = same; time = rests }
still_of a d (TooLong name limit) rests same = record { now = same; time = rests }
still_of a d Disk rests same = tt
still_of a d UpgradeMemory rests same = tt

pub halted_still : (a d : View) (e : UpgradeFault) (halt : Halt UpgradeCommandFault) → halt ≡ of_upgrade e → OnLimit e (LeavesNoMore a d) → OnLimit e (d.now ≡ a.now) → OnNone (reached_by upgrade_early (Err halt)) (IsStill a d)
halted_still a d e halt is rests same = subst (λ (h : Halt UpgradeCommandFault). OnNone (reached_by upgrade_early (Err h)) (IsStill a d)) (sym is) (still_of a d e rests same)

pub ended_still : (Q : Type 0) (result : Result Outcome (Halt UpgradeCommandFault)) (P : Text → Type 0) → IfOk result (λ o. OnFinished o P) → IfErr result (λ h. h ≡ NoMemory) → OnNone (reached_by upgrade_early result) Q
ended_still Q (Ok (Finished lines)) P line starved = tt
ended_still Q (Ok (Absent name)) P line starved = absurd line
ended_still Q (Ok (FindingsFound lines count)) P line starved = absurd line
ended_still Q (Err h) P line starved = subst (λ (h : Halt UpgradeCommandFault). OnNone (reached_by upgrade_early (Err h)) Q) (sym starved) tt

-- ---- its line

module _ (stanza : Text) (known : Control) (old new : Option Content) (archive : ArchiveInfo) (list : BackupInfo) (had : IfSome old (λ f. HasList stanza f archive list))
    (agrees : IsSome old → IfSome new (PairsAgree stanza)) where
  abbrev Texts : Type 0
  Texts = IsSome old → IfSome new (HaveTexts stanza (longer_archive_text known archive) (longer_backup_text known archive list))

  is_upgraded : (u : Upgraded) → IfKept u (IsOf known archive) → IfAdded u (λ n. ¬ IsOf known archive) → IfAdded u (λ n. n ≡ length archive.history + 1) → IfAdded u (λ n. n ≤ most_clusters) → IfAdded u (λ n. Texts) →
      (lines : Text) → lines ≡ line_of stanza known.version u → IsUpgraded stanza known old new lines
  is_upgraded (New n) same other number few texts lines line = record {
    either = inl (record {
      archive = archive;
      list = list;
      had = had;
      other = other;
      few = omega (arith, number, few);
      texts = texts;
      line = line ∙ ap (λ (m : ℕ). line_of stanza known.version (New m)) number;
    });
    agrees = agrees;
  }
  is_upgraded Same same other number few texts lines line = record {
    either = inr (record { had = has_stanza stanza known old archive list same had; line = line });
    agrees = agrees;
  }

  pub finishes : (u : Upgraded) → IfKept u (IsOf known archive) → IfAdded u (λ n. ¬ IsOf known archive) → IfAdded u (λ n. n ≡ length archive.history + 1) → IfAdded u (λ n. n ≤ most_clusters) → IfAdded u (λ n. Texts) →
      (result : Result Outcome (Halt UpgradeCommandFault)) → IfOk result (λ o. OnFinished o (λ lines. lines ≡ line_of stanza known.version u)) → IfOk result (λ o. OnFinished o (IsUpgraded stanza known old new))
  finishes u same other number few texts (Ok (Finished lines)) line = is_upgraded u same other number few texts _ line
  finishes u same other number few texts (Ok (Absent name)) line = absurd line
  finishes u same other number few texts (Ok (FindingsFound lines count)) line = absurd line
  finishes u same other number few texts (Err h) line = tt

-- ---- why it ends

module _ (stanza : Text) (known : Control) (repo : Option Content) (rose : Type 0) where
  abbrev Cause : Halt UpgradeCommandFault → Type 0
  Cause = HaltCause (UpgradeListCause stanza known repo) (Only Repo rose)

  pub ended_cause : {T : Type 0} (result : Result T (Halt UpgradeCommandFault)) → IfErr result (λ h. h ≡ NoMemory) → IfErr result Cause
  ended_cause (Ok x) starved = tt
  ended_cause (Err h) starved = subst Cause (sym starved) tt

  cause_of : (archive : ArchiveInfo) (list : BackupInfo) → IfSome repo (λ f. HasList stanza f archive list) → (e : UpgradeFault) → UpgradeCause stanza known archive list rose e → Cause (of_upgrade e)
  cause_of archive list had (TooMany limit) h = (archive, list, had, h)
  cause_of archive list had (TooLong name limit) h = (archive, list, had, h)
  cause_of archive list had Disk h = (refl, h)
  cause_of archive list had UpgradeMemory h = tt

  pub halted_cause : (archive : ArchiveInfo) (list : BackupInfo) → IfSome repo (λ f. HasList stanza f archive list) → (e : UpgradeFault) (halt : Halt UpgradeCommandFault) → halt ≡ of_upgrade e → UpgradeCause stanza known archive list rose e → Cause halt
  halted_cause archive list had e halt is h = subst Cause (sym is) (cause_of archive list had e h)
