-- Which names a backup changes, and what a crash leaves of the pairs that it saved.
use Rattle.std.proofs.Common.{◌≡◌, ◌≤◌, ◌⊎◌, ⊎_elim, inl, inr, ℕ, true, List, [], ◌∷◌, ◌++◌, Option, None, Some, Result, Ok, Err, refl, sym, ◌∙◌, ap, subst, arith}
use Rattle.std.specs.Prelude.{IfSome, IsSome, OnOk}
use Rattle.base_devices.specs.Content.{Content}
use Rattle.base_devices.specs.Crash.{IsAlikeAt}
use Rattle.base_devices.specs.Links.{LinkState}
use Rattle.base_devices.specs.Moments.{View}
use Rattle.base_devices.specs.States.{ClockState}
use Rattle.base_model.specs.declared.labels.BackupKind.{BackupKind}
use Rattle.base_model.specs.declared.labels.Label.{Label}
use Rattle.base_model.specs.InfoFiles.{IsBackupText, IsLabel, backup_sections}
use Rattle.base_model.specs.InfoText.{info_text}
use Rattle.base_model.specs.Log.{Lists, Pair, Manifested}
use Rattle.base_model.specs.Names.{backup_info, copy_of, manifest_name}
use Rattle.base_model.specs.Pair.{PairIs}
use Rattle.base_model.specs.Text.{Text, In}
use Rattle.base_model.specs.Values.{ArchiveInfo, BackupInfo, Entry, FileEntry, Manifest}
use Rattle.base_model.specs.Walks.{IsSynced}
use Rattle.base_model.proofs.Walking.{rests_synced}
use Rattle.repo_pair.specs.Member.{IsMember}
use Rattle.repo_stanza.specs.Judging.{Validates, As, Without}
use Rattle.repo_stanza.proofs.Settled.{one_pair}
use Rattle.repo_text_lemmas.proofs.Lists.{one_list}
use Rattle.archive_store.specs.Still.{IsStill, still_on}
use Rattle.backup_plan.proofs.Lists.{in_parts}
use Rattle.backup_record.specs.Making.{entry_with, labels_of}
use Rattle.backup_make.specs.declared.draft.Draft.{Draft}
use Rattle.backup_make.specs.declared.fault.MakeFault.{MakeFault}
use Rattle.backup_make.specs.Draft.{stanza_of, pair_of, main_of, list_in}
use Rattle.backup_make.specs.Made.{IsSyncedAt, MakesOf, Outcome as Makes}
use Rattle.backup_make.specs.Touched.{TouchesOnly, IsOfBackup}
use Rattle.backup_make.proofs.Lasting.{list_lasts, manifest_lasts}
use Rattle.backup_make.proofs.Touched.{touched_on, touched_rests}
use Rattle.cmd_types.specs.declared.stages.halt.Halt.{Halt}
use Rattle.cmd_types.specs.declared.stages.outcome.Outcome.{Outcome}
use Rattle.cmd_backup_common.specs.declared.parts.fault.BackupFault.{BackupFault}
use Rattle.cmd_backup_common.specs.Making.{IsEndWith, Well, Ill, Finishes}
use Rattle.cmd_backup_common.specs.Priors.{made_label}
use Rattle.cmd_backup_common.specs.Seconds.{second_of, AreBefore}
use Rattle.cmd_backup_offline.specs.declared.order.OfflineOrder.{OfflineOrder}
use Rattle.cmd_backup_offline.specs.Basing.{base_in}
use Rattle.cmd_backup_offline.specs.Making.{BeginsFrom}
use Rattle.cmd_backup_offline.specs.Touching.{CopiesLast, IsNewLabel, TouchesNew, TouchesOne}

-- ---- a new label

-- a label is named by no later second than it states
named_within : (kind : BackupKind) (base : Option Entry) (second : ℕ) → second ≤ second_of (made_label kind base second)
named_within kind None second = omega arith
named_within kind (Some e) second = omega arith

-- what the pair lists is what it validates to
same_backups : (a : ArchiveInfo) (v w : BackupInfo) → Validates a v w → w.backups ≡ v.backups
same_backups a v w (As same is) = ap (λ (x : BackupInfo). x.backups) is
same_backups a v w (Without p is) = ap (λ (x : BackupInfo). x.backups) is

-- the label of a backup that is named by a second after those of the list is new
pub is_new : (stanza : Text) (o : OfflineOrder) (now : Option Content) (list : BackupInfo) (old : List FileEntry) → BeginsFrom stanza o now list old → (second : ℕ) → AreBefore (labels_of list.backups) second
    → (label : Label) → label ≡ made_label o.kind (base_in o.kind list) second → IfSome now (IsNewLabel stanza label)
is_new stanza o now list old from second before label is = by now from.backup_read
  where
    by : (n : Option Content) → IfSome n (λ f. PairIs IsBackupText f (backup_info stanza) from.backup) → IfSome n (IsNewLabel stanza label)
    by None read = tt
    by (Some f) read = λ v pair l at.
        let same : list.backups ≡ v.backups = same_backups from.archive from.backup list from.settles ∙ ap (λ (x : BackupInfo). x.backups) (one_pair one_list f (backup_info stanza) from.backup v read pair) in
        let earlier = before l (subst (λ (es : List Entry). In l (labels_of es)) (sym same) at) in
        let named = subst (λ (k : Label). second ≤ second_of k) (sym is) (named_within o.kind (base_in o.kind list) second) in
        omega (arith, earlier, named)

-- ---- names that change

-- only was read before
pub touches_after : (stanza : Text) (a b d : View) → IsStill a b → TouchesOne stanza b d → TouchesOne stanza a d
touches_after stanza a b d still (inl x) = inl (still_on a b d still x)
touches_after stanza a b d still (inr (label, x)) = inr (
  label,
  record {
    is_label = x.is_label;
    is_new = subst (λ (n : Option Content). IfSome n (IsNewLabel stanza label)) still.now x.is_new;
    only = touched_on (IsOfBackup stanza label) a b d (touched_rests (IsOfBackup stanza label) a b still.time still.now) x.only;
  },
)

pub touches_draft : (stanza : Text) (a b d : View) → IsStill a b → (label : Label) → IsLabel label → IfSome a.now (IsNewLabel stanza label) → TouchesOnly (IsOfBackup stanza label) b d → TouchesOne stanza a d
touches_draft stanza a b d still label rules new only = inr (
  label,
  record {
    is_label = rules;
    is_new = new;
    only = touched_on (IsOfBackup stanza label) a b d (touched_rests (IsOfBackup stanza label) a b still.time still.now) only;
  },
)

-- ---- what a crash leaves of the pairs

pub copies_rests : (stanza : Text) (a b d : View) → IsStill a b → CopiesLast stanza b d → CopiesLast stanza a d
copies_rests stanza a b d still h = record {
  list = λ synced some. h.list (rests_synced stanza a b still.time still.now synced) (subst (λ (n : Option Content). IsSome n) (sym still.now) some);
  manifest = λ synced f g is_f is_g label listed new. h.manifest (rests_synced stanza a b still.time still.now synced) f g (still.now ∙ is_f) is_g label listed new;
}

-- only was read before
pub copies_after : {T E : Type 0} (stanza : Text) (a b d : View) → IsStill a b → (r : Result T E) → OnOk r (CopiesLast stanza b d) → OnOk r (CopiesLast stanza a d)
copies_after stanza a b d still (Ok x) h = copies_rests stanza a b d still h
copies_after stanza a b d still (Err e) h = tt

module _ (stanza : Text) (o : OfflineOrder) (list : BackupInfo) (old : List FileEntry) (draft : Draft) (stanza_is : stanza_of draft ≡ stanza) (list_is : list_in draft ≡ list) (b : View) (from : BeginsFrom stanza o b.now list old) where
  members_synced : IsSynced (stanza_of draft) b → IsSyncedAt (pair_of draft) (main_of draft) b
  members_synced synced = record {
    manifest = synced.fixed (pair_of draft) (Manifested (draft.label, inl refl));
    manifest_copy = synced.fixed (copy_of (pair_of draft)) (Manifested (draft.label, inr refl));
    info = synced.fixed (main_of draft) (Pair (inr (inr (inl refl))));
    info_copy = synced.fixed (copy_of (main_of draft)) (Pair (inr (inr (inr refl))));
  }

  module _ (links : List LinkState) (d : View) (makes : MakesOf draft None links true b d) where
    -- what is listed and wasn't is the draft's backup
    newly_listed : (f g : Content) → b.now ≡ Some f → d.now ≡ Some g → (label : Label) → Lists stanza g label → ¬ Lists stanza f label → label ≡ draft.label
    newly_listed f g is_f is_g label (v, pair, (e, at, is)) new =
        let x = (makes.whole_now refl).goes f g is_f is_g in
        let here : PairIs IsBackupText g (backup_info stanza) makes.list = subst (λ (k : Text). PairIs IsBackupText g (backup_info k) makes.list) stanza_is (inl (info_text (backup_sections makes.list), x.info_is, makes.list_valid)) in
        let same : v.backups ≡ list.backups ++ entry_with makes.manifest makes.listed.references ∷ [] =
        ap (λ (y : BackupInfo). y.backups) (one_pair one_list g (backup_info stanza) v makes.list pair here ∙ makes.listed.is)
        ∙ ap (λ (y : BackupInfo). y.backups ++ entry_with makes.manifest makes.listed.references ∷ []) list_is in
        let read : PairIs IsBackupText f (backup_info stanza) from.backup = (let h : IfSome (Some f) (λ (q : Content). PairIs IsBackupText q (backup_info stanza) from.backup) = subst (λ (n : Option Content). IfSome n (λ q. PairIs IsBackupText q (backup_info stanza) from.backup)) is_f from.backup_read in h) in
        ⊎_elim
        (λ (was : In e list.backups). absurd (new (from.backup, read, (e, subst (λ (es : List Entry). In e es) (same_backups from.archive from.backup list from.settles) was, is))))
        (λ (last : In e (entry_with makes.manifest makes.listed.references ∷ [])). ⊎_elim
        (λ (it : e ≡ entry_with makes.manifest makes.listed.references). sym is ∙ ap (λ (y : Entry). y.label) it ∙ ap (λ (m : Manifest). m.label) makes.manifest_is)
        (λ (none : ⊥). absurd none) last)
        (in_parts list.backups (entry_with makes.manifest makes.listed.references ∷ []) e (subst (λ (es : List Entry). In e es) same at))

    some_of : (f : Content) → b.now ≡ Some f → IsSome b.now
    some_of f is = subst (λ (n : Option Content). IsSome n) (sym is) refl

    made_lasts : CopiesLast stanza b d
    made_lasts = record {
      list = λ synced some. subst (λ (k : Text). IsAlikeAt (IsMember (backup_info k)) d) stanza_is
          (list_lasts draft None links b d makes (members_synced (subst (λ (k : Text). IsSynced k b) (sym stanza_is) synced)) some);
      manifest = λ synced f g is_f is_g label listed new.
          subst (λ (l : Label). IsAlikeAt (IsMember (manifest_name stanza l)) d) (sym (newly_listed f g is_f is_g label listed new))
          (subst (λ (k : Text). IsAlikeAt (IsMember (manifest_name k draft.label)) d) stanza_is
          (manifest_lasts draft None links b d makes (members_synced (subst (λ (k : Text). IsSynced k b) (sym stanza_is) synced)) (some_of f is_f)));
    }

  module _ (links : List LinkState) (d : View) (mid last : ClockState) (lines : Text) where
    ended_lasts : (made : Result (Unit {0}) MakeFault) (result : Result Outcome (Halt BackupFault)) → IsEndWith draft lines made result → Makes made draft links b d → OnOk result (CopiesLast stanza b d)
    ended_lasts made result (Well u text shows) makes = made_lasts links d makes
    ended_lasts made result (Ill lost fault halt why) makes = tt

    pub finished_lasts : (result : Result Outcome (Halt BackupFault)) → Finishes draft lines links b d mid last result → OnOk result (CopiesLast stanza b d)
    finished_lasts result f = ended_lasts f.made result f.end f.outcome
