-- What the proof of the stages needs of that. Own.
use Rattle.std.specs.Prelude.{◌≢◌, ◌≤◌, ◌⊎◌, ℕ, Option, refl}
use Rattle.std.proofs.Common.{inl, inr, subst, arith}
use Rattle.base_devices.specs.Content.{Content}
use Rattle.base_model.specs.Steps.{Reading}
use Rattle.base_model.specs.Text.{Text}
use Rattle.archive_store.specs.Still.{still_on}
use Rattle.cmd_restore.specs.declared.fault.RestoreCommandFault.{RestoreCommandFault}
use Rattle.cmd_restore.specs.declared.fault.RestoreCommandFault.TheVariants.{SetForm, TargetForm, Unchosen, Running, NotEmpty, ManifestDamaged, WorkersLost, Unread, FileDamaged}
use Rattle.restore_choice.specs.declared.fault.ChoiceFault.{ChoiceFault}
use Rattle.restore_choice.specs.declared.fault.ChoiceFault.TheVariants as choices
use Rattle.restore_choice.specs.Texts.{choice_status}
use Rattle.cmd_restore.specs.Texts.{restore_status}
use Rattle.cmd_trait.specs.Meaning.{IsLawful, apart, quiet_talk}
use Rattle.run_restore.specs.Restoring.{RestoreHow, LeavesWhole, restore_meaning}

-- a status of a refusal, none of a command that ended with findings, and none of a server's answer
abbrev IsOne : ℕ → Type 0
IsOne status = (2 ≤ status) × (status ≢ 65) × ((status ≤ 46) ⊎ (52 ≤ status))

choice_within : (fault : ChoiceFault) → IsOne (choice_status fault)
choice_within choices.NoBackup = (omega arith, λ e. absurd (omega (arith, e)), inr (omega arith))
choice_within (choices.SetMissing label) = (omega arith, λ e. absurd (omega (arith, e)), inr (omega arith))
choice_within (choices.HistoryMissing n) = (omega arith, λ e. absurd (omega (arith, e)), inr (omega arith))
choice_within (choices.HistoryForm n line) = (omega arith, λ e. absurd (omega (arith, e)), inr (omega arith))
choice_within (choices.HistoryLong name limit) = (omega arith, λ e. absurd (omega (arith, e)), inr (omega arith))
choice_within (choices.ManifestDamaged fault) = (omega arith, λ e. absurd (omega (arith, e)), inr (omega arith))
choice_within choices.TargetEarly = (omega arith, λ e. absurd (omega (arith, e)), inr (omega arith))

within : (fault : RestoreCommandFault) → IsOne (restore_status fault)
within SetForm = (omega arith, λ e. absurd (omega (arith, e)), inl (omega arith))
within TargetForm = (omega arith, λ e. absurd (omega (arith, e)), inl (omega arith))
within (Unchosen fault) = choice_within fault
within Running = (omega arith, λ e. absurd (omega (arith, e)), inl (omega arith))
within (NotEmpty path) = (omega arith, λ e. absurd (omega (arith, e)), inr (omega arith))
within (ManifestDamaged fault) = (omega arith, λ e. absurd (omega (arith, e)), inr (omega arith))
within (WorkersLost lost) = (omega arith, λ e. absurd (omega (arith, e)), inr (omega arith))
within (Unread path) = (omega arith, λ e. absurd (omega (arith, e)), inr (omega arith))
within (FileDamaged path known found) = (omega arith, λ e. absurd (omega (arith, e)), inr (omega arith))

pub restore_lawful : (set : Option Text) (how : RestoreHow) → IsLawful (restore_meaning set how)
restore_lawful set how = record {
  some = λ p old new same. tt;
  healed = λ p old new repo heals P h. h;
  more = λ p old new failed others to fault h. h;
  closes_more = λ p old new repo failed others to fault h. tt;
  arguments_closes = λ p old failed fault h. tt;
  repo_none = λ p least b k still. still;
  repo_on = λ p least b c k still h. still_on b c k still h;
  folder_none = λ p old. inl (inl refl);
  folder_on = λ p old repo nodes same h.
      subst (λ (r : Option Content). LeavesWhole p set how (record old { repo = r }) nodes) same h;
  others_none = λ p others. refl;
  turned_none = λ p old new n nodes same. (inl nodes, λ lost unread damaged. nodes);
  turned_on = λ p old new repo n same h. h;
  over = λ fault. (within fault).0;
  not_found = λ fault. (within fault).1;
  early = λ fault h. refl;
  no_control = λ none. refl;
  no_spool = λ none. refl;
  talk = λ p old new failed fault is same closes.
      quiet_talk old new failed (restore_status fault) (within fault).2 is same;
  there = λ p old new known turns P on. (Reading, refl, on Reading refl);
  through = λ is p old new. tt;
  opens_only = λ off. absurd (apart off);
  lasts_alone = λ off p nodes repo now_nodes outcome. absurd (apart off);
  acknowledges_on = λ p b c k read h. h;
}
