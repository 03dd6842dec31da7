-- What a rehearsal had done as one of its steps began.
use Rattle.std.proofs.Common.{◌≡◌, ◌*◌, inl, inr, ℕ, [], Option, Result, Ok, Err, arith, refl}
use Rattle.std.specs.Prelude.{true, IfOk, OnOk}
use Rattle.base_devices.specs.Content.{Content}
use Rattle.base_devices.specs.Cause.{Rises}
use Rattle.base_devices.specs.Moments.{View}
use Rattle.base_devices.specs.States.{DataFolderState, OnlyReadsFolder}
use Rattle.base_model.specs.Repository.{Backup}
use Rattle.base_model.specs.Now.{NowEffect}
use Rattle.base_model.specs.Steps.{Command, Then, Reading}
use Rattle.base_model.specs.Text.{Text}
use Rattle.cmd_types.specs.declared.stages.object.Object.{Object}
use Rattle.cmd_types.specs.declared.stages.halt.Halt.{Halt}
use Rattle.cmd_types.specs.declared.stages.halt.Halt.TheVariants.{Refused, Failed, NoMemory}
use Rattle.cmd_types.specs.Halts.{HaltCause}
use Rattle.base_devices.specs.DataFolder.{Nodes}
use Rattle.base_sample.specs.declared.folder.fault.FolderFault.{FolderFault}
use Rattle.base_sample.specs.declared.folder.fault.FolderFault.TheVariants as folders
use Rattle.base_sample.specs.Having.{FolderCause, IfFull}
use Rattle.cmd_rehearse.specs.declared.fault.StepFault.{StepFault}
use Rattle.cmd_rehearse.specs.declared.fault.RehearseFault.{RehearseFault}
use Rattle.cmd_rehearse.specs.declared.fault.RehearseFault.TheVariants.{StanzaExists, NotEmpty, Step}
use Rattle.cmd_rehearse.specs.Advancing.{Advances, Carries, Had}
use Rattle.cmd_rehearse.specs.Causes.{StepCause, PartCause, PushesCause, IsPrefix, Nothing, Pushing, PrefixCause, ExistsCause, RehearseCause, Fails}
use Rattle.cmd_rehearse.specs.Commands.{created, pushed, backed_up}
use Rattle.cmd_rehearse.specs.Faults.{of_folder, of_step}
use Rattle.cmd_rehearse.specs.Rehearsing.{IfEarly}
use Rattle.cmd_rehearse.proofs.Thens.{now_both}

pub reading_done : (stanza : Text) (now : Option Content) → NowEffect stanza Reading true now now
reading_done stanza now = record { known = λ some. some; does = λ r from some is. ([], refl, is) }

-- all of a command was done, and this holds after it
pub had_after : {T E : Type 0} (stanza : Text) (command : Command) (x : T) (a m : View) (P : Option Content → Type 0) → Advances {E = E} stanza command (Ok x) a m → P m.now → Had stanza command a.now P
had_after stanza command x a m P h p = record { now = m.now; done = h.whole.done; holds = p }

pub on_any : {T E : Type 0} (r : Result T E) (P : Type 0) → P → OnOk r P
on_any (Ok x) P p = p
on_any (Err e) P p = tt

module _ (stanza : Text) (number : ℕ) where
  -- nothing was done
  pub first_cause : (old : Option Content) (e : StepFault) → StepCause stanza old e → PrefixCause stanza number old e
  first_cause old e h = record { prefix = Reading; is = Nothing; had = record { now = old; done = reading_done stanza old; holds = h } }

module _ {T E : Type 0} (stanza : Text) (number : ℕ) (prefix : Command) (x : T) (a m : View) (does : Advances {E = E} stanza prefix (Ok x) a m) where
  -- these commands were done
  pub prefix_cause : IsPrefix number prefix → (e : StepFault) → StepCause stanza m.now e → PrefixCause stanza number a.now e
  prefix_cause is e h = record { prefix = prefix; is = is; had = record { now = m.now; done = does.whole.done; holds = h } }

  -- and a part of what follows
  pub after_cause : (command : Command) → IsPrefix number (Then prefix command) → (e : StepFault) → Had stanza command m.now (λ now. StepCause stanza now e) → PrefixCause stanza number a.now e
  after_cause command is e h = record {
    prefix = Then prefix command;
    is = is;
    had = record { now = h.now; done = now_both prefix command stanza a.now m.now h.now does.whole.done does.sound true h.done; holds = h.holds };
  }

  pub part_cause : (b : Backup) → IsPrefix number prefix → IsPrefix number (Then prefix (backed_up b)) → (e : StepFault) → PartCause stanza (backed_up b) m.now e → PrefixCause stanza number a.now e
  part_cause b is both e (inl h) = prefix_cause is e h
  part_cause b is both e (inr h) = after_cause (backed_up b) both e h

pub pushes_cause : {T E : Type 0} (stanza : Text) (number : ℕ) (x : T) (a m : View) → Advances {E = E} stanza created (Ok x) a m → (e : StepFault) → PushesCause stanza (2 * number) m.now e → PrefixCause stanza number a.now e
pushes_cause {E = E} stanza number x a m does e (k, le, h) = after_cause {E = E} stanza number created x a m does (pushed k) (Pushing k le) e h

-- after the last command
pub end_cause : {T E : Type 0} (stanza : Text) (number : ℕ) (prefix : Command) (x : T) (a m : View) → Carries {E = E} stanza prefix (Ok x) a m → IsPrefix number prefix → (e : StepFault) → StepCause stanza m.now e → PrefixCause stanza number a.now e
end_cause stanza number prefix x a m does is e h = record { prefix = prefix; is = is; had = record { now = m.now; done = does.whole.done; holds = h } }

pub none_pushed : (stanza : Text) (count : ℕ) (now : Option Content) (e : StepFault) → StepCause stanza now e → PushesCause stanza count now e
unfolding pushed
none_pushed stanza count now e h = (0, omega arith, record { now = now; done = reading_done stanza now; holds = h })

module _ (stanza : Text) (number : ℕ) where
  pub step_cause : (old : Option Content) (nodes : Option Nodes) (F : Object → Type 0) (h : Halt StepFault) → HaltCause (PrefixCause stanza number old) F h → HaltCause (RehearseCause stanza number old nodes) F (of_step h)
  step_cause old nodes F (Refused e) h = h
  step_cause old nodes F (Failed object) h = h
  step_cause old nodes F NoMemory h = tt

  -- ---- before the first step

  pub exists_cause : (old : Option Content) (nodes : Option Nodes) (e : RehearseFault) → ExistsCause stanza old e → RehearseCause stanza number old nodes e
  exists_cause old nodes (StanzaExists text) h = h
  exists_cause old nodes (NotEmpty path) h = absurd h.0
  exists_cause old nodes (Step fault) h = absurd h.0

  -- no cluster is made
  pub folder_fails : (old : Option Content) (nodes : Option Nodes) (a d t w x y : ℕ) (fault : FolderFault) → FolderCause nodes (Rises t w) fault → HaltCause (RehearseCause stanza number old nodes) (Fails a d t w x y) (of_folder fault)
  folder_fails old nodes a d t w x y (folders.NotEmpty path) h = h
  folder_fails old nodes a d t w x y folders.DataFolder h = h
  folder_fails old nodes a d t w x y folders.NoMemory h = tt

-- a folder that isn't empty is left unchanged
pub folder_stays : (old new : DataFolderState) (fault : FolderFault) → IfFull fault (OnlyReadsFolder old new) → IfEarly (new.nodes ≡ old.nodes) (of_folder fault)
folder_stays old new (folders.NotEmpty path) h = h.nodes
folder_stays old new folders.DataFolder h = tt
folder_stays old new folders.NoMemory h = tt

pub early_holds : (P : Type 0) → P → (h : Halt RehearseFault) → IfEarly P h
early_holds P p (Refused (StanzaExists text)) = p
early_holds P p (Refused (NotEmpty path)) = p
early_holds P p (Refused (Step fault)) = tt
early_holds P p (Failed object) = tt
early_holds P p NoMemory = tt

pub step_early : (P : Type 0) (h : Halt StepFault) → IfEarly P (of_step h)
step_early P (Refused e) = tt
step_early P (Failed object) = tt
step_early P NoMemory = tt
