-- In which seconds a running server's backup began and stopped.
use Rattle.std.proofs.Common.{◌≡◌, ◌∙◌, true, ℕ, List, Option, Result, Ok, Err, sym, subst, arith}
use Rattle.std.specs.Prelude.{◌≤◌, OnOk}
use Rattle.base_devices.specs.Links.{LinkState}
use Rattle.base_devices.specs.Moments.{View}
use Rattle.base_devices.specs.States.{ClockState, DiskState, ShowsSecond}
use Rattle.base_model.specs.Text.{Text}
use Rattle.archive_lookup.specs.Stored.{ChangesArchive}
use Rattle.archive_lookup.specs.Turns.{Account}
use Rattle.archive_wait.specs.TurnsDone.{TurnsDone}
use Rattle.backup_sink.specs.declared.keeper.EndedItem.{EndedItem}
use Rattle.backup_make.specs.declared.backup_close.Closed.{Closed}
use Rattle.backup_make.specs.declared.draft.Draft.{Draft}
use Rattle.backup_make.specs.declared.draft_jobs.Fetched.{Fetched}
use Rattle.backup_make.specs.Closing.{StopsShown}
use Rattle.backup_make.specs.Draft.{stanza_of}
use Rattle.backup_make.specs.Made.{MakesOf}
use Rattle.backup_make.specs.Online.{Online}
use Rattle.backup_make.specs.Staged.{IsClosedOf, IsStaged, closed_draft, closed_ends, closed_online, fetched_draft, fetched_ends}
use Rattle.backup_make.proofs.Parts.{published}
use Rattle.backup_make.proofs.Stages.{staged_still}
use Rattle.cmd_backup_online.specs.Running.{PublishesClosed}

-- a later state of the clock is as good
pub shown_on : (second : ℕ) (a b c : ClockState) → b.least ≤ c.least → ShowsSecond second a b → ShowsSecond second a c
shown_on second a b c on h = let left = h.least in record { later = h.later; in_range = h.in_range; least = omega (arith, left, on) }

-- it is listed, and stopped in a second that the clock showed
abbrev pub StoppedIn : Draft → Option Online → List LinkState → View → View → ClockState → ClockState → Type 0
StoppedIn d o links old new clock new_clock = (makes : MakesOf d o links true old new) × ShowsSecond makes.stop clock new_clock

-- the same for all that lies of it in its label's folder
abbrev pub StopsStaged : Draft → Option Online → List (List EndedItem) → View → View → ClockState → ClockState → Type 0
StopsStaged d o ends old new clock new_clock = (links : List LinkState) → IsStaged d o links ends old → StoppedIn d o links old new clock new_clock

-- as what was fetched and closed states it
module _ (d : Draft) (f : Fetched) (o : Option Online) (c : Closed) (of : fetched_draft f ≡ d) (closed : IsClosedOf f o c) (late last : ClockState) (shows : StopsShown late last c) (w e : DiskState) where
  stopped : PublishesClosed c w e → StopsStaged (closed_draft c) (closed_online c) (closed_ends c) w.view e.view late last
  stopped h links staged = let x = h links staged in (x.0, subst (λ (n : ℕ). ShowsSecond n late last) (sym x.1) shows)

  pub stops_staged : {T E : Type 0} (r : Result T E) → OnOk r (PublishesClosed c w e) → OnOk r (StopsStaged d o (fetched_ends f) w.view e.view late last)
  stops_staged (Ok x) h = published d f o c of closed (λ q y es. StopsStaged q y es w.view e.view late last) (stopped h)
  stops_staged (Err y) h = tt

-- what was staged before the wait stopped so
pub stops_following : {T E : Type 0} (r : Result T E) (stanza : Text) (d : Draft) → stanza_of d ≡ stanza → (o : Option Online) (now : List LinkState) (ends : List (List EndedItem)) (old : Option Account) (c w e spool spool2 : View) (late last : ClockState)
    → OnOk r (StopsStaged d o ends w e late last) → IsStaged d o now ends c → OnOk r ((k : Account) → k.stanza ≡ stanza → TurnsDone true old k c w spool spool2 → StoppedIn d o now w e late last)
stops_following (Ok x) stanza d stanza_is o now ends old c w e spool spool2 late last stops staged =
    λ k of went. stops now (staged_still d o c w (subst (λ (s : Text). ChangesArchive s c w) (of ∙ sym stanza_is) went.repo_only) now ends staged)
stops_following (Err y) stanza d stanza_is o now ends old c w e spool spool2 late last stops staged = tt
