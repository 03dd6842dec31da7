-- How a backup whose jobs are done is closed and published, and why it isn't. Own.
use Rattle.std.specs.Prelude.{◌≡◌, ℕ, List, None, Option, Some, Result, option_map, string_bytes}
use Rattle.base_devices.specs.Links.{LinkState}
use Rattle.base_devices.specs.States.{ClockState, DiskState, ShowsSecond}
use Rattle.base_model.specs.declared.files.FileEntry as rust_entry
use Rattle.base_model.specs.Values.{file_entry_of, manifest_of}
use Rattle.backup_record.specs.declared.manifest_record.Record.{Record}
use Rattle.backup_make.specs.declared.backup_close.Closed.{Closed}
use Rattle.backup_make.specs.declared.closing_record.Prepared.{Prepared}
use Rattle.backup_make.specs.declared.draft_jobs.Fetched.{Fetched}
use Rattle.backup_make.specs.declared.fault.MakeFault.{MakeFault}
use Rattle.backup_make.specs.declared.online.Online as rust_online
use Rattle.backup_make.specs.Draft.{manifest_for}
use Rattle.backup_make.specs.Faults.{CloseFails, PrepareFails, PublishFails}
use Rattle.backup_make.specs.Made.{OutcomeOf, StopsBy}
use Rattle.backup_make.specs.Online.{Online, label_entry}
use Rattle.backup_make.specs.Prepared.{Prepares}
use Rattle.backup_make.specs.Staged.{IsStaged, closed_draft, closed_ends, closed_online, fetched_draft, fetched_ends}

-- the label file in the manifest of a backup that stopped in this second, where a server ran
abbrev pub IsLabelOf : Option rust_online.Online → ℕ → Option rust_entry.FileEntry → Type 0
IsLabelOf online stop entry = option_map file_entry_of entry
    ≡ option_map (λ (x : rust_online.Online). label_entry (string_bytes x.label_file) stop) online

-- what lay of the draft in its label's folder lies there still, with the label file that the server reported
abbrev pub StagesLabel : Fetched → Online → DiskState → DiskState → Type 0
StagesLabel f o old new = (links : List LinkState)
    → IsStaged (fetched_draft f) None links (fetched_ends f) old.view
    → IsStaged (fetched_draft f) (Some o) links (fetched_ends f) new.view

-- it stopped in a second that the clock showed
abbrev pub StopsShown : ClockState → ClockState → Closed → Type 0
StopsShown known shows c = ShowsSecond c.stop known shows

-- why the stop isn't taken
abbrev pub EndingFails : DiskState → DiskState → ClockState → ClockState → MakeFault → Type 0
EndingFails old new known shows fault = CloseFails fault old.faults new.faults known.faults shows.faults

-- the record's manifest is that of the backup
abbrev pub RecordsClosed : Closed → Record → Type 0
RecordsClosed c r = manifest_of r.manifest ≡ manifest_for (closed_draft c) (closed_online c) (closed_ends c) c.stop

-- it is prepared, with the text of the list that has it
abbrev pub PreparesClosed : Closed → Prepared → Type 0
PreparesClosed c p =
    Prepares (closed_draft c) (closed_online c) (closed_ends c) c.stop (manifest_of p.manifest) p.text.items

abbrev pub PreparingFails : Closed → MakeFault → Type 0
PreparingFails c fault = PrepareFails fault (closed_draft c) (closed_online c) (closed_ends c)

-- It is listed at Ok, of what any links read of which all lies in its label's folder; else the list stays, or after
-- some faults it may be.
abbrev pub PublishesStaged : Closed → Result (Unit {0}) MakeFault → DiskState → DiskState → Type 0
PublishesStaged c result old new = (links : List LinkState)
    → IsStaged (closed_draft c) (closed_online c) links (closed_ends c) old.view
    → OutcomeOf result (closed_draft c) (closed_online c) links old.view new.view

-- the same, and it is listed with the second in which it was closed
abbrev pub PublishesAt : Closed → Result (Unit {0}) MakeFault → DiskState → DiskState → Type 0
PublishesAt c result old new = (links : List LinkState)
    → IsStaged (closed_draft c) (closed_online c) links (closed_ends c) old.view
    → (made : OutcomeOf result (closed_draft c) (closed_online c) links old.view new.view)
    × StopsBy (λ stop. stop ≡ c.stop) result (closed_draft c) (closed_online c) links old.view new.view made

-- why it isn't published
abbrev pub PublishingFails : Closed → DiskState → DiskState → MakeFault → Type 0
PublishingFails c old new fault =
    PublishFails fault (closed_draft c) (closed_online c) (closed_ends c) old.faults new.faults
