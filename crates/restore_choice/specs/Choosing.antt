-- Which backup is restored (pgBackRest command reference, "Restore Command", options "set", "target" and
-- "target-timeline"; PostgreSQL manual, "Recovery Target" and "Timelines").
use Rattle.std.specs.Prelude.{ℕ, ◌≡◌, ◌≢◌, ◌⊎◌, ◌<◌, ◌≤◌, ◌==◌, ◌&&◌, nat_le, List, [], ◌∷◌, ◌++◌, Bool, true, false, Option, Some, None, IsSomeAnd, string_bytes}
use Rattle.base_devices.specs.Content.{Content}
use Rattle.base_model.specs.declared.labels.Label.{Label}
use Rattle.base_model.specs.declared.wal.WalPart.{WalPart}
use Rattle.base_model.specs.Names.{label_text}
use Rattle.base_model.specs.Repository.{Backup, Stanza}
use Rattle.base_model.specs.Text.{Text, In}
use Rattle.base_model.specs.Values.{BackupInfo, Entry, Manifest}
use Rattle.restore_target.specs.declared.history.Ancestor.{Ancestor}
use Rattle.restore_choice.specs.declared.choice.Bounds.{Bounds}
use Rattle.restore_choice.specs.declared.choice.Choice.{Choice}
use Rattle.restore_choice.specs.declared.choice.Choice.TheVariants.{Labelled, Last}
use Rattle.restore_choice.specs.declared.choice.Deadline.{Deadline}
use Rattle.restore_choice.specs.declared.choice.Deadline.TheVariants.{Moment, Position}
use Rattle.restore_choice.specs.declared.fault.ChoiceFault.{ChoiceFault}
use Rattle.restore_choice.specs.declared.fault.ChoiceFault.TheVariants.{NoBackup, SetMissing, HistoryMissing, HistoryForm, HistoryLong, ManifestDamaged, TargetEarly}
use Rattle.restore_choice.specs.Ancestries.{HasAncestry, AncestryCause, IsAncestryOf}
use Rattle.restore_choice.specs.Loading.{HasManifest, LoadCause}
use Rattle.restore_choice.specs.Views.{Ancestry}

-- the last backup, whichever that is
abbrev pub unbounded : Bounds
unbounded = record { deadline = None; timeline = None }

-- ---- with which backups a recovery can begin

-- of a moment, the backup had ended before; a position says nothing of its time
abbrev pub EndedBefore : Option Deadline → ℕ → Type 0
EndedBefore (Some (Moment second)) stop = stop < second
EndedBefore other stop = Unit {0}

-- of a position, the backup has a part of the log, which ends there or before; a moment says nothing of it
abbrev pub LogEndsBy : Option Deadline → Option WalPart → Type 0
LogEndsBy (Some (Position at)) log = IsSomeAnd log (λ (w : WalPart). w.to.0 ≤ at.0)
LogEndsBy other log = Unit {0}

-- the part of the log ends on one of these timelines, at the position where that was left, or before
abbrev pub IsOnAncestor : List Ancestor → WalPart → Type 0
IsOnAncestor ancestors w =
    (a : Ancestor) × In a ancestors × (a.timeline ≡ w.span.stop.timeline) × (w.to.0 ≤ a.until.0)

-- the backup has a part of the log, which ends on the timeline that is asked for, or on one that this goes back to
abbrev pub IsOn : Option Ancestry → Option WalPart → Type 0
IsOn None log = Unit {0}
IsOn (Some line) log =
    IsSomeAnd log (λ (w : WalPart). (w.span.stop.timeline ≡ line.timeline) ⊎ IsOnAncestor line.ancestors w)

-- what is asked of a backup's part of the log
abbrev pub LogFits : Option Deadline → Option Ancestry → Option WalPart → Type 0
LogFits deadline line log = LogEndsBy deadline log × IsOn line log

-- a recovery can begin with a backup that ended at this second and has this part of the log
abbrev pub Qualifies : Option Deadline → Option Ancestry → ℕ → Option WalPart → Type 0
Qualifies deadline line stop log = EndedBefore deadline stop × LogFits deadline line log

-- the test of one of those timelines
abbrev pub is_within : WalPart → Ancestor → Bool
is_within w a = (a.timeline == w.span.stop.timeline) && nat_le w.to.0 a.until.0

-- ---- in a stanza

-- the last of the backups that qualifies
abbrev pub IsLastOf : Option Deadline → Option Ancestry → List Backup → Backup → Type 0
IsLastOf deadline line backups b = (front : List Backup) × (back : List Backup) × (backups ≡ front ++ b ∷ back)
    × Qualifies deadline line b.entry.stop b.wal
    × ((c : Backup) → In c back → ¬ Qualifies deadline line c.entry.stop c.wal)

-- the backup of the label that is asked for; or the last one that qualifies
abbrev pub IsChosenOf : Choice → Stanza → Backup → Type 0
IsChosenOf (Labelled asked) s b = In b s.backups × (b.entry.label ≡ asked)
IsChosenOf (Last bounds) s b =
    (line : Option Ancestry) × IsAncestryOf s bounds.timeline line × IsLastOf bounds.deadline line s.backups b

-- ---- in what a disk holds

-- a backup's part of the log has to be known: there is a position, or a timeline
abbrev pub needs_log : Option Deadline → Option Ancestry → Bool
needs_log (Some (Position at)) line = true
needs_log deadline (Some a) = true
needs_log deadline None = false

-- f has the manifest of the label, and this holds of the part of the log that it states
abbrev pub OfManifest : Text → Content → Label → (Option WalPart → Type 0) → Type 0
OfManifest stanza f label P = (m : Manifest) × HasManifest stanza label m f × P m.wal

-- a recovery can begin with the listed backup, by its manifest where that is needed
abbrev pub QualifiesOn : Text → Content → Option Deadline → Option Ancestry → Entry → Type 0
QualifiesOn stanza f deadline line e = EndedBefore deadline e.stop
    × (needs_log deadline line ≡ true → OfManifest stanza f e.label (LogFits deadline line))

-- it can't: the backup had ended too late, or its manifest says so
abbrev pub IsExcludedOn : Text → Content → Option Deadline → Option Ancestry → Entry → Type 0
IsExcludedOn stanza f deadline line e = ¬ EndedBefore deadline e.stop
    ⊎ ((needs_log deadline line ≡ true) × OfManifest stanza f e.label (λ log. ¬ LogFits deadline line log))

-- the backup is listed, and a recovery can begin with none of those after it
abbrev pub IsReached : Text → Content → Option Deadline → Option Ancestry → List Entry → Entry → Type 0
IsReached stanza f deadline line entries e =
    (front : List Entry) × (back : List Entry) × (entries ≡ front ++ e ∷ back)
    × ((d : Entry) → In d back → IsExcludedOn stanza f deadline line d)

-- the last listed backup that qualifies
abbrev pub IsLastOn : Text → Content → Option Deadline → Option Ancestry → List Entry → Entry → Type 0
IsLastOn stanza f deadline line entries e =
    IsReached stanza f deadline line entries e × QualifiesOn stanza f deadline line e

-- the list has a backup of this label
abbrev pub Lists : BackupInfo → Label → Type 0
Lists v label = (e : Entry) × In e v.backups × (e.label ≡ label)

-- this holds of what a choice of the last one asks for
abbrev pub OnLast : Text → Content → Choice → (Option Deadline → Option Ancestry → Type 0) → Type 0
OnLast stanza f choice P = (bounds : Bounds) × (choice ≡ Last bounds)
    × ((line : Option Ancestry) × HasAncestry stanza f bounds.timeline line × P bounds.deadline line)

-- the label is the one that is asked for, and the list has it; or it is that of the last listed backup that qualifies
abbrev pub IsChosen : Text → Choice → Content → BackupInfo → Label → Type 0
IsChosen stanza (Labelled asked) f v label = (label ≡ asked) × Lists v label
IsChosen stanza (Last bounds) f v label = (line : Option Ancestry) × HasAncestry stanza f bounds.timeline line
    × ((e : Entry) × IsLastOn stanza f bounds.deadline line v.backups e × (e.label ≡ label))

-- ---- why none is chosen

-- the refusal reports this label
abbrev pub ShowsMissing : Label → ChoiceFault → Type 0
ShowsMissing label (SetMissing text) = string_bytes text ≡ label_text label
ShowsMissing label other = ⊥

-- what the timeline that is asked for goes back to isn't known
abbrev pub LineCause : Text → Content → Choice → ChoiceFault → Type 0
LineCause stanza f choice fault =
    (bounds : Bounds) × (choice ≡ Last bounds) × AncestryCause stanza f bounds.timeline fault

abbrev pub ChooseCause : Text → Choice → Content → BackupInfo → ChoiceFault → Type 0
ChooseCause stanza choice f v NoBackup = v.backups ≡ []
ChooseCause stanza choice f v (SetMissing text) = (v.backups ≢ [])
    × ((asked : Label) × (choice ≡ Labelled asked) × (string_bytes text ≡ label_text asked) × ¬ Lists v asked)
ChooseCause stanza choice f v (HistoryMissing timeline) =
    (v.backups ≢ []) × LineCause stanza f choice (HistoryMissing timeline)
ChooseCause stanza choice f v (HistoryForm timeline line) =
    (v.backups ≢ []) × LineCause stanza f choice (HistoryForm timeline line)
ChooseCause stanza choice f v (HistoryLong name limit) =
    (v.backups ≢ []) × LineCause stanza f choice (HistoryLong name limit)
ChooseCause stanza choice f v (ManifestDamaged fault) = OnLast stanza f choice (λ deadline line.
    (e : Entry) × IsReached stanza f deadline line v.backups e × EndedBefore deadline e.stop
    × (needs_log deadline line ≡ true) × LoadCause stanza e.label (Some f) fault)
ChooseCause stanza choice f v TargetEarly = (v.backups ≢ []) × OnLast stanza f choice (λ deadline line.
    (e : Entry) → In e v.backups → IsExcludedOn stanza f deadline line e)
