-- What an expiry may change, alone and after another command.
use Rattle.std.specs.Prelude.{◌≡◌, ◌⊎◌, ℕ, Option, None, Some}
use Rattle.base_devices.specs.Content.{Name, Content, at}
use Rattle.base_devices.specs.Moments.{View}
use Rattle.base_disk.specs.Store.{ChangesOnly}
use Rattle.base_model.specs.Text.{Text}
use Rattle.base_model.specs.Values.{ArchiveInfo, BackupInfo}
use Rattle.expire_rules.specs.declared.rules.Rules.{Rules}
use Rattle.expire_make.specs.Expiry.{IsTouchedBy, Touches, TouchesNow}
use Rattle.expire_make.specs.Losing.{MayExpire}
use Rattle.repo_stanza.specs.Judging.{HasList}
use Rattle.cmd_expire.specs.Pruning.{IsMoment, IsMomentIn}

-- What an expiry by these rules may change, after every answer and at each moment; least is the least second that the
-- clock may show as it begins.
pub record Expires (stanza : Text) (rules : Rules) (least : ℕ) (old new : View) : Type 0 where
  -- whatever the disk holds: the backup pair, folders of labels, and files of the archive that aren't histories of
  -- timelines
  pub only : ChangesOnly (MayExpire stanza) old new
  -- of these by the rules at some moment, and by the list that the two pairs have: no folder of a label that stays in
  -- it, and no file that the backups left need
  pub moment : ℕ
  pub may_be : IsMoment rules.full least moment
  pub touches : Touches stanza rules moment old new

-- what a disk holds changes by an expiry at some moment; the two are the least seconds that the clock may show before
-- and afterwards
abbrev pub ExpiresNow : Text → Rules → ℕ → ℕ → Option Content → Option Content → Type 0
ExpiresNow stanza rules first last old new = (moment : ℕ) × IsMomentIn rules.full first last moment
    × TouchesNow stanza rules moment old new

-- ---- after another command

-- that outside of some names nothing changes
abbrev pub Frame : Type 1
Frame = (Name → Type 0) → View → View → Type 0

-- What is changed by a command, which may change these names, and by an expiry after it by these rules; least is the
-- least second that the clock may show as the command begins.
pub record ChangesBoth (stanza : Text) (rules : Rules) (least : ℕ) (Outside : Frame) (these : Name → Type 0)
    (old new : View) : Type 0 where
  -- whatever the disk holds: no more than what each of the two may change
  pub only : Outside (λ n. these n ⊎ MayExpire stanza n) old new
  -- what the disk held as the expiry began: at each other name what it held before the command
  pub between : Option Content
  pub made : (n : Name) → ¬ these n → at n between ≡ at n old.now
  -- by the list that the two pairs had then
  pub moment : ℕ
  pub may_be : IsMoment rules.full least moment
  pub listed : (f : Content) (archive : ArchiveInfo) (list : BackupInfo) → between ≡ Some f
      → HasList stanza f archive list
      → Outside (λ n. these n ⊎ IsTouchedBy stanza rules moment archive list n) old new
  pub unlisted : (f : Content) → between ≡ Some f
      → ((archive : ArchiveInfo) (list : BackupInfo) → ¬ HasList stanza f archive list) → Outside these old new
  -- of what the disk held then the expiry has changed no more than it may, also of what the command may change
  pub expired : TouchesNow stanza rules moment between new.now

-- the same, where there are rules
abbrev pub ThenExpires : Option Rules → Text → ℕ → Frame → (Name → Type 0) → View → View → Type 0
ThenExpires None stanza least Outside these old new = Outside these old new
ThenExpires (Some rules) stanza least Outside these old new = ChangesBoth stanza rules least Outside these old new
