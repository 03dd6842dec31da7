-- What kind of file a listed file is (pgBackRest command reference, "Backup").
use Rattle.std.specs.Prelude.{◌==◌, ◌+◌, ◌&&◌, ℕ, Bool, false, nat_lt, List, [], ◌∷◌, Option, Some, None, if◌then◌else◌, bytes_eq, codes}
use Rattle.base_model.specs.Text.{Text}
use Rattle.base_model.specs.Values.{FileEntry}
use Rattle.backup_plan.specs.declared.values.PlanSettings.{PlanSettings}
use Rattle.backup_plan.specs.declared.values.What.{What}
use Rattle.backup_plan.specs.declared.values.What.TheVariants.{Leave, Nothing, Single, Small, Control}

-- a listed file
pub record Taken : Type 0 where
  pub path : Text
  pub size : ℕ
  pub time : ℕ

-- the file that is copied last, and always
abbrev pub control_path : Text
control_path = codes "global/pg_control"

-- the entry of this path
abbrev pub entry_at : Text → List FileEntry → Option FileEntry
entry_at path [] = None
entry_at path (e ∷ es) = if bytes_eq e.path path then Some e else entry_at path es

-- The prior backup's file has the listed size, and is the listed one: by its digest, or by its time.
abbrev pub is_unchanged : Bool → Option FileEntry → Taken → Bool → Bool
is_unchanged delta None f equal = false
is_unchanged delta (Some e) f equal = e.size == f.size && (if delta then equal else e.time == f.time)

-- `old` is the prior backup's entry of its path; `equal` says that its digest is that entry's
abbrev pub what : PlanSettings → Option FileEntry → Taken → Bool → What
what s old f equal =
    if bytes_eq f.path control_path then Control
    else (if f.size == 0 then Nothing
    else (if is_unchanged s.delta old f equal then Leave
    else (if s.bundle && nat_lt f.size (s.bundle_limit + 1) then Small
    else Single)))
