-- Of which commands the clauses of the top calls speak: each that the arguments ask for, or the one that is resolved.
-- Own.
use Rattle.std.specs.Prelude.{◌≡◌, ℕ, false, List, map, String, string_bytes, Option}
use Rattle.std.specs.declared.alloc.Global.{Global}
use Rattle.base_devices.specs.Content.{Content}
use Rattle.base_model.specs.Text.{Text}
use Rattle.cmd_types.specs.World.{World}
use Rattle.options_read.specs.declared.resolve.Command.{Command}
use Rattle.options_read.specs.Commands.{IsCommand}
use Rattle.options_read.specs.Settings.{Resolved}
use Rattle.program_run.specs.Asked.{Asked, asked, MayAsk, Asks}

-- ---- what a command doesn't use

-- no server
abbrev pub AsksNoServer : Asked → Type 0
AsksNoServer a = a.means.uses.server ≡ false

-- no workers
abbrev pub UsesNoWorkers : Asked → Type 0
UsesNoWorkers a = a.means.uses.workers ≡ false

-- neither the spool nor steps of other processes
abbrev pub UsesNoSpool : Asked → Type 0
UsesNoSpool a = a.means.uses.spool ≡ false

-- neither the data folder nor a lock
abbrev pub IsOnRepository : Asked → Type 0
IsOnRepository a = (a.means.plan.folder ≡ false) × (a.means.plan.backup_lock ≡ false)
    × (a.means.plan.archive_lock ≡ false)

-- ---- the command that is resolved

-- what its arguments say has this
abbrev pub OnResolved : {W : Type 0} → (W → World) → (Resolved → World → World → ℕ → Type 0) → Command → W → W → ℕ →
    Type 0
OnResolved known P command old new result = (s : Resolved) → IsCommand command s → P s (known old) (known new) result

-- where it asks for something of this kind, this holds
abbrev pub WhereResolved : Command → (Asked → Type 0) → Type 0 → Type 0
WhereResolved command P Q = (s : Resolved) → IsCommand command s → P (asked s) → Q

-- ---- the commands that the arguments ask for

-- the arguments have this, between what the objects reported before and what they report after it
abbrev pub OnArguments : {W : Type 0} → (W → World) → (List Text → World → World → ℕ → Type 0) → List (String Global) →
    W → W
    → ℕ → Type 0
OnArguments known P arguments old new result = P (map string_bytes arguments) (known old) (known new) result

-- each that they ask for has this
abbrev pub Each : List Text → Option Content → (Asked → Type 0) → Type 0
Each arguments files P = (s : Resolved) → Asks arguments files s → P (asked s)

-- so it is between what the objects reported before it and what they report after it
abbrev pub OnEach : {W : Type 0} → (W → World) → (Asked → World → World → Type 0) → List (String Global) → W → W
    → Type 0
OnEach known P arguments old new =
    Each (map string_bytes arguments) (known old).config.files (λ a. P a (known old) (known new))

-- where they ask for something of this kind, this is kept
abbrev pub KeptIf : {W : Type 0} → (W → World) → (Asked → Type 0) → List (String Global) → (W → W → Type 0) → W → W
    → Type 0
KeptIf known P arguments Keeps old new =
    Each (map string_bytes arguments) (known old).config.files (λ a. P a → Keeps old new)

-- where each that they may ask for, as far as the configuration is known, is of this kind, this is kept
abbrev pub IfAll : {W : Type 0} → (W → World) → (Asked → Type 0) → List (String Global) → (W → W → Type 0) → W → W
    → Type 0
IfAll known P arguments Keeps old new =
    ((s : Resolved) → MayAsk (map string_bytes arguments) (known old).config.files s → P (asked s)) → Keeps old new

-- they ask for nothing
abbrev pub NoneAsked : {W : Type 0} → (W → World) → List (String Global) → W → Type 0
NoneAsked known arguments old = (s : Resolved) → ¬ MayAsk (map string_bytes arguments) (known old).config.files s
