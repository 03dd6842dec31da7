-- What a fault of sections reports.
use Rattle.std.specs.Prelude.{◌≡◌, string_bytes}
use Rattle.base_model.specs.Text.{Text}
use Rattle.repo_keys.specs.declared.fault.PartsFault.{PartsFault}
use Rattle.repo_keys.specs.declared.fault.PartsFault.TheVariants.{Form, NoMemory as PartsNoMemory}

-- what holds of the section and the key, where the fault reports them
abbrev pub IfForm : PartsFault → (Text → Text → Type 0) → Type 0
IfForm (Form section key) P = P (string_bytes section) (string_bytes key)
IfForm PartsNoMemory P = Unit {0}

-- the key that the fault reports is in the section of this name, and this holds of it
abbrev pub IsFaultIn : Text → (Text → Type 0) → PartsFault → Type 0
IsFaultIn name IsWrong e = IfForm e (λ section key. (section ≡ name) × IsWrong key)
