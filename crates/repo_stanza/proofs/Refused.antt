-- A version file that is refused refuses both files.
use Rattle.std.proofs.Common.{◌≡◌, ◌≤◌, length, Result, Err, IfErr, sym, subst}
use Rattle.base_model.specs.Text.{Text}
use Rattle.repo_stanza.specs.ControlFile.{IsVersionRefused, IsRefused}
use Rattle.repo_stanza.specs.declared.control.ControlFault.{ControlFault}
use Rattle.repo_stanza.specs.declared.control.ControlFault.TheVariants.{ControlShort, VersionText, VersionUnsupported}

with_version : (control version : Text) (e : ControlFault) → 16 ≤ length control → IsVersionRefused version e → IsRefused control version e
with_version control version (ControlShort n) long h = absurd h
with_version control version VersionText long h = (long, h)
with_version control version (VersionUnsupported n) long h = (long, h)

pub both_refused : {T : Type 0} (result : Result T ControlFault) (control version : Text) (e : ControlFault) → result ≡ Err e → 16 ≤ length control → IsVersionRefused version e → IfErr result (IsRefused control version)
both_refused result control version e is long h = subst (λ r. IfErr r (IsRefused control version)) (sym is) (with_version control version e long h)
