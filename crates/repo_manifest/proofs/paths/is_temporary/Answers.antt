use Rattle.std.proofs.Common.{List, ℕ, IsTrue, codes, ◌-◌, length, take, Bool, true, false, refl}
use Rattle.std.specs.Prelude.{MatchBool, None}
use Rattle.std.specs.Str.Pattern.{HasSuffixMatch, FindsTextSuffix}
use Rattle.base_devices.specs.Crash.{IsTemporary}
use Rattle.repo_manifest.proofs.paths.is_temporary.Goals as goal

known : (r : Bool) (s : List ℕ) → MatchBool r (HasSuffixMatch (FindsTextSuffix (codes ".pgbackrest.tmp")) s) (FindsTextSuffix (codes ".pgbackrest.tmp") s None) → (IsTrue r → IsTemporary s) × (IsTemporary s → IsTrue r)
known true s h = (λ t. record { prefix = take (length s - h.0) s; is = h.1.1 }, λ t. refl)
known false s h = (λ t. cc t, λ t. absurd (h t.prefix t.is))

pub returns : goal.returns
returns c = known c.ends_with.result c.args.path.now c.ends_with.ensures.cases
