-- What a file's name and bytes say about its sum.
use Rattle.std.proofs.Common.{◌≡◌, Option, Some, None, true, false, refl, subst}
use Rattle.std.specs.Prelude.{IsSome, IsSomeAnd}
use Rattle.sha1.specs.Sha1.{sha1}
use Rattle.base_text.specs.Sum.{IsSum}
use Rattle.base_text.proofs.Digests.{IsSum-sha1}
use Rattle.base_model.specs.declared.wal.ArchiveName.{ArchiveName}
use Rattle.base_model.specs.declared.wal.ArchiveName.TheVariants.{Segment as Whole, Partial, History, Backup}
use Rattle.base_model.specs.Text.{Text}
use Rattle.archive_lookup.specs.Stored.{HasSum}
use Rattle.archive_lookup.specs.Paths.{has_sum}

pub summed_has : (name : ArchiveName) → has_sum name ≡ true → (v : Option Text) (sum : Text) → HasSum name v sum → IsSum sum × IsSome v
summed_has (Whole s) e v sum h = h
summed_has (Partial s) e v sum h = h
summed_has (History t) e v sum h = cc e
summed_has (Backup s n) e v sum h = cc e

pub has_summed : (name : ArchiveName) → has_sum name ≡ true → (v : Option Text) (sum : Text) → IsSum sum → IsSome v → HasSum name v sum
has_summed (Whole s) e v sum is some = (is, some)
has_summed (Partial s) e v sum is some = (is, some)
has_summed (History t) e v sum is some = cc e
has_summed (Backup s n) e v sum is some = cc e

pub unsummed_has : (name : ArchiveName) → has_sum name ≡ false → (v : Option Text) (sum : Text) → HasSum name v sum → IsSomeAnd v (λ bytes. sha1 bytes ≡ sum)
unsummed_has (Whole s) e v sum h = cc e
unsummed_has (Partial s) e v sum h = cc e
unsummed_has (History t) e v sum h = h
unsummed_has (Backup s n) e v sum h = h

pub has_own : (name : ArchiveName) (bytes : Text) → HasSum name (Some bytes) (sha1 bytes)
has_own (Whole s) bytes = (IsSum-sha1 bytes, refl)
has_own (Partial s) bytes = (IsSum-sha1 bytes, refl)
has_own (History t) bytes = refl
has_own (Backup s n) bytes = refl

some_of : (v : Option Text) (P : Text → Type 0) → IsSomeAnd v P → (bytes : Text) × (v ≡ Some bytes) × P bytes
some_of None P h = absurd h
some_of (Some bytes) P h = (bytes, refl, h)

some_text : (v : Option Text) → IsSome v → (bytes : Text) × (v ≡ Some bytes)
some_text None h = cc h
some_text (Some bytes) h = (bytes, refl)

of_bytes : (v : Option Text) (sum : Text) → IsSomeAnd v (λ bytes. sha1 bytes ≡ sum) → IsSum sum × ((bytes : Text) × (v ≡ Some bytes))
of_bytes v sum h = let x = some_of v (λ bytes. sha1 bytes ≡ sum) h in (subst IsSum x.2 (IsSum-sha1 x.0), (x.0, x.1))

-- what is stored has a sum, and bytes
pub stored_has : (name : ArchiveName) (v : Option Text) (sum : Text) → HasSum name v sum → IsSum sum × ((bytes : Text) × (v ≡ Some bytes))
stored_has (Whole s) v sum h = (h.0, some_text v h.1)
stored_has (Partial s) v sum h = (h.0, some_text v h.1)
stored_has (History t) v sum h = of_bytes v sum h
stored_has (Backup s n) v sum h = of_bytes v sum h
