-- The names of the control file and of files with settings, and temporary ones.
use Rattle.std.proofs.Common.{ℕ, Bool, true, false, ◌||◌, ◌≡◌, ◌≢◌, refl, sym, ap, ◌∙◌, subst, arith, [], ◌∷◌, ◌++◌, length, length-append, bytes_eq}
use Rattle.std.proofs.lemmas.Slice.Eq.{bytes_eq-Decides}
use Rattle.std.specs.Prelude.{codes, if◌then◌else◌}
use Rattle.base_devices.specs.Crash.{IsTemporary}
use Rattle.restore_make.specs.Recovered.{LogFetch, Recovery, conf_path, signal_path}
use Rattle.restore_make.specs.Recovered.Recovery.{FromArchive, Nothing}
use Rattle.base_model.specs.Text.{Text}
use Rattle.restore_steps.specs.Clearing.{control_path}
use Rattle.restore_steps.specs.Files.{temporary_path}
use Rattle.restore_make.specs.Options.{is_added}

is_temporary : (p : Text) → IsTemporary (temporary_path p)
is_temporary p = record { prefix = p; is = refl }

pub lasts : (p q : Text) → ¬ IsTemporary q → q ≢ temporary_path p
lasts p q lasting e = lasting (subst IsTemporary (sym e) (is_temporary p))

pub not_temporary : (p : Text) → p ≢ temporary_path p
not_temporary p e = absurd (omega (arith, ap (λ (t : Text). length t) e, length-append p (codes ".pgbackrest.tmp")))

last_of : ℕ → Text → ℕ
last_of x [] = x
last_of x (y ∷ ys) = last_of y ys

last_at : (a : ℕ) (p : Text) (x : ℕ) (xs : Text) → last_of a (p ++ x ∷ xs) ≡ last_of x xs
unfolding last_of
last_at a [] x xs = refl
last_at a (y ∷ p) x xs = last_at y p x xs

-- a path with another last byte isn't a temporary one
ends_otherwise : (p q : Text) → last_of 0 q ≢ 112 → q ≢ temporary_path p
unfolding last_of
ends_otherwise p q off e = off (ap (last_of 0) e ∙ last_at 0 p 46 (codes "pgbackrest.tmp"))

pub control_lasts : (p : Text) → control_path ≢ temporary_path p
unfolding last_of
control_lasts p = ends_otherwise p control_path (λ e. let h : ◌≡◌ {A = ℕ} 108 112 = e in absurd (omega (arith, h)))

pub conf_lasts : (p : Text) → conf_path ≢ temporary_path p
unfolding last_of
conf_lasts p = ends_otherwise p conf_path (λ e. let h : ◌≡◌ {A = ℕ} 102 112 = e in absurd (omega (arith, h)))

-- of each of the two paths
pub by_signal : (P : Text → Type 0) (fetch : LogFetch) → P (codes "standby.signal") → P (codes "recovery.signal") → P (signal_path fetch)
by_signal P fetch standby recovers = go fetch.standby
  where
    go : (b : Bool) → P (if b then codes "standby.signal" else codes "recovery.signal")
    go true = standby
    go false = recovers

pub signal_lasts : (fetch : LogFetch) (p : Text) → signal_path fetch ≢ temporary_path p
unfolding last_of
signal_lasts fetch p = by_signal (λ t. t ≢ temporary_path p) fetch
    (ends_otherwise p (codes "standby.signal") (λ e. let h : ◌≡◌ {A = ℕ} 108 112 = e in absurd (omega (arith, h))))
    (ends_otherwise p (codes "recovery.signal") (λ e. let h : ◌≡◌ {A = ℕ} 108 112 = e in absurd (omega (arith, h))))

-- ---- the names of settings

pub not_equal : (p q : Text) → p ≢ q → bytes_eq p q ≡ false
not_equal p q off = by (bytes_eq p q) refl
  where
    by : (b : Bool) → bytes_eq p q ≡ b → b ≡ false
    by true is = absurd (off ((bytes_eq-Decides p q).0 is))
    by false is = refl

pub other_path : (p q : Text) → bytes_eq p q ≡ false → p ≢ q
other_path p q is e = let h : ◌≡◌ {A = Bool} false true = sym is ∙ (bytes_eq-Decides p q).1 e in cc

neither : (a b : Bool) → a ≡ false → b ≡ false → (a || b) ≡ false
neither true b x y = cc
neither false b x y = y

both_off : (a b : Bool) → (a || b) ≡ false → (a ≡ false) × (b ≡ false)
both_off true b e = cc
both_off false b e = (refl, e)

-- neither of the two
pub own_path : (fetch : LogFetch) (q : Text) → q ≢ conf_path → q ≢ signal_path fetch → is_added (FromArchive fetch) q ≡ false
own_path fetch q off_conf off_signal = neither (bytes_eq q conf_path) (bytes_eq q (signal_path fetch)) (not_equal q conf_path off_conf) (not_equal q (signal_path fetch) off_signal)

pub off_settings : (fetch : LogFetch) (q : Text) → is_added (FromArchive fetch) q ≡ false → (q ≢ conf_path) × (q ≢ signal_path fetch)
off_settings fetch q own = let h = both_off (bytes_eq q conf_path) (bytes_eq q (signal_path fetch)) own in (other_path q conf_path h.0, other_path q (signal_path fetch) h.1)

-- a temporary name has no settings
pub own_temporary : (r : Recovery) (p : Text) → is_added r (temporary_path p) ≡ false
own_temporary Nothing p = refl
own_temporary (FromArchive fetch) p = own_path fetch (temporary_path p) (λ e. conf_lasts p (sym e)) (λ e. signal_lasts fetch p (sym e))

first_of : Text → ℕ
first_of [] = 0
first_of (x ∷ xs) = x

pub conf_off : conf_path ≢ control_path
unfolding first_of
conf_off e = let h : ◌≡◌ {A = ℕ} 112 103 = ap first_of e in absurd (omega (arith, h))

pub signal_off : (fetch : LogFetch) → signal_path fetch ≢ control_path
unfolding first_of
signal_off fetch = by_signal (λ t. t ≢ control_path) fetch
    (λ e. let h : ◌≡◌ {A = ℕ} 115 103 = ap first_of e in absurd (omega (arith, h)))
    (λ e. let h : ◌≡◌ {A = ℕ} 114 103 = ap first_of e in absurd (omega (arith, h)))

pub no_signal : (fetch : LogFetch) (p : Text) → p ≢ codes "recovery.signal" → p ≢ codes "standby.signal" → p ≢ signal_path fetch
no_signal fetch p recovers standby = by_signal (λ t. p ≢ t) fetch standby recovers

pub own_control : (r : Recovery) → is_added r control_path ≡ false
own_control Nothing = refl
own_control (FromArchive fetch) = own_path fetch control_path (λ e. conf_off (sym e)) (λ e. signal_off fetch (sym e))
