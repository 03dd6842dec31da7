-- What can be decided of each can be decided of some.
use Rattle.std.proofs.Common.{◌≡◌, ◌⊎◌, ⊎_elim, inl, inr, ℕ, zero, suc, ◌<◌, ◌^◌, Bool, true, false, refl, sym, subst, ◌∙◌, arith, ap}
use Rattle.std.specs.Prelude.{bytes_eq}
use Rattle.std.proofs.lemmas.Slice.Eq.{bytes_eq-Decides}
use Rattle.base_model.specs.declared.wal.Segment.{Segment}
use Rattle.base_model.specs.declared.wal.ArchiveName.{ArchiveName}
use Rattle.base_model.specs.declared.wal.ArchiveName.TheVariants.{Segment as Whole, Partial, History, Backup}
use Rattle.base_model.specs.Text.{Text}
use Rattle.base_model.specs.InfoFiles.{IsSegment}
use Rattle.base_model.specs.Represents.{IsWalName}

-- it holds, or it doesn't
abbrev pub Decided : Type 0 → Type 0
Decided P = P ⊎ (P → ⊥)

-- it holds of one of them, or of none
abbrev pub SomeOrNone : {X : Type 0} → (X → Type 0) → Type 0
SomeOrNone {X} P = ((x : X) × P x) ⊎ ((x : X) → P x → ⊥)

pub same_text : (a b : Text) → Decided (a ≡ b)
same_text a b = go (bytes_eq a b) refl
  where
    go : (e : Bool) → bytes_eq a b ≡ e → Decided (a ≡ b)
    go true is = inl ((bytes_eq-Decides a b).0 is)
    go false is = inr (λ same. let u : ◌≡◌ {A = Bool} false true = sym is ∙ (bytes_eq-Decides a b).1 same in cc)

pub either_of : {P Q : Type 0} → Decided P → Decided Q → Decided (P ⊎ Q)
either_of (inl p) q = inl (inl p)
either_of (inr off) (inl q) = inl (inr q)
either_of (inr off) (inr never) = inr (λ x. ⊎_elim off never x)

pub both_of : {P Q : Type 0} → Decided P → Decided Q → Decided (P × Q)
both_of (inr off) q = inr (λ x. off x.0)
both_of (inl p) (inl q) = inl (p, q)
both_of (inl p) (inr off) = inr (λ x. off x.1)

below_or : (k n : ℕ) → k < suc n → (k < n) ⊎ (k ≡ n)
below_or zero zero lt = inr refl
below_or zero (suc n) lt = inl (omega arith)
below_or (suc k) zero lt = absurd (omega (arith, lt))
below_or (suc k) (suc n) lt = by (below_or k n (omega (arith, lt)))
  where
    by : (k < n) ⊎ (k ≡ n) → (suc k < suc n) ⊎ (suc k ≡ suc n)
    by (inl less) = inl (omega (arith, less))
    by (inr same) = inr (ap suc same)

-- of a number below a bound
pub some_below : (P : ℕ → Type 0) → ((k : ℕ) → Decided (P k)) → (n : ℕ) → SomeOrNone (λ (k : ℕ). (k < n) × P k)
some_below P each zero = inr (λ k x. omega (arith, x.0))
some_below P each (suc n) = ⊎_elim
    (λ (x : (k : ℕ) × ((k < n) × P k)). inl (x.0, (omega (arith, x.1.0), x.1.1)))
    (λ (never : (k : ℕ) → ((k < n) × P k) → ⊥). ⊎_elim
    (λ (p : P n). inl (n, (omega arith, p)))
    (λ (off : P n → ⊥). inr (λ k x.
    ⊎_elim (λ (lt : k < n). never k (lt, x.1)) (λ (e : k ≡ n). off (subst P e x.1)) (below_or k n x.0))) (each n))
    (some_below P each n)

pub as_decided : {X : Type 0} (P : X → Type 0) → SomeOrNone P → Decided ((x : X) × P x)
as_decided P (inl x) = inl x
as_decided P (inr never) = inr (λ x. never x.0 x.1)

-- ---- of the names of the log

-- the segment of these numbers
abbrev made : ℕ → ℕ → ℕ → Segment
made t l s = record { timeline = t; log = l; seg = s }

module _ (P : Segment → Type 0) (each : (s : Segment) → Decided (P s)) where
  -- one with this timeline and this log has it
  abbrev Last : ℕ → ℕ → Type 0
  Last t l = (s : ℕ) × ((s < 2 ^ 32) × P (made t l s))

  -- one with this timeline has it
  abbrev Middle : ℕ → Type 0
  Middle t = (l : ℕ) × ((l < 2 ^ 32) × Last t l)

  last : (t l : ℕ) → Decided (Last t l)
  last t l = as_decided (λ (s : ℕ). (s < 2 ^ 32) × P (made t l s))
      (some_below (λ s. P (made t l s)) (λ s. each (made t l s)) (2 ^ 32))

  middle : (t : ℕ) → Decided (Middle t)
  middle t = as_decided (λ (l : ℕ). (l < 2 ^ 32) × Last t l) (some_below (Last t) (last t) (2 ^ 32))

  some_segment : SomeOrNone (λ (s : Segment). IsSegment s × P s)
  some_segment = ⊎_elim
      (λ (x : (t : ℕ) × ((t < 2 ^ 32) × Middle t)).
      inl (
        made x.0 x.1.1.0 x.1.1.1.1.0,
        (record { timeline = x.1.0; log = x.1.1.1.0; seg = x.1.1.1.1.1.0 }, x.1.1.1.1.1.1),
      ))
      (λ (never : (t : ℕ) → ((t < 2 ^ 32) × Middle t) → ⊥). inr
      (λ s x. never s.timeline (x.0.timeline, (s.log, (x.0.log, (s.seg, (x.0.seg, x.1)))))))
      (some_below Middle middle (2 ^ 32))

module _ (P : ArchiveName → Type 0) (each : (name : ArchiveName) → Decided (P name)) where
  -- a name has it, or none has
  abbrev Named : Type 0
  Named = SomeOrNone (λ (name : ArchiveName). IsWalName name × P name)

  -- a backup's file of this segment has it
  abbrev Offset : Segment → Type 0
  Offset s = (n : ℕ) × ((n < 2 ^ 32) × P (Backup s n))

  offset : (s : Segment) → Decided (Offset s)
  offset s = as_decided (λ (n : ℕ). (n < 2 ^ 32) × P (Backup s n))
      (some_below (λ n. P (Backup s n)) (λ n. each (Backup s n)) (2 ^ 32))

  of_all : SomeOrNone (λ (s : Segment). IsSegment s × P (Whole s))
      → SomeOrNone (λ (s : Segment). IsSegment s × P (Partial s)) → SomeOrNone (λ (s : Segment). IsSegment s × Offset s)
      → SomeOrNone (λ (t : ℕ). (t < 2 ^ 32) × P (History t)) → Named
  of_all (inl x) p b h = inl (Whole x.0, (x.1.0, x.1.1))
  of_all (inr w) (inl x) b h = inl (Partial x.0, (x.1.0, x.1.1))
  of_all (inr w) (inr p) (inl x) h = inl (Backup x.0 x.1.1.0, ((x.1.0, x.1.1.1.0), x.1.1.1.1))
  of_all (inr w) (inr p) (inr b) (inl x) = inl (History x.0, (x.1.0, x.1.1))
  of_all (inr w) (inr p) (inr b) (inr h) = inr never
    where
      never : (name : ArchiveName) → IsWalName name × P name → ⊥
      never (Whole s) x = w s x
      never (Partial s) x = p s x
      never (Backup s n) x = b s (x.0.0, (n, (x.0.1, x.1)))
      never (History t) x = h t x

  pub some_name : SomeOrNone (λ (name : ArchiveName). IsWalName name × P name)
  some_name = of_all
      (some_segment (λ s. P (Whole s)) (λ s. each (Whole s)))
      (some_segment (λ s. P (Partial s)) (λ s. each (Partial s)))
      (some_segment Offset offset)
      (some_below (λ t. P (History t)) (λ t. each (History t)) (2 ^ 32))
