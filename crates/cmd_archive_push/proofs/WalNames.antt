-- The last element of a path, and what its name states.
use Rattle.std.proofs.Common.{◌≡◌, ◌≢◌, inl, inr, ℕ, suc, ◌<◌, [], ◌∷◌, ◌++◌, length, get_or, refl, sym, ◌∙◌, subst, arith}
use Rattle.std.specs.List.{AllByRecursion}
use Rattle.base_model.specs.declared.wal.ArchiveName.{ArchiveName}
use Rattle.base_model.specs.Text.{Text}
use Rattle.base_model.specs.Names.{wal_text}
use Rattle.archive_lookup.proofs.OnePath.{wal_injective}
use Rattle.cmd_archive_push.specs.WalPath.{IsLastElement, IsPathOf, IsWalPath}

-- ---- the last element

slash_in : (prefix last : Text) → AllByRecursion (λ c. c ≢ 47) (prefix ++ 47 ∷ last) → ⊥
slash_in [] last h = h.0 refl
slash_in (c ∷ prefix) last h = slash_in prefix last h.1

following : (prefix other a b : Text) → AllByRecursion (λ c. c ≢ 47) a → AllByRecursion (λ c. c ≢ 47) b
    → prefix ++ 47 ∷ a ≡ other ++ 47 ∷ b → a ≡ b
following [] [] a b p q e = cc
following [] (d ∷ other) a b p q e =
    absurd (slash_in other b (subst (AllByRecursion (λ c. c ≢ 47)) (let h : a ≡ other ++ 47 ∷ b = cc in h) p))
following (c ∷ prefix) [] a b p q e =
    absurd (slash_in prefix a (subst (AllByRecursion (λ c. c ≢ 47)) (let h : b ≡ prefix ++ 47 ∷ a = cc in h) q))
following (c ∷ prefix) (d ∷ other) a b p q e = following prefix other a b p q cc

-- a path has one last element
pub one_last : (path a b : Text) → IsLastElement path a → IsLastElement path b → a ≡ b
one_last path a b (p, inl e) (q, inl f) = sym e ∙ f
one_last path a b (p, inl e) (q, inr f) = absurd (slash_in f.0 b (subst (AllByRecursion (λ c. c ≢ 47)) (sym e ∙ f.1) p))
one_last path a b (p, inr e) (q, inl f) = absurd (slash_in e.0 a (subst (AllByRecursion (λ c. c ≢ 47)) (sym f ∙ e.1) q))
one_last path a b (p, inr e) (q, inr f) = following e.0 f.0 a b p q (sym e.1 ∙ f.1)

-- a text by its bytes
pub plain_by : (text : Text) → ((i : ℕ) → i < length text → get_or text i 0 ≢ 47) → AllByRecursion (λ c. c ≢ 47) text
plain_by [] h = tt
plain_by (c ∷ cs) h = (h 0 (omega arith), plain_by cs (λ i lt. h (suc i) (omega arith)))

-- a path that isn't that of its last element is that of no name
pub outside_all : (folder path last : Text) → IsLastElement path last → ¬ IsPathOf folder path last
    → (name : ArchiveName) → ¬ IsWalPath folder path name
outside_all folder path last is off name w =
    off (subst (IsPathOf folder path) (one_last path (wal_text name) last w.last is) w.lies)

-- a path names one file
pub one_name : (folder path : Text) (a b : ArchiveName) → IsWalPath folder path a → IsWalPath folder path b → a ≡ b
one_name folder path a b p q = wal_injective a b p.fits q.fits (one_last path (wal_text a) (wal_text b) p.last q.last)
