-- What one call's change means at the names that it doesn't speak of.
use Rattle.std.specs.Prelude.{◌≡◌, ◌≢◌, ◌⊎◌, ℕ, List, Option, Result, Some, None, Ok, Err, refl, option_map, take}
use Rattle.std.proofs.Common.{sym, ◌∙◌, ap, inl, inr, arith}
use Rattle.std.proofs.lemmas.Grind.{common_steps}
use Rattle.std.proofs.lemmas.Slice.Eq.{bytes_eq-Decides}
use Rattle.std.proofs.Common.{⊎_elim, ◌≤◌}
use Rattle.base_devices.specs.Moments.{View, IsImage, GrowsBy}
use Rattle.base_devices.specs.Content.{Name, Value, Content, put, lengthened, at, SameBut, Changes, Appends}

put_other : (name : Name) (v : Value) (f : Content) (q : Name) → q ≢ name → put name v f q ≡ f q
put_other name v f q apart = grind (arith, common_steps, bytes_eq-Decides name q)

pub same_put : (name : Name) (v : Value) (o : Option Content) → SameBut name o (option_map (put name v) o)
same_put name v None = λ q apart. refl
same_put name v (Some f) = λ q apart. ap (λ (x : Value). Some x) (put_other name v f q apart)

same_refl : (name : Name) (o : Option Content) → SameBut name o o
same_refl name o q apart = refl

pub same_changes : {T E : Type 0} (result : Result T E) (name : Name) (v : Value) (old new : Option Content) → Changes result (put name v) old new → SameBut name old new
same_changes (Ok x) name v old new is q apart = ap (at q) is ∙ same_put name v old q apart
same_changes (Err e) name v old new (inl is) q apart = ap (at q) is
same_changes (Err e) name v old new (inr is) q apart = ap (at q) is ∙ same_put name v old q apart

same_lengthened : (name : Name) (bytes : List ℕ) (o : Option Content) → SameBut name o (option_map (lengthened name bytes) o)
same_lengthened name bytes None q apart = refl
same_lengthened name bytes (Some f) q apart = ap (λ (x : Value). Some x) (put_other name _ f q apart)

pub same_appends : {T E : Type 0} (result : Result T E) (name : Name) (bytes : List ℕ) (old new : Option Content) → Appends result name bytes old new → SameBut name old new
same_appends (Ok x) name bytes old new is q apart = ap (at q) is ∙ same_lengthened name bytes old q apart
same_appends (Err e) name bytes old new (inl is) q apart = ap (at q) is
same_appends (Err e) name bytes old new (inr is) q apart = ap (at q) is.1 ∙ same_lengthened name (take is.0 bytes) old q apart

-- an image of a past moment is one that the disk had then
pub same_image : (A : Name → Value → Type 0) (L : Name → Type 0) (a b : View) (t : ℕ) (f : Content) → GrowsBy A L a b → t ≤ a.moment → IsImage b t f → IsImage a t f
same_image A L a b t f goes le image n = ⊎_elim (λ k. inl (goes.same t n (f n) le k)) (λ h. inr (sym (goes.same_unsynced t n le) ∙ h.0, h.1)) (image n)

either : (t b : ℕ) → (t ≤ b) ⊎ (b ≤ t)
either t b = grind arith

-- time that continues twice
pub goes_on : (A : Name → Value → Type 0) (L : Name → Type 0) (a b c : View) → GrowsBy A L a b → GrowsBy A L b c → GrowsBy A L a c
goes_on A L a b c p q = record {
  later = omega (arith, p.later, q.later);
  same = λ t n v le h. p.same t n v le (q.same t n v (omega (arith, le, p.later)) h);
  stays = λ t n v le h. q.stays t n v (omega (arith, le, p.later)) (p.stays t n v le h);
  same_unsynced = λ t n le. q.same_unsynced t n (omega (arith, le, p.later)) ∙ p.same_unsynced t n le;
  grows = λ t n v lo hi h. ⊎_elim
      (λ (le : t ≤ b.moment). p.grows t n v lo le (q.same t n v le h))
      (λ (ge : b.moment ≤ t). ⊎_elim (λ k. p.grows b.moment n v p.later (omega arith) k) (λ x. inr x) (q.grows t n v ge hi h))
      (either t b.moment);
  unsyncs = λ t n lo hi h. ⊎_elim
      (λ (le : t ≤ b.moment). p.unsyncs t n lo le (sym (q.same_unsynced t n le) ∙ h))
      (λ (ge : b.moment ≤ t). ⊎_elim (λ k. p.unsyncs b.moment n p.later (omega arith) k) (λ x. inr x) (q.unsyncs t n ge hi h))
      (either t b.moment);
}

-- a call that adds less
pub goes_wide : (A B : Name → Value → Type 0) (L M : Name → Type 0) (a b : View) → ((n : Name) (v : Value) → A n v → B n v) → ((n : Name) → L n → M n) → GrowsBy A L a b → GrowsBy B M a b
goes_wide A B L M a b f g p = record {
  later = p.later;
  same = p.same;
  stays = p.stays;
  same_unsynced = p.same_unsynced;
  grows = λ t n v lo hi h. ⊎_elim (λ k. inl k) (λ x. inr (f n v x)) (p.grows t n v lo hi h);
  unsyncs = λ t n lo hi h. ⊎_elim (λ k. inl k) (λ x. inr (g n x)) (p.unsyncs t n lo hi h);
}
