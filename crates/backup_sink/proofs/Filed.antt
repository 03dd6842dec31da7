-- A file that is stored by itself, among names that are durable.
use Rattle.std.proofs.Common.{◌≡◌, ◌≢◌, Bool, true, false, Option, Some, None, refl, sym, ◌∙◌, subst, ⊎_elim, arith}
use Rattle.std.proofs.lemmas.Slice.Eq.{bytes_eq-Decides}
use Rattle.std.specs.Prelude.{bytes_eq, IsSome}
use Rattle.base_devices.specs.Content.{Name, Value, Content, HasBytes, Holds, SameBut, at}
use Rattle.base_devices.specs.Moments.{View, GrowsBy, MayKeep, is_unsynced}
use Rattle.backup_sink.specs.Sealed.{IsSealed, IsSealedAt}
use Rattle.backup_sink.proofs.Synced.{stays}

-- what is known of a name alone
pub has_at : (o w : Option Content) (n : Name) → at n w ≡ at n o → HasBytes w n → HasBytes o n
has_at None None n e h = h
has_at None (Some g) n e h = let x : ◌≡◌ {A = Option Value} (Some (g n)) None = e in cc
has_at (Some f) None n e h = absurd h
has_at (Some f) (Some g) n e h = let same : g n ≡ f n = (let x : ◌≡◌ {A = Option Value} (Some (g n)) (Some (f n)) = e in cc) in subst (λ (v : Value). IsSome v) same h

pub holds_at : (o w : Option Content) (n : Name) (x : Value) → at n w ≡ at n o → Holds o n x → Holds w n x
holds_at None None n x e h = h
holds_at None (Some g) n x e h = absurd h
holds_at (Some f) None n x e h = let y : ◌≡◌ {A = Option Value} None (Some (f n)) = e in cc
holds_at (Some f) (Some g) n x e h = let same : g n ≡ f n = (let y : ◌≡◌ {A = Option Value} (Some (g n)) (Some (f n)) = e in cc) in h ∙ sym same

module _ (own : Name → Bool) (name : Name) (a b : View) (others : SameBut name a.now b.now) (time : GrowsBy (λ n _. n ≡ name) (λ n. n ≡ name) a b) (sealed : IsSealed own a) (here : IsSealedAt name b) where
  far : (n : Name) → bytes_eq n name ≡ false → n ≢ name
  far n is e = let x : ◌≡◌ {A = Bool} true false = sym ((bytes_eq-Decides n name).1 e) ∙ is in cc

  -- all of them are durable then
  pub sealed_more : IsSealed own b
  sealed_more = record {
    synced = λ n is has. synced (bytes_eq n name) n refl is has;
    only = λ n x is has may. only (bytes_eq n name) n x refl is has may;
  }
    where
      synced : (q : Bool) (n : Name) → bytes_eq n name ≡ q → own n ≡ true → HasBytes b.now n → is_unsynced b n ≡ false
      synced true n e is has = subst (λ (m : Name). is_unsynced b m ≡ false) (sym ((bytes_eq-Decides n name).0 e)) here.is_synced_at
      synced false n e is has = stays (λ n _. n ≡ name) (λ n. n ≡ name) a b n time (far n e) (sealed.synced n is (has_at a.now b.now n (others n (far n e)) has))

      only : (q : Bool) (n : Name) (x : Value) → bytes_eq n name ≡ q → own n ≡ true → HasBytes b.now n → MayKeep b n x → Holds b.now n x
      only true n x e is has may =
          let same = (bytes_eq-Decides n name).0 e in
          subst (λ (m : Name). Holds b.now m x) (sym same) (here.only_at x (subst (λ (m : Name). MayKeep b m x) same may))
      only false n x e is has may =
          let same = others n (far n e) in
          holds_at a.now b.now n x same (sealed.only n x is (has_at a.now b.now n same has)
          (⊎_elim (λ (k : MayKeep a n x). k) (λ (k : n ≡ name). absurd (far n e k)) (time.grows b.moment n x time.later (omega arith) may)))
