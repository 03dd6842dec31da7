-- What the disk holds, call by call.
use Rattle.std.specs.Prelude.{◌≡◌, List, ◌++◌, Option, Some, None, IsSome, refl}
use Rattle.std.proofs.Common.{sym, ◌∙◌, subst}
use Rattle.base_devices.specs.Content.{Content}
use Rattle.base_devices.specs.Crash.{NowChanges, Write, AllOf, FirstOf, SomeOf}
use Rattle.base_devices.proofs.Crashes.{all_all, all_first, first_first, first_none, some_some, unknown, Step}

-- a content that is known
pub known_as : (o : Option Content) → IsSome o → (f : Content) × (o ≡ Some f)
known_as None some = cc
known_as (Some f) some = (f, refl)

-- from one Step to another after it
pub now_on : (S T U : Step) (a b c : Option Content) → NowChanges S a b → NowChanges T b c → ((f g h : Content) → S f g → T g h → U f h) → NowChanges U a c
now_on S T U a b c p q both = record {
  known = λ s. q.known (p.known s);
  goes = λ f h is is'. let s : IsSome a = subst (λ (o : Option Content). IsSome o) (sym is) refl in
      let g = known_as b (p.known s) in both f g.0 h (p.goes f g.0 is g.1) (q.goes g.0 h g.1 is');
}

-- some writes, then some more
pub now_writes_on : (vs ws : List Write) (a b c : Option Content) → NowChanges (AllOf vs) a b → NowChanges (FirstOf ws) b c → NowChanges (FirstOf (vs ++ ws)) a c
now_writes_on vs ws a b c p q = now_on (AllOf vs) (FirstOf ws) (FirstOf (vs ++ ws)) a b c p q (all_first vs ws)

pub now_writes_end : (vs ws : List Write) (a b c : Option Content) → NowChanges (AllOf vs) a b → NowChanges (AllOf ws) b c → NowChanges (AllOf (vs ++ ws)) a c
now_writes_end vs ws a b c p q = now_on (AllOf vs) (AllOf ws) (AllOf (vs ++ ws)) a b c p q (all_all vs ws)

-- fewer writes than might have been
pub now_writes_part : (vs ws : List Write) (a b : Option Content) → NowChanges (FirstOf vs) a b → NowChanges (FirstOf (vs ++ ws)) a b
now_writes_part vs ws a b p = record { known = p.known; goes = λ f g is is'. first_first vs ws f g (p.goes f g is is') }

some_is : (f g : Content) (o : Option Content) → o ≡ Some f → o ≡ Some g → f ≡ g
some_is f g o is is' = let e : ◌≡◌ {A = Option Content} (Some f) (Some g) = sym is ∙ is' in cc

-- nothing was written
pub now_none : (ws : List Write) (a b : Option Content) → b ≡ a → NowChanges (FirstOf ws) a b
now_none ws a b same = record {
  known = λ s. subst (λ (o : Option Content). IsSome o) (sym same) s;
  goes = λ f g is is'. subst (λ (h : Content). FirstOf ws f h) (some_is f g a is (sym same ∙ is')) (first_none ws f);
}

pub now_somes_on : (vs ws : List Write) (a b c : Option Content) → NowChanges (SomeOf vs) a b → NowChanges (SomeOf ws) b c → NowChanges (SomeOf (vs ++ ws)) a c
now_somes_on vs ws a b c p q = now_on (SomeOf vs) (SomeOf ws) (SomeOf (vs ++ ws)) a b c p q (some_some vs ws)

-- the same, by a wider Step
pub now_as : (S T : Step) (a b : Option Content) → ((f g : Content) → S f g → T f g) → NowChanges S a b → NowChanges T a b
now_as S T a b wider p = record { known = p.known; goes = λ f g is is'. wider f g (p.goes f g is is') }

-- the disk holds what it held
pub now_rests : (S : Step) (a b : Option Content) → ((f : Content) → S f f) → b ≡ a → NowChanges S a b
now_rests S a b every same = record {
  known = λ s. subst (λ (o : Option Content). IsSome o) (sym same) s;
  goes = λ f g is is'. subst (λ (h : Content). S f h) (some_is f g a is (sym same ∙ is')) (every f);
}

-- what it held isn't known
pub now_unknown : (S : Step) (a b : Option Content) → a ≡ None → NowChanges S a b
now_unknown S a b none = record {
  known = λ s. absurd (unknown a none s);
  goes = λ f g is is'. absurd (unknown a none (subst (λ (o : Option Content). IsSome o) (sym is) refl));
}
