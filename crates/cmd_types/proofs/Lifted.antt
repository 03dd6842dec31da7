-- From what a command's own part does to what the command does.
use Rattle.std.proofs.Common.{◌≡◌, ◌⊎◌, ⊎_elim, inl, inr, ℕ, ◌≤◌, List, [], ◌∷◌, Option, refl, ◌∙◌, sym, subst, arith, Bool, true, false}
use Rattle.std.specs.Prelude.{IsSome}
use Rattle.base_devices.specs.Content.{Content, Name}
use Rattle.base_devices.specs.Moments.{View, LeavesNoMore, IsImage, is_unsynced}
use Rattle.base_devices.specs.Crash.{Leaves}
use Rattle.base_devices.proofs.Nows.{known_as}
use Rattle.base_model.specs.Text.{Text}
use Rattle.base_model.specs.Names.{receipt_name}
use Rattle.base_model.specs.Repository.{Repository, IsSound}
use Rattle.base_model.specs.Represents.{Represents}
use Rattle.base_model.specs.Steps.{Step, Command, Reading, after, all_of, steps_of}
use Rattle.base_model.specs.Log.{Done, Reaches, RepresentsAfter, KeepsRepository, KeepsSpool, Keeps}
use Rattle.base_model.specs.Now.{NowRepresents, NowEffect}
use Rattle.base_model.specs.Steady.{IsSteady, LeavesOnly, CarriesOn}
use Rattle.base_model.specs.Walks.{Walks, RepresentsStill}
use Rattle.base_model.proofs.Done.{part_none}
use Rattle.base_model.proofs.Each.{keeps_synced, keeps_now}
use Rattle.base_model.proofs.Logged.{rests_still}
use Rattle.base_model.proofs.Walking.{steady_synced}
use Rattle.archive_store.specs.Still.{rests_none}
use Rattle.base_crash_lists.specs.Trace.{HasReceiptsOf}
use Rattle.base_crash_lists.proofs.Stays.{rests_beside, beside_on}
use Rattle.cmd_types.specs.declared.stages.plan.SyncScope.{SyncScope}
use Rattle.cmd_types.specs.declared.stages.plan.SyncScope.TheVariants.{Whole, Looked}
use Rattle.cmd_types.specs.DisksEffect.{Reached, to_end, turned_back, stopped, OnAll, OnNone, OnWhole, turns_of, IsPart, IsWhole, PartEach, WholeEach, PairAlike, IsLookedAt, Goes, Comes, DoesPart, RepoEffect, RunsPart, RunsWhole, DisksEffect, Past, Passes, Leads, Takes, Quiet, HealsPair, Begins, Manner, each, one, provided, On, EndsAtOne, SpoolEffect, BeginsWith, PassesReceipts, DoesWhole}

pub all_as : (reached : Reached) (P Q : Type 0) → (P → Q) → OnAll reached P → OnAll reached Q
all_as to_end P Q to h = to h
all_as turned_back P Q to h = tt
all_as stopped P Q to h = tt

pub none_as : (reached : Reached) (P Q : Type 0) → (P → Q) → OnNone reached P → OnNone reached Q
none_as to_end P Q to h = tt
none_as turned_back P Q to h = to h
none_as stopped P Q to h = tt

pub on_as : (m : Manner) (P Q : Command → Type 0) → ((command : Command) → P command → Q command) → On m P → On m Q
on_as (each Is) P Q to h = λ command is. to command (h command is)
on_as (one Is) P Q to h = (h.0, h.1, to h.0 h.2)
on_as (provided known Is) P Q to h = λ is. let x = h is in (x.0, x.1, to x.0 x.2)

on_some : (a b : Option Content) → b ≡ a → IsSome a → IsSome b
on_some a b same some = subst (λ (o : Option Content). IsSome o) (sym same) some

stays_at : (stanza : Text) (old new : Option Content) → NowEffect stanza Reading true old new → (r : Repository) → IsSome old → NowRepresents stanza r old → NowRepresents stanza r new
stays_at stanza old new h r some now = let x = h.does r tt some now in subst (λ (done : List Step). NowRepresents stanza (after r done) new) x.1 x.2

either : (t s : ℕ) → (t ≤ s) ⊎ (s ≤ t)
either t s = grind arith

-- ---- calls that only read

image_back : (a b : View) → LeavesNoMore a b → (t : ℕ) → a.moment ≤ t → t ≤ b.moment → (f : Content) → IsImage b t f → IsImage a a.moment f
image_back a b rests t lo hi f image n = ⊎_elim
    (λ k. ⊎_elim (λ o. inl o) (λ x. absurd x) (rests.grows t n (f n) lo hi k))
    (λ l. ⊎_elim (λ o. inr (o, l.1)) (λ x. absurd x) (rests.unsyncs t n lo hi l.0)) (image n)

leaves_back : (a b : View) → LeavesNoMore a b → b.now ≡ a.now → (t : ℕ) → a.moment ≤ t → t ≤ b.moment → (f : Content) → Leaves b t f → Leaves a a.moment f
leaves_back a b rests same t lo hi f (inl now) = inl (sym same ∙ now)
leaves_back a b rests same t lo hi f (inr image) = inr (image_back a b rests t lo hi f image)

false_or : (x y : Bool) → (y ≡ true → (x ≡ true) ⊎ ⊥) → x ≡ false → y ≡ false
false_or x true h is = ⊎_elim (λ (e : x ≡ true). let c : ◌≡◌ {A = Bool} true false = sym e ∙ is in cc) (λ (e : ⊥). absurd e) (h refl)
false_or x false h is = refl

is_synced_at : (a b : View) → LeavesNoMore a b → (n : Name) → is_unsynced a n ≡ false → is_unsynced b n ≡ false
is_synced_at a b rests n is = false_or (is_unsynced a n) (is_unsynced b n) (λ l. rests.unsyncs b.moment n rests.later (omega arith) l) is

rests_past : (a b : View) → LeavesNoMore a b → Past a b
rests_past a b rests = record { later = rests.later; kept = rests.same; unsynced = rests.same_unsynced }

pub spool_rests : (stanza : Text) (q : Repository) (log : List Done) (a b : View) → LeavesNoMore a b → b.now ≡ a.now → KeepsSpool stanza q log a → KeepsSpool stanza q log b
spool_rests stanza q log a b rests same keeps = record {
  fixed = λ name fits. is_synced_at a b rests (receipt_name stanza name) (keeps.fixed name fits);
  receipts = λ f leaves. keeps.receipts f (leaves_back a b rests same b.moment rests.later (omega arith) f leaves);
}

past_past : (a b c : View) → Past a b → Past b c → Past a c
past_past a b c p q = record {
  later = omega (arith, p.later, q.later);
  kept = λ t n v le k. p.kept t n v le (q.kept t n v (omega (arith, le, p.later)) k);
  unsynced = λ t n le. q.unsynced t n (omega (arith, le, p.later)) ∙ p.unsynced t n le;
}

-- an image of an earlier moment was one then
image_past : (a b : View) → Past a b → (t : ℕ) → t ≤ a.moment → (f : Content) → IsImage b t f → IsImage a t f
image_past a b past t le f image n = ⊎_elim (λ k. inl (past.kept t n (f n) le k)) (λ l. inr (sym (past.unsynced t n le) ∙ l.0, l.1)) (image n)

-- two stretches of time one after the other
leaves_then : (P : Content → Type 0) (a b c : View) → Past a b → Past b c → LeavesOnly P a b → LeavesOnly P b c → LeavesOnly P a c
leaves_then P a b c p q first next t f lo hi (inl now) = next c.moment f q.later (omega arith) (inl now)
leaves_then P a b c p q first next t f lo hi (inr image) = ⊎_elim
    (λ (le : t ≤ b.moment). first t f lo le (inr (image_past b c q t le f image)))
    (λ (ge : b.moment ≤ t). next t f ge hi (inr image))
    (either t b.moment)

-- ---- nothing was done

module _ (stanza : Text) (command : Command) (q : Repository) (log : List Done) where
  abbrev undone : Done
  undone = record { command = command; acknowledged = false }

  still_after : (f : Content) → RepresentsAfter stanza q log f → RepresentsAfter stanza q (undone ∷ log) f
  still_after f s = record { repository = s.repository; reached = (s.repository, s.reached, ([], refl, part_none (steps_of command s.repository))); sound = s.sound; represents = s.represents }

  still_keeps : (v : View) → KeepsRepository stanza q log v → KeepsRepository stanza q (undone ∷ log) v
  still_keeps v k = record { fixed = k.fixed; places = k.places; represents = λ f leaves. still_after f (k.represents f leaves) }

  still_spool : (v : View) → KeepsSpool stanza q log v → KeepsSpool stanza q (undone ∷ log) v
  still_spool v k = record {
    fixed = k.fixed;
    receipts = λ f leaves name sum fits has. let x = k.receipts f leaves name sum fits has in (x.0, (x.0, x.1, ([], refl, part_none (steps_of command x.0))), x.2);
  }

-- nothing was done, or only was read
pub rests_quiet : (stanza : Text) (a b : View) → LeavesNoMore a b → b.now ≡ a.now → Quiet stanza a b
rests_quiet stanza a b rests same = record {
  now = record { known = λ some. on_some a.now b.now same some; does = λ r from some now. ([], refl, subst (λ (o : Option Content). NowRepresents stanza r o) (sym same) now) };
  beside = rests_beside stanza a b rests same;
  keeps = λ q log some keeps. rests_still stanza q log a b rests same keeps;
  between = λ q log some keeps. (rests_past a b rests, λ t f lo hi leaves. keeps.represents f (leaves_back a b rests same t lo hi f leaves));
}

pub still_quiet : (stanza : Text) (v : View) → Quiet stanza v v
still_quiet stanza v = rests_quiet stanza v v (rests_none v) refl

-- one stage, and then the pairs are read or healed
module _ (stanza : Text) (a b c : View) (first : Quiet stanza a b) (paired : (q : Repository) (log : List Done) → KeepsRepository stanza q log a → IsSome a.now → PairAlike stanza b) (heals_pair : HealsPair stanza b c) where
  module _ (q : Repository) (log : List Done) (some : IsSome a.now) (keeps : KeepsRepository stanza q log a) where
    kept : KeepsRepository stanza q log b
    kept = first.keeps q log some keeps

    still : (f g : Content) → Leaves b b.moment f → RepresentsStill stanza f g → RepresentsAfter stanza q log g
    still f g at represents = let s = kept.represents f at in record { repository = s.repository; reached = s.reached; sound = s.sound; represents = represents s.repository s.represents }

    walked : Walks stanza (RepresentsStill stanza) b c
    walked = heals_pair.walks (record { synced = keeps_synced stanza q log b kept; now = keeps_now stanza q log b (first.now.known some) kept; pair = paired q log keeps some })

  pub healed_quiet : Quiet stanza a c
  healed_quiet = record {
    now = record { known = λ some. heals_pair.now.known (first.now.known some); does = λ r from some now. ([], refl, stays_at stanza b.now c.now heals_pair.now r (first.now.known some) (stays_at stanza a.now b.now first.now r some now)) };
    beside = beside_on stanza a b c first.beside heals_pair.beside;
    keeps = λ q log some keeps. let w = walked q log some keeps in
        record { fixed = w.synced.fixed; places = w.synced.places; represents = λ g leaves. let x = w.comes c.moment g w.later (omega arith) leaves in still q log some keeps x.0 g x.1 x.2 };
    between = λ q log some keeps.
        let w = walked q log some keeps in
        let x = first.between q log some keeps in
        let next : Past b c = record { later = w.later; kept = w.past; unsynced = w.past_unsynced } in
        (past_past a b c x.0 next, leaves_then (RepresentsAfter stanza q log) a b c x.0 next x.1 (λ t g lo hi leaves. let y = w.comes t g lo hi leaves in still q log some keeps y.0 g y.1 y.2));
  }

-- the pairs of a disk that is steady at one repository are read or healed
pub heals_steady : (stanza : Text) (a b : View) → HealsPair stanza a b → PairAlike stanza a → (r : Repository) → IsSome a.now → IsSteady stanza r a → IsSteady stanza r b
heals_steady stanza a b heals_pair pair r some steady =
    let f = known_as a.now some in
    let w = heals_pair.walks (record { synced = steady_synced stanza r a steady; now = record { content = f.0; now = f.1; repository = r; represents = steady.represents f.0 (inl f.1) }; pair = pair }) in
    record { fixed = w.synced.fixed; places = w.synced.places; represents = λ g leaves. let x = w.comes b.moment g w.later (omega arith) leaves in x.2 r (steady.represents x.0 x.1) }

-- the stages alone
module _ (stanza : Text) (command : Command) (a b s : View) (quiet : Quiet stanza a b) where
  quiet_carries : CarriesOn stanza command false a b
  quiet_carries = record { keeps = λ q log some keeps. still_keeps stanza command q log b (quiet.keeps q log some keeps) }

  pub quiet_leads : Leads stanza command false a s b s
  quiet_leads = record {
    now = record { known = quiet.now.known; does = λ r from some now. ([], part_none (steps_of command r), stays_at stanza a.now b.now quiet.now r some now) };
    repository = quiet_carries;
    spool_known = λ known. known;
    keeps = λ known q log some keeps. record {
      repository = quiet_carries.keeps q log some keeps.repository;
      receipts = still_spool stanza command q log s keeps.receipts;
    };
  }

  pub quiet_receipts : PassesReceipts stanza command a s s
  quiet_receipts = record {
    past = rests_past s s (rests_none s);
    between = λ q log some known keeps t f lo hi leaves. (still_spool stanza command q log s keeps.receipts).receipts f (leaves_back s s (rests_none s) refl t lo hi f leaves);
  }

  pub quiet_passes : Passes stanza command a b
  quiet_passes = record {
    between = λ q log some keeps. let x = quiet.between q log some keeps in (x.0, λ t f lo hi leaves. still_after stanza command q log f (x.1 t f lo hi leaves));
  }

pub quiet_takes : (how : SyncScope) (stanza : Text) (command : Command) (reached : Reached) (a b s : View) → (¬ (reached ≡ to_end)) → Quiet stanza a b → Takes how stanza command reached a s b s
quiet_takes how stanza command to_end a b s not quiet = absurd (not refl)
quiet_takes how stanza command turned_back a b s not quiet = record { part = quiet_leads stanza command a b s quiet; between = quiet_passes stanza command a b s quiet; receipts = quiet_receipts stanza command a b s quiet; whole = tt; ends = tt; turned = quiet_leads stanza (turns_of command) a b s quiet }
quiet_takes how stanza command stopped a b s not quiet = record { part = quiet_leads stanza command a b s quiet; between = quiet_passes stanza command a b s quiet; receipts = quiet_receipts stanza command a b s quiet; whole = tt; ends = tt; turned = tt }

-- ---- what a command's own part leaves of a log

module _ (stanza : Text) (command : Command) (q : Repository) (log : List Done) where
  abbrev ended : Done
  ended = record { command = command; acknowledged = true }

  by_part : (r : Repository) → Reaches q log r → (g : Content) → IsPart stanza command r g → RepresentsAfter stanza q (undone stanza command q log ∷ log) g
  by_part r reached g x = record { repository = after r x.0; reached = (r, reached, (x.0, refl, x.1)); sound = x.3; represents = x.2 }

  by_whole : (r : Repository) → Reaches q log r → (g : Content) → IsWhole stanza command r g → RepresentsAfter stanza q (ended ∷ log) g
  by_whole r reached g x = record {
    repository = after r (all_of (steps_of command r));
    reached = (r, reached, (all_of (steps_of command r), refl, refl));
    sound = x.1;
    represents = x.0;
  }

pub looked_at : (stanza : Text) (a b : View) → Quiet stanza a b → Begins Looked stanza a b → (q : Repository) (log : List Done) → IsSome a.now → KeepsRepository stanza q log a → IsLookedAt stanza b
looked_at stanza a b quiet begun q log some keeps = let k = quiet.keeps q log some keeps in
    record { synced = keeps_synced stanza q log b k; now = keeps_now stanza q log b (quiet.now.known some) k; pair = begun (keeps_synced stanza q log a keeps) some }

-- what is known after the stages a to b, as the command's own part begins
module _ (stanza : Text) (a b : View) (quiet : Quiet stanza a b) where
  known_at : IsSome a.now → IsSome b.now
  known_at some = quiet.now.known some

  does_on : (command : Command) (whole : Bool) (d : View) → NowEffect stanza command whole b.now d.now → NowEffect stanza command whole a.now d.now
  does_on command whole d h = record { known = λ some. h.known (known_at some); does = λ r from some now. h.does r from (known_at some) (stays_at stanza a.now b.now quiet.now r some now) }

  module _ (command : Command) (d : View) (q : Repository) (log : List Done) (some : IsSome a.now) (keeps : KeepsRepository stanza q log a) where
    abbrev Left : Type 0
    Left = KeepsRepository stanza q (undone stanza command q log ∷ log) d × Past b d × LeavesOnly (RepresentsAfter stanza q (undone stanza command q log ∷ log)) b d

    looked : Begins Looked stanza a b → IsLookedAt stanza b
    looked begun = looked_at stanza a b quiet begun q log some keeps

    pub left : (how : SyncScope) → Begins how stanza a b → Goes how stanza command b d → Left
    left Whole begun goes =
        let u = begun q log keeps some in
        let m = goes u.repository (known_at some) u.steady u.sound in (
          record { fixed = m.fixed; places = m.places; represents = λ f leaves. by_part stanza command q log u.repository u.reached f (m.leaves d.moment f m.later (omega arith) leaves) },
          record { later = m.later; kept = m.past; unsynced = m.past_unsynced },
          λ w f lo hi leaves. by_part stanza command q log u.repository u.reached f (m.leaves w f lo hi leaves),
        )
    left Looked begun goes =
        let w = goes (looked begun) in (
          record { fixed = w.synced.fixed; places = w.synced.places; represents = λ g leaves. let x = w.comes d.moment g w.later (omega arith) leaves in each x.0 g x.1 x.2 },
          record { later = w.later; kept = w.past; unsynced = w.past_unsynced },
          λ t g lo hi leaves. let x = w.comes t g lo hi leaves in each x.0 g x.1 x.2,
        )
      where
        each : (f g : Content) → Leaves b b.moment f → PartEach stanza command f g → RepresentsAfter stanza q (undone stanza command q log ∷ log) g
        each f g at does = let s = (quiet.keeps q log some keeps).represents f at in by_part stanza command q log s.repository s.reached g (does s.repository s.represents s.sound)

    pub left_whole : (how : SyncScope) → Begins how stanza a b → Goes how stanza command b d → Comes how stanza command b d → KeepsRepository stanza q (ended stanza command q log ∷ log) d
    left_whole Whole begun goes comes =
        let u = begun q log keeps some in
        let x = comes u.repository (known_at some) u.steady u.sound in
        record { fixed = x.0.fixed; places = x.0.places; represents = λ f leaves. by_whole stanza command q log u.repository u.reached f (x.0.represents f leaves, x.1) }
    left_whole Looked begun goes comes =
        let w = goes (looked begun) in
        record { fixed = w.synced.fixed; places = w.synced.places; represents = λ g leaves. let x = (comes (looked begun)).comes (known_at some) g leaves in each x.0 g x.1 x.2 }
      where
        each : (f g : Content) → Leaves b b.moment f → WholeEach stanza command f g → RepresentsAfter stanza q (ended stanza command q log ∷ log) g
        each f g at does = let s = (quiet.keeps q log some keeps).represents f at in by_whole stanza command q log s.repository s.reached g (does s.repository s.represents s.sound)

-- ---- the stages, and then the command's own part

begins_with : (how : SyncScope) (stanza : Text) (a b : View) → Quiet stanza a b → Begins how stanza a b → (q : Repository) (log : List Done) → IsSome a.now → KeepsRepository stanza q log a → BeginsWith how stanza q log b
begins_with Whole stanza a b quiet begun q log some keeps = begun q log keeps some
begins_with Looked stanza a b quiet begun q log some keeps = quiet.keeps q log some keeps

module _ (how : SyncScope) (stanza : Text) (a b : View) (quiet : Quiet stanza a b) (begun : Begins how stanza a b) where
  module _ (command : Command) (d : View) where
    part_carries : DoesPart how stanza command b d → CarriesOn stanza command false a d
    part_carries h = record { keeps = λ q log some keeps. (left stanza a b quiet command d q log some keeps how begun h.goes).0 }

    whole_carries : DoesPart how stanza command b d → DoesWhole how stanza command b d → CarriesOn stanza command true a d
    whole_carries p h = record { keeps = λ q log some keeps. left_whole stanza a b quiet command d q log some keeps how begun p.goes h.ends }

  module _ (command : Command) (s d t : View) where
    pub part_leads : RunsPart how stanza command b s d t → Leads stanza command false a s d t
    part_leads h = record {
      now = does_on stanza a b quiet command false d h.does.part;
      repository = part_carries command d h.does;
      spool_known = h.marks.known;
      keeps = λ spool_some q log some keeps. record {
        repository = (part_carries command d h.does).keeps q log some keeps.repository;
        receipts = h.marks.keeps q log (known_at stanza a b quiet some) spool_some (begins_with how stanza a b quiet begun q log some keeps.repository) keeps.receipts;
      };
    }

    pub part_receipts : RunsPart how stanza command b s d t → PassesReceipts stanza command a s t
    part_receipts h = record {
      past = h.marks.past;
      between = λ q log some spool_some keeps. h.marks.between q log (known_at stanza a b quiet some) spool_some (begins_with how stanza a b quiet begun q log some keeps.repository) keeps.receipts;
    }

    pub part_passes : RunsPart how stanza command b s d t → Passes stanza command a d
    part_passes h = record {
      between = λ q log some keeps.
          let x = quiet.between q log some keeps in
          let l = left stanza a b quiet command d q log some keeps how begun h.does.goes in (
            past_past a b d x.0 l.1,
            leaves_then (RepresentsAfter stanza q (undone stanza command q log ∷ log)) a b d x.0 l.1
                (λ w f lo hi leaves. still_after stanza command q log f (x.1 w f lo hi leaves)) l.2,
          );
    }

    pub whole_leads : RunsPart how stanza command b s d t → RunsWhole how stanza command b s d t → Leads stanza command true a s d t
    whole_leads p h = record {
      now = does_on stanza a b quiet command true d h.does.done;
      repository = whole_carries command d p.does h.does;
      spool_known = h.marks.known;
      keeps = λ spool_some q log some keeps. record {
        repository = (whole_carries command d p.does h.does).keeps q log some keeps.repository;
        receipts = h.marks.keeps q log (known_at stanza a b quiet some) spool_some (begins_with how stanza a b quiet begun q log some keeps.repository) keeps.receipts;
      };
    }

whole_ends : (how : SyncScope) (stanza : Text) (a b : View) → Quiet stanza a b → Begins how stanza a b → (command : Command) (s d t : View) → RunsWhole how stanza command b s d t → OnWhole how (EndsAtOne stanza command a d)
whole_ends Looked stanza a b quiet begun command s d t h = tt
whole_ends Whole stanza a b quiet begun command s d t h = record {
  begun = λ q log some keeps. let u = begun q log keeps some in
      let x = h.does.ends u.repository (known_at stanza a b quiet some) u.steady u.sound in record {
        repository = after u.repository (all_of (steps_of command u.repository));
        reached = (u.repository, u.reached, (all_of (steps_of command u.repository), refl, refl));
        sound = x.1;
        steady = x.0;
      };
}

pub begun_takes : (how : SyncScope) (stanza : Text) (a b : View) → Quiet stanza a b → Begins how stanza a b → (command : Command) (reached : Reached) (s d t : View) → DisksEffect how stanza command reached b s d t → Takes how stanza command reached a s d t
begun_takes how stanza a b quiet begun command reached s d t h = record {
  part = part_leads how stanza a b quiet begun command s d t h.part;
  between = part_passes how stanza a b quiet begun command s d t h.part;
  receipts = part_receipts how stanza a b quiet begun command s d t h.part;
  whole = all_as reached _ _ (whole_leads how stanza a b quiet begun command s d t h.part) h.whole;
  ends = all_as reached _ _ (whole_ends how stanza a b quiet begun command s d t) h.whole;
  turned = none_as reached _ _ (part_leads how stanza a b quiet begun (turns_of command) s d t) h.turned;
}

-- ---- places are opened, and then all that

module _ (stanza : Text) (a b s t : View) (rests : LeavesNoMore a b) (same : b.now ≡ a.now) (spool_rest : LeavesNoMore s t) (spool_same : t.now ≡ s.now) where
  opened_with : (q : Repository) (log : List Done) → Keeps stanza q log a s → Keeps stanza q log b t
  opened_with q log keeps = record { repository = rests_still stanza q log a b rests same keeps.repository; receipts = spool_rests stanza q log s t spool_rest spool_same keeps.receipts }

  leads_on : (command : Command) (whole : Bool) (d e : View) → Leads stanza command whole b t d e → Leads stanza command whole a s d e
  leads_on command whole d e h = record {
    now = subst (λ (o : Option Content). NowEffect stanza command whole o d.now) same h.now;
    repository = record { keeps = λ q log some keeps. h.repository.keeps q log (on_some a.now b.now same some) (rests_still stanza q log a b rests same keeps) };
    spool_known = λ known. h.spool_known (on_some s.now t.now spool_same known);
    keeps = λ known q log some keeps. h.keeps (on_some s.now t.now spool_same known) q log (on_some a.now b.now same some) (opened_with q log keeps);
  }

  receipts_on : (command : Command) (e : View) → PassesReceipts stanza command b t e → PassesReceipts stanza command a s e
  receipts_on command e h = record {
    past = past_past s t e (rests_past s t spool_rest) h.past;
    between = λ q log some known keeps. leaves_then (HasReceiptsOf stanza q (undone stanza command q log ∷ log)) s t e (rests_past s t spool_rest) h.past
        (λ w f lo hi leaves. (still_spool stanza command q log s keeps.receipts).receipts f (leaves_back s t spool_rest spool_same w lo hi f leaves))
        (h.between q log (on_some a.now b.now same some) (on_some s.now t.now spool_same known) (opened_with q log keeps));
  }

  ends_on : (command : Command) (d : View) → EndsAtOne stanza command b d → EndsAtOne stanza command a d
  ends_on command d h = record { begun = λ q log some keeps. h.begun q log (on_some a.now b.now same some) (rests_still stanza q log a b rests same keeps) }

  one_on : (how : SyncScope) (command : Command) (d : View) → OnWhole how (EndsAtOne stanza command b d) → OnWhole how (EndsAtOne stanza command a d)
  one_on Whole command d h = ends_on command d h
  one_on Looked command d h = tt

  pub opened_takes : (how : SyncScope) (command : Command) (reached : Reached) (d e : View) → Takes how stanza command reached b t d e → Takes how stanza command reached a s d e
  opened_takes how command reached d e h = record {
    part = leads_on command false d e h.part;
    between = record {
      between = λ q log some keeps.
          let x = h.between.between q log (on_some a.now b.now same some) (rests_still stanza q log a b rests same keeps) in (
            past_past a b d (rests_past a b rests) x.0,
            leaves_then (RepresentsAfter stanza q (undone stanza command q log ∷ log)) a b d (rests_past a b rests) x.0
                (λ w f lo hi leaves. still_after stanza command q log f (keeps.represents f (leaves_back a b rests same w lo hi f leaves))) x.1,
          );
    };
    receipts = receipts_on command e h.receipts;
    whole = all_as reached _ _ (leads_on command true d e) h.whole;
    ends = all_as reached _ _ (one_on how command d) h.ends;
    turned = none_as reached _ _ (leads_on (turns_of command) false d e) h.turned;
  }

-- ---- the spool stays

pub reading_spool : (stanza : Text) (q : Repository) (log : List Done) (s : View) → KeepsSpool stanza q log s → KeepsSpool stanza q (record { command = Reading; acknowledged = true } ∷ log) s
reading_spool stanza q log s k = record { fixed = k.fixed; receipts = λ f leaves name sum fits has. let x = k.receipts f leaves name sum fits has in (x.0, (x.0, x.1, ([], refl, refl)), x.2) }

module _ (how : SyncScope) (stanza : Text) (command : Command) (whole : Bool) (a s : View) (keeps : (q : Repository) (log : List Done) → KeepsSpool stanza q log s → KeepsSpool stanza q (record { command = command; acknowledged = whole } ∷ log) s) where
  pub spool_stays : SpoolEffect how stanza command whole a s s
  spool_stays = record {
    known = λ some. some;
    past = rests_past s s (rests_none s);
    keeps = λ q log some known begun k. keeps q log k;
    between = λ q log some known begun k t f lo hi leaves. (still_spool stanza command q log s k).receipts f (leaves_back s s (rests_none s) refl t lo hi f leaves);
  }

runs_part : (how : SyncScope) (stanza : Text) (command : Command) (a d s : View) → DoesPart how stanza command a d → RunsPart how stanza command a s d s
runs_part how stanza command a d s h = record { does = h; marks = spool_stays how stanza command false a s (λ q log k. still_spool stanza command q log s k) }

-- a command that leaves the spool unchanged, and whose steps keep what drains have stored
pub does_runs : (how : SyncScope) (stanza : Text) (command : Command) (reached : Reached) (a d s : View) → ((q : Repository) (log : List Done) → KeepsSpool stanza q log s → KeepsSpool stanza q (record { command = command; acknowledged = true } ∷ log) s) →
    RepoEffect how stanza command reached a d → DisksEffect how stanza command reached a s d s
does_runs how stanza command reached a d s keeps h = record {
  part = runs_part how stanza command a d s h.part;
  whole = all_as reached _ _ (λ w. record { does = w; marks = spool_stays how stanza command true a s keeps }) h.whole;
  turned = none_as reached _ _ (runs_part how stanza (turns_of command) a d s) h.turned;
}
