-- What the healing of the archive pair does.
use Rattle.std.proofs.Common.{◌≡◌, ◌≢◌, ⊎_elim, inl, inr, [], ◌≤◌, length, get_or, Bool, Option, Some, None, refl, ap, ◌∙◌, sym, subst, true, false}
use Rattle.std.specs.Prelude.{IfSome, IsSome}
use Rattle.base_devices.specs.Content.{Name, Content, put, at}
use Rattle.base_devices.specs.Moments.{View, LeavesNoMore, is_unsynced}
use Rattle.base_devices.specs.Crash.{Alike, IsTemporary, Leaves, Crash, SomeOf, NowChanges}
use Rattle.base_devices.proofs.Nows.{known_as}
use Rattle.base_model.specs.Text.{Text}
use Rattle.base_model.specs.Names.{archive_info, copy_of}
use Rattle.base_model.specs.InfoText.{info_text}
use Rattle.base_model.specs.InfoFiles.{IsArchiveText, IsArchiveInfo, archive_sections, info_limit}
use Rattle.base_model.specs.Values.{ArchiveInfo}
use Rattle.base_model.specs.Pair.{PairIs, PairAbsent}
use Rattle.base_model.specs.Create.{member_writes}
use Rattle.base_model.specs.Repository.{Repository}
use Rattle.base_model.specs.Represents.{Represents, IsVacant, archive_value}
use Rattle.base_model.specs.Steps.{Reading}
use Rattle.base_model.specs.Log.{Pair}
use Rattle.base_model.specs.Now.{NowRepresents, NowEffect}
use Rattle.base_model.specs.Walks.{IsSynced, RepresentsStill, Walks}
use Rattle.base_model.proofs.Created.{put_other}
use Rattle.base_model.proofs.Frame.{AgreesPast, past_alike, past_past}
use Rattle.base_model.proofs.Walking.{crash_walks, rests_synced}
use Rattle.repo_info.proofs.OneArchive.{one_archive_pair}
use Rattle.base_model.proofs.Healed.{healed_represents, healed_past, healed_now, put_past}
use Rattle.base_disk.specs.Store.{ChangesOnly}
use Rattle.repo_pair.specs.Member.{IsOfPair}
use Rattle.base_crash_lists.specs.Beside.{StaysBeside}
use Rattle.cmd_types.proofs.Besides.{archive_pair_beside}
use Rattle.cmd_types.specs.Current.{HasValue}
use Rattle.cmd_types.specs.Plans.{HealsArchive}
use Rattle.cmd_types.specs.DisksEffect.{HealsPair, PairAlike}
use Rattle.cmd_types.proofs.Doing.{now_known}
use Rattle.cmd_setup.specs.Calls.{StaysSynced}
use Rattle.cmd_setup.proofs.HealedPair.{reads_still}

abbrev text_of : ArchiveInfo → Text
text_of v = info_text (archive_sections v)

own_text : (v : ArchiveInfo) (bytes : Text) → IsArchiveText v bytes → IsArchiveText v (text_of v)
own_text v bytes is = subst (IsArchiveText v) is.spelled is

text_is : (f : Content) (name : Text) (v : ArchiveInfo) → PairIs IsArchiveText f name v → IsArchiveText v (text_of v)
text_is f name v (inl m) = own_text v m.0 m.2
text_is f name v (inr q) = own_text v q.1.0 q.1.2

-- what has no member has no value
pub no_pair : (f : Content) (name : Text) (v : ArchiveInfo) → PairAbsent f name → PairIs IsArchiveText f name v → ⊥
no_pair f name v absent (inl m) = let e : ◌≡◌ {A = Option Text} None (Some m.0) = sym absent.0 ∙ m.1 in cc
no_pair f name v absent (inr q) = let e : ◌≡◌ {A = Option Text} None (Some q.1.0) = sym absent.1 ∙ q.1.1 in cc

known_at : (P : Content → Type 0) (o : Option Content) (f : Content) → o ≡ Some f → P f → IfSome o P
known_at P o f is p = subst (λ (x : Option Content). IfSome x P) (sym is) p

-- ---- what the calls on the pair return

-- this was written of the value that the pair has
abbrev pub PartAt : Text → View → View → Type 0
PartAt name old new = (v : ArchiveInfo) → IfSome old.now (λ f. PairIs IsArchiveText f name v) → NowChanges (SomeOf (member_writes name (text_of v))) old.now new.now

abbrev pub CrashAt : Text → View → View → Type 0
CrashAt name old new = (v : ArchiveInfo) → IfSome old.now (λ f. PairIs IsArchiveText f name v) → is_unsynced old name ≡ false → is_unsynced old (copy_of name) ≡ false →
    Crash (SomeOf (member_writes name (text_of v))) old new

-- a pair without a value is left alone
abbrev pub IdleAt : Text → View → View → Type 0
IdleAt name old new = ((v : ArchiveInfo) → IfSome old.now (λ f. PairIs IsArchiveText f name v → ⊥)) → IsSome old.now → (new.now ≡ old.now) × LeavesNoMore old new

module _ (stanza : Text) (old new : View) (part : PartAt (archive_info stanza) old new) (crash : CrashAt (archive_info stanza) old new)
    (idle : IdleAt (archive_info stanza) old new) (known : IsSome old.now → IsSome new.now) where
  abbrev Has : ArchiveInfo → Content → Type 0
  Has v f = PairIs IsArchiveText f (archive_info stanza) v

  idle_at : (f : Content) → old.now ≡ Some f → IsVacant stanza f → (new.now ≡ old.now) × LeavesNoMore old new
  idle_at f is vacant = idle (λ v. known_at (λ f. Has v f → ⊥) old.now f is (no_pair f (archive_info stanza) v vacant.archive_pair))
      (subst (λ (o : Option Content). IsSome o) (sym is) refl)

  now_stays : (r : Repository) → IsSome old.now → NowRepresents stanza r old.now → NowRepresents stanza r new.now
  now_stays None some now = let f = known_as old.now some in
      subst (λ (o : Option Content). NowRepresents stanza None o) (sym (idle_at f.0 f.1 (now.represents f.0 f.1)).0) now
  now_stays (Some s) some now =
      let f = known_as old.now some in
      let pair = (now.represents f.0 f.1).archive_pair in
      healed_now stanza s (text_of (archive_value s)) (text_is f.0 (archive_info stanza) (archive_value s) pair) old.now new.now some
      (part (archive_value s) (known_at (Has (archive_value s)) old.now f.0 f.1 pair)) now

  heal_stays : NowEffect stanza Reading true old.now new.now
  heal_stays = record { known = known; does = λ r from some now. ([], refl, now_stays r some now) }

  module _ (synced : IsSynced stanza old) (some : IsSome old.now) (pair : PairAlike stanza old) (f : Content) (is : old.now ≡ Some f) where
    -- of the value that the disk's pair has the writes are those of each content that is left
    module _ (v : ArchiveInfo) (has : Has v f) where
      crash_here : Crash (SomeOf (member_writes (archive_info stanza) (text_of v))) old new
      crash_here = crash v (known_at (Has v) old.now f is has) (synced.fixed (archive_info stanza) (Pair (inl refl))) (synced.fixed (copy_of (archive_info stanza)) (Pair (inr (inl refl))))

      still : (g h : Content) → Leaves old old.moment g → SomeOf (member_writes (archive_info stanza) (text_of v)) g h → RepresentsStill stanza g h
      still g h leaves w None vacant = absurd (no_pair g (archive_info stanza) v vacant.archive_pair (pair f g v is leaves has))
      still g h leaves w (Some s) represents =
          let had = pair f g v is leaves has in
          healed_represents stanza s (text_of v)
          (subst (λ (u : ArchiveInfo). IsArchiveText u (text_of v)) (one_archive_pair g (archive_info stanza) v (archive_value s) had represents.archive_pair) (text_is g (archive_info stanza) v had)) g h represents w

    walks_from : (r : Repository) → Represents stanza f r → Walks stanza (RepresentsStill stanza) old new
    walks_from None vacant = let x = idle_at f is vacant in reads_still stanza old new x.1 x.0 synced some
    walks_from (Some s) represents =
        let v = archive_value s in
        let has = represents.archive_pair in
        crash_walks stanza (SomeOf (member_writes (archive_info stanza) (text_of v))) old new synced some (crash_here v has)
        (healed_past stanza s (text_of v) (text_is f (archive_info stanza) v has)) (RepresentsStill stanza) (still v has)

  heal_heals : StaysBeside stanza old new → HealsPair stanza old new
  heal_heals beside = record {
    now = heal_stays;
    beside = beside;
    walks = λ at. walks_from at.synced (now_known stanza old at.now) at.pair at.now.content at.now.now at.now.repository at.now.represents;
  }

-- ---- what was synced

-- what is written of the pair leaves the backups' names alone
writes_past : (stanza text : Text) (f g : Content) → SomeOf (member_writes (archive_info stanza) text) f g → AgreesPast stanza f g
writes_past stanza text f g w = ⊎_elim
    (λ x. ⊎_elim (λ a. past_alike stanza f g a) (λ a. by (copy_of (archive_info stanza)) f refl a) x)
    (λ x. ⊎_elim (λ a. by (archive_info stanza) f refl a)
    (λ a. past_past stanza f main g (put_past stanza (archive_info stanza) text f refl) (by (copy_of (archive_info stanza)) main refl a)) x) w
  where
    main : Content
    main = put (archive_info stanza) (Some text) f

    by : (name : Text) (h : Content) → get_or name 0 0 ≡ 97 → Alike (put name (Some text) h) g → AgreesPast stanza h g
    by name h begins a = past_past stanza h (put name (Some text) h) g (put_past stanza name text h begins) (past_alike stanza (put name (Some text) h) g a)

true_apart : ◌≡◌ {A = Bool} true false → ⊥
true_apart e = cc

module _ (stanza : Text) (old new : View) (crash : CrashAt (archive_info stanza) old new) (idle : IdleAt (archive_info stanza) old new) (synced : IsSynced stanza old) (some : IsSome old.now) where
  abbrev HasValueOf : ArchiveInfo → Type 0
  HasValueOf v = IfSome old.now (λ f. PairIs IsArchiveText f (archive_info stanza) v)

  -- where the pair has a value its writes are synced
  valued_synced : (v : ArchiveInfo) → HasValueOf v → IsSynced stanza new
  valued_synced v has = (crash_walks stanza (SomeOf (member_writes (archive_info stanza) (text_of v))) old new synced some
      (crash v has (synced.fixed (archive_info stanza) (Pair (inl refl))) (synced.fixed (copy_of (archive_info stanza)) (Pair (inr (inl refl)))))
      (writes_past stanza (text_of v)) (λ f g. Unit {0}) (λ f g leaves w. tt)).synced

  -- where it has none there are no writes
  idle_synced : ((v : ArchiveInfo) → HasValueOf v → ⊥) → IsSynced stanza new
  idle_synced none =
      let f = known_as old.now some in
      let x = idle (λ v. known_at (λ f. PairIs IsArchiveText f (archive_info stanza) v → ⊥) old.now f.0 f.1
      (λ has. none v (known_at (λ f. PairIs IsArchiveText f (archive_info stanza) v) old.now f.0 f.1 has))) some in
      rests_synced stanza old new x.1 x.0 synced

  -- so a name that is synced in both cases is
  synced_at : (n : Text) → (IsSynced stanza new → is_unsynced new n ≡ false) → is_unsynced new n ≡ false
  synced_at n from = go (is_unsynced new n) refl
    where
      go : (unsynced : Bool) → is_unsynced new n ≡ unsynced → is_unsynced new n ≡ false
      go false is = is
      go true is = from (idle_synced (λ v has. true_apart (sym is ∙ from (valued_synced v has))))

  heal_synced : IsSynced stanza new
  heal_synced = record { fixed = λ n h. synced_at n (λ s. s.fixed n h); places = λ f leaves n h. synced_at n (λ s. s.places f leaves n h) }

pub named_synced : (stanza name : Text) → name ≡ archive_info stanza → (old new : View) → CrashAt name old new → IdleAt name old new → StaysSynced stanza old new
named_synced stanza name is old new crash idle = λ synced some.
    heal_synced stanza old new (subst (λ (n : Text). CrashAt n old new) is crash) (subst (λ (n : Text). IdleAt n old new) is idle) synced some

-- ---- other names

put_apart : (name q : Text) (bytes : Text) (f g : Content) → q ≢ name → ¬ IsTemporary q → Alike (put name (Some bytes) f) g → g q ≡ f q
put_apart name q bytes f g apart lasting a = a.same q lasting ∙ put_other name (Some bytes) f q apart

some_keep : (name text q : Text) (f g : Content) → q ≢ name → q ≢ copy_of name → ¬ IsTemporary q → SomeOf (member_writes name text) f g → g q ≡ f q
some_keep name text q f g main_apart copy_apart lasting w = ⊎_elim
    (λ x. ⊎_elim (λ (a : Alike f g). a.same q lasting) (λ a. put_apart (copy_of name) q text f g copy_apart lasting a) x)
    (λ x. ⊎_elim (λ a. put_apart name q text f g main_apart lasting a)
    (λ a. put_apart (copy_of name) q text (put name (Some text) f) g copy_apart lasting a ∙ put_other name (Some text) f q main_apart) x) w

heal_others : (stanza text : Text) (old new : Option Content) → IsSome old → NowChanges (SomeOf (member_writes (archive_info stanza) text)) old new →
    (q : Name) → q ≢ archive_info stanza → q ≢ copy_of (archive_info stanza) → ¬ IsTemporary q → at q new ≡ at q old
heal_others stanza text old new some goes q main copy lasting =
    let f = known_as old some in
    let g = known_as new (goes.known some) in
    let same = some_keep (archive_info stanza) text q f.0 g.0 main copy lasting (goes.goes f.0 g.0 f.1 g.1) in
    ap (at q) g.1 ∙ ap Some same ∙ ap (at q) (sym f.1)

-- ---- of a name that is the pair's

module _ (stanza name : Text) (is : name ≡ archive_info stanza) (old new : View) (part : PartAt name old new) where
  part_here : PartAt (archive_info stanza) old new
  part_here = subst (λ (n : Text). PartAt n old new) is part

  pub named_heals : CrashAt name old new → IdleAt name old new → (IsSome old.now → IsSome new.now) → ChangesOnly (IsOfPair name) old new → HealsPair stanza old new
  named_heals crash idle known only = heal_heals stanza old new part_here
      (subst (λ (n : Text). CrashAt n old new) is crash) (subst (λ (n : Text). IdleAt n old new) is idle) known
      (archive_pair_beside stanza old new (subst (λ (n : Text). ChangesOnly (IsOfPair n) old new) is only))

  -- what the disk holds, except for the pair's members and temporary names
  pub named_only : (v : ArchiveInfo) → IfSome old.now (λ f. PairIs IsArchiveText f name v) → IfSome new.now (λ f. HasValue stanza f v) → IsSome old.now → HealsArchive stanza old.now new.now
  named_only v found kept some =
      let was = subst (λ (n : Text). IfSome old.now (λ f. PairIs IsArchiveText f n v)) is found in
      record { others = heal_others stanza (text_of v) old.now new.now some (part_here v was); value = v; was = was; is = kept }

-- ---- the value and its text

-- both members of the pair have this text
abbrev pub BothAre : Text → Text → Content → Type 0
BothAre name text f = (f name ≡ Some text) × (f (copy_of name) ≡ Some text)

module _ (stanza name : Text) (is : name ≡ archive_info stanza) (v : ArchiveInfo) (valid : IsArchiveInfo v) (within : length (text_of v) ≤ info_limit) where
  own : IsArchiveText v (text_of v)
  own = record { rules = valid; spelled = refl; within = within }

  pub named_value : (o : Option Content) → IfSome o (BothAre name (text_of v)) → IfSome o (λ f. HasValue stanza f v)
  named_value None both = tt
  named_value (Some f) both = inl (text_of v, ap f (sym is) ∙ both.0, own)
