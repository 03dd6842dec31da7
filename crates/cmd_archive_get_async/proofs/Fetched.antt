-- Segments that are fetched one after another.
use Rattle.std.proofs.Common.{◌≡◌, inl, inr, ℕ, ◌<◌, ◌+◌, List, [], ◌∷◌, length, Option, Some, None, refl, ap, ◌∙◌, sym, subst, arith}
use Rattle.std.specs.Prelude.{IfSome, IsSome, IsSomeAnd, option_map, string_bytes}
use Rattle.std.specs.List.{AllByRecursion}
use Rattle.sha1.specs.Sha1.{sha1}
use Rattle.base_text.specs.declared.sum.Sum.{Sum}
use Rattle.base_devices.specs.Content.{Content, put}
use Rattle.base_devices.specs.States.{DiskState, CallsProperly}
use Rattle.base_disk.specs.Dropped.{without}
use Rattle.base_model.specs.declared.wal.ArchiveId.{ArchiveId}
use Rattle.base_model.specs.declared.wal.ArchiveName.{ArchiveName}
use Rattle.base_model.specs.declared.wal.ArchiveName.TheVariants.{Segment as Whole}
use Rattle.base_model.specs.declared.wal.Segment.{Segment}
use Rattle.base_model.specs.Text.{Text}
use Rattle.repo_names.specs.Next.{IsNext}
use Rattle.archive_lookup.specs.Causes.{StoresBytes}
use Rattle.archive_lookup.specs.declared.stored.files.Stored.{Stored}
use Rattle.archive_lookup.specs.Stored.{Finds, StoresOnly, archive_path, known_sum}
use Rattle.cmd_archive_get.specs.declared.fault.GetFault.{GetFault}
use Rattle.cmd_archive_get_async.specs.Names.{ahead_folder, ahead_name}
use Rattle.cmd_archive_get_async.specs.Fetching.{Fetch, newest, IsKept, AreFollowing, with_fetched, HoldsFetched, HasNoNext, IsFetched, FetchesOne, NextCause, AheadCause, PutsAhead}

pub frame_on : (a b c : DiskState) → CallsProperly a b → CallsProperly b c → CallsProperly a c
frame_on a b c p q = record { opened = q.opened ∙ p.opened; proper = q.proper ∙ p.proper; later = omega (arith, p.later, q.later) }

pub frame_none : (a : DiskState) → CallsProperly a a
frame_none a = record { opened = refl; proper = refl; later = omega arith }

-- ---- one segment

some_is : {X : Type 0} (x y : X) → ◌≡◌ {A = Option X} (Some x) (Some y) → x ≡ y
some_is x y e = cc

has_some : (v : Option Text) (n : ℕ) → IsSomeAnd v (λ bytes. length bytes ≡ n) → IsSome v
has_some None n h = absurd h
has_some (Some bytes) n h = refl

module _ (stanza : Text) (id : ArchiveId) (segment : Segment) (file : Stored) (s : Sum) (known : file.sum ≡ Some s) where
  -- it is stored with the sum that is given of it, and with no other
  pub known_only : (f : Content) → Finds stanza id (Whole segment) f (Some file) → StoresOnly stanza id (Whole segment) f s.0
  known_only f h =
      let lies = h.2 in
      let sum = h.3.0 in
      let only = h.3.1 in
      let named : known_sum file.name lies.sum ≡ Some lies.sum = ap (λ (n : ArchiveName). known_sum n lies.sum) h.1 in
      let same : s.0 ≡ lies.sum = some_is s.0 lies.sum (sym (ap (option_map (λ (x : Sum). x.0)) known) ∙ lies.known ∙ named) in
      let at : string_bytes file.path ≡ archive_path stanza id (Whole segment) lies.sum =
      lies.path ∙ ap (λ (k : ArchiveId). archive_path stanza k file.name lies.sum) h.0 ∙ ap (λ (n : ArchiveName). archive_path stanza id n lies.sum) h.1 in
      let there : IsSome (f (archive_path stanza id (Whole segment) lies.sum)) = subst (λ (t : Text). IsSome (f t)) at (has_some (f (string_bytes file.path)) file.size lies.size) in
      let one : lies.sum ≡ sum = only.only lies.sum (lies.fits.digest, there) in
      subst (λ (x : Text). StoresOnly stanza id (Whole segment) f x) (sym (same ∙ one)) only

  -- and lies there
  known_as_path : (f : Content) → Finds stanza id (Whole segment) f (Some file) → string_bytes file.path ≡ archive_path stanza id (Whole segment) s.0
  known_as_path f h =
      let lies = h.2 in
      let named : known_sum file.name lies.sum ≡ Some lies.sum = ap (λ (n : ArchiveName). known_sum n lies.sum) h.1 in
      let same : s.0 ≡ lies.sum = some_is s.0 lies.sum (sym (ap (option_map (λ (x : Sum). x.0)) known) ∙ lies.known ∙ named) in
      lies.path ∙ ap (λ (k : ArchiveId). archive_path stanza k file.name lies.sum) h.0 ∙ ap (λ (n : ArchiveName). archive_path stanza id n lies.sum) h.1
      ∙ ap (λ (t : Text). archive_path stanza id (Whole segment) t) (sym same)

  kept_at : (o : Option Content) → IfSome o (λ f. Finds stanza id (Whole segment) f (Some file)) → (bytes : Text) → sha1 bytes ≡ s.0 → IfSome o (λ f. f (string_bytes file.path) ≡ Some bytes) → IfSome o (λ f. StoresBytes stanza id (Whole segment) f (sha1 bytes) bytes)
  kept_at None finds bytes digest at = tt
  kept_at (Some f) finds bytes digest at = record {
    only = subst (λ (t : Text). StoresOnly stanza id (Whole segment) f t) (sym digest) (known_only f finds);
    lies = ap f (ap (λ (t : Text). archive_path stanza id (Whole segment) t) digest ∙ sym (known_as_path f finds)) ∙ at;
  }

  -- it was put into the spool
  pub puts_fetches : (repo : Option Content) → IfSome repo (λ f. Finds stanza id (Whole segment) f (Some file)) → (name : Text) → name ≡ ahead_name stanza segment s.0 → (old new : Option Content) → PutsAhead repo (string_bytes file.path) s.0 name old new → FetchesOne stanza id segment repo old new
  puts_fetches repo finds name named old new h = record {
    bytes = h.0;
    kept = kept_at repo finds h.0 h.2 h.1;
    put_there = subst (λ (n : Text). new ≡ option_map (put n (Some h.0)) old) (named ∙ ap (λ (t : Text). ahead_name stanza segment t) (sym h.2)) h.3;
  }

-- ---- all of them

-- this many segments were fetched so far, and this is the last of them
pub record HasFetched (stanza : Text) (id : ArchiveId) (after : Segment) (size : ℕ) (repo spool new_spool : Option Content) (last : Segment) (n : ℕ) : Type 0 where
  pub fetched : List Fetch
  pub following : AreFollowing stanza id after size repo fetched
  pub count : length fetched ≡ n
  pub last_is : last ≡ newest after fetched
  pub holds : HoldsFetched stanza fetched spool new_spool

module _ (stanza : Text) (id : ArchiveId) (after : Segment) (size : ℕ) (repo : Option Content) where
  no_kept : (o : Option Content) → IfSome o (λ f. AllByRecursion (IsKept stanza id f) [])
  no_kept None = tt
  no_kept (Some f) = tt

  pub none_fetched : (spool new_spool : Option Content) → HoldsFetched stanza [] spool new_spool → HasFetched stanza id after size repo spool new_spool after 0
  none_fetched spool new_spool holds = record { fetched = []; following = record { follow = tt; kept = no_kept repo }; count = refl; last_is = refl; holds = holds }

  both_kept : (o : Option Content) (x : Fetch) (xs : List Fetch) → IfSome o (λ f. IsKept stanza id f x) → IfSome o (λ f. AllByRecursion (IsKept stanza id f) xs) → IfSome o (λ f. AllByRecursion (IsKept stanza id f) (x ∷ xs))
  both_kept None x xs one all = tt
  both_kept (Some f) x xs one all = (one, all)

  holds_more : (x : Fetch) (xs : List Fetch) (spool mid new : Option Content) → HoldsFetched stanza xs spool mid → new ≡ option_map (put (ahead_name stanza x.segment (sha1 x.bytes)) (Some x.bytes)) mid → HoldsFetched stanza (x ∷ xs) spool new
  holds_more x xs spool mid new held is = is ∙ ap (option_map (put (ahead_name stanza x.segment (sha1 x.bytes)) (Some x.bytes))) held ∙ both spool
    where
      both : (o : Option Content) → option_map (put (ahead_name stanza x.segment (sha1 x.bytes)) (Some x.bytes)) (option_map (λ f. with_fetched stanza xs (without (ahead_folder stanza) f)) o) ≡ option_map (λ f. with_fetched stanza (x ∷ xs) (without (ahead_folder stanza) f)) o
      both None = refl
      both (Some f) = refl

  pub one_more : (spool mid new : Option Content) (last s : Segment) (n m : ℕ) → HasFetched stanza id after size repo spool mid last n → m ≡ n + 1 → IsNext size last s → FetchesOne stanza id s repo mid new → HasFetched stanza id after size repo spool new s m
  one_more spool mid new last s n m h more next one =
      let x : Fetch = record { segment = s; bytes = one.bytes } in
      record {
        fetched = x ∷ h.fetched;
        following = record { follow = (subst (λ (l : Segment). IsNext size l s) h.last_is next, h.following.follow); kept = both_kept repo x h.fetched one.kept h.following.kept };
        count = omega (arith, h.count, more);
        last_is = refl;
        holds = holds_more x h.fetched spool mid new h.holds one.put_there;
      }

  module _ (most : ℕ) (spool mid : Option Content) (last : Segment) (n : ℕ) (h : HasFetched stanza id after size repo spool mid last n) where
    -- the queue is full
    pub fetched_all : n ≡ most → IsFetched stanza id after size most repo spool mid most
    fetched_all is = record { fetched = h.fetched; following = h.following; count = h.count ∙ is; few = omega arith; ends = inl refl; holds = h.holds }

    -- none follows
    pub fetched_end : (new : Option Content) (m : ℕ) → m ≡ n → m < most → HasNoNext stanza id size repo last → new ≡ mid → IsFetched stanza id after size most repo spool new m
    fetched_end new m is few end same = record {
      fetched = h.fetched;
      following = h.following;
      count = h.count ∙ sym is;
      few = omega (arith, few);
      ends = inr (subst (λ (l : Segment). HasNoNext stanza id size repo l) h.last_is end);
      holds = same ∙ h.holds;
    }

    -- the one that follows isn't available
    pub fetch_fails : n < most → (fault : GetFault) → NextCause stanza id last size repo fault → AheadCause stanza id after size most repo fault
    fetch_fails few fault cause = record { fetched = h.fetched; following = h.following; few = omega (arith, h.count, few); next = cause.0; follows = subst (λ (l : Segment). IsNext size l cause.0) h.last_is cause.1; cause = cause.2 }
