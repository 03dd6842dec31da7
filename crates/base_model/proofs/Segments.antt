-- The push of a segment, as a part of a command.
use Rattle.std.proofs.Common.{◌≡◌, ⊎_elim, inl, inr, List, [], ◌∷◌, map, Option, Some, None, refl, ◌<◌, ◌^◌, ◌∙◌, sym, subst, ◌⊎◌}
use Rattle.std.specs.Prelude.{IsSome, IfSome}
use Rattle.sha1.specs.Sha1.{sha1}
use Rattle.base_text.specs.Sum.{sum_text}
use Rattle.base_text.proofs.Digests.{IsSum-sha1}
use Rattle.base_devices.specs.Content.{Content}
use Rattle.base_devices.specs.Moments.{View, LeavesNoMore}
use Rattle.base_devices.specs.Crash.{Crash, Ends, FirstOf, AllOf, NowChanges}
use Rattle.base_devices.proofs.Nows.{known_as}
use Rattle.base_model.specs.declared.wal.ArchiveId.{ArchiveId}
use Rattle.base_model.specs.declared.wal.Segment.{Segment}
use Rattle.base_model.specs.declared.wal.ArchiveName.TheVariants.{Segment as Whole}
use Rattle.base_model.specs.Text.{Text}
use Rattle.base_model.specs.Names.{archive_name}
use Rattle.base_model.specs.InfoFiles.{IsSegment}
use Rattle.base_model.specs.Repository.{Archived, Stanza}
use Rattle.base_model.specs.Represents.{Represents, IsArchivePlace}
use Rattle.base_model.specs.Steps.{Step, One, IsPartOf, changed, after, after_all, Push, push_of}
use Rattle.base_model.specs.Now.{NowRepresents}
use Rattle.base_model.specs.Steady.{IsSteady, EachImage}
use Rattle.base_model.proofs.Done.{part_none}
use Rattle.base_model.proofs.Steady.{steady_rests, rests_moves}
use Rattle.base_model.proofs.Pushed.{at_known, LacksSegment, HasSegment, lacks_at, new_push, no_push, push_moves, push_steady, push_now, pushed_now}

-- g represents the stanza after a part of the push
abbrev pub IsPartOfPush : Text → Stanza → Archived → Content → Type 0
IsPartOfPush stanza s a g = (done : List Step) × IsPartOf done (map One (push_of s a)) × Represents stanza g (after (Some s) done)

-- the disk represents it, where that is known
abbrev pub NowPartOfPush : Text → Stanza → Archived → Option Content → Type 0
NowPartOfPush stanza s a now = (done : List Step) × IsPartOf done (map One (push_of s a)) × NowRepresents stanza (after (Some s) done) now

module _ (stanza : Text) (s : Stanza) (a : Archived) where
  one_done : push_of s a ≡ Push a ∷ [] → IsPartOf (Push a ∷ []) (map One (push_of s a))
  one_done e = subst (λ (steps : List Step). IsPartOf (Push a ∷ []) (map One steps)) (sym e) (inr ([], refl, refl))

  all_done : push_of s a ≡ Push a ∷ [] → changed (Push a) s ≡ after_all s (push_of s a)
  all_done e = subst (λ (steps : List Step). changed (Push a) s ≡ after_all s steps) (sym e) refl

  all_none : push_of s a ≡ [] → s ≡ after_all s (push_of s a)
  all_none e = subst (λ (steps : List Step). s ≡ after_all s steps) (sym e) refl

  -- with nothing done
  pub still_part : (g : Content) → Represents stanza g (Some s) → IsPartOfPush stanza s a g
  still_part g h = ([], part_none (map One (push_of s a)), h)

  pub still_now_part : (old new : Option Content) → new ≡ old → NowRepresents stanza (Some s) old → NowPartOfPush stanza s a new
  still_now_part old new same now = ([], part_none (map One (push_of s a)), subst (λ (o : Option Content). NowRepresents stanza (Some s) o) (sym same) now)

  pub still_moves : (v b : View) → IsSteady stanza (Some s) v → IsSome v.now → LeavesNoMore v b → b.now ≡ v.now → EachImage stanza (IsPartOfPush stanza s a) v b
  still_moves v b steady known rests same = rests_moves stanza (Some s) (IsPartOfPush stanza s a) v b rests same steady known still_part

  -- with it done
  done_part : push_of s a ≡ Push a ∷ [] → (g : Content) → Represents stanza g (Some s) ⊎ Represents stanza g (Some (changed (Push a) s)) → IsPartOfPush stanza s a g
  done_part e g h = ⊎_elim (still_part g) (λ (k : Represents stanza g (Some (changed (Push a) s))). (Push a ∷ [], one_done e, k)) h

  done_now_part : push_of s a ≡ Push a ∷ [] → (new : Option Content) → NowRepresents stanza (Some s) new ⊎ NowRepresents stanza (Some (changed (Push a) s)) new → NowPartOfPush stanza s a new
  done_now_part e new h = ⊎_elim (λ (k : NowRepresents stanza (Some s) new). ([], part_none (map One (push_of s a)), k)) (λ (k : NowRepresents stanza (Some (changed (Push a) s)) new). (Push a ∷ [], one_done e, k)) h

  moves_with : (P Q : Content → Type 0) (v d : View) → ((g : Content) → P g → Q g) → EachImage stanza P v d → EachImage stanza Q v d
  moves_with P Q v d with_q m = record {
    later = m.later;
    past = m.past;
    past_unsynced = m.past_unsynced;
    known = m.known;
    fixed = m.fixed;
    places = m.places;
    leaves = λ t f lo hi leaves. with_q f (m.leaves t f lo hi leaves);
  }

-- a segment's name with the sum of its bytes is that of an archive file
pub segment_place : (id : ArchiveId) (segment : Segment) (bytes : Text) → id.version < 2 ^ 32 → id.number < 2 ^ 32 → IsSegment segment → IsArchivePlace id (Whole segment) (sha1 bytes)
segment_place id segment bytes version number fits = record { version = version; number = number; fits = fits; digest = IsSum-sha1 bytes }

-- a segment that may be stored with any sum
module _ (stanza : Text) (id : ArchiveId) (segment : Segment) (bytes : Text) (fits : IsArchivePlace id (Whole segment) (sha1 bytes)) (s : Stanza) where
  abbrev a : Archived
  a = record { id = id; name = Whole segment; bytes = bytes }

  abbrev name : Text
  name = archive_name stanza id (Whole segment) (sum_text (sha1 bytes))

  lacking : (o : Option Content) → IfSome o (LacksSegment stanza id segment) → IfSome o (λ f. f (archive_name stanza id (Whole segment) (sum_text (sha1 bytes))) ≡ None)
  lacking None lacks = tt
  lacking (Some f) lacks = lacks_at stanza id segment bytes f lacks (sha1 bytes) fits.digest

  is_new : (o : Option Content) → IsSome o → NowRepresents stanza (Some s) o → IfSome o (LacksSegment stanza id segment) → push_of s (record { id = id; name = Whole segment; bytes = bytes }) ≡ Push (record { id = id; name = Whole segment; bytes = bytes }) ∷ []
  is_new o some now lacks =
      let f = known_as o some in
      new_push stanza id segment bytes f.0 s (now.represents f.0 f.1) (lacks_at stanza id segment bytes f.0 (at_known (LacksSegment stanza id segment) o f.0 f.1 lacks))

  is_old : (o : Option Content) → IsSome o → NowRepresents stanza (Some s) o → IfSome o (HasSegment stanza id segment) → push_of s (record { id = id; name = Whole segment; bytes = bytes }) ≡ []
  is_old o some now has =
      let f = known_as o some in
      let x = at_known (HasSegment stanza id segment) o f.0 f.1 has in
      no_push stanza id segment bytes fits f.0 s (now.represents f.0 f.1) x.0 x.1 x.2

  steady_now : (v : View) → IsSteady stanza (Some s) v → NowRepresents stanza (Some s) v.now
  steady_now v steady = record { represents = λ f is. steady.represents f (inl is) }

  -- ---- what the disk holds

  -- from reading to writing the disk holds the same
  from_old : (old mid : Option Content) (Step : Content → Content → Type 0) (new : Option Content) → mid ≡ old → NowChanges Step mid new → NowChanges Step old new
  from_old old mid Step new same goes = record {
    known = λ some. goes.known (subst (λ (o : Option Content). IsSome o) (sym same) some);
    goes = λ f g is is'. goes.goes f g (same ∙ is) is';
  }

  pub new_part : (old mid new : Option Content) → IsSome old → IfSome old (LacksSegment stanza id segment) → mid ≡ old → NowChanges (FirstOf ((archive_name stanza id (Whole segment) (sum_text (sha1 bytes)), bytes) ∷ [])) mid new
      → NowRepresents stanza (Some s) old → NowPartOfPush stanza s (record { id = id; name = Whole segment; bytes = bytes }) new
  new_part old mid new some lacks same goes now = done_now_part stanza s a (is_new old some now lacks) new (push_now stanza a fits s old new some now (lacking old lacks) (from_old old mid (FirstOf ((name, bytes) ∷ [])) new same goes))

  pub new_done : (old mid new : Option Content) → IsSome old → IfSome old (LacksSegment stanza id segment) → mid ≡ old → NowChanges (AllOf ((archive_name stanza id (Whole segment) (sum_text (sha1 bytes)), bytes) ∷ [])) mid new
      → NowRepresents stanza (Some s) old → NowRepresents stanza (Some (after_all s (push_of s (record { id = id; name = Whole segment; bytes = bytes })))) new
  new_done old mid new some lacks same goes now =
      subst (λ (x : Stanza). NowRepresents stanza (Some x) new) (all_done stanza s a (is_new old some now lacks)) (pushed_now stanza a fits s old new some now (lacking old lacks) (from_old old mid (AllOf ((name, bytes) ∷ [])) new same goes))

  pub same_done : (old new : Option Content) → IsSome old → IfSome old (HasSegment stanza id segment) → new ≡ old
      → NowRepresents stanza (Some s) old → NowRepresents stanza (Some (after_all s (push_of s (record { id = id; name = Whole segment; bytes = bytes })))) new
  same_done old new some has same now = subst (λ (x : Stanza). NowRepresents stanza (Some x) new) (all_none stanza s a (is_old old some now has)) (subst (λ (o : Option Content). NowRepresents stanza (Some s) o) (sym same) now)

  -- ---- what a crash leaves of it

  module _ (v b : View) (steady : IsSteady stanza (Some s) v) (known : IsSome v.now) (rests : LeavesNoMore v b) (same : b.now ≡ v.now) where
    pub same_steady : IfSome v.now (HasSegment stanza id segment) → IsSteady stanza (Some (after_all s (push_of s (record { id = id; name = Whole segment; bytes = bytes })))) b
    same_steady has = subst (λ (x : Stanza). IsSteady stanza (Some x) b) (all_none stanza s a (is_old v.now known (steady_now v steady) has)) (steady_rests stanza (Some s) v b rests same steady)

    module _ (d : View) (lacks : IfSome v.now (LacksSegment stanza id segment)) (crash : Crash (FirstOf ((archive_name stanza id (Whole segment) (sum_text (sha1 bytes)), bytes) ∷ [])) b d) where
      pub new_moves : EachImage stanza (IsPartOfPush stanza s (record { id = id; name = Whole segment; bytes = bytes })) v d
      new_moves = moves_with stanza s a (λ g. Represents stanza g (Some s) ⊎ Represents stanza g (Some (changed (Push a) s))) (IsPartOfPush stanza s a) v d
          (done_part stanza s a (is_new v.now known (steady_now v steady) lacks)) (push_moves stanza a fits s v b d steady known (lacking v.now lacks) rests same crash)

      pub new_steady : Ends (AllOf ((archive_name stanza id (Whole segment) (sum_text (sha1 bytes)), bytes) ∷ [])) b d → IsSteady stanza (Some (after_all s (push_of s (record { id = id; name = Whole segment; bytes = bytes })))) d
      new_steady ends = subst (λ (x : Stanza). IsSteady stanza (Some x) d) (all_done stanza s a (is_new v.now known (steady_now v steady) lacks))
          (push_steady stanza a fits s v b d steady known (lacking v.now lacks) rests same crash ends)
