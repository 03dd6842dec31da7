-- A pair of the archive of which a member is written anew.
use Rattle.std.proofs.Common.{◌≡◌, ◌≢◌, ⊎_elim, inl, inr, Option, Some, None, refl, ap, ◌∙◌, sym, arith, get_or, false}
use Rattle.std.specs.Prelude.{IsSome}
use Rattle.base_devices.specs.Content.{Content, put}
use Rattle.base_devices.specs.Moments.{View, is_unsynced}
use Rattle.base_devices.specs.Crash.{Alike, Leaves, Crash, SomeOf, NowChanges}
use Rattle.base_devices.proofs.Nows.{known_as}
use Rattle.base_model.specs.declared.files.Bundled.{Bundled}
use Rattle.base_model.specs.declared.labels.Label.{Label}
use Rattle.base_model.specs.Text.{Text}
use Rattle.base_model.specs.Names.{archive_info, backup_info, copy_of, manifest_name}
use Rattle.base_model.specs.Values.{ArchiveInfo, FileEntry}
use Rattle.base_model.specs.InfoFiles.{IsArchiveText}
use Rattle.base_model.specs.Pair.{PairIs, MemberIs}
use Rattle.base_model.specs.Place.{place_by}
use Rattle.base_model.specs.Create.{member_writes}
use Rattle.base_model.specs.Repository.{Stanza}
use Rattle.base_model.specs.Represents.{Represents, HasStanza, IsArchiveFile, archive_value}
use Rattle.base_model.specs.Log.{IsPlaceOf, IsManifestMember}
use Rattle.base_model.specs.Now.{NowRepresents}
use Rattle.base_model.specs.Steady.{IsSteady, EachImage}
use Rattle.base_model.proofs.NameLemmas.{copy_apart, file_info_apart, file_info_copy_apart}
use Rattle.base_model.proofs.Frame.{AgreesPast, stanza_past, past_alike, past_past, alike_represents}
use Rattle.base_model.proofs.Created.{put_other, put_same}
use Rattle.base_model.proofs.Passing.{crash_moves, crash_places}

-- what lies below the backup folder begins otherwise than what lies below the archive's
place_begins : (stanza : Text) (l : Label) (e : FileEntry) (b : Option Bundled) → get_or (place_by stanza l e b).0 0 0 ≡ 98
place_begins stanza l e None = refl
place_begins stanza l e (Some b) = refl

pub in_backups : (n m : Text) → get_or m 0 0 ≡ 97 → get_or n 0 0 ≡ 98 → n ≢ m
in_backups n m first second e = absurd (omega (arith, first, second, ap (λ t. get_or t 0 0) e))

pub manifest_begins : (stanza n : Text) → IsManifestMember stanza n → get_or n 0 0 ≡ 98
manifest_begins stanza n m = ⊎_elim
    (λ (e : n ≡ manifest_name stanza m.0). ap (λ t. get_or t 0 0) e)
    (λ (e : n ≡ copy_of (manifest_name stanza m.0)). ap (λ t. get_or t 0 0) e) m.1

pub entry_begins : (stanza : Text) (f : Content) (n : Text) → IsPlaceOf stanza f n → get_or n 0 0 ≡ 98
entry_begins stanza f n p = ap (λ t. get_or t 0 0) p.is ∙ place_begins stanza p.label p.entry p.entry.bundle

-- a write below the archive's folder
pub put_past : (stanza name bytes : Text) (f : Content) → get_or name 0 0 ≡ 97 → AgreesPast stanza f (put name (Some bytes) f)
put_past stanza name bytes f begins = record {
  backup = put_other name (Some bytes) f (backup_info stanza) (in_backups (backup_info stanza) name begins refl);
  backup_copy = put_other name (Some bytes) f (copy_of (backup_info stanza)) (in_backups (copy_of (backup_info stanza)) name begins refl);
  listed = λ n h. put_other name (Some bytes) f n (in_backups n name begins (manifest_begins stanza n h));
  places = λ n h. put_other name (Some bytes) f n (in_backups n name begins (entry_begins stanza f n h));
}

module _ (stanza : Text) (s : Stanza) (text : Text) (is : IsArchiveText (archive_value s) text) where
  -- the member is written, and the pair still has the value
  written : (f : Content) (name : Text) → get_or name 0 0 ≡ 97 → ((n : Text) → IsArchiveFile stanza n → n ≢ name) → PairIs IsArchiveText (put name (Some text) f) (archive_info stanza) (archive_value s) → HasStanza stanza f s → HasStanza stanza (put name (Some text) f) s
  written f name begins apart pair h = stanza_past stanza f (put name (Some text) f) (put_past stanza name text f begins) s h s.archived pair h.named
      (λ n bytes file. let e = put_other name (Some text) f n (apart n file) in
      ((λ is. (h.archived n bytes file).0 (sym e ∙ is)), (λ x. e ∙ (h.archived n bytes file).1 x)))

  abbrev main : Text
  main = archive_info stanza

  abbrev copy : Text
  copy = copy_of (archive_info stanza)

  main_written : (f : Content) → HasStanza stanza f s → HasStanza stanza (put (archive_info stanza) (Some text) f) s
  main_written f h = written f (archive_info stanza) refl (file_info_apart stanza) (inl (text, put_same (archive_info stanza) (Some text) f, is)) h

  copy_written : (f : Content) → HasStanza stanza f s → HasStanza stanza (put (copy_of (archive_info stanza)) (Some text) f) s
  copy_written f h = written f (copy_of (archive_info stanza)) refl (file_info_copy_apart stanza) pair h
    where
      other : put (copy_of (archive_info stanza)) (Some text) f (archive_info stanza) ≡ f (archive_info stanza)
      other = put_other (copy_of (archive_info stanza)) (Some text) f (archive_info stanza) (copy_apart (archive_info stanza))

      pair : PairIs IsArchiveText (put (copy_of (archive_info stanza)) (Some text) f) (archive_info stanza) (archive_value s)
      pair = ⊎_elim (λ (m : MemberIs IsArchiveText f (archive_info stanza) (archive_value s)). inl (m.0, other ∙ m.1, m.2))
          (λ (q : ((w : ArchiveInfo) → ¬ MemberIs IsArchiveText f (archive_info stanza) w) × MemberIs IsArchiveText f (copy_of (archive_info stanza)) (archive_value s)).
          inr ((λ w m. q.0 w (m.0, sym other ∙ m.1, m.2)), (text, put_same (copy_of (archive_info stanza)) (Some text) f, is))) h.archive_pair

  pub healed_represents : (f g : Content) → Represents stanza f (Some s) → SomeOf (member_writes (archive_info stanza) text) f g → Represents stanza g (Some s)
  healed_represents f g h w = ⊎_elim
      (λ x. ⊎_elim (λ a. alike_represents stanza f g (Some s) a h) (λ a. alike_represents stanza (put copy (Some text) f) g (Some s) a (copy_written f h)) x)
      (λ x. ⊎_elim (λ a. alike_represents stanza (put main (Some text) f) g (Some s) a (main_written f h))
      (λ a. alike_represents stanza (put copy (Some text) (put main (Some text) f)) g (Some s) a (copy_written (put main (Some text) f) (main_written f h))) x) w

  pub healed_past : (f g : Content) → SomeOf (member_writes (archive_info stanza) text) f g → AgreesPast stanza f g
  healed_past f g w = ⊎_elim
      (λ x. ⊎_elim (λ a. past_alike stanza f g a) (λ a. by copy f refl a) x)
      (λ x. ⊎_elim (λ a. by main f refl a) (λ a. past_past stanza f (put main (Some text) f) g (put_past stanza main text f refl) (by copy (put main (Some text) f) refl a)) x) w
    where
      by : (name : Text) (h : Content) → get_or name 0 0 ≡ 97 → Alike (put name (Some text) h) g → AgreesPast stanza h g
      by name h begins a = past_past stanza h (put name (Some text) h) g (put_past stanza name text h begins) (past_alike stanza (put name (Some text) h) g a)

  module _ (a d : View) (steady : IsSteady stanza (Some s) a) (known : IsSome a.now) (crash : Crash (SomeOf (member_writes (archive_info stanza) text)) a d) where
    healed_places : (g : Content) → Leaves d d.moment g → (n : Text) → IsPlaceOf stanza g n → is_unsynced d n ≡ false
    healed_places = crash_places stanza (Some s) (SomeOf (member_writes (archive_info stanza) text)) a d steady known crash healed_past

    pub healed_moves : EachImage stanza (λ g. Represents stanza g (Some s)) a d
    healed_moves = crash_moves stanza (Some s) (SomeOf (member_writes (archive_info stanza) text)) a d steady known crash (λ g. Represents stanza g (Some s)) healed_represents healed_places

    pub healed_steady : IsSteady stanza (Some s) d
    healed_steady = record {
      fixed = healed_moves.fixed;
      places = healed_moves.places;
      represents = λ g leaves. healed_moves.leaves d.moment g crash.later (omega arith) leaves;
    }

  -- of what the disk holds
  pub healed_now : (old new : Option Content) → IsSome old → NowChanges (SomeOf (member_writes (archive_info stanza) text)) old new → NowRepresents stanza (Some s) old → NowRepresents stanza (Some s) new
  healed_now old new some goes now = let f = known_as old some in
      record { represents = λ g is_g. healed_represents f.0 g (now.represents f.0 f.1) (goes.goes f.0 g f.1 is_g) }
