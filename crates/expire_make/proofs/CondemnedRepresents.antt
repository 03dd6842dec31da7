-- The backup pair loses the condemned labels, main member first.
use Rattle.std.proofs.Common.{◌≡◌, ◌≢◌, ◌⊎◌, ⊎_elim, inl, inr, Bool, true, false, List, Option, Some, refl, ap, ◌∙◌, sym, arith}
use Rattle.std.specs.Prelude.{filter, not, IsSome}
use Rattle.std.proofs.lemmas.Bool.{false_from_ne_true, not-true, false≢true}
use Rattle.base_devices.specs.Content.{Content, put}
use Rattle.base_devices.specs.Moments.{View, is_unsynced}
use Rattle.base_devices.specs.Crash.{Alike, Leaves, Crash, Ends, FirstOf, AllOf, NowChanges}
use Rattle.base_devices.proofs.Nows.{known_as}
use Rattle.base_model.specs.declared.clusters.Cluster.{Cluster}
use Rattle.base_model.specs.declared.labels.Label.{Label}
use Rattle.base_model.specs.Text.{Text, In}
use Rattle.base_model.specs.Names.{archive_info, backup_info, copy_of, manifest_name}
use Rattle.base_model.specs.InfoFiles.{IsBackupText}
use Rattle.base_model.specs.Pair.{PairIs}
use Rattle.base_model.specs.Place.{place_by}
use Rattle.base_model.specs.Create.{member_writes}
use Rattle.base_model.specs.Repository.{Backup, Stanza}
use Rattle.base_model.specs.Represents.{Represents, HasStanza, IsAncestor, Prior, Earlier, IsPending, IsArchiveFile, backup_value}
use Rattle.base_model.specs.Steps.{Condemn, changed}
use Rattle.base_model.specs.Log.{IsPlaceOf}
use Rattle.base_model.specs.Now.{NowRepresents}
use Rattle.base_model.specs.Steady.{IsSteady, EachImage}
use Rattle.base_model.proofs.NameLemmas.{copy_apart, pairs_apart, archive_backup_copy_apart, archive_copy_backup_apart, copies_apart, file_backup_apart, file_backup_copy_apart}
use Rattle.base_model.proofs.Created.{put_other, put_same}
use Rattle.base_model.proofs.Made.{now_of}
use Rattle.base_model.proofs.Frame.{place_past, past_alike, alike_represents, place_lasts}
use Rattle.base_model.proofs.Passing.{crash_moves, crash_steady}
use Rattle.expire_rules.proofs.Lists.{in_filter, filter_in}
use Rattle.expire_make.proofs.Leaving.{AreKept, all_kept, AgreesOn, has_left, place_left}
use Rattle.base_model.proofs.BackupNames.{IsBackupMember, main_member, copy_member, manifest_apart, entry_apart}

-- ---- what is left is closed

-- what depends on a condemned label is condemned
abbrev pub IsClosed : Stanza → (Label → Bool) → Type 0
IsClosed s test = (b : Backup) → In b s.backups → (l : Label) → b.entry.prior ≡ Some l → test l ≡ true → test b.entry.label ≡ true

module _ (s : Stanza) (test : Label → Bool) (closed : IsClosed s test) where
  abbrev pub spared : Backup → Bool
  spared b = not (test b.entry.label)

  abbrev pub kept : List Backup
  kept = filter (λ b. not (test b.entry.label)) s.backups

  to_kept : (b : Backup) → In b s.backups → test b.entry.label ≡ false → In b (filter (λ b. not (test b.entry.label)) s.backups)
  to_kept b at off = filter_in (λ b. not (test b.entry.label)) b s.backups at (ap not off)

  pub prior_off : (b : Backup) → In b s.backups → (l : Label) → b.entry.prior ≡ Some l → test b.entry.label ≡ false → test l ≡ false
  prior_off b at l prior off = false_from_ne_true (test l) (λ on. false≢true (sym off ∙ closed b at l prior on))

  -- an ancestor of what is left is left
  line_off : (l : Label) (b : Backup) → IsAncestor s.backups l b → In b s.backups → test b.entry.label ≡ false → (test l ≡ false) × IsAncestor (filter (λ b. not (test b.entry.label)) s.backups) l b
  line_off l b (Prior c m prior) at off = (prior_off c at m prior off, Prior c m prior)
  line_off l b (Earlier c p m in_p prior more) at off =
      let p_off = prior_off c at p.entry.label prior off in
      let x = line_off m p more in_p p_off in
      (x.0, Earlier c p m (to_kept p in_p p_off) prior x.1)

  pub left_kept : AreKept s (filter (λ b. not (test b.entry.label)) s.backups)
  left_kept = record {
    of_it = λ b at. (in_filter (λ b. not (test b.entry.label)) b s.backups at).0;
    lines = λ b at l ancestor listed.
        let from = in_filter (λ b. not (test b.entry.label)) b s.backups at in
        let x = line_off l b ancestor from.0 (not-true (test b.entry.label) from.1) in
        (x.1, (listed.0, to_kept listed.0 listed.1 (ap test listed.2 ∙ x.0), listed.2));
  }

-- ---- a write of a member of the backup pair

record IsApart (stanza name : Text) : Type 0 where
  archive : archive_info stanza ≢ name
  archive_copy : copy_of (archive_info stanza) ≢ name
  files : (n : Text) → IsArchiveFile stanza n → n ≢ name
  member : IsBackupMember stanza name

main_is_apart : (stanza : Text) → IsApart stanza (backup_info stanza)
main_is_apart stanza = record { archive = pairs_apart stanza; archive_copy = archive_copy_backup_apart stanza; files = file_backup_apart stanza; member = main_member stanza }

copy_is_apart : (stanza : Text) → IsApart stanza (copy_of (backup_info stanza))
copy_is_apart stanza = record { archive = archive_backup_copy_apart stanza; archive_copy = copies_apart stanza; files = file_backup_copy_apart stanza; member = copy_member stanza }

written_agrees : (stanza name text : Text) → IsApart stanza name → (s : Stanza) (those : List Backup) (f : Content) → AgreesOn stanza s those f (put name (Some text) f)
written_agrees stanza name text apart s those f = record {
  archive = put_other name (Some text) f (archive_info stanza) apart.archive;
  archive_copy = put_other name (Some text) f (copy_of (archive_info stanza)) apart.archive_copy;
  listed = λ b at. (
    put_other name (Some text) f (manifest_name stanza b.entry.label) (manifest_apart stanza (manifest_name stanza b.entry.label) name (b.entry.label, inl refl) apart.member),
    put_other name (Some text) f (copy_of (manifest_name stanza b.entry.label)) (manifest_apart stanza (copy_of (manifest_name stanza b.entry.label)) name (b.entry.label, inr refl) apart.member),
  );
  places = λ b at m of e in_m filled. put_other name (Some text) f (place_by stanza b.entry.label e e.bundle).0 (entry_apart stanza b.entry.label e e.bundle name apart.member);
}

-- g represents one of the two, and has no place that f doesn't have
record Comes (stanza : Text) (s : Stanza) (f g : Content) : Type 0 where
  has : HasStanza stanza g s
  places : (n : Text) → IsPlaceOf stanza g n → IsPlaceOf stanza f n

alike_comes : (stanza : Text) (s : Stanza) (f g h : Content) → Comes stanza s f g → Alike g h → Comes stanza s f h
alike_comes stanza s f g h c a = record {
  has = alike_represents stanza g h (Some s) a c.has;
  places = λ n p. c.places n (place_past stanza g h (past_alike stanza g h a) n p);
}

written : (stanza name text : Text) → IsApart stanza name → (s : Stanza) (kept : List Backup) → AreKept s kept → (f : Content) → HasStanza stanza f s → (pending : Option Cluster) → IsPending s pending
    → PairIs IsBackupText (put name (Some text) f) (backup_info stanza) (backup_value (record s { backups = kept }) pending) → Comes stanza (record s { backups = kept }) f (put name (Some text) f)
written stanza name text apart s kept are f h pending fits pair =
    let g = put name (Some text) f in
    let agrees = written_agrees stanza name text apart s kept f in
    record {
      has = has_left stanza f g s kept s.archived h are agrees pending fits pair h.named
          (λ n bytes file. let e = put_other name (Some text) f n (apart.files n file) in ((λ is. (h.archived n bytes file).0 (sym e ∙ is)), (λ x. e ∙ (h.archived n bytes file).1 x)));
      places = place_left stanza f g s kept s.archived h are agrees pending fits pair;
    }

module _ (stanza text : Text) (s : Stanza) (test : Label → Bool) (closed : IsClosed s test) (pending : Option Cluster) (fits : IsPending s pending) (is : IsBackupText (backup_value (changed (Condemn test) s) pending) text) where
  abbrev left : Stanza
  left = changed (Condemn test) s

  abbrev main : Text
  main = backup_info stanza

  abbrev copy : Text
  copy = copy_of (backup_info stanza)

  main_written : (f : Content) → HasStanza stanza f s → Comes stanza (changed (Condemn test) s) f (put (backup_info stanza) (Some text) f)
  main_written f h = written stanza main text (main_is_apart stanza) s (filter (λ b. not (test b.entry.label)) s.backups) (left_kept s test closed) f h pending fits (inl (text, put_same main (Some text) f, is))

  -- the main member has the value before its copy
  copy_written : (f : Content) → HasStanza stanza f s → Comes stanza (changed (Condemn test) s) f (put (copy_of (backup_info stanza)) (Some text) (put (backup_info stanza) (Some text) f))
  copy_written f h =
      let first = main_written f h in
      let g = put main (Some text) f in
      let other : put copy (Some text) g main ≡ Some text = put_other copy (Some text) g main (copy_apart main) ∙ put_same main (Some text) f in
      let next = written stanza copy text (copy_is_apart stanza) left left.backups (all_kept left) g first.has first.has.pending first.has.is_pending (by first.has.pending first.has.backup_pair other) in
      record { has = next.has; places = λ n p. first.places n (next.places n p) }
    where
      by : (c : Option Cluster) → PairIs IsBackupText (put main (Some text) f) main (backup_value left c) → put copy (Some text) (put main (Some text) f) main ≡ Some text → PairIs IsBackupText (put copy (Some text) (put main (Some text) f)) main (backup_value left c)
      by c (inl m) other = inl (m.0, other ∙ sym (put_same main (Some text) f) ∙ m.1, m.2)
      by c (inr q) other = absurd (q.0 (backup_value left pending) (text, put_same main (Some text) f, is))

  same_comes : (f : Content) → HasStanza stanza f s → Comes stanza s f f
  same_comes f h = record { has = h; places = λ n p. p }

  part : (f g : Content) → HasStanza stanza f s → FirstOf (member_writes (backup_info stanza) text) f g → Comes stanza s f g ⊎ Comes stanza (changed (Condemn test) s) f g
  part f g h (inl a) = inl (alike_comes stanza s f f g (same_comes f h) a)
  part f g h (inr (inl a)) = inr (alike_comes stanza left f (put main (Some text) f) g (main_written f h) a)
  part f g h (inr (inr a)) = inr (alike_comes stanza left f (put copy (Some text) (put main (Some text) f)) g (copy_written f h) a)

  pub condemned_part : (f g : Content) → HasStanza stanza f s → FirstOf (member_writes (backup_info stanza) text) f g → HasStanza stanza g s ⊎ HasStanza stanza g (changed (Condemn test) s)
  condemned_part f g h w = ⊎_elim (λ c. inl c.has) (λ c. inr c.has) (part f g h w)

  pub condemned_whole : (f g : Content) → HasStanza stanza f s → AllOf (member_writes (backup_info stanza) text) f g → HasStanza stanza g (changed (Condemn test) s)
  condemned_whole f g h a = (alike_comes stanza left f (put copy (Some text) (put main (Some text) f)) g (copy_written f h) a).has

  part_places : (f g : Content) → HasStanza stanza f s → FirstOf (member_writes (backup_info stanza) text) f g → (n : Text) → IsPlaceOf stanza g n → IsPlaceOf stanza f n
  part_places f g h w n p = ⊎_elim (λ c. c.places n p) (λ c. c.places n p) (part f g h w)

  -- ---- the disk

  module _ (a d : View) (steady : IsSteady stanza (Some s) a) (known : IsSome a.now) (crash : Crash (FirstOf (member_writes (backup_info stanza) text)) a d) where
    places : (g : Content) → Leaves d d.moment g → (n : Text) → IsPlaceOf stanza g n → is_unsynced d n ≡ false
    places g leaves n p =
        let x = crash.comes known d.moment g crash.later (omega arith) leaves in
        crash.synced d.moment n crash.later (omega arith) (place_lasts stanza g n p) (steady.places x.0 x.1 n (part_places x.0 g (steady.represents x.0 x.1) x.2 n p))

    pub condemned_moves : EachImage stanza (λ g. Represents stanza g (Some s) ⊎ Represents stanza g (Some (changed (Condemn test) s))) a d
    condemned_moves = crash_moves stanza (Some s) (FirstOf (member_writes (backup_info stanza) text)) a d steady known crash (λ g. Represents stanza g (Some s) ⊎ Represents stanza g (Some (changed (Condemn test) s))) condemned_part places

    pub condemned_steady : Ends (AllOf (member_writes (backup_info stanza) text)) a d → IsSteady stanza (Some (changed (Condemn test) s)) d
    condemned_steady ends = crash_steady stanza (Some s) (FirstOf (member_writes (backup_info stanza) text)) a d steady known crash (AllOf (member_writes (backup_info stanza) text)) ends (Some (changed (Condemn test) s)) condemned_whole places

  -- ---- what the disk holds

  module _ (old new : Option Content) (some : IsSome old) (now : NowRepresents stanza (Some s) old) where
    pub condemned_now : NowChanges (FirstOf (member_writes (backup_info stanza) text)) old new → NowRepresents stanza (Some s) new ⊎ NowRepresents stanza (Some (changed (Condemn test) s)) new
    condemned_now goes =
        let f = known_as old some in
        let g = known_as new (goes.known some) in
        ⊎_elim (λ h. inl (now_of stanza (Some s) new g.0 g.1 h)) (λ h. inr (now_of stanza (Some (changed (Condemn test) s)) new g.0 g.1 h)) (condemned_part f.0 g.0 (now.represents f.0 f.1) (goes.goes f.0 g.0 f.1 g.1))

    pub condemned_all : NowChanges (AllOf (member_writes (backup_info stanza) text)) old new → NowRepresents stanza (Some (changed (Condemn test) s)) new
    condemned_all goes = let f = known_as old some in record { represents = λ g is'. condemned_whole f.0 g (now.represents f.0 f.1) (goes.goes f.0 g f.1 is') }
