-- A stanza from which archive files that aren't needed were removed.
use Rattle.std.proofs.Common.{◌≡◌, ⊎_elim, Bool, true, false, List, [], ◌∷◌, get_or, is_none, Option, Some, None, refl, ap, ap₂, ◌∙◌, sym, subst, arith}
use Rattle.std.specs.Prelude.{IsSome, filter, not}
use Rattle.std.proofs.lemmas.Bool.{false≢true, false_from_ne_true, not-true}
use Rattle.sha1.specs.Sha1.{sha1}
use Rattle.base_devices.specs.Content.{Content}
use Rattle.base_devices.specs.Moments.{View, is_unsynced}
use Rattle.base_devices.specs.Crash.{Leaves, Crash, Ends, NowChanges}
use Rattle.base_devices.proofs.Nows.{known_as}
use Rattle.base_model.specs.declared.labels.Label.{Label}
use Rattle.base_model.specs.declared.wal.ArchiveId.{ArchiveId}
use Rattle.base_model.specs.declared.wal.ArchiveName.{ArchiveName}
use Rattle.base_model.specs.Text.{Text, In}
use Rattle.base_model.specs.Names.{archive_info, backup_info, copy_of, manifest_name}
use Rattle.base_model.specs.Values.{FileEntry}
use Rattle.base_model.specs.InfoFiles.{IsBackupText}
use Rattle.base_model.specs.Pair.{PairIs}
use Rattle.base_model.specs.declared.files.Bundled.{Bundled}
use Rattle.base_model.specs.Place.{place, place_by}
use Rattle.base_model.specs.Repository.{Archived, Stanza, AreApart}
use Rattle.base_model.specs.Represents.{Represents, HasStanza, IsArchiveFile, IsArchivePlace, stored_name, backup_value}
use Rattle.base_model.specs.Steps.{Step, IsSomeOf, after, all_of, Any, is_same_file}
use Rattle.base_model.specs.Log.{IsPlaceOf}
use Rattle.base_model.specs.Now.{NowRepresents}
use Rattle.base_model.specs.Steady.{IsSteady, EachImage}
use Rattle.base_model.proofs.NameLemmas.{file_info_apart, file_info_copy_apart}
use Rattle.base_model.proofs.Frame.{pair_same, place_lasts}
use Rattle.base_model.proofs.Made.{now_of}
use Rattle.base_model.proofs.Passing.{crash_moves, crash_steady}
use Rattle.expire_make.specs.Losing.{Loses, LosesAll, IsUnneeded}
use Rattle.expire_rules.proofs.Lists.{in_filter, filter_in}
use Rattle.expire_make.proofs.Leaving.{all_kept, AgreesOn, IsStoredIn, has_left, place_left}
use Rattle.expire_make.proofs.Dropped.{file_begins}
use Rattle.expire_make.proofs.Forgets.{itself, same_file, one_name, apart_one, groups, forgets, forgets_some, all_forgets, files_left, with_files, after_forgets, of_left, stays_left, IsSpared}

absent_some : (o : Option Text) (x : Text) → o ≡ None → o ≡ Some x → ⊥
absent_some o x none some = let e : ◌≡◌ {A = Option Text} None (Some x) = sym none ∙ some in cc

none_is : (o : Option Text) → is_none o ≡ true → o ≡ None
none_is None e = refl
none_is (Some x) e = cc

is_none_of : (o : Option Text) → o ≡ None → is_none o ≡ true
is_none_of o e = ap is_none e

module _ (stanza : Text) (keeps : ArchiveId → ArchiveName → Bool) (s : Stanza) where
  -- the files that aren't kept
  abbrev pub unneeded : List Archived
  unneeded = filter (λ a. not (keeps a.id a.name)) s.archived

  name_of : (f : Content) → HasStanza stanza f s → (x : Archived) → In x (filter (λ a. not (keeps a.id a.name)) s.archived) → IsUnneeded stanza keeps (stored_name stanza x)
  name_of f h x at =
      let k = in_filter (λ a. not (keeps a.id a.name)) x s.archived at in
      record { id = x.id; file = x.name; sum = sha1 x.bytes; fits = h.named x k.0; is = refl; not_kept = not-true (keeps x.id x.name) k.1 }

  unneeded_is_file : (n : Text) → IsUnneeded stanza keeps n → IsArchiveFile stanza n
  unneeded_is_file n u = record { id = u.id; file = u.file; sum = u.sum; fits = u.fits; is = u.is }

  module _ (apart : AreApart s.archived) (f : Content) (h : HasStanza stanza f s) (g : Content) (loses : Loses (IsUnneeded stanza keeps) f g) where
    same_at : (n : Text) → (IsUnneeded stanza keeps n → ⊥) → g n ≡ f n
    same_at n off = ⊎_elim (λ e. e) (λ (x : IsUnneeded stanza keeps n × (g n ≡ None)). absurd (off x.0)) (loses n)

    in_backup : (n : Text) → get_or n 0 0 ≡ 98 → g n ≡ f n
    in_backup n first = same_at n (λ u. absurd (omega (arith, first, file_begins stanza n (unneeded_is_file n u))))

    agrees : AgreesOn stanza s s.backups f g
    agrees = record {
      archive = same_at (archive_info stanza) (λ u. file_info_apart stanza (archive_info stanza) (unneeded_is_file (archive_info stanza) u) refl);
      archive_copy = same_at (copy_of (archive_info stanza)) (λ u. file_info_copy_apart stanza (copy_of (archive_info stanza)) (unneeded_is_file (copy_of (archive_info stanza)) u) refl);
      listed = λ b at. (in_backup (manifest_name stanza b.entry.label) refl, in_backup (copy_of (manifest_name stanza b.entry.label)) refl);
      places = λ b at m of e in_m filled. in_backup _ (place_begins b.entry.label e);
    }
      where
        place_begins : (l : Label) (e : FileEntry) → get_or (place stanza l e).0 0 0 ≡ 98
        place_begins l e = by e.bundle
          where
            by : (b : Option Bundled) → get_or (place_by stanza l e b).0 0 0 ≡ 98
            by None = refl
            by (Some b) = refl

    pair : PairIs IsBackupText g (backup_info stanza) (backup_value s h.pending)
    pair = pair_same IsBackupText f g (backup_info stanza) (backup_value s h.pending) (in_backup (backup_info stanza) refl) (in_backup (copy_of (backup_info stanza)) refl) h.backup_pair

    -- gone decides for each of the files whether g has it
    module _ (gone : Archived → Bool) (is_gone : (x : Archived) → In x (filter (λ a. not (keeps a.id a.name)) s.archived) → gone x ≡ true → g (stored_name stanza x) ≡ None)
        (shows : (x : Archived) → In x (filter (λ a. not (keeps a.id a.name)) s.archived) → g (stored_name stanza x) ≡ None → gone x ≡ true) where
      abbrev xs : List Archived
      xs = filter (λ a. not (keeps a.id a.name)) s.archived

      abbrev files : List Archived
      files = files_left gone xs s.archived

      named : (a : Archived) → In a (files_left gone (filter (λ a. not (keeps a.id a.name)) s.archived) s.archived) → IsArchivePlace a.id a.name (sha1 a.bytes)
      named a at = h.named a (of_left gone xs s.archived a at).0

      -- what g has is left
      forth : (n bytes : Text) → IsArchiveFile stanza n → g n ≡ Some bytes → IsStoredIn stanza (files_left gone (filter (λ a. not (keeps a.id a.name)) s.archived) s.archived) n bytes
      forth n bytes file has = ⊎_elim
          (λ (e : g n ≡ f n).
          let (a, at, is, same) = (h.archived n bytes file).0 (sym e ∙ has) in
          let spared : IsSpared gone xs a = λ x i went. false_from_ne_true (is_same_file x a) (λ one.
          let k = in_filter (λ a. not (keeps a.id a.name)) x s.archived i in
          let who = same_file x a (h.named x k.0) (h.named a at) one in
          let x_is : x ≡ a = apart_one s.archived apart x a k.0 at who.0 who.1 in
          absent_some (g n) bytes (ap g (is ∙ ap (stored_name stanza) (sym x_is)) ∙ is_gone x i went) has) in
          (a, stays_left gone xs s.archived a at spared, is, same))
          (λ (x : IsUnneeded stanza keeps n × (g n ≡ None)). absurd (absent_some (g n) bytes x.1 has))
          (loses n)

      back : (n bytes : Text) → IsArchiveFile stanza n → IsStoredIn stanza (files_left gone (filter (λ a. not (keeps a.id a.name)) s.archived) s.archived) n bytes → g n ≡ Some bytes
      back n bytes file stored =
          let (a, at, is, same) = stored in
          let k = of_left gone xs s.archived a at in
          ⊎_elim
          (λ (e : g n ≡ f n). e ∙ (h.archived n bytes file).1 (a, k.0, is, same))
          (λ (x : IsUnneeded stanza keeps n × (g n ≡ None)).
          let u = x.0 in
          let who = one_name stanza a.id u.id a.name u.file (sha1 a.bytes) u.sum (h.named a k.0) u.fits (sym is ∙ u.is) in
          let off : keeps a.id a.name ≡ false = ap₂ keeps who.0 who.1 ∙ u.not_kept in
          let in_xs : In a xs = filter_in (λ a. not (keeps a.id a.name)) a s.archived k.0 (ap not off) in
          absurd (false≢true (sym (k.1 a in_xs (shows a in_xs (ap g (sym is) ∙ x.1))) ∙ itself a)))
          (loses n)

      pub forgotten_has : HasStanza stanza g (with_files s (files_left gone (filter (λ a. not (keeps a.id a.name)) s.archived) s.archived))
      forgotten_has = has_left stanza f g s s.backups files h (all_kept s) agrees h.pending h.is_pending pair named (λ n bytes file. (forth n bytes file, back n bytes file))

      pub forgotten_represents : Represents stanza g (after (Some s) (forgets gone (filter (λ a. not (keeps a.id a.name)) s.archived)))
      forgotten_represents = subst (λ r. Represents stanza g r) (sym (after_forgets gone xs s.archived s)) forgotten_has

    pub forgotten_places : (n : Text) → IsPlaceOf stanza g n → IsPlaceOf stanza f n
    forgotten_places = place_left stanza f g s s.backups s.archived h (all_kept s) agrees h.pending h.is_pending pair

    -- some of them are forgotten: those that g doesn't have
    pub forgotten_part : (done : List Step) × IsSomeOf done (groups (filter (λ a. not (keeps a.id a.name)) s.archived)) × Represents stanza g (after (Some s) done)
    forgotten_part =
        let gone : Archived → Bool = λ a. is_none (g (stored_name stanza a)) in
        let xs = filter (λ a. not (keeps a.id a.name)) s.archived in
        (forgets gone xs, forgets_some gone xs, forgotten_represents gone (λ x i e. none_is (g (stored_name stanza x)) e) (λ x i e. is_none_of (g (stored_name stanza x)) e))

  -- all of them are
  pub forgotten_whole : AreApart s.archived → (f : Content) → HasStanza stanza f s → (g : Content) → LosesAll (IsUnneeded stanza keeps) f g → Represents stanza g (after (Some s) (all_of (Any (groups (filter (λ a. not (keeps a.id a.name)) s.archived)) ∷ [])))
  forgotten_whole apart f h g all =
      let xs = filter (λ a. not (keeps a.id a.name)) s.archived in
      subst (λ (steps : List Step). Represents stanza g (after (Some s) steps)) (sym (all_forgets xs))
      (forgotten_represents apart f h g all.loses (λ _. true) (λ x i e. all.gone (stored_name stanza x) (name_of f h x i)) (λ x i e. refl))

  module _ (apart : AreApart s.archived) (a d : View) (steady : IsSteady stanza (Some s) a) (known : IsSome a.now) (crash : Crash (Loses (IsUnneeded stanza keeps)) a d) where
    places : (g : Content) → Leaves d d.moment g → (n : Text) → IsPlaceOf stanza g n → is_unsynced d n ≡ false
    places g leaves n p =
        let x = crash.comes known d.moment g crash.later (omega arith) leaves in
        crash.synced d.moment n crash.later (omega arith) (place_lasts stanza g n p) (steady.places x.0 x.1 n (forgotten_places apart x.0 (steady.represents x.0 x.1) g x.2 n p))

    pub forgotten_moves : EachImage stanza (λ g. (done : List Step) × IsSomeOf done (groups (filter (λ a. not (keeps a.id a.name)) s.archived)) × Represents stanza g (after (Some s) done)) a d
    forgotten_moves = crash_moves stanza (Some s) (Loses (IsUnneeded stanza keeps)) a d steady known crash (λ g. (done : List Step) × IsSomeOf done (groups (filter (λ a. not (keeps a.id a.name)) s.archived)) × Represents stanza g (after (Some s) done)) (λ f g h x. forgotten_part apart f h g x) places

    pub forgotten_steady : Ends (LosesAll (IsUnneeded stanza keeps)) a d → IsSteady stanza (after (Some s) (all_of (Any (groups (filter (λ a. not (keeps a.id a.name)) s.archived)) ∷ []))) d
    forgotten_steady ends = crash_steady stanza (Some s) (Loses (IsUnneeded stanza keeps)) a d steady known crash (LosesAll (IsUnneeded stanza keeps)) ends
        (after (Some s) (all_of (Any (groups (filter (λ a. not (keeps a.id a.name)) s.archived)) ∷ []))) (λ f g h x. forgotten_whole apart f h g x) places

  module _ (apart : AreApart s.archived) (old new : Option Content) (some : IsSome old) (now : NowRepresents stanza (Some s) old) where
    pub forgotten_now : NowChanges (Loses (IsUnneeded stanza keeps)) old new → (done : List Step) × IsSomeOf done (groups (filter (λ a. not (keeps a.id a.name)) s.archived)) × NowRepresents stanza (after (Some s) done) new
    forgotten_now goes =
        let f = known_as old some in
        let g = known_as new (goes.known some) in
        let x = forgotten_part apart f.0 (now.represents f.0 f.1) g.0 (goes.goes f.0 g.0 f.1 g.1) in
        (x.0, x.1, now_of stanza (after (Some s) x.0) new g.0 g.1 x.2)

    pub forgotten_all : NowChanges (LosesAll (IsUnneeded stanza keeps)) old new → NowRepresents stanza (after (Some s) (all_of (Any (groups (filter (λ a. not (keeps a.id a.name)) s.archived)) ∷ []))) new
    forgotten_all goes = let f = known_as old some in record { represents = λ g is. forgotten_whole apart f.0 (now.represents f.0 f.1) g (goes.goes f.0 g f.1 is) }
