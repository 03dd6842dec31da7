-- What storing a file does to the log.
use Rattle.std.proofs.Common.{◌≡◌, ◌≢◌, ◌⊎◌, ⊎_elim, inl, inr, List, [], ◌∷◌, Option, Some, None, refl, ap, ◌∙◌, sym, subst, true, false}
use Rattle.std.specs.Prelude.{IfSome, IsSome, IsSomeAnd}
use Rattle.base_devices.specs.Content.{Content, put}
use Rattle.base_devices.specs.Moments.{View}
use Rattle.base_devices.specs.Crash.{Alike, IsTemporary, Leaves, Crash, FirstOf, NowChanges, IsAlikeAt}
use Rattle.base_devices.specs.DataFolder.{Nodes, file_bytes}
use Rattle.base_devices.proofs.Crashes.{crash_ends}
use Rattle.base_devices.proofs.Nows.{known_as}
use Rattle.base_model.specs.declared.clusters.Cluster.{Cluster}
use Rattle.base_model.specs.declared.clusters.ClusterId.{ClusterId}
use Rattle.base_model.specs.declared.wal.ArchiveId.{ArchiveId}
use Rattle.base_model.specs.declared.wal.ArchiveName.{ArchiveName}
use Rattle.base_model.specs.Text.{Text}
use Rattle.base_model.specs.Names.{archive_info, copy_of, wal_text}
use Rattle.base_model.specs.InfoFiles.{IsArchiveText}
use Rattle.base_model.specs.Fields.{at_number}
use Rattle.base_model.specs.Repository.{Archived, Stanza, Repository, id_of, identity_of, current_number}
use Rattle.base_model.specs.Represents.{Represents, archive_value, IsArchiveFile}
use Rattle.base_model.specs.Steps.{Step, Command, ArchivePush, Named, IsPartOf, after, after_all, all_of, steps_of, push_of, archived_of}
use Rattle.base_model.specs.Now.{NowRepresents}
use Rattle.base_model.specs.Walks.{DoesPart as DoesPartOf, DoesAll}
use Rattle.base_model.proofs.Created.{put_other}
use Rattle.base_model.proofs.Frame.{pair_same}
use Rattle.base_model.proofs.NameLemmas.{file_info_apart, file_info_copy_apart}
use Rattle.base_model.proofs.Temporary.{pair_lasts}
use Rattle.base_model.proofs.PushDone.{stanza_of, current_of, push_is_part, now_whole}
use Rattle.base_model.proofs.PushSound.{push_keeps_sound}
use Rattle.base_model.proofs.Segments.{IsPartOfPush}
use Rattle.base_model.proofs.Walking.{walks_with, ends_with}
use Rattle.repo_info.proofs.OneArchive.{one_archive_pair}
use Rattle.repo_pair.specs.Member.{IsMember}
use Rattle.repo_pair.proofs.Lasts.{ends_alike}
use Rattle.archive_store.specs.Pushes.{PushesPart, PushesAll, LeavesPart, LeavesAll}
use Rattle.cmd_types.specs.declared.stages.plan.SyncScope.TheVariants.{Looked}
use Rattle.cmd_types.specs.Current.{HasCurrent, id_kept, AgreesAtPair}
use Rattle.cmd_types.specs.DisksEffect.{IsLookedAt, PartEach, WholeEach, DoesPart, DoesWhole}
use Rattle.cmd_types.proofs.Doing.{now_known}
use Rattle.cmd_archive_push.specs.Commands.{IsPushOf}
use Rattle.cmd_archive_push.specs.WalPath.{HasWal, wal_path}
use Rattle.cmd_archive_push.proofs.WalNames.{one_name}

-- ---- the command

same_file : (f : Nodes) (folder path : Text) (wal : ArchiveName) (bytes : Text) (n : Named)
    → HasWal f folder path wal bytes → HasWal f folder path n.name n.bytes → n ≡ record { name = wal; bytes = bytes }
same_file f folder path wal bytes n has other =
    let e : n.name ≡ wal = one_name folder path n.name wal other.named has.named in
    let there : file_bytes (f (wal_path (wal_text wal))) ≡ Some n.bytes =
    subst (λ (name : ArchiveName). file_bytes (f (wal_path (wal_text name))) ≡ Some n.bytes) e other.is in
    let h : ◌≡◌ {A = Option Text} (Some n.bytes) (Some bytes) = sym there ∙ has.is in
    let b : n.bytes ≡ bytes = cc in
    ap (λ (name : ArchiveName). record { name = name; bytes = n.bytes }) e
    ∙ ap (λ (t : Text). record { name = wal; bytes = t }) b

-- the file that was read is the command's
push_is : (nodes : Option Nodes) (folder path : Text) (wal : ArchiveName) (bytes : Text) (command : Command)
    → IfSome nodes (λ f. HasWal f folder path wal bytes) → IsSomeAnd nodes (λ f. IsPushOf f folder path command)
    → command ≡ ArchivePush (record { name = wal; bytes = bytes })
push_is None folder path wal bytes command has is = absurd is
push_is (Some f) folder path wal bytes command has (inl x) = x.2
    ∙ ap ArchivePush (same_file f folder path wal bytes x.0 has x.1)
push_is (Some f) folder path wal bytes command has (inr x) = absurd (x.0 (record { name = wal; bytes = bytes }) has)

-- ---- the current cluster

-- the stanza that the disk represents, and its current cluster
pub current_at : (stanza : Text) (f : Content) (r : Repository) (c : ClusterId) → HasCurrent stanza f c → Represents stanza f r
    → (s : Stanza) × (r ≡ Some s) × ((d : Cluster) × (at_number (current_number s) s.history ≡ Some d)
    × (c ≡ identity_of d))
current_at stanza f r c has represents =
    let x = stanza_of stanza f has.0 r has.1 represents in
    let h : Represents stanza f (Some x.0) = subst (Represents stanza f) x.1 represents in (
      x.0,
      x.1,
      current_of x.0 has.0 c
          (one_archive_pair f (archive_info stanza) has.0 (archive_value x.0) has.1 h.archive_pair) has.2,
    )

current_known : (stanza : Text) (now : Option Content) (c : ClusterId) (f : Content) → now ≡ Some f
    → IfSome now (λ f. HasCurrent stanza f c) → HasCurrent stanza f c
current_known stanza now c f is h = subst (λ (o : Option Content). IfSome o (λ f. HasCurrent stanza f c)) is h

-- ---- what it does

known_now : (stanza : Text) (r : Repository) (o : Option Content) (g : Content) → o ≡ Some g → Represents stanza g r → NowRepresents stanza r o
known_now stanza r o g is represents = subst (λ (p : Option Content). NowRepresents stanza r p) (sym is) (record { represents = λ h is'. let e : g ≡ h = cc in subst (λ (k : Content). Represents stanza k r) e represents })

module _ (stanza : Text) (n : Named) (c : ClusterId) where
  abbrev as_of : ClusterId → Archived
  as_of k = record { id = id_kept k; name = n.name; bytes = n.bytes }

  -- where the archive pair has this cluster as its current one, the push is the command
  push_part : (f g : Content) → HasCurrent stanza f c → PushesPart stanza (id_kept c) n.name n.bytes f g → DoesPartOf stanza (ArchivePush n) f g
  push_part f g has pushes r represents =
      let x = current_at stanza f r c has represents in
      let here : Represents stanza f (Some x.0) = subst (Represents stanza f) x.1 represents in
      let p : IsPartOfPush stanza x.0 (archived_of (id_of x.2.0) n) g =
      subst (λ (k : ClusterId). IsPartOfPush stanza x.0 (as_of k) g) x.2.2 (pushes x.0 here) in
      subst (λ (q : Repository). (done : List Step) × IsPartOf done (steps_of (ArchivePush n) q)
      × Represents stanza g (after q done)) (sym x.1) (push_is_part n x.0 x.2.0 x.2.1 stanza g p)

  push_all : (f g : Content) → HasCurrent stanza f c → PushesAll stanza (id_kept c) n.name n.bytes f g → DoesAll stanza (ArchivePush n) f g
  push_all f g has pushes r represents =
      let x = current_at stanza f r c has represents in
      let here : Represents stanza f (Some x.0) = subst (Represents stanza f) x.1 represents in
      let p : Represents stanza g (Some (after_all x.0 (push_of x.0 (archived_of (id_of x.2.0) n)))) =
      subst (λ (k : ClusterId). Represents stanza g (Some (after_all x.0 (push_of x.0 (as_of k))))) x.2.2 (pushes x.0 here) in
      let whole = now_whole n x.0 x.2.0 x.2.1 stanza (Some g) (known_now stanza (Some (after_all x.0 (push_of x.0 (archived_of (id_of x.2.0) n)))) (Some g) g refl p) in
      let done : Represents stanza g (after (Some x.0) (all_of (steps_of (ArchivePush n) (Some x.0)))) =
      subst (λ (steps : List Step). Represents stanza g (after (Some x.0) steps)) whole.1 (whole.2.represents g refl) in
      subst (λ (q : Repository). Represents stanza g (after q (all_of (steps_of (ArchivePush n) q)))) (sym x.1) done

  module _ (old new : View) (current : IfSome old.now (λ f. HasCurrent stanza f c))
      (part : LeavesPart stanza (id_kept c) n.name n.bytes old new) where
    here : (f : Content) → old.now ≡ Some f → HasCurrent stanza f c
    here f is = current_known stanza old.now c f is current

    -- so it has in all that a crash leaves
    everywhere : IsLookedAt stanza old → (g : Content) → Leaves old old.moment g → HasCurrent stanza g c
    everywhere looked g leaves =
        let h = here looked.now.content looked.now.now in
        (h.0, looked.pair looked.now.content g h.0 looked.now.now leaves h.1, h.2)

    pub part_done : DoesPart Looked stanza (ArchivePush n) old new
    part_done = record {
      part = record {
        known = part.now.known;
        does = λ r from some now.
            let f = known_as old.now some in
            let g = known_as new.now (part.now.known some) in
            let x = push_part f.0 g.0 (here f.0 f.1) (part.now.goes f.0 g.0 f.1 g.1) r (now.represents f.0 f.1) in
            (x.0, x.1, known_now stanza (after r x.0) new.now g.0 g.1 x.2);
      };
      goes = λ looked.
          walks_with stanza (PushesPart stanza (id_kept c) n.name n.bytes) (PartEach stanza (ArchivePush n)) old new
          (λ f g leaves pushes r represents sound.
          let x = push_part f g (everywhere looked f leaves) pushes r represents in
          (x.0, x.1, x.2, push_keeps_sound n r false x.0 sound x.1))
          (part.walks looked.synced (now_known stanza old looked.now));
    }

    pub whole_done : LeavesAll stanza (id_kept c) n.name n.bytes old new → DoesWhole Looked stanza (ArchivePush n) old new
    whole_done all = record {
      done = record {
        known = all.now.known;
        does = λ r from some now.
            let f = known_as old.now some in
            let g = known_as new.now (all.now.known some) in (
              all_of (steps_of (ArchivePush n) r),
              refl,
              known_now stanza (after r (all_of (steps_of (ArchivePush n) r))) new.now g.0 g.1
                  (push_all f.0 g.0 (here f.0 f.1) (all.now.goes f.0 g.0 f.1 g.1) r (now.represents f.0 f.1)),
            );
      };
      ends = λ looked.
          ends_with (PushesAll stanza (id_kept c) n.name n.bytes) (WholeEach stanza (ArchivePush n)) old new
          (all.ends looked.synced (now_known stanza old looked.now))
          (λ f g leaves pushes r represents sound. (
            push_all f g (everywhere looked f leaves) pushes r represents,
            push_keeps_sound n r true (all_of (steps_of (ArchivePush n) r)) sound refl,
          ));
    }

-- ---- from the arguments' file and the id

module _ (stanza folder path : Text) (nodes : Option Nodes) (wal : ArchiveName) (bytes : Text)
    (has : IfSome nodes (λ f. HasWal f folder path wal bytes)) (id : ArchiveId) (c : ClusterId) (is : id ≡ id_kept c)
    (old new : View) (current : IfSome old.now (λ f. HasCurrent stanza f c)) (command : Command)
    (asked : IsSomeAnd nodes (λ f. IsPushOf f folder path command))
    (part : LeavesPart stanza id wal bytes old new) where
  abbrev n : Named
  n = record { name = wal; bytes = bytes }

  part_of : LeavesPart stanza (id_kept c) wal bytes old new
  part_of = subst (λ (i : ArchiveId). LeavesPart stanza i wal bytes old new) is part

  pub stores_part : DoesPart Looked stanza command old new
  stores_part = subst (λ (k : Command). DoesPart Looked stanza k old new)
      (sym (push_is nodes folder path wal bytes command has asked)) (part_done stanza n c old new current part_of)

  pub stores_whole : LeavesAll stanza id wal bytes old new → DoesWhole Looked stanza command old new
  stores_whole all = subst (λ (k : Command). DoesWhole Looked stanza k old new)
      (sym (push_is nodes folder path wal bytes command has asked))
      (whole_done stanza n c old new current part_of (subst (λ (i : ArchiveId). LeavesAll stanza i wal bytes old new) is all))

-- ---- the pair after the push

pair_apart : (stanza name q : Text) → IsArchiveFile stanza name → (q ≡ archive_info stanza)
    ⊎ (q ≡ copy_of (archive_info stanza)) → q ≢ name
pair_apart stanza name q file (inl e) k = file_info_apart stanza name file (sym k ∙ e)
pair_apart stanza name q file (inr e) k = file_info_copy_apart stanza name file (sym k ∙ e)

kept_at : (stanza name bytes q : Text) (f g : Content) → IsArchiveFile stanza name → (q ≡ archive_info stanza)
    ⊎ (q ≡ copy_of (archive_info stanza)) → ¬ IsTemporary q → FirstOf ((name, bytes) ∷ []) f g → g q ≡ f q
kept_at stanza name bytes q f g file is lasting w =
    ⊎_elim (λ (a : Alike f g). a.same q lasting)
    (λ (a : Alike (put name (Some bytes) f) g). a.same q lasting
    ∙ put_other name (Some bytes) f q (pair_apart stanza name q file is)) w

-- the push leaves the pair unchanged
pub agrees_on : (stanza name bytes : Text) (old new : Option Content) → IsArchiveFile stanza name
    → NowChanges (FirstOf ((name, bytes) ∷ [])) old new → IsSome old → IfSome old (AgreesAtPair stanza)
    → IfSome new (AgreesAtPair stanza)
agrees_on stanza name bytes old new file goes some agrees =
    let f = known_as old some in
    let g = known_as new (goes.known some) in
    let w = goes.goes f.0 g.0 f.1 g.1 in
    let main = kept_at stanza name bytes (archive_info stanza) f.0 g.0 file (inl refl)
    (pair_lasts stanza (archive_info stanza) (inl refl)) w in
    let copy = kept_at stanza name bytes (copy_of (archive_info stanza)) f.0 g.0 file (inr refl)
    (pair_lasts stanza (copy_of (archive_info stanza)) (inr (inl refl))) w in
    let h : AgreesAtPair stanza f.0 = subst (λ (o : Option Content). IfSome o (AgreesAtPair stanza)) f.1 agrees in
    subst (λ (o : Option Content). IfSome o (AgreesAtPair stanza)) (sym g.1)
    (copy ∙ h.0 ∙ sym main, subst (λ (v : Option Text). IsSome v) (sym main) h.1)

-- .. in all that a crash leaves too
pub members_on : (stanza name bytes : Text) (old new : View) → IsArchiveFile stanza name
    → Crash (FirstOf ((name, bytes) ∷ [])) old new → IsSome old.now → IsAlikeAt (IsMember (archive_info stanza)) old
    → IsAlikeAt (IsMember (archive_info stanza)) new
members_on stanza name bytes old new file crash some alike =
    ends_alike (IsMember (archive_info stanza)) old new (FirstOf ((name, bytes) ∷ []))
    (λ f g w n is. kept_at stanza name bytes n f g file is (pair_lasts stanza n
    (⊎_elim (λ (e : n ≡ archive_info stanza). inl e) (λ (e : n ≡ copy_of (archive_info stanza)). inr (inl e)) is)) w)
    (crash_ends (FirstOf ((name, bytes) ∷ [])) old new crash) some alike

-- .. and its current cluster
pub current_on : (stanza name bytes : Text) (c : ClusterId) (old new : Option Content) → IsArchiveFile stanza name
    → NowChanges (FirstOf ((name, bytes) ∷ [])) old new → IfSome old (λ f. HasCurrent stanza f c) → IsSome old
    → IfSome new (λ f. HasCurrent stanza f c)
current_on stanza name bytes c old new file goes current some =
    let f = known_as old some in
    let g = known_as new (goes.known some) in
    let w = goes.goes f.0 g.0 f.1 g.1 in
    let main = kept_at stanza name bytes (archive_info stanza) f.0 g.0 file (inl refl)
    (pair_lasts stanza (archive_info stanza) (inl refl)) w in
    let copy = kept_at stanza name bytes (copy_of (archive_info stanza)) f.0 g.0 file (inr refl)
    (pair_lasts stanza (copy_of (archive_info stanza)) (inr (inl refl))) w in
    let h = current_known stanza old c f.0 f.1 current in
    subst (λ (o : Option Content). IfSome o (λ f. HasCurrent stanza f c)) (sym g.1)
    (h.0, pair_same IsArchiveText f.0 g.0 (archive_info stanza) h.0 main copy h.1, h.2)
