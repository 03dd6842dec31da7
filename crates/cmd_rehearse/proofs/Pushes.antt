-- Segments that are pushed one after another.
use Rattle.std.proofs.Common.{ℕ, zero, suc, ◌≡◌, ◌+◌, ◌-◌, ◌<◌, ◌≤◌, ◌^◌, refl, sym, subst, arith, Option, Some, None, Result, Ok, Err, true, lit<}
use Rattle.std.specs.Prelude.{IsSome, IfSome, IsErrAnd}
use Rattle.sha1.specs.Sha1.{sha1}
use Rattle.base_text.proofs.Digests.{IsSum-sha1}
use Rattle.base_devices.specs.Content.{Content}
use Rattle.base_devices.specs.Moments.{View}
use Rattle.base_model.specs.declared.clusters.ClusterId.{ClusterId}
use Rattle.base_model.specs.declared.wal.ArchiveId.{ArchiveId}
use Rattle.base_model.specs.declared.wal.ArchiveName.{ArchiveName}
use Rattle.base_model.specs.Represents.{IsWalName}
use Rattle.base_model.specs.Text.{Text}
use Rattle.base_model.specs.Steps.{Command, ArchivePush, Named, Then, Reading, all_of, steps_of}
use Rattle.base_model.proofs.PushSound.{push_keeps_sound}
use Rattle.archive_store.specs.Pushes.{Leaves, LeavesPart, LeavesAll, LeavesFile}
use Rattle.archive_store.specs.Still.{rests_none}
use Rattle.archive_lookup.specs.Stored.{archive_path}
use Rattle.base_model.specs.Values.{ArchiveInfo}
use Rattle.base_model.specs.Fields.{at_number}
use Rattle.cmd_types.specs.Current.{HasCurrent, HasValue, id_kept}
use Rattle.cmd_archive_push.proofs.Stores.{part_done, whole_done, current_on}
use Rattle.cmd_archive_push.proofs.StoreCauses.{file_of}
use Rattle.cmd_types.specs.declared.stages.plan.SyncScope.TheVariants.{Whole}
use Rattle.cmd_types.specs.DisksEffect.{DoesPart, DoesWhole}
use Rattle.cmd_types.proofs.Doing.{rests_part, rests_whole}
use Rattle.cmd_rehearse.specs.Advancing.{Advances, StaysSound}
use Rattle.cmd_rehearse.specs.Commands.{pushed, segment_named}
use Rattle.cmd_rehearse.proofs.Advanced.{part_known, whole_known}
use Rattle.cmd_rehearse.proofs.Settled.{part_settled, whole_settled}
use Rattle.cmd_rehearse.proofs.Thens.{prefix_does, back_does, back_whole, sound_both}

-- all of the command was done
pub record Advanced (stanza : Text) (command : Command) (old new : View) : Type 0 where
  pub part : DoesPart Whole stanza command old new
  pub whole : DoesWhole Whole stanza command old new
  pub sound : StaysSound stanza command old.now

pub nothing_pushed : (stanza : Text) (a : View) → Advanced stanza (pushed 0) a a
unfolding pushed
nothing_pushed stanza a = record { part = rests_part Whole stanza Reading a a (rests_none a) refl; whole = rests_whole Whole stanza a a (rests_none a) refl; sound = λ r some now sound. sound }

pub push_sound : (stanza : Text) (n : Named) (now : Option Content) → StaysSound stanza (ArchivePush n) now
push_sound stanza n now r some represents sound = push_keeps_sound n r true (all_of (steps_of (ArchivePush n) r)) sound refl

module _ (stanza : Text) (k : ℕ) (a m d : View) (h : Advanced stanza (pushed k) a m) where
  pub one_part : (IsSome a.now → DoesPart Whole stanza (ArchivePush (segment_named (suc k))) m d) → DoesPart Whole stanza (pushed (suc k)) a d
  unfolding pushed
  one_part p = part_known stanza (Then (pushed k) (ArchivePush (segment_named (suc k)))) a d
      (λ some. back_does (pushed k) (ArchivePush (segment_named (suc k))) stanza a m d h.part h.whole h.sound (p some))

  pub one_more : (IsSome a.now → DoesPart Whole stanza (ArchivePush (segment_named (suc k))) m d) → (IsSome a.now → DoesWhole Whole stanza (ArchivePush (segment_named (suc k))) m d) → Advanced stanza (pushed (suc k)) a d
  unfolding pushed
  one_more p w = record {
    part = one_part p;
    whole = whole_known stanza (Then (pushed k) (ArchivePush (segment_named (suc k)))) a d
        (λ some. back_whole (pushed k) (ArchivePush (segment_named (suc k))) stanza a m d h.part h.whole h.sound (w some));
    sound = sound_both (pushed k) (ArchivePush (segment_named (suc k))) stanza a.now m.now h.whole.done h.sound (push_sound stanza (segment_named (suc k)) m.now);
  }

-- a part of fewer pushes is one of more
pub pushed_more : (stanza : Text) (k m : ℕ) (a d : View) → DoesPart Whole stanza (pushed k) a d → DoesPart Whole stanza (pushed (m + k)) a d
unfolding pushed
pushed_more stanza k zero a d h = let e : k ≡ zero + k = omega arith in subst (λ (n : ℕ). DoesPart Whole stanza (pushed n) a d) e h
pushed_more stanza k (suc m) a d h = let e : suc (m + k) ≡ suc m + k = omega arith in subst (λ (n : ℕ). DoesPart Whole stanza (pushed n) a d) e
    (prefix_does (pushed (m + k)) (ArchivePush (segment_named (suc (m + k)))) stanza a d (pushed_more stanza k m a d h))

-- ---- one push

module _ (stanza : Text) (id : ArchiveId) (name : ArchiveName) (bytes : Text) (n : Named) (is_name : name ≡ n.name) (is_bytes : bytes ≡ n.bytes) (old new : View) (leaves : Leaves stanza id name (Some bytes) old new) where
  of_n : (c : ClusterId) → id ≡ id_kept c → LeavesPart stanza (id_kept c) n.name n.bytes old new
  of_n c is = subst (λ (i : ArchiveId). LeavesPart stanza i n.name n.bytes old new) is
      (subst (λ (t : Text). LeavesPart stanza id n.name t old new) is_bytes
      (subst (λ (w : ArchiveName). LeavesPart stanza id w bytes old new) is_name leaves.part))

  pub pushed_part : (c : ClusterId) → id ≡ id_kept c → IfSome old.now (λ f. HasCurrent stanza f c) → DoesPart Whole stanza (ArchivePush n) old new
  pushed_part c is current = part_settled stanza (ArchivePush n) old new (part_done stanza n c old new current (of_n c is))

  pub pushed_whole : LeavesFile stanza id name (Some bytes) old new → (c : ClusterId) → id ≡ id_kept c → IfSome old.now (λ f. HasCurrent stanza f c) → DoesWhole Whole stanza (ArchivePush n) old new
  pushed_whole file c is current =
      let all : LeavesAll stanza (id_kept c) n.name n.bytes old new =
      subst (λ (i : ArchiveId). LeavesAll stanza i n.name n.bytes old new) is
      (subst (λ (t : Text). LeavesAll stanza id n.name t old new) is_bytes
      (subst (λ (w : ArchiveName). LeavesAll stanza id w bytes old new) is_name file.all)) in
      whole_settled stanza (ArchivePush n) old new (part_done stanza n c old new current (of_n c is))
      (whole_done stanza n c old new current (of_n c is) all)

  pub pushed_current : (id.version < 2 ^ 32) × (id.number < 2 ^ 32) → IsWalName n.name → (c : ClusterId) → IfSome old.now (λ f. HasCurrent stanza f c) → IsSome old.now → IfSome new.now (λ f. HasCurrent stanza f c)
  pushed_current fits named c current some =
      let w = leaves.writes in
      current_on stanza (archive_path stanza id name (sha1 w.0)) w.0 c old.now new.now
      (file_of stanza id name (sha1 w.0) fits (subst (λ (m : ArchiveName). IsWalName m) (sym is_name) named) (IsSum-sha1 w.0)) w.2.now current some

-- ---- the end of many

pub pushes_stop : {T E : Type 0} (stanza : Text) (k count : ℕ) (e : E) (a d : View) → k ≤ count → DoesPart Whole stanza (pushed k) a d → Advances {T = T} stanza (pushed count) (Err e) a d
pushes_stop stanza k count e a d le h = record {
  part = let e : (count - k) + k ≡ count = omega arith in subst (λ (n : ℕ). DoesPart Whole stanza (pushed n) a d) e (pushed_more stanza k (count - k) a d h);
  whole = tt;
  sound = tt;
}

pub err_as : {T E : Type 0} (P : Result T E → Type 0) (result : Result T E) (e : E) → IsErrAnd result (λ h. h ≡ e) → P (Err e) → P result
err_as P (Ok x) e is h = absurd is
err_as {E = E} P (Err f) e is h = subst (λ (x : E). P (Err x)) (sym is) h

pub segment_fits : (k : ℕ) → k < 2 ^ 32 → IsWalName (segment_named k).name
segment_fits k fits = record { timeline = lit< tt; log = lit< tt; seg = fits }

-- the value of the archive pair states the current cluster
pub has_current : (stanza : Text) (now : Option Content) (v : ArchiveInfo) (c : ClusterId) → IfSome now (λ f. HasValue stanza f v) → at_number v.current v.history ≡ Some c → IfSome now (λ f. HasCurrent stanza f c)
has_current stanza None v c has at = tt
has_current stanza (Some f) v c has at = (v, has, at)
