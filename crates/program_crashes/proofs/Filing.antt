-- A push that was acknowledged leaves its file in all that a crash leaves.
use Rattle.std.proofs.Common.{◌≡◌, ⊎_elim, inl, inr, ℕ, zero, suc, ◌-◌, ◌<◌, ◌^◌, List, [], ◌∷◌, Option, Some, refl, sym, ap, ap₂, subst, ◌∙◌}
use Rattle.std.specs.Prelude.{slice_get}
use Rattle.std.specs.List.{AllByRecursion}
use Rattle.sha1.specs.Sha1.{sha1}
use Rattle.base_text.specs.Sum.{IsSum, sum_text}
use Rattle.base_text.proofs.Digests.{IsSum-sha1}
use Rattle.base_devices.specs.Content.{Content}
use Rattle.base_devices.specs.Crash.{AllOf, Leaves}
use Rattle.base_devices.specs.DataFolder.{Nodes, file_bytes}
use Rattle.base_devices.specs.Moments.{View}
use Rattle.base_model.specs.declared.clusters.ClusterId.{ClusterId}
use Rattle.base_model.specs.declared.wal.ArchiveId.{ArchiveId}
use Rattle.base_model.specs.declared.wal.ArchiveName.{ArchiveName}
use Rattle.base_model.specs.declared.wal.ArchiveName.TheVariants.{Segment as Whole, Partial, History, Backup}
use Rattle.base_model.specs.Fields.{at_number}
use Rattle.base_model.specs.InfoFiles.{IsArchiveInfo, IsArchiveText, IsClusterId}
use Rattle.base_model.specs.Log.{File}
use Rattle.base_model.specs.Names.{archive_info, archive_name, copy_of, wal_text}
use Rattle.base_model.specs.Pair.{MemberIs}
use Rattle.base_model.specs.Repository.{Archived, Stanza, Repository}
use Rattle.base_model.specs.Represents.{Represents, HasStanza, IsArchiveFile, IsArchivePlace, stored_name}
use Rattle.base_model.specs.Steps.{Named, ArchivePush, Reading, Command}
use Rattle.base_model.specs.Text.{Text}
use Rattle.base_model.specs.Values.{ArchiveInfo}
use Rattle.base_model.proofs.Created.{put_same}
use Rattle.base_model.proofs.Pushed.{at_known}
use Rattle.base_model.proofs.Temporary.{fixed_lasts}
use Rattle.repo_info.proofs.OneArchive.{one_archive_pair}
use Rattle.archive_lookup.specs.Stored.{archive_path, HasSum}
use Rattle.archive_lookup.proofs.Owns.{stored_has}
use Rattle.archive_store.specs.Pushes.{IsPathOf}
use Rattle.archive_store.proofs.Got.{same_place}
use Rattle.cmd_types.specs.Current.{HasCurrent, id_kept}
use Rattle.cmd_archive_push.specs.Causes.{IsStored, IsPut, IsLasting}
use Rattle.cmd_archive_push.specs.Commands.{IsPushOf}
use Rattle.cmd_archive_push.specs.WalPath.{HasWal, wal_path}
use Rattle.cmd_archive_push.proofs.Stores.{current_at, current_on}
use Rattle.cmd_archive_push.proofs.WalNames.{one_name}
use Rattle.program_crashes.specs.Kept.{IsFile}
use Rattle.program_crashes.proofs.Healed.{segment_sum, partial_sum}

-- ---- the current cluster's id

each_at : {X : Type 0} (P : X → Type 0) (xs : List X) (i : ℕ) (x : X) → slice_get xs i ≡ Some x → AllByRecursion P xs → P x
each_at P [] i x e all = cc
each_at P (y ∷ xs) zero x e all = subst P (let h : y ≡ x = cc in h) all.0
each_at P (y ∷ xs) (suc i) x e all = each_at P xs i x e all.1

id_fits : (stanza : Text) (f : Content) (c : ClusterId) → HasCurrent stanza f c → (c.version < 2 ^ 32) × (c.id < 2 ^ 32)
id_fits stanza f c has = let k = each_at IsClusterId has.0.history (has.0.current - 1) c has.2 rules.clusters in (k.version, k.id)
  where
    rules : IsArchiveInfo has.0
    rules = ⊎_elim (λ (m : MemberIs IsArchiveText f (archive_info stanza) has.0). m.2.rules)
        (λ (q : ((w : ArchiveInfo) → ¬ MemberIs IsArchiveText f (archive_info stanza) w) × MemberIs IsArchiveText f (copy_of (archive_info stanza)) has.0). q.1.2.rules) has.1

one_current : (stanza : Text) (f : Content) (b c : ClusterId) → HasCurrent stanza f b → HasCurrent stanza f c → b ≡ c
one_current stanza f b c h k =
    let e = one_archive_pair f (archive_info stanza) h.0 k.0 h.1 k.1 in
    let o : ◌≡◌ {A = Option ClusterId} (Some b) (Some c) = sym h.2 ∙ ap (λ (v : ArchiveInfo). at_number v.current v.history) e ∙ k.2 in
    cc

-- ---- the file that is pushed

-- the data folder's file is the command's
file_pushed : (f : Nodes) (folder path : Text) (n : Named) → IsPushOf f folder path (ArchivePush n) → HasWal f folder path n.name n.bytes
file_pushed f folder path n (inl x) =
    let e : ◌≡◌ {A = Command} (ArchivePush n) (ArchivePush x.0) = x.2 in
    let same : x.0 ≡ n = cc in
    subst (λ (m : Named). HasWal f folder path m.name m.bytes) same x.1
file_pushed f folder path n (inr x) = let e : ◌≡◌ {A = Command} (ArchivePush n) Reading = x.1 in cc

one_text : (f : Nodes) (a b : ArchiveName) (s t : Text) → a ≡ b → file_bytes (f (wal_path (wal_text a))) ≡ Some s → file_bytes (f (wal_path (wal_text b))) ≡ Some t → s ≡ t
one_text f a b s t same p q =
    let e : ◌≡◌ {A = Option Text} (Some s) (Some t) = sym p ∙ ap (λ (n : ArchiveName). file_bytes (f (wal_path (wal_text n)))) same ∙ q in cc

-- ---- its bytes

module _ (stanza : Text) (c : ClusterId) (wal : ArchiveName) (fits : (sum : Text) → IsSum sum → IsArchivePlace (id_kept c) wal sum) where
  abbrev pub path_at : Text → Text
  path_at sum = archive_path stanza (id_kept c) wal sum

  file_at : (sum : Text) → IsSum sum → IsArchiveFile stanza (path_at sum)
  file_at sum is = record { id = id_kept c; file = wal; sum = sum; fits = fits sum is; is = refl }

  -- the path of what is archived states the sum of its bytes
  path_is : (f : Content) (s : Stanza) → HasStanza stanza f s → (bytes sum : Text) → f (path_at sum) ≡ Some bytes → IsSum sum → path_at sum ≡ path_at (sha1 bytes)
  path_is f s has bytes sum lies is =
      let x = (has.archived (path_at sum) bytes (file_at sum is)).0 lies in
      let same = same_place stanza (id_kept c) wal fits x.0 sum is (has.named x.0 x.1) x.2 in
      x.2 ∙ ap₂ (λ (i : ArchiveId) (n : ArchiveName). archive_path stanza i n (sha1 x.0.bytes)) same.0 same.1 ∙ ap (λ (b : Text). path_at (sha1 b)) (sym x.3)

  own_by : (name : ArchiveName) → wal ≡ name → (bytes sum : Text) → (IsSum sum → path_at sum ≡ path_at (sha1 bytes)) → HasSum name (Some bytes) sum → sha1 bytes ≡ sum
  own_by (Whole segment) e bytes sum same h = sym (segment_sum stanza (id_kept c) segment sum (sha1 bytes) h.0 (IsSum-sha1 bytes)
      (subst (λ (n : ArchiveName). archive_path stanza (id_kept c) n sum ≡ archive_path stanza (id_kept c) n (sha1 bytes)) e (same h.0)))
  own_by (Partial segment) e bytes sum same h = sym (partial_sum stanza (id_kept c) segment sum (sha1 bytes) h.0 (IsSum-sha1 bytes)
      (subst (λ (n : ArchiveName). archive_path stanza (id_kept c) n sum ≡ archive_path stanza (id_kept c) n (sha1 bytes)) e (same h.0)))
  own_by (History timeline) e bytes sum same h = h
  own_by (Backup segment offset) e bytes sum same h = h

  own_sum : (f : Content) (s : Stanza) → HasStanza stanza f s → (bytes sum : Text) → f (path_at sum) ≡ Some bytes → HasSum wal (Some bytes) sum → sha1 bytes ≡ sum
  own_sum f s has bytes sum lies h = own_by wal refl bytes sum (path_is f s has bytes sum lies) h

  -- after a push the disk has bytes of the sum at the path
  abbrev pub LiesNow : Text → Content → Type 0
  LiesNow bytes g = (b : Text) × (g (path_at (sha1 bytes)) ≡ Some b) × (sha1 b ≡ sha1 bytes)

  put_there : (bytes : Text) (f g : Content) → AllOf ((path_at (sha1 bytes), bytes) ∷ []) f g → LiesNow bytes g
  put_there bytes f g a = (
    bytes,
    a.same (path_at (sha1 bytes)) (fixed_lasts stanza (path_at (sha1 bytes)) (File (file_at (sha1 bytes) (IsSum-sha1 bytes)))) ∙ put_same (path_at (sha1 bytes)) (Some bytes) f,
    refl,
  )

  kept_there : (bytes : Text) (f : Content) (s : Stanza) → HasStanza stanza f s → HasSum wal (f (path_at (sha1 bytes))) (sha1 bytes) → LiesNow bytes f
  kept_there bytes f s has h =
      let v = stored_has wal (f (path_at (sha1 bytes))) (sha1 bytes) h in
      (v.1.0, v.1.1, own_sum f s has v.1.0 (sha1 bytes) v.1.1 (subst (λ (o : Option Text). HasSum wal o (sha1 bytes)) v.1.1 h))

-- ---- in all that a crash leaves

-- the file that lies there, whatever a crash leaves
pub record LiesIn (stanza : Text) (n : Named) (v : View) : Type 0 where
  pub file : Archived
  pub is : IsFile n file
  pub fits : IsArchivePlace file.id file.name (sha1 file.bytes)
  pub lies : (f : Content) → Leaves v v.moment f → f (stored_name stanza file) ≡ Some file.bytes

module _ (stanza folder path : Text) (n : Named) (nodes : Nodes) (is : IsPushOf nodes folder path (ArchivePush n)) (old : Content) (r : Repository) (represents : Represents stanza old r)
    (v : View) (new : Content) (now : v.now ≡ Some new) (lines : Text) (stored : IsStored stanza folder path (Some nodes) (Some old) v.now lines) (lasting : IsLasting stanza folder path v) where
  abbrev c : ClusterId
  c = stored.current

  abbrev wal : ArchiveName
  wal = stored.wal

  has_wal : HasWal nodes folder path n.name n.bytes
  has_wal = file_pushed nodes folder path n is

  name_is : wal ≡ n.name
  name_is = one_name folder path wal n.name stored.ready.has.named has_wal.named

  bytes_are : stored.bytes ≡ n.bytes
  bytes_are = one_text nodes wal n.name stored.bytes n.bytes name_is stored.ready.has.is has_wal.is

  abbrev Fits : Text → Type 0
  Fits sum = IsArchivePlace (id_kept c) wal sum

  fits : (sum : Text) → IsSum sum → Fits sum
  fits sum digest = let k = id_fits stanza old c stored.ready.of.current in record { version = k.0; number = k.1; fits = stored.ready.has.named.fits; digest = digest }

  abbrev path_now : Text
  path_now = archive_path stanza (id_kept c) wal (sha1 stored.bytes)

  lies_now : LiesNow stanza c wal fits stored.bytes new
  lies_now = ⊎_elim
      (λ (p : (lines ≡ []) × IsPut stanza (id_kept c) wal stored.bytes (Some old) v.now). put_there stanza c wal fits stored.bytes old new (p.1.puts.goes old new refl now))
      (λ k. let same : ◌≡◌ {A = Option Content} (Some new) (Some old) = sym now ∙ k.1.same in
      let e : old ≡ new = cc in
      subst (λ (g : Content). LiesNow stanza c wal fits stored.bytes g) e (let x = current_at stanza old r c stored.ready.of.current represents in
      kept_there stanza c wal fits stored.bytes old x.0 (subst (Represents stanza old) x.1 represents) k.1.only.stored)) stored.known_by

  current_now : HasCurrent stanza new c
  current_now = ⊎_elim
      (λ (p : (lines ≡ []) × IsPut stanza (id_kept c) wal stored.bytes (Some old) v.now). at_known (λ f. HasCurrent stanza f c) v.now new now
      (current_on stanza path_now stored.bytes c (Some old) v.now (file_at stanza c wal fits (sha1 stored.bytes) (IsSum-sha1 stored.bytes))
      (record { known = p.1.puts.known; goes = λ f g o m. inr (p.1.puts.goes f g o m) }) stored.ready.of.current refl))
      (λ k. let same : ◌≡◌ {A = Option Content} (Some new) (Some old) = sym now ∙ k.1.same in
      let e : old ≡ new = cc in
      subst (λ (g : Content). HasCurrent stanza g c) e stored.ready.of.current) stored.known_by

  path_of : IsPathOf stanza (id_kept lasting.current) lasting.wal path_now
  path_of =
      let names = one_name folder path wal lasting.wal stored.ready.has.named lasting.named in
      let currents = one_current stanza new c lasting.current current_now (at_known (λ f. HasCurrent stanza f lasting.current) v.now new now lasting.has) in
      (sha1 stored.bytes, IsSum-sha1 stored.bytes, ap₂ (λ (k : ClusterId) (m : ArchiveName). archive_path stanza (id_kept k) m (sha1 stored.bytes)) currents names)

  pub lies_in : LiesIn stanza n v
  lies_in = record {
    file = record { id = id_kept c; name = wal; bytes = lies_now.0 };
    is = (name_is, lies_now.2 ∙ ap sha1 bytes_are);
    fits = fits (sha1 lies_now.0) (IsSum-sha1 lies_now.0);
    lies = λ f leaves. ap (λ (sum : Text). f (archive_name stanza (id_kept c) wal (sum_text sum))) lies_now.2
        ∙ lasting.alike new f now leaves path_now path_of ∙ lies_now.1;
  }
