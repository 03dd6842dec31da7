-- What the push of one file puts.
use Rattle.std.proofs.Common.{◌≡◌, ◌⊎◌, ⊎_elim, inl, inr, Bool, true, false, [], ◌∷◌, ◌++◌, List, Option, Some, None, refl, ap, ◌∙◌, sym, subst}
use Rattle.std.specs.Prelude.{IfSome, IsSome, bytes_eq, codes}
use Rattle.std.proofs.lemmas.Slice.Eq.{bytes_eq-Decides}
use Rattle.sha1.specs.Sha1.{sha1}
use Rattle.base_text.specs.Sum.{IsSum}
use Rattle.base_text.proofs.Digests.{IsSum-sha1}
use Rattle.base_devices.specs.Content.{Content, Name, Value, at, put}
use Rattle.base_devices.specs.Crash.{Alike, FirstOf, IsTemporary}
use Rattle.base_devices.specs.Moments.{View}
use Rattle.base_devices.proofs.Crashes.{crash_as, crash_rests}
use Rattle.base_devices.proofs.Nows.{known_as, now_as, now_rests}
use Rattle.base_devices.specs.DataFolder.{Nodes}
use Rattle.base_model.specs.declared.clusters.ClusterId.{ClusterId}
use Rattle.base_model.specs.declared.wal.ArchiveId.{ArchiveId}
use Rattle.base_model.specs.declared.wal.ArchiveName.{ArchiveName}
use Rattle.base_model.specs.Names.{archive_info, copy_of, wal_text}
use Rattle.base_model.specs.Represents.{IsArchiveFile, IsArchivePlace}
use Rattle.base_model.specs.Steps.{Named}
use Rattle.base_model.specs.Text.{Text, In}
use Rattle.base_model.specs.InfoFiles.{IsArchiveText}
use Rattle.base_model.specs.Fields.{at_number}
use Rattle.base_model.specs.Values.{ArchiveInfo}
use Rattle.base_model.proofs.Created.{put_other, put_same}
use Rattle.base_model.proofs.Frame.{AgreesPast, pair_same, past_alike, past_past}
use Rattle.base_model.proofs.Healed.{put_past}
use Rattle.base_model.proofs.NameLemmas.{file_info_apart, file_info_copy_apart}
use Rattle.base_model.proofs.Temporary.{pair_lasts}
use Rattle.base_model.proofs.Walking.{crash_walks, rests_synced}
use Rattle.repo_pair.specs.Member.{IsMember, IsOfPair}
use Rattle.archive_lookup.specs.Stored.{archive_path}
use Rattle.archive_store.specs.Pushes.{Writes}
use Rattle.archive_store.specs.Still.{IsStill, still_self}
use Rattle.cmd_types.specs.Current.{HasCurrent, HasValue, id_kept}
use Rattle.cmd_archive_push.specs.declared.order.PushOrder.{PushOrder}
use Rattle.cmd_archive_push.specs.LogFile.{known_file}
use Rattle.cmd_archive_push.specs.Putting.{IsPutAt, Puts, PutsAtMost, PutsFiles}
use Rattle.cmd_archive_push.specs.Storing.{PutsOrder}
use Rattle.cmd_archive_push.specs.WalPath.{wal_path}

module _ (stanza : Text) (id : ArchiveId) (files : List Named) where
  puts_same : (f : Content) → PutsFiles stanza id files f f
  puts_same f n lasting = inl refl

  -- the disk is unchanged
  pub puts_still : (a b : View) → IsStill a b → Puts stanza id files a b
  puts_still a b still = record {
    now = now_rests (PutsFiles stanza id files) a.now b.now puts_same still.now;
    crash = λ synced some. crash_rests (PutsFiles stanza id files) a b puts_same still.time still.now;
    synced = λ synced some. rests_synced stanza a b still.time still.now synced;
  }

-- one file
module _ (stanza : Text) (id : ArchiveId) (name : ArchiveName) (place : (sum : Text) → IsSum sum → IsArchivePlace id name sum) (bytes : Text) where
  abbrev file : Named
  file = record { name = name; bytes = bytes }

  abbrev path : Text
  path = archive_path stanza id name (sha1 bytes)

  put_at : (f g : Content) (n : Name) → g n ≡ put path (Some bytes) f n → (g n ≡ f n) ⊎ IsPutAt stanza id (file ∷ []) g n
  put_at f g n is = by (bytes_eq path n) refl
    where
      by : (e : Bool) → bytes_eq path n ≡ e → (g n ≡ f n) ⊎ IsPutAt stanza id (file ∷ []) g n
      by true e =
          let here : path ≡ n = (bytes_eq-Decides path n).0 e in
          let has : put path (Some bytes) f n ≡ Some bytes = subst (λ (m : Name). put path (Some bytes) f m ≡ Some bytes) here (put_same path (Some bytes) f) in
          inr (record { file = file; one = inl refl; place = place (sha1 bytes) (IsSum-sha1 bytes); is = sym here; has = is ∙ has })
      by false e = inl (is ∙ put_other path (Some bytes) f n (λ (same : n ≡ path). let u : ◌≡◌ {A = Bool} false true = sym e ∙ (bytes_eq-Decides path n).1 (sym same) in cc))

  put_first : (f g : Content) → FirstOf ((path, bytes) ∷ []) f g → PutsFiles stanza id (file ∷ []) f g
  put_first f g first n lasting = ⊎_elim (λ (alike : Alike f g). inl (alike.same n lasting)) (λ (alike : Alike (put path (Some bytes) f) g). put_at f g n (alike.same n lasting)) first

  past : (f g : Content) → FirstOf ((path, bytes) ∷ []) f g → AgreesPast stanza f g
  past f g w = ⊎_elim (λ (k : Alike f g). past_alike stanza f g k)
      (λ (k : Alike (put path (Some bytes) f) g). past_past stanza f (put path (Some bytes) f) g
      (put_past stanza path bytes f refl) (past_alike stanza (put path (Some bytes) f) g k)) w

  pub puts_first : (a b : View) → Writes stanza id name bytes a b → Puts stanza id (record { name = name; bytes = bytes } ∷ []) a b
  puts_first a b w = record {
    now = now_as (FirstOf ((path, bytes) ∷ [])) (PutsFiles stanza id (file ∷ [])) a.now b.now put_first w.now;
    crash = λ synced some. crash_as (FirstOf ((path, bytes) ∷ [])) (PutsFiles stanza id (file ∷ [])) a b put_first (w.crash synced some);
    synced = λ synced some. (crash_walks stanza (FirstOf ((path, bytes) ∷ [])) a b synced some (w.crash synced some) past (FirstOf ((path, bytes) ∷ [])) (λ f g leaves k. k)).synced;
  }

  -- where the bytes that are put are known
  pub puts_known : (model : Option Text) → model ≡ Some bytes → (a b : View) → (written : Text) × IfSome model (λ (k : Text). k ≡ written) × Writes stanza id name written a b → Puts stanza id (record { name = name; bytes = bytes } ∷ []) a b
  puts_known model is a b w =
      let P : Option Text → Type 0 = λ o. IfSome o (λ (k : Text). k ≡ w.0) in
      let same : P (Some bytes) = subst P is w.1 in
      puts_first a b (subst (λ (k : Text). Writes stanza id name k a b) (sym same) w.2)

-- ---- the file of an order

-- the disk has the pair's current cluster as its own
pub kept_current : (stanza : Text) (repo : Option Content) (v : ArchiveInfo) → IfSome repo (λ f. HasValue stanza f v) → (c : ClusterId) → at_number v.current v.history ≡ Some c → IfSome repo (λ f. HasCurrent stanza f c)
kept_current stanza None v has c at = tt
kept_current stanza (Some f) v has c at = (v, has, at)

known_or : (o : Option Text) → (bytes : Text) × IfSome o (λ (k : Text). k ≡ bytes)
known_or None = ([], tt)
known_or (Some bytes) = (bytes, refl)

-- nothing was put
pub none_put : (stanza : Text) (order : PushOrder) (v : View) (nodes : Option Nodes) (c : ClusterId) → IfSome v.now (λ f. HasCurrent stanza f c) → PutsOrder stanza order v v nodes
none_put stanza order v nodes c has =
    let k = known_or (known_file nodes (wal_path (wal_text order.name))) in
    record { current = c; of = has; bytes = k.0; known = k.1; puts = puts_still stanza (id_kept c) (record { name = order.name; bytes = k.0 } ∷ []) v v (still_self v) }

-- the file that was opened was put at most
pub opened_puts : (stanza : Text) (order : PushOrder) (nodes : Option Nodes) (what : Text) → what ≡ wal_path (wal_text order.name) → (id : ArchiveId) (c : ClusterId) → id ≡ id_kept c
    → ((sum : Text) → IsSum sum → IsArchivePlace id order.name sum) → (old new : View) → IfSome old.now (λ f. HasCurrent stanza f c)
    → (written : Text) × IfSome (known_file nodes what) (λ (k : Text). k ≡ written) × Writes stanza id order.name written old new → PutsOrder stanza order old new nodes
opened_puts stanza order nodes what lies id c of_id place old new has w = record {
  current = c;
  of = has;
  bytes = w.0;
  known = subst (λ (t : Text). IfSome (known_file nodes t) (λ (k : Text). k ≡ w.0)) lies w.1;
  puts = subst (λ (i : ArchiveId). Puts stanza i (record { name = order.name; bytes = w.0 } ∷ []) old new) of_id (puts_first stanza id order.name place w.0 old new w.2);
}

-- ---- the archive pair

module _ (stanza : Text) (id : ArchiveId) (files : List Named) (f g : Content) (puts : PutsFiles stanza id files f g) where
  put_file : (n : Name) → IsPutAt stanza id files g n → IsArchiveFile stanza n
  put_file n put = record { id = id; file = put.file.name; sum = sha1 put.file.bytes; fits = put.place; is = put.is }

  main_kept : g (archive_info stanza) ≡ f (archive_info stanza)
  main_kept = ⊎_elim (λ (same : g (archive_info stanza) ≡ f (archive_info stanza)). same)
      (λ (put : IsPutAt stanza id files g (archive_info stanza)). absurd (file_info_apart stanza (archive_info stanza) (put_file (archive_info stanza) put) refl))
      (puts (archive_info stanza) (pair_lasts stanza (archive_info stanza) (inl refl)))

  copy_kept : g (copy_of (archive_info stanza)) ≡ f (copy_of (archive_info stanza))
  copy_kept = ⊎_elim (λ (same : g (copy_of (archive_info stanza)) ≡ f (copy_of (archive_info stanza))). same)
      (λ (put : IsPutAt stanza id files g (copy_of (archive_info stanza))). absurd (file_info_copy_apart stanza (copy_of (archive_info stanza)) (put_file (copy_of (archive_info stanza)) put) refl))
      (puts (copy_of (archive_info stanza)) (pair_lasts stanza (copy_of (archive_info stanza)) (inr (inl refl))))

  -- puts of files leave its current cluster
  current_kept : (c : ClusterId) → HasCurrent stanza f c → HasCurrent stanza g c
  current_kept c h = (h.0, pair_same IsArchiveText f g (archive_info stanza) h.0 main_kept copy_kept h.1, h.2)

pub current_after : (stanza : Text) (id : ArchiveId) (files : List Named) (a b : View) → Puts stanza id files a b → IsSome a.now → (c : ClusterId) → IfSome a.now (λ f. HasCurrent stanza f c) → IfSome b.now (λ g. HasCurrent stanza g c)
current_after stanza id files a b puts some c has =
    let f = known_as a.now some in
    let g = known_as b.now (puts.now.known some) in
    let old : HasCurrent stanza f.0 c = subst (λ (o : Option Content). IfSome o (λ f. HasCurrent stanza f c)) f.1 has in
    subst (λ (o : Option Content). IfSome o (λ g. HasCurrent stanza g c)) (sym g.1) (current_kept stanza id files f.0 g.0 (puts.now.goes f.0 g.0 f.1 g.1) c old)

-- ---- with the archive pair

-- what two disks have at a name
at_same : (n : Name) (a b : Option Content) (f g : Content) → a ≡ Some f → b ≡ Some g → at n b ≡ at n a → g n ≡ f n
at_same n a b f g is now same = let e : ◌≡◌ {A = Option Value} (Some (g n)) (Some (f n)) = sym (ap (at n) now) ∙ same ∙ ap (at n) is in cc

module _ (stanza : Text) (a b : Option Content) (healed : (n : Name) → ¬ IsOfPair (archive_info stanza) n → at n b ≡ at n a) where
  kept_name : (f g : Content) → a ≡ Some f → b ≡ Some g → (n : Name) → ¬ IsMember (archive_info stanza) n → ¬ IsTemporary n → g n ≡ f n
  kept_name f g is now n member lasting = at_same n a b f g is now (healed n (λ of. ⊎_elim
      (λ (e : n ≡ archive_info stanza ++ codes ".pgbackrest.tmp"). lasting (record { prefix = archive_info stanza; is = e })) member of))

  -- the pair was healed alone
  pub healed_puts : PutsAtMost stanza [] a b
  healed_puts = record {
    id = record { version = 0; number = 0 };
    only = λ f g is now n member lasting. inl (kept_name f g is now n member lasting);
    of = λ f g is now file at. absurd at;
  }

  -- .. and then files were put
  pub puts_after : (files : List Named) (c : Option Content) → (IsSome a → IsSome b) → PutsAtMost stanza files b c → PutsAtMost stanza files a c
  puts_after files c known puts = record {
    id = puts.id;
    only = λ f h is now n member lasting.
        let g = between f is in
        ⊎_elim (λ (same : h n ≡ g.0 n). inl (same ∙ kept_name f g.0 is g.1 n member lasting)) (λ (put : IsPutAt stanza puts.id files h n). inr put) (puts.only g.0 h g.1 now n member lasting);
    of = λ f h is now. let g = between f is in puts.of g.0 h g.1 now;
  }
    where
      between : (f : Content) → a ≡ Some f → (g : Content) × (b ≡ Some g)
      between f is = known_as b (known (subst (λ (o : Option Content). IsSome o) (sym is) refl))

-- files that are put under the id of the current cluster
pub puts_most : (stanza : Text) (files : List Named) (c : ClusterId) (a b : View) → IfSome a.now (λ f. HasCurrent stanza f c) → Puts stanza (id_kept c) files a b → PutsAtMost stanza files a.now b.now
puts_most stanza files c a b has puts = record {
  id = id_kept c;
  only = λ f g is now n member lasting. puts.now.goes f g is now n lasting;
  of = λ f g is now file at. (
    c,
    refl,
    current_kept stanza (id_kept c) files f g (puts.now.goes f g is now) c (subst (λ (o : Option Content). IfSome o (λ f. HasCurrent stanza f c)) is has),
  );
}
