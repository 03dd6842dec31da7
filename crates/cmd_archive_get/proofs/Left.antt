-- What is served of the repository is so of what a crash leaves.
use Rattle.std.proofs.Common.{◌≡◌, inl, inr, Bool, true, false, Option, Some, None, Result, Ok, Err, refl, sym, ◌∙◌, subst}
use Rattle.std.specs.Prelude.{IfSome, IsSome, OnOk, IsErrAnd}
use Rattle.sha1.specs.Sha1.{sha1}
use Rattle.base_devices.specs.Content.{Name, Content}
use Rattle.base_devices.specs.Crash.{Leaves, IsAlikeAt}
use Rattle.base_devices.specs.Moments.{View, LeavesNoMore}
use Rattle.base_devices.specs.DataFolder.{Nodes}
use Rattle.base_devices.proofs.Nows.{known_as}
use Rattle.base_model.specs.declared.clusters.ClusterId.{ClusterId}
use Rattle.base_model.specs.declared.wal.ArchiveId.{ArchiveId}
use Rattle.base_model.specs.declared.wal.ArchiveName.{ArchiveName}
use Rattle.base_model.specs.Text.{Text}
use Rattle.base_model.specs.Walks.{IsSynced}
use Rattle.base_model.proofs.Begun.{old_leaves}
use Rattle.base_model.proofs.Walking.{rests_synced}
use Rattle.archive_store.specs.Pushes.{IsPathOf}
use Rattle.archive_store.proofs.AlikeFiles.{alike_none, alike_bytes}
use Rattle.base_model.specs.Values.{ArchiveInfo}
use Rattle.cmd_types.specs.declared.stages.halt.Halt.{Halt}
use Rattle.cmd_types.specs.declared.stages.halt.Halt.TheVariants.{Refused, Failed, NoMemory}
use Rattle.cmd_types.specs.Current.{HasValue, id_kept}
use Rattle.cmd_types.specs.DisksEffect.{PairAlike}
use Rattle.repo_stanza.specs.declared.control.Control.{Control}
use Rattle.cmd_archive_get.specs.declared.fault.GetFault.{GetFault}
use Rattle.cmd_archive_get.specs.Getting.{IsSame, HasSame, IsFound, IsAbsent}
use Rattle.cmd_archive_get.specs.Serving.{OnRefused, Puts, AreFoundIn, IsAbsentIn, AreBytes, IsUnstored, AreBytesUnder, IsUnstoredUnder, IsLeft, EndsAlike}

-- ---- one call after another

module _ (stanza : Text) (a b d : View) where
  -- it was left after the first of two calls
  pub left_prefix : LeavesNoMore b d → d.now ≡ b.now → (f : Option Content) → IsLeft stanza a d f → IsLeft stanza a b f
  left_prefix rests same f (inl is) = inl is
  left_prefix rests same f (inr (synced, some, (g, is, leaves))) = inr (synced, some, (g, is, old_leaves b d rests g same leaves))

  -- it is left after the second
  pub left_back : LeavesNoMore a b → b.now ≡ a.now → (f : Option Content) → IsLeft stanza a d f → IsLeft stanza b d f
  left_back rests same f (inl is) = inl (is ∙ sym same)
  left_back rests same f (inr (synced, some, (g, is, leaves))) = inr (rests_synced stanza a b rests same synced, subst (λ (o : Option Content). IsSome o) (sym same) some, (g, is, leaves))

-- what is alike stays so while only is read
pub ends_alike_on : (stanza : Text) (id : ArchiveId) (name : ArchiveName) (a b d : View) → LeavesNoMore b d → d.now ≡ b.now → EndsAlike stanza id name a b → EndsAlike stanza id name a d
ends_alike_on stanza id name a b d rests same alike synced some f g now leaves n is = alike synced some f g (sym same ∙ now) (old_leaves b d rests g same leaves) n is

-- ---- of what is alike

module _ (stanza : Text) (id : ArchiveId) (name : ArchiveName) (a d : View) (same : d.now ≡ a.now) (alike : EndsAlike stanza id name a d) where
  -- it has at the file's paths what the repository held
  pub at_paths : (synced : IsSynced stanza a) (some : IsSome a.now) (g : Content) → Leaves d d.moment g → (f : Content) × (a.now ≡ Some f) × ((n : Name) → IsPathOf stanza id name n → g n ≡ f n)
  at_paths synced some g leaves = let f = known_as a.now some in (f.0, f.1, λ n is. alike synced some f.0 g (same ∙ f.1) leaves n is)

  bytes_left : (f : Option Content) (bytes : Text) → IsLeft stanza a d f → AreBytes stanza id name a.now bytes → AreBytes stanza id name f bytes
  bytes_left f bytes (inl is) h = subst (λ (o : Option Content). AreBytes stanza id name o bytes) (sym is) h
  bytes_left f bytes (inr (synced, some, (g, is, leaves))) h =
      let x = at_paths synced some g leaves in
      subst (λ (o : Option Content). AreBytes stanza id name o bytes) (sym is)
      (alike_bytes stanza id name x.0 g x.2 (sha1 bytes) bytes (subst (λ (o : Option Content). AreBytes stanza id name o bytes) x.1 h))

  unstored_left : (f : Option Content) → IsLeft stanza a d f → IsUnstored stanza id name a.now → IsUnstored stanza id name f
  unstored_left f (inl is) h = subst (λ (o : Option Content). IsUnstored stanza id name o) (sym is) h
  unstored_left f (inr (synced, some, (g, is, leaves))) h =
      let x = at_paths synced some g leaves in
      subst (λ (o : Option Content). IsUnstored stanza id name o) (sym is)
      (alike_none stanza id name x.0 g x.2 (subst (λ (o : Option Content). IsUnstored stanza id name o) x.1 h))

-- what was served from under an id was so of all that is left
pub puts_left : (stanza : Text) (id : ArchiveId) (name : ArchiveName) (a d : View) → d.now ≡ a.now → (result : Result Bool (Halt GetFault)) → OnOk result (EndsAlike stanza id name a d) → (inside : Text) (old new : Option Nodes)
    → Puts result (AreBytes stanza id name a.now) (IsUnstored stanza id name a.now) inside old new
    → (f : Option Content) → IsLeft stanza a d f → Puts result (AreBytes stanza id name f) (IsUnstored stanza id name f) inside old new
puts_left stanza id name a d same (Ok true) alike inside old new h f left = (h.0, bytes_left stanza id name a d same alike f h.0 left h.1, h.2)
puts_left stanza id name a d same (Ok false) alike inside old new h f left = (unstored_left stanza id name a d same alike f left h.0, h.1)
puts_left stanza id name a d same (Err halt) alike inside old new h f left = h

-- of the id of a cluster, which is the data folder's
pub puts_under : (stanza : Text) (cluster : ClusterId) (known : Control) (name : ArchiveName) (f : Option Content) → IsSame known cluster → (id : ArchiveId) → id ≡ id_kept cluster → (result : Result Bool (Halt GetFault)) (inside : Text) (old new : Option Nodes)
    → Puts result (AreBytes stanza id name f) (IsUnstored stanza id name f) inside old new
    → Puts result (AreBytesUnder cluster stanza known name f) (IsUnstoredUnder cluster stanza known name f) inside old new
puts_under stanza cluster known name f is id same (Ok true) inside old new h = (h.0, (is, subst (λ (i : ArchiveId). AreBytes stanza i name f h.0) same h.1), h.2)
puts_under stanza cluster known name f is id same (Ok false) inside old new h = (λ of. subst (λ (i : ArchiveId). IsUnstored stanza i name f) same h.0, h.1)
puts_under stanza cluster known name f is id same (Err halt) inside old new h = h

pub on_any : {X Y : Type 0} (result : Result X Y) (P : Type 0) → P → OnOk result P
on_any (Ok x) P p = p
on_any (Err e) P p = tt

-- ---- handed on

refused_as : (halt : Halt GetFault) (P Q : Type 0) → (P → Q) → OnRefused halt P → OnRefused halt Q
refused_as (Refused e) P Q to h = to h
refused_as (Failed object) P Q to h = tt
refused_as NoMemory P Q to h = tt

pub puts_handed : (result : Result Bool (Halt GetFault)) (halt : Halt GetFault) → IsErrAnd result (λ h. h ≡ halt) → (P : Text → Type 0) (M : Type 0) (path : Text) (old mid new : Option Nodes) → mid ≡ old → OnRefused halt (new ≡ mid) → Puts result P M path old new
puts_handed (Ok x) halt is P M path old mid new same h = absurd is
puts_handed (Err other) halt is P M path old mid new same h = subst (λ (k : Halt GetFault). OnRefused k (new ≡ old)) (sym is) (refused_as halt _ _ (λ e. e ∙ same) h)

-- what a search of a history found is of the archive pair that has it
module _ (stanza : Text) (known : Control) (name : ArchiveName) (v : ArchiveInfo) (same : HasSame v.history known) where
  found_of : (f : Option Content) (bytes : Text) → IfSome f (λ g. HasValue stanza g v) → AreFoundIn v.history stanza known name f bytes → IsFound stanza known name f bytes
  found_of None bytes pair h = tt
  found_of (Some f) bytes pair h = (v, pair, h)

  absent_of : (f : Option Content) → IfSome f (λ g. HasValue stanza g v) → IsAbsentIn v.history stanza known name f → IsAbsent stanza known name f
  absent_of None pair h = tt
  absent_of (Some f) pair h = (v, pair, (same, h))

  pub puts_sought : (f : Option Content) → IfSome f (λ g. HasValue stanza g v) → (result : Result Bool (Halt GetFault)) (path : Text) (old new : Option Nodes)
      → Puts result (AreFoundIn v.history stanza known name f) (IsAbsentIn v.history stanza known name f) path old new → Puts result (IsFound stanza known name f) (IsAbsent stanza known name f) path old new
  puts_sought f pair (Ok true) path old new h = (h.0, found_of f h.0 pair h.1, h.2)
  puts_sought f pair (Ok false) path old new h = (absent_of f pair h.0, h.1)
  puts_sought f pair (Err halt) path old new h = h

-- ---- the pair

known_here : (P : Content → Type 0) (o : Option Content) (f : Content) → o ≡ Some f → IfSome o P → P f
known_here P o f is h = subst (λ (x : Option Content). IfSome x P) is h

-- all that is left has the pair that was read
pub pair_left : (stanza : Text) (a d : View) → LeavesNoMore a d → d.now ≡ a.now → PairAlike stanza a → IsSome a.now → (v : ArchiveInfo) → IfSome a.now (λ f. HasValue stanza f v) → (g : Content) → Leaves d d.moment g → HasValue stanza g v
pair_left stanza a d rests same alike some v has g leaves = let f = known_as a.now some in
    alike f.0 g v f.1 (old_leaves a d rests g same leaves) (known_here (λ h. HasValue stanza h v) a.now f.0 f.1 has)
