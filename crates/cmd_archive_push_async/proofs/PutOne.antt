-- What the push of one file puts.
use Rattle.std.proofs.Common.{◌≡◌, ◌⊎◌, ⊎_elim, inl, inr, ℕ, [], ◌∷◌, Option, Some, None, Result, Ok, Err, refl, ap, ◌∙◌, sym, subst}
use Rattle.std.specs.Prelude.{IfSome, IfOk, IsSome, string_bytes}
use Rattle.sha1.specs.Sha1.{sha1}
use Rattle.base_text.specs.Sum.{IsSum}
use Rattle.base_text.specs.declared.sum.Sum.{Sum}
use Rattle.base_text.proofs.Digests.{IsSum-sha1}
use Rattle.base_devices.specs.Content.{Content, Value}
use Rattle.base_devices.specs.Crash.{AllOf, IsAlikeAt, IsTemporary}
use Rattle.base_devices.specs.Moments.{View}
use Rattle.base_devices.proofs.Nows.{known_as}
use Rattle.base_disk.proofs.Images.{by_name}
use Rattle.base_model.specs.declared.wal.ArchiveId.{ArchiveId}
use Rattle.base_model.specs.declared.wal.ArchiveName.{ArchiveName}
use Rattle.base_model.specs.Represents.{IsArchivePlace}
use Rattle.base_model.specs.Steps.{Named}
use Rattle.base_model.specs.Text.{Text, In}
use Rattle.base_model.specs.Walks.{IsSynced}
use Rattle.base_model.proofs.Pushed.{at_known}
use Rattle.base_model.proofs.Temporary.{file_lasts}
use Rattle.archive_lookup.specs.Causes.{IsFileOf}
use Rattle.archive_lookup.specs.Stored.{archive_path, HasSum, Stores, StoresNone, StoresOnly}
use Rattle.archive_lookup.proofs.Owns.{has_own, stored_has}
use Rattle.archive_store.specs.declared.fault.PushFault.{PushFault as StoreFault}
use Rattle.archive_store.specs.declared.fault.PushFault.TheVariants.{Archive, Source}
use Rattle.archive_store.specs.declared.pushing.Pushed.{Pushed}
use Rattle.archive_store.specs.declared.pushing.Pushed.TheVariants.{New, Same}
use Rattle.archive_store.specs.Pushes.{IsPathOf, Writes}
use Rattle.archive_store.specs.Pushing.{IsPushedAs, OnPushFinding, PushFromCause}
use Rattle.archive_store.specs.Still.{IsStill}
use Rattle.archive_store.proofs.Piecewise.{read_is}
use Rattle.cmd_types.specs.declared.stages.halt.Halt.{Halt}
use Rattle.cmd_types.specs.declared.stages.halt.Halt.TheVariants.{Refused as IsRefused}
use Rattle.cmd_archive_push.specs.declared.fault.PushFault.{PushFault}
use Rattle.cmd_archive_push.specs.Faults.{of_store}
use Rattle.cmd_archive_push.specs.Texts.{content_text, push_status}
use Rattle.cmd_archive_push.proofs.Putting.{puts_known, puts_still}
use Rattle.archive_spool.specs.Marks.{named}
use Rattle.cmd_archive_push_async.specs.declared.files.pushing.Tried.{Tried}
use Rattle.cmd_archive_push_async.specs.declared.files.pushing.Tried.TheVariants.{Stored, Refused}
use Rattle.cmd_archive_push_async.specs.Fates.{IsFateOf, IsRefusedAs}
use Rattle.cmd_archive_push_async.specs.Pushing.{fate_of, IsHaltedBy}
use Rattle.cmd_archive_push_async.specs.Putting.{PutsOne}
use Rattle.cmd_archive_push_async.proofs.Pushes.{found_as, known_cause, one_sum, still_found}

module _ (stanza : Text) (id : ArchiveId) (name : ArchiveName) (bytes : Text) (place : (sum : Text) → IsSum sum → IsArchivePlace id name sum) where
  abbrev path : Text
  path = archive_path stanza id name (sha1 bytes)

  -- ---- where it is stored

  -- a file that was stored under no name is stored with the sum of the bytes that are put alone
  only_put : (f g : Content) → StoresNone stanza id name f → AllOf ((archive_path stanza id name (sha1 bytes), bytes) ∷ []) f g → StoresOnly stanza id name g (sha1 bytes)
  only_put f g none all = record {
    stored = subst (λ (o : Option Text). HasSum name o (sha1 bytes)) (sym own) (has_own name bytes);
    only = other;
  }
    where
      lasts : (sum : Text) → IsSum sum → ¬ IsTemporary (archive_path stanza id name sum)
      lasts sum digest = file_lasts stanza (archive_path stanza id name sum) (record { id = id; file = name; sum = sum; fits = place sum digest; is = refl })

      own : g path ≡ Some bytes
      own = by_name path path (λ (v : Value). g path ≡ v → g path ≡ Some bytes) (Some bytes) (f path) (λ same h. h) (λ off h. absurd (off refl)) (all.same path (lasts (sha1 bytes) (IsSum-sha1 bytes)))

      other : (sum : Text) → Stores stanza id name g sum → sum ≡ sha1 bytes
      other sum stores =
          let at = archive_path stanza id name sum in
          by_name path at (λ (v : Value). g at ≡ v → sum ≡ sha1 bytes) (Some bytes) (f at)
          (λ (same : path ≡ at) has. sym (one_sum stanza id name (sha1 bytes) sum (Some bytes) (IsSum-sha1 bytes) same (has_own name bytes) (subst (λ (o : Option Text). HasSum name o sum) has stores)))
          (λ apart has. absurd (none sum (subst (λ (o : Option Text). HasSum name o sum) has stores)))
          (all.same at (lasts sum (stored_has name (g at) sum stores).0))

  own_found : (system count : ℕ) (first : Text) (old new : Option Content) (pushed : Pushed) (sum : Sum) → IsPushedAs stanza id name system (Some bytes) first count old new pushed sum
      → IsSome old → IfSome new (λ g. StoresOnly stanza id name g (sha1 bytes))
  own_found system count first old None pushed sum x some = tt
  own_found system count first old (Some g) New sum x some =
      let f = known_as old some in
      let none = at_known (StoresNone stanza id name) old f.0 f.1 (x.new refl).0 in
      only_put f.0 g none (subst (λ (b : Text). AllOf ((archive_path stanza id name (sha1 b), b) ∷ []) f.0 g) (sym x.read.known) ((x.new refl).1.goes f.0 g f.1 refl))
  own_found system count first old (Some g) Same sum x some =
      let same : ◌≡◌ {A = Option Content} (Some g) old = (x.same refl).1 in
      subst (λ (b : Text). StoresOnly stanza id name g (sha1 b)) (sym x.read.known) (at_known (λ f. StoresOnly stanza id name f (sha1 x.bytes)) old g (sym same) (x.same refl).0)

  -- ---- by its answer

  module _ (model : Option Text) (is : model ≡ Some bytes) (a b : View) (writes : (written : Text) × IfSome model (λ (k : Text). k ≡ written) × Writes stanza id name written a b) (system count : ℕ) (first : Text) where
    pub put_done : (pushed : Pushed) (sum : Sum) → (IsSynced stanza a → IsSome a.now → IsAlikeAt (IsPathOf stanza id name) b)
        → IsPushedAs stanza id name system model first count a.now b.now pushed sum → PutsOne stanza id system name bytes (Ok (Stored sum)) a b
    put_done pushed sum alike answered =
        let x = subst (λ (m : Option Text). IsPushedAs stanza id name system m first count a.now b.now pushed sum) is answered in record {
          place = place;
          puts = puts_known stanza id name place bytes model is a b writes;
          found = λ some. if_known b.now (own_found system count first a.now b.now pushed sum x some) (subst (λ (k : Text). IsFileOf name k system) (sym x.read.known) x.of_system);
          alike = λ synced some n at. ⊎_elim
              (λ (e : n ≡ named name bytes). subst (λ (k : ArchiveName). IsAlikeAt (IsPathOf stanza id k) b) (sym (ap (λ (k : Named). k.name) e)) (alike synced some))
              (λ (none : ⊥). absurd none) at;
        }
      where
        if_known : (o : Option Content) → IfSome o (λ g. StoresOnly stanza id name g (sha1 bytes)) → IsFileOf name bytes system
            → IfSome o (λ g. IsFateOf (StoresOnly stanza id name g) (StoresOnly stanza id name g) system name bytes (fate_of (Stored sum) bytes))
        if_known None h k = tt
        if_known (Some g) h k = (refl, k, h)

    module _ (rose source_rose : Type 0) (e : StoreFault) (halt : Halt PushFault) (of_it : halt ≡ of_store e) (still : OnPushFinding e (IsStill a b)) (cause : PushFromCause stanza id name system model first count a.now rose source_rose e) where
      -- why it was refused, by what the disk holds
      refused_found : (fault : PushFault) (line : Text) → ◌≡◌ {A = Halt PushFault} halt (IsRefused fault) → content_text fault ≡ Some line → (o : Option Content) → o ≡ a.now
          → IfSome o (λ g. IsRefusedAs (StoresOnly stanza id name g) system name bytes (push_status fault) line)
      refused_found fault line same text None at = tt
      refused_found fault line same text (Some g) at = by e (sym same ∙ of_it) cause
        where
          by : (e : StoreFault) → ◌≡◌ {A = Halt PushFault} (IsRefused fault) (of_store e) → PushFromCause stanza id name system model first count a.now rose source_rose e → IsRefusedAs (StoresOnly stanza id name g) system name bytes (push_status fault) line
          by (Archive e) from cause = (
            fault,
            found_as stanza id name bytes place system a.now rose (StoresOnly stanza id name g) (λ kept only. at_known (λ f. StoresOnly stanza id name f kept) a.now g (sym at) only) e fault line from text
                (known_cause stanza id name system count first model a.now rose source_rose e bytes is cause),
            refl,
            text,
          )
          by Source from cause = cc

      pub put_halted : (r : Result Tried (Halt PushFault)) → IsHaltedBy halt r → PutsOne stanza id system name bytes r a b
      put_halted (Ok (Stored sum)) h = absurd h
      put_halted (Ok (Refused fault line)) h =
          let rests = still_found a b e fault (sym h.0 ∙ of_it) still in record {
            place = place;
            puts = puts_still stanza id [] a b rests;
            found = λ some. refused_found fault (string_bytes line) h.0 h.1 b.now rests.now;
            alike = λ synced some n at. absurd at;
          }
      put_halted (Err end) h = record {
        place = place;
        puts = puts_known stanza id name place bytes model is a b writes;
        found = tt;
        alike = λ synced some n at. absurd at;
      }
