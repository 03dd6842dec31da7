-- What a look at the spool leaves.
use Rattle.std.proofs.Common.{rules, ◌≡◌, ◌++◌, ◌∷◌, [], ⊎_elim, inl, inr, Bool, true, false, Option, Some, None, refl, ◌∙◌, sym, subst, arith, append_assoc}
use Rattle.std.specs.Prelude.{IfSome, IsSome, IsSomeAnd, IsTrue, codes, option_map}
use Rattle.base_devices.specs.Content.{Content, Name, Value, Holds, LiesDirectlyIn, is_below, put}
use Rattle.base_devices.specs.Moments.{View, LeavesNoMore, SyncsFolders, is_unsynced}
use Rattle.base_devices.proofs.Nows.{known_as}
use Rattle.base_disk.specs.declared.fault.StoreFault.{StoreFault}
use Rattle.base_disk.specs.declared.fault.StoreFault.TheVariants as marks
use Rattle.base_disk.specs.Fault.{IfTooLong}
use Rattle.base_disk.specs.Store.{ChangesOnly}
use Rattle.base_disk.proofs.Changes.{only_wide}
use Rattle.base_disk.proofs.Images.{put_other, put_same}
use Rattle.base_model.specs.declared.wal.ArchiveName.{ArchiveName}
use Rattle.base_model.specs.Names.{archive_folder, receipt_name, wal_text}
use Rattle.base_model.specs.Text.{Text, ◌⫽◌}
use Rattle.base_model.specs.Represents.{IsWalName}
use Rattle.base_model.proofs.Below.{below_prefix}
use Rattle.base_model.proofs.Pushed.{at_known}
use Rattle.cmd_types.specs.declared.stages.object.Object.TheVariants.{Spool}
use Rattle.cmd_types.specs.declared.stages.halt.Halt.{Halt}
use Rattle.cmd_types.specs.declared.stages.halt.Halt.TheVariants.{Refused, Failed, NoMemory}
use Rattle.cmd_types.specs.Halts.{HaltCause, Never, Only}
use Rattle.archive_lookup.specs.Stored.{ChangesArchive}
use Rattle.archive_lookup.proofs.Cuts.{lacks_append}
use Rattle.archive_lookup.specs.Paths.{Lacks}
use Rattle.archive_store.proofs.PathLies.{lacks_not, wal_slash}
use Rattle.archive_lookup.specs.Turns.{refusal_name}
use Rattle.archive_spool.specs.Asking.{IsLong, IsMarkName}
use Rattle.archive_spool.specs.Marks.{GivesMarks}
use Rattle.archive_spool.proofs.Marked.{receipt_refusal_apart}
use Rattle.cmd_archive_push_wait.specs.declared.fault.QueueFault.{QueueFault}
use Rattle.cmd_archive_push_wait.specs.Causes.{LongCause}
use Rattle.cmd_archive_push_wait.specs.Faults.{halt_of_mark}
use Rattle.cmd_archive_push_wait.specs.Leaving.{IsBare, IsClear, marks_folder}

module _ (stanza : Text) (name : ArchiveName) where
  -- both marks lie below the stanza's folder
  pub look_only : (a b : View) → ChangesOnly (IsMarkName stanza name) a b → ChangesArchive stanza a b
  look_only a b p = only_wide (IsMarkName stanza name) (λ n. IsTrue (is_below (archive_folder stanza) n)) a b
      (λ n x. ⊎_elim (λ (e : n ≡ receipt_name stanza name). below_prefix (archive_folder stanza) (codes "out" ⫽ (wal_text name ++ codes ".ok")) n e)
      (λ (e : n ≡ refusal_name stanza name). below_prefix (archive_folder stanza) (codes "out" ⫽ (wal_text name ++ codes ".error")) n e) x) p

  -- neither is left
  pub cleared : (old new : Option Content) → new ≡ option_map (λ f. put (refusal_name stanza name) None (put (receipt_name stanza name) None f)) old →
      IfSome new (IsClear stanza name)
  cleared None new is = subst (λ (o : Option Content). IfSome o (IsClear stanza name)) (sym is) tt
  cleared (Some f) new is = subst (λ (o : Option Content). IfSome o (IsClear stanza name)) (sym is) (
    put_other (refusal_name stanza name) None (put (receipt_name stanza name) None f) (receipt_name stanza name) (receipt_refusal_apart stanza name name)
        ∙ put_same (receipt_name stanza name) None f,
    put_same (refusal_name stanza name) None (put (receipt_name stanza name) None f),
  )

  ok_slash : Lacks 47 (codes ".ok")
  ok_slash = search rules

  receipt_lies : LiesDirectlyIn (marks_folder stanza) (receipt_name stanza name)
  receipt_lies = (
    wal_text name ++ codes ".ok",
    sym (append_assoc (archive_folder stanza) (47 ∷ codes "out") (47 ∷ (wal_text name ++ codes ".ok"))),
    lacks_not 47 (wal_text name ++ codes ".ok") (lacks_append 47 (wal_text name) (codes ".ok") (wal_slash name) ok_slash),
  )

  -- no crash brings the receipt back, once its name is synced
  module _ (fits : IsWalName name) (t m u : View) (gives : GivesMarks stanza [] t m) (clear : IfSome m.now (IsClear stanza name))
      (known : IsSome t.now → IsSome m.now) (rests : LeavesNoMore m u) (same : u.now ≡ m.now) (settled : SyncsFolders (LiesDirectlyIn (marks_folder stanza)) m u) where
    abbrev at : Name
    at = receipt_name stanza name

    not_unsynced : (b : Bool) → (b ≡ true → ⊥) → b ≡ false
    not_unsynced true off = absurd (off refl)
    not_unsynced false off = refl

    mid_synced : is_unsynced t at ≡ false → is_unsynced m at ≡ false
    mid_synced synced = not_unsynced (is_unsynced m at) (λ unsynced. ⊎_elim
        (λ (was : is_unsynced t at ≡ true). let u : ◌≡◌ {A = Bool} false true = sym synced ∙ was in cc)
        (λ off. off name fits refl)
        (gives.unsyncs m.moment at gives.later (omega arith) unsynced))

    new_synced : is_unsynced t at ≡ false → is_unsynced u at ≡ false
    new_synced synced = not_unsynced (is_unsynced u at) (λ unsynced. ⊎_elim
        (λ (was : is_unsynced m at ≡ true). let u : ◌≡◌ {A = Bool} false true = sym (mid_synced synced) ∙ was in cc)
        (λ off. off)
        (rests.unsyncs u.moment at rests.later (omega arith) unsynced))

    held_none : IsSome m.now → (v : Value) → Holds m.now at v → v ≡ None
    held_none some v holds =
        let f = known_as m.now some in
        let here : v ≡ f.0 at = subst (λ (o : Option Content). IsSomeAnd o (λ g. v ≡ g at)) f.1 holds in
        here ∙ (at_known (IsClear stanza name) m.now f.0 f.1 clear).0

    pub bare_by : IsSome t.now → is_unsynced t at ≡ false → IsBare stanza name u
    bare_by some synced f (inl now) = (at_known (IsClear stanza name) m.now f (sym same ∙ now) clear).0
    bare_by some synced f (inr image) = ⊎_elim
        (λ kept. held_none (known some) (f at) (settled at (f at) receipt_lies (mid_synced synced) kept))
        (λ (unsynced : IsTrue (u.unsynced u.moment at) × IsSome (f at)). let w : ◌≡◌ {A = Bool} false true = sym (new_synced synced) ∙ unsynced.0 in cc)
        (image at)

-- why a look fails
pub look_fails : (stanza : Text) (name : ArchiveName) (now : Option Content) (rose : Type 0) (fault : StoreFault) →
    IfTooLong fault (IsLong (IsMarkName stanza name) now) → (fault ≡ marks.Disk → rose) →
    HaltCause (LongCause stanza name now) (Only Spool rose) (halt_of_mark fault)
look_fails stanza name now rose marks.Disk long risen = (refl, risen refl)
look_fails stanza name now rose (marks.TooLong n limit) long risen = long
look_fails stanza name now rose marks.NoMemory long risen = tt

pub settle_fails : (stanza : Text) (name : ArchiveName) (now : Option Content) (rise rose : Type 0) → (rise → rose) →
    (halt : Halt QueueFault) → HaltCause Never (Only Spool rise) halt → HaltCause (LongCause stanza name now) (Only Spool rose) halt
settle_fails stanza name now rise rose wide (Refused fault) cause = absurd cause
settle_fails stanza name now rise rose wide (Failed object) cause = (cause.0, wide cause.1)
settle_fails stanza name now rise rose wide NoMemory cause = tt
