-- What is marked of a push that came to an answer.
use Rattle.std.proofs.Common.{◌≡◌, ◌⊎◌, ⊎_elim, List, [], ◌∷◌, ◌++◌, refl, sym, subst}
use Rattle.std.specs.Prelude.{ℕ, IsTrue, IsErrOf, Result, Err, codes, string_bytes, String}
use Rattle.std.specs.declared.alloc.Global.{Global}
use Rattle.sha1.specs.Sha1.{sha1}
use Rattle.base_text.specs.declared.sum.Sum.{Sum}
use Rattle.base_devices.specs.Content.{Name, is_below}
use Rattle.base_devices.specs.Crash.{Write}
use Rattle.base_devices.specs.Moments.{View}
use Rattle.base_disk.specs.Store.{ChangesOnly}
use Rattle.base_disk.specs.declared.fault.StoreFault.{StoreFault}
use Rattle.base_disk.specs.declared.fault.StoreFault.TheVariants.{Disk, TooLong, NoMemory}
use Rattle.base_disk.proofs.Below.{below_prefix}
use Rattle.base_disk.proofs.Changes.{only_wide}
use Rattle.base_model.specs.declared.wal.ArchiveName.{ArchiveName}
use Rattle.base_model.specs.Names.{archive_folder, receipt_name, wal_text}
use Rattle.base_model.specs.Represents.{IsWalName}
use Rattle.base_model.specs.Text.{Text, ◌⫽◌}
use Rattle.archive_lookup.specs.Stored.{ChangesArchive}
use Rattle.archive_lookup.specs.Turns.{refusal_name}
use Rattle.cmd_types.specs.declared.stages.object.Object.TheVariants.{Spool}
use Rattle.cmd_types.specs.declared.stages.halt.Halt.{Halt}
use Rattle.cmd_types.specs.Halts.{HaltCause, Never, Only}
use Rattle.cmd_archive_push.specs.declared.fault.PushFault.{PushFault}
use Rattle.cmd_archive_push.specs.Texts.{push_status}
use Rattle.archive_spool.specs.Marks.{named, receipt_text, refusal_text, mark_temporary, GivesMarks}
use Rattle.cmd_archive_push_async.specs.declared.files.pushing.Tried.{Tried}
use Rattle.cmd_archive_push_async.specs.declared.files.pushing.Tried.TheVariants.{Stored, Refused}
use Rattle.cmd_archive_push_async.specs.Ends.{halt_of_spool}
use Rattle.cmd_archive_push_async.specs.Fates.{kept_of, marks_of}
use Rattle.cmd_archive_push_async.specs.Pushing.{fate_of, ShowsSum}

module _ (stanza : Text) (name : ArchiveName) (tried : Tried) where
  pub stored_writes : (P : List Write → Type 0) (sum : Sum) → tried ≡ Stored sum → P ((receipt_name stanza name, receipt_text sum.0) ∷ [])
      → (bytes : Text) → ShowsSum tried bytes → P (marks_of stanza name (fate_of tried bytes))
  stored_writes P sum is h bytes shows =
      let t : sum.0 ≡ sha1 bytes = (let k : ShowsSum (Stored sum) bytes = subst (λ (x : Tried). ShowsSum x bytes) is shows in k) in
      subst (λ (x : Tried). P (marks_of stanza name (fate_of x bytes))) (sym is) (subst (λ (s : Text). P ((receipt_name stanza name, receipt_text s) ∷ [])) t h)

  pub refused_writes : (P : List Write → Type 0) (fault : PushFault) (line : String Global) → tried ≡ Refused fault line → (code : ℕ) (text : Text) → code ≡ push_status fault → text ≡ string_bytes line
      → P ((refusal_name stanza name, refusal_text code text) ∷ []) → (bytes : Text) → P (marks_of stanza name (fate_of tried bytes))
  refused_writes P fault line is code text code_is text_is h bytes =
      subst (λ (x : Tried). P (marks_of stanza name (fate_of x bytes))) (sym is)
      (subst (λ (n : ℕ). P ((refusal_name stanza name, refusal_text n (string_bytes line)) ∷ [])) code_is
      (subst (λ (t : Text). P ((refusal_name stanza name, refusal_text code t) ∷ [])) text_is h))

  module _ (a b : View) where
    pub stored_gives : (sum : Sum) → tried ≡ Stored sum → ((bytes : Text) → sum.0 ≡ sha1 bytes → IsWalName name → GivesMarks stanza (named name bytes ∷ []) a b)
        → (bytes : Text) → ShowsSum tried bytes → IsWalName name → GivesMarks stanza (kept_of name (fate_of tried bytes)) a b
    stored_gives sum is h bytes shows fits =
        let t : sum.0 ≡ sha1 bytes = (let k : ShowsSum (Stored sum) bytes = subst (λ (x : Tried). ShowsSum x bytes) is shows in k) in
        subst (λ (x : Tried). GivesMarks stanza (kept_of name (fate_of x bytes)) a b) (sym is) (h bytes t fits)

    pub refused_gives : (fault : PushFault) (line : String Global) → tried ≡ Refused fault line → GivesMarks stanza [] a b → (bytes : Text) → GivesMarks stanza (kept_of name (fate_of tried bytes)) a b
    refused_gives fault line is h bytes = subst (λ (x : Tried). GivesMarks stanza (kept_of name (fate_of x bytes)) a b) (sym is) h

-- ---- where the marks lie

module _ (stanza : Text) (name : ArchiveName) (a b : View) where
  temporary_below : (n : Name) → n ≡ mark_temporary stanza → IsTrue (is_below (archive_folder stanza) n)
  temporary_below n e = below_prefix (archive_folder stanza) (codes "out" ⫽ codes ".pgbackrest.tmp") n e

  pub receipt_only : ChangesOnly (λ n. (n ≡ mark_temporary stanza) ⊎ (n ≡ receipt_name stanza name)) a b → ChangesArchive stanza a b
  receipt_only p = only_wide (λ n. (n ≡ mark_temporary stanza) ⊎ (n ≡ receipt_name stanza name)) (λ n. IsTrue (is_below (archive_folder stanza) n)) a b
      (λ n x. ⊎_elim (λ (e : n ≡ mark_temporary stanza). temporary_below n e)
      (λ (e : n ≡ receipt_name stanza name). below_prefix (archive_folder stanza) (codes "out" ⫽ (wal_text name ++ codes ".ok")) n e) x) p

  pub refusal_only : ChangesOnly (λ n. (n ≡ mark_temporary stanza) ⊎ (n ≡ refusal_name stanza name)) a b → ChangesArchive stanza a b
  refusal_only p = only_wide (λ n. (n ≡ mark_temporary stanza) ⊎ (n ≡ refusal_name stanza name)) (λ n. IsTrue (is_below (archive_folder stanza) n)) a b
      (λ n x. ⊎_elim (λ (e : n ≡ mark_temporary stanza). temporary_below n e)
      (λ (e : n ≡ refusal_name stanza name). below_prefix (archive_folder stanza) (codes "out" ⫽ (wal_text name ++ codes ".error")) n e) x) p

-- ---- where the spool failed

pub spool_cause : {T : Type 0} (rose : Type 0) (r : Result T StoreFault) (fault : StoreFault) → r ≡ Err fault → (IsErrOf r Disk → rose) → HaltCause {E = PushFault} Never (Only Spool rose) (halt_of_spool fault)
spool_cause rose r Disk is risen = (refl, risen is)
spool_cause rose r (TooLong n l) is risen = tt
spool_cause rose r NoMemory is risen = tt

pub halt_as : (r k : Halt PushFault) → r ≡ k → (P : Halt PushFault → Type 0) → P k → P r
halt_as r k is P h = subst P (sym is) h
