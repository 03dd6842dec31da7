-- A segment is served from the spool, or else from the repository after the calls before.
use Rattle.std.proofs.Common.{◌≡◌, [], Option, Some, None, Result, IfOk, IfErr, refl, sym, ◌∙◌, subst}
use Rattle.std.specs.List.{starts_with}
use Rattle.std.specs.Prelude.{IfSome, IsSome, nat_eq}
use Rattle.std.proofs.lemmas.Result.{IfErr-weaker, IfOk-weaker}
use Rattle.base_text.specs.declared.sum.Sum.{Sum}
use Rattle.base_devices.specs.Content.{Content, at}
use Rattle.base_devices.specs.Crash.{Leaves}
use Rattle.base_devices.specs.Moments.{View, LeavesNoMore}
use Rattle.base_devices.specs.DataFolder.{Nodes}
use Rattle.base_model.specs.declared.wal.ArchiveName.{ArchiveName}
use Rattle.base_model.specs.declared.wal.ArchiveName.TheVariants.{Segment as Whole}
use Rattle.base_model.specs.declared.wal.Segment.{Segment}
use Rattle.base_model.specs.Text.{Text}
use Rattle.base_model.specs.Walks.{IsSynced}
use Rattle.base_model.proofs.Begun.{old_leaves}
use Rattle.base_model.proofs.Walking.{rests_synced}
use Rattle.repo_stanza.specs.declared.control.Control.{Control}
use Rattle.archive_lookup.specs.declared.stored.files.Stored.{Stored}
use Rattle.cmd_types.specs.declared.stages.halt.Halt.{Halt}
use Rattle.cmd_types.specs.Halts.{HaltCause}
use Rattle.cmd_types.specs.Risen.{none, rose_in}
use Rattle.cmd_types.specs.DisksEffect.{PairAlike}
use Rattle.cmd_archive_get.specs.declared.fault.GetFault.{GetFault}
use Rattle.cmd_archive_get.specs.Getting.{GetCause}
use Rattle.cmd_archive_get.specs.Looking.{IsKeptAs, IsLookedUp}
use Rattle.cmd_archive_get_async.specs.Names.{ahead_prefix, ahead_name, ChangesWithin}
use Rattle.cmd_archive_get_async.specs.Taking.{LacksSum}
use Rattle.cmd_archive_get_async.proofs.Halted.{halts_as}
use Rattle.cmd_archive_get_async.specs.Getting.{GetAheadCause, LacksFetched, ServedAs}
use Rattle.cmd_archive_get_async.proofs.Handed.{get_fails}

-- ---- what was found

pub kept_as : (stanza : Text) (known : Control) (name : ArchiveName) (o : Option Content) (r : Option Stored) (file : Stored) → r ≡ Some file → IsLookedUp stanza known name r o → IsKeptAs stanza known name file o
kept_as stanza known name o r file is h = subst (λ (x : Option Stored). IsLookedUp stanza known name x o) is h

module _ (stanza : Text) (known : Control) (segment : Segment) (name : ArchiveName) (whole : name ≡ Whole segment) (repo spool : Option Content) (file : Stored) where
  lacks_as : IsKeptAs stanza known name file repo → IfSome file.sum (λ sum. LacksSum spool (ahead_name stanza segment sum.0) sum.0) → LacksFetched stanza known name repo spool
  lacks_as kept lacks = subst (λ (n : ArchiveName). LacksFetched stanza known n repo spool) (sym whole) (file, subst (λ (n : ArchiveName). IsKeptAs stanza known n file repo) whole kept, lacks)

  -- no sum is known of it
  pub lacks_unsummed : file.sum ≡ None → IsKeptAs stanza known name file repo → LacksFetched stanza known name repo spool
  lacks_unsummed is kept = lacks_as kept (subst (λ (s : Option Sum). IfSome s (λ sum. LacksSum spool (ahead_name stanza segment sum.0) sum.0)) (sym is) tt)

  -- the spool doesn't have the sum that is given
  pub lacks_sum : (x : Sum) → file.sum ≡ Some x → IsKeptAs stanza known name file repo → LacksSum spool (ahead_name stanza segment x.0) x.0 → LacksFetched stanza known name repo spool
  lacks_sum x is kept lacks = lacks_as kept (subst (λ (s : Option Sum). IfSome s (λ sum. LacksSum spool (ahead_name stanza segment sum.0) sum.0)) (sym is) lacks)

-- a call that hands the file on
module _ (stanza : Text) (known : Control) (name : ArchiveName) (repo : Option Content) (file : Stored) (kept : IsKeptAs stanza known name file repo) where
  same_kept : (x : Option Stored) → IfSome x (λ s. s ≡ file) → IfSome x (λ s. IsKeptAs stanza known name s repo)
  same_kept None h = tt
  same_kept (Some s) h = subst (λ (y : Stored). IsKeptAs stanza known name y repo) (sym h) kept

  pub kept_after : (r : Result (Option Stored) (Halt GetFault)) → IfOk r (λ x. IfSome x (λ s. s ≡ file)) → IfOk r (λ x. IfSome x (λ s. IsKeptAs stanza known name s repo))
  kept_after r h = IfOk-weaker r _ _ same_kept h

-- ---- what the spool holds is known as before

known_at : (o p : Option Content) → IsSome o → at [] p ≡ at [] o → IsSome p
known_at None p some same = cc
known_at (Some f) None some same = cc
known_at (Some f) (Some h) some same = refl

pub known_within : (stanza : Text) (segment : Segment) (a b : View) → ChangesWithin (λ n. starts_with nat_eq n (ahead_prefix stanza segment)) a b → IsSome a.now → IsSome b.now
known_within stanza segment a b only some = known_at a.now b.now some (only.now [] refl)

-- ---- after calls that only read, and leave the data folder unchanged

pair_on : (stanza : Text) (a b : View) → LeavesNoMore a b → b.now ≡ a.now → PairAlike stanza a → PairAlike stanza b
pair_on stanza a b rests same alike f g x now leaves has = alike f g x (sym same ∙ now) (old_leaves a b rests g same leaves) has

module _ (stanza folder word path : Text) (r : Result (Option Stored) (Halt GetFault)) (a b : View) (rests : LeavesNoMore a b) (same : b.now ≡ a.now) (nodes mid after : Option Nodes) (still : mid ≡ nodes) where
  pub lasts_after : (d : View) → IfOk r (λ x. IsSynced stanza b → IsSome b.now → PairAlike stanza b → (f : Content) → Leaves d d.moment f → ServedAs stanza folder word path (Some f) mid after x)
      → IfOk r (λ x. IsSynced stanza a → IsSome a.now → PairAlike stanza a → (f : Content) → Leaves d d.moment f → ServedAs stanza folder word path (Some f) nodes after x)
  lasts_after d h = IfOk-weaker r _ _
      (λ x k synced some alike f leaves. subst (λ (n : Option Nodes). ServedAs stanza folder word path (Some f) n after x) still
      (k (rests_synced stanza a b rests same synced) (subst (λ (o : Option Content). IsSome o) (sym same) some) (pair_on stanza a b rests same alike) f leaves)) h

  pub fails_after : (known : Control) (name : ArchiveName) (spool : Option Content) → LacksFetched stanza known name a.now spool → (repo tree up_repo up_spool up_tree : Type 0) → (repo → up_repo) → (tree → up_tree)
      → IfErr r (HaltCause (GetCause stanza folder word path b.now mid) (rose_in (record none { repo = repo; tree = tree })))
      → IfErr r (HaltCause (GetAheadCause stanza folder word path known name a.now nodes spool) (rose_in (record none { repo = up_repo; spool = up_spool; tree = up_tree })))
  fails_after known name spool lacks repo tree up_repo up_spool up_tree up down h =
      IfErr-weaker r _ _
      (halts_as (GetCause stanza folder word path a.now nodes) (GetAheadCause stanza folder word path known name a.now nodes spool) (get_fails stanza folder word path known name a.now nodes spool lacks)
      repo ⊥ tree up_repo up_spool up_tree up (λ x. absurd x) down)
      (subst (λ (n : Option Nodes). IfErr r (HaltCause (GetCause stanza folder word path a.now n) (rose_in (record none { repo = repo; tree = tree })))) still
      (subst (λ (o : Option Content). IfErr r (HaltCause (GetCause stanza folder word path o mid) (rose_in (record none { repo = repo; tree = tree })))) same h))
