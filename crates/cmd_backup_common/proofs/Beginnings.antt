-- Why a backup is refused before the repository is looked at.
use Rattle.std.proofs.Common.{◌≡◌, ℕ, zero, suc, ◌<◌, arith, List, [], ◌∷◌, map, Bool, true, false, Option, Some, None, string_bytes, refl, sym, ◌∙◌, ap, subst}
use Rattle.std.specs.Prelude.{IfErr, IfSome, IsSome, IsErrAnd, Result, Ok, Err, bytes_eq, Contains, ◌||◌, length, slice_index_or}
use Rattle.std.specs.List.{list_any}
use Rattle.std.proofs.lemmas.List.Elements.{Contains-append_right}
use Rattle.std.proofs.lemmas.Slice.Eq.{bytes_eq-Decides}
use Rattle.base_devices.specs.Cause.{HasCause, Rises}
use Rattle.base_devices.specs.declared.device_error.DeviceError.{DeviceError}
use Rattle.base_devices.specs.declared.device_error.DeviceError.TheVariants as stops
use Rattle.base_devices.specs.declared.data_folder.Node.{Node}
use Rattle.base_devices.specs.declared.data_folder.FolderEntry as rust_seen
use Rattle.base_devices.specs.DataFolder.{Nodes, Held, IsTreeListing, shown}
use Rattle.base_model.specs.Text.{Text}
use Rattle.base_model.specs.Values.{ArchiveInfo, BackupInfo}
use Rattle.backup_plan.specs.Filter.{ListedNode}
use Rattle.backup_plan.specs.Views.{seen_of}
use Rattle.repo_stanza.specs.declared.control.Control.{Control}
use Rattle.repo_stanza.specs.declared.fault.StanzaFault.{StanzaFault}
use Rattle.repo_stanza.specs.Judging.{Validates, As, Without, Unfit, Differing, Other}
use Rattle.cmd_types.specs.declared.stages.object.Object.{Object}
use Rattle.cmd_types.specs.declared.stages.object.Object.TheVariants.{TheDataFolder}
use Rattle.cmd_types.specs.declared.stages.halt.Halt.{Halt}
use Rattle.cmd_types.specs.declared.stages.halt.Halt.TheVariants.{Refused, Failed, NoMemory}
use Rattle.cmd_types.specs.Halts.{HaltCause, Only, halt_of}
use Rattle.cmd_backup_common.specs.declared.parts.fault.BackupFault.{BackupFault}
use Rattle.cmd_backup_common.specs.PartsFaults.{of_stanza}
use Rattle.cmd_backup_common.specs.Beginning.{server_path, IsStopped, FitCause, RunningCause}

-- ---- causes of parts are causes of the whole

pub halt_as : {E : Type 0} (P Q : E → Type 0) (F G : Object → Type 0) → ((e : E) → P e → Q e) → ((o : Object) → F o → G o) → (h : Halt E) → HaltCause P F h → HaltCause Q G h
halt_as P Q F G refused failed (Refused e) h = refused e h
halt_as P Q F G refused failed (Failed o) h = failed o h
halt_as P Q F G refused failed NoMemory h = tt

-- which end this halt of a call is
pub ends_with : {T E : Type 0} (Q : Halt E → Type 0) (result : Result T (Halt E)) (h : Halt E) → IsErrAnd result (λ x. x ≡ h) → Q h → IfErr result Q
ends_with Q (Ok x) h is q = tt
ends_with Q (Err x) h is q = subst Q (sym is) q

-- what a result is that is handed on
pub err_as : {T E : Type 0} (P Q : Halt E → Type 0) (result : Result T (Halt E)) → ((h : Halt E) → P h → Q h) → IfErr result P → IfErr result Q
err_as P Q (Ok x) to h = tt
err_as P Q (Err e) to h = to e h

-- ---- the values of the pairs

pub unfit_cause : (known : Control) (a : ArchiveInfo) (b : BackupInfo) (e : StanzaFault) (h : Halt BackupFault) → h ≡ of_stanza e → Unfit known a b e → HaltCause (FitCause known a b) (λ _. ⊥) h
unfit_cause known a b e h is (Differing t) =
    subst (HaltCause (FitCause known a b) (λ _. ⊥)) (sym (is ∙ ap of_stanza t.is)) (t.differ, t.settled)
unfit_cause known a b e h is (Other together t) =
    subst (HaltCause (FitCause known a b) (λ _. ⊥)) (sym (is ∙ ap of_stanza t.is)) (together, t.apart, refl, (t.current, t.is_current, refl))

-- ---- the listing

abbrev pub is_pid : rust_seen.FolderEntry → Bool
is_pid s = bytes_eq (string_bytes s.path) server_path

first_pid : (s : rust_seen.FolderEntry) (ss : List rust_seen.FolderEntry) (b : Bool) → is_pid s ≡ b → (b || list_any is_pid ss) ≡ true → (list_any is_pid ss ≡ true → (node : Node) × Contains (map seen_of ss) (server_path, node)) → (node : Node) × Contains (map seen_of (s ∷ ss)) (server_path, node)
first_pid s ss true eq any rest = (s.node, (zero, omega arith, ap (λ (p : Text). (let n : ListedNode = (p, s.node) in n)) ((bytes_eq-Decides (string_bytes s.path) server_path).0 eq)))
first_pid s ss false eq any rest = let x = rest any in (x.0, Contains-append_right (seen_of s ∷ []) (map seen_of ss) (server_path, x.0) x.1)

pid_at : (seen : List rust_seen.FolderEntry) → list_any is_pid seen ≡ true → (node : Node) × Contains (map seen_of seen) (server_path, node)
pid_at [] is = let e : ◌≡◌ {A = Bool} false true = is in cc
pid_at (s ∷ ss) is = first_pid s ss (is_pid s) refl is (λ any. pid_at ss any)

true_or : (b c : Bool) → b ≡ true → (b || c) ≡ true
true_or true c is = refl
true_or false c is = let e : ◌≡◌ {A = Bool} false true = is in cc

or_true : (b c : Bool) → c ≡ true → (b || c) ≡ true
or_true true c is = refl
or_true false c is = is

at_index : (seen : List rust_seen.FolderEntry) (k : ℕ) (x : ListedNode) → k < length (map seen_of seen) → slice_index_or (map seen_of seen) k x ≡ x → x.0 ≡ server_path → list_any is_pid seen ≡ true
at_index [] k x lt is at = absurd (omega (arith, lt))
at_index (s ∷ ss) zero x lt is at =
    let same : string_bytes s.path ≡ server_path = ap (λ (n : ListedNode). n.0) is ∙ at in
    true_or (is_pid s) (list_any is_pid ss) ((bytes_eq-Decides (string_bytes s.path) server_path).1 same)
at_index (s ∷ ss) (suc k) x lt is at = or_true (is_pid s) (list_any is_pid ss) (at_index ss k x (omega (arith, lt)) is at)

not_pid : (seen : List rust_seen.FolderEntry) → list_any is_pid seen ≡ false → (node : Node) → ¬ Contains (map seen_of seen) (server_path, node)
not_pid seen is node at =
    let any = at_index seen at.0 (server_path, node) at.1 at.2 refl in
    let e : ◌≡◌ {A = Bool} true false = sym any ∙ is in cc

-- where one of the nodes is the server's file, it is there
pub is_there : (nodes : Option Nodes) (seen : List rust_seen.FolderEntry) → IfSome nodes (λ f. IsTreeListing f (map seen_of seen)) → list_any is_pid seen ≡ true → IfSome nodes (λ f. IsSome (f server_path))
is_there None seen listing is = tt
is_there (Some f) seen listing is =
    let x = pid_at seen is in
    let held = listing.each server_path x.0 x.1 in
    subst (λ (o : Option Held). IsSome o) (sym held.1) refl

pub is_not_there : (nodes : Option Nodes) (seen : List rust_seen.FolderEntry) → IfSome nodes (λ f. IsTreeListing f (map seen_of seen)) → list_any is_pid seen ≡ false → IfSome nodes IsStopped
is_not_there None seen listing is = tt
is_not_there (Some f) seen listing is = by (f server_path) refl
  where
    by : (o : Option Held) → f server_path ≡ o → f server_path ≡ None
    by None at = at
    by (Some held) at = absurd (not_pid seen is (shown held) (listing.all server_path held at))

-- the device failed, where it says so
pub look_stops : {T : Type 0} (nodes : Option Nodes) (old new : ℕ) (result : Result T DeviceError) (stop : DeviceError) (h : Halt BackupFault) → result ≡ Err stop → HasCause old new result → h ≡ halt_of TheDataFolder stop → HaltCause (RunningCause nodes) (Only TheDataFolder (Rises old new)) h
look_stops nodes old new result stops.Failed h is cause at = subst (HaltCause (RunningCause nodes) (Only TheDataFolder (Rises old new))) (sym at) (refl, cause.failed is)
look_stops nodes old new result stops.NoMemory h is cause at = subst (HaltCause (RunningCause nodes) (Only TheDataFolder (Rises old new))) (sym at) tt
