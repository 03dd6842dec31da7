-- From what a listing shows to the data folder.
use Rattle.std.proofs.Common.{◌≡◌, inl, inr, List, [], ◌∷◌, map, slice_get, Bool, true, false, ◌||◌, bytes_eq, Option, Some, None, string_bytes, refl, sym, ap, ◌∙◌, subst}
use Rattle.std.specs.Prelude.{IfSome, IsSome}
use Rattle.std.specs.List.{list_any}
use Rattle.std.proofs.lemmas.Slice.Eq.{bytes_eq-Decides}
use Rattle.base_devices.specs.declared.data_folder.Node.{Node}
use Rattle.base_devices.specs.declared.data_folder.FolderEntry as rust_seen
use Rattle.base_devices.specs.DataFolder.{Nodes, Held, IsTreeListing, shown}
use Rattle.base_model.specs.Text.{Text, In}
use Rattle.restore_steps.specs.Clearing.{seen_of}
use Rattle.cmd_restore.specs.declared.fault.RestoreCommandFault.{RestoreCommandFault}
use Rattle.cmd_restore.specs.declared.fault.RestoreCommandFault.TheVariants as faults
use Rattle.cmd_restore.specs.Looking.{server_path, version_path, IsEmpty, IsFirst, IsOpen, FolderCause, IsListed, IsSeenOpen, HoldingCause, SeenCause}
use Rattle.restore_make.proofs.Shown.{in_contains, contains_in}

abbrev Shown : Type 0
Shown = Text × Node

module _ (path : Text) where
  -- the test for the path
  abbrev pub is_at : rust_seen.FolderEntry → Bool
  is_at s = bytes_eq (string_bytes s.path) path

  first_in : (s : rust_seen.FolderEntry) (ss : List rust_seen.FolderEntry) (b : Bool) → is_at s ≡ b → (b || list_any is_at ss) ≡ true → (list_any is_at ss ≡ true → IsListed (map seen_of ss) path) → IsListed (map seen_of (s ∷ ss)) path
  first_in s ss true is t next = (s.node, inl (ap (λ (p : Text). (p, s.node)) (sym ((bytes_eq-Decides (string_bytes s.path) path).0 is))))
  first_in s ss false is t next = let x = next t in (x.0, inr x.1)

  pub path_in : (seen : List rust_seen.FolderEntry) → list_any is_at seen ≡ true → IsListed (map seen_of seen) path
  path_in [] h = cc
  path_in (s ∷ ss) h = first_in s ss (is_at s) refl h (path_in ss)

  first_not : (s : rust_seen.FolderEntry) (ss : List rust_seen.FolderEntry) (node : Node) (b : Bool) → is_at s ≡ b → (b || list_any is_at ss) ≡ false → (list_any is_at ss ≡ false → ¬ In (path, node) (map seen_of ss)) → ¬ In (path, node) (map seen_of (s ∷ ss))
  first_not s ss node true is f next i = cc
  first_not s ss node false is f next (inl e) =
      let same : path ≡ string_bytes s.path = ap (λ (x : Shown). x.0) e in
      let t : ◌≡◌ {A = Bool} false true = sym is ∙ (bytes_eq-Decides (string_bytes s.path) path).1 (sym same) in cc
  first_not s ss node false is f next (inr j) = next f j

  none_in : (seen : List rust_seen.FolderEntry) → list_any is_at seen ≡ false → (node : Node) → ¬ In (path, node) (map seen_of seen)
  none_in [] h node i = i
  none_in (s ∷ ss) h node i = first_not s ss node (is_at s) refl h (λ f. none_in ss f node) i

  pub path_not_in : (seen : List rust_seen.FolderEntry) → list_any is_at seen ≡ false → ¬ IsListed (map seen_of seen) path
  path_not_in seen h x = none_in seen h x.0 x.1

-- why it isn't open, where a server doesn't run
pub not_running : (delta : Bool) (seen : List Shown) → ¬ IsListed seen server_path → (e : RestoreCommandFault) → HoldingCause delta seen e → SeenCause delta seen e
not_running delta seen off faults.SetForm h = absurd h
not_running delta seen off faults.TargetForm h = absurd h
not_running delta seen off (faults.Unchosen fault) h = absurd h
not_running delta seen off faults.Running h = absurd h
not_running delta seen off (faults.NotEmpty path) h = (off, h)
not_running delta seen off (faults.ManifestDamaged fault) h = absurd h
not_running delta seen off (faults.WorkersLost lost) h = absurd h
not_running delta seen off (faults.Unread path) h = absurd h
not_running delta seen off (faults.FileDamaged path known found) h = absurd h

-- what a listing shows first
pub first_shown : (seen : List rust_seen.FolderEntry) (s : rust_seen.FolderEntry) → slice_get seen 0 ≡ Some s → (path : Text) → path ≡ string_bytes s.path → (node : Node) × (rest : List Shown) × (map seen_of seen ≡ (path, node) ∷ rest)
first_shown [] s is path same = cc
first_shown (x ∷ seen) s is path same =
    let h : ◌≡◌ {A = Option rust_seen.FolderEntry} (Some x) (Some s) = is in
    let one : string_bytes x.path ≡ path = (let e : x ≡ s = cc in ap (λ (y : rust_seen.FolderEntry). string_bytes y.path) e ∙ sym same) in
    (x.node, map seen_of seen, ap (λ (p : Text). (p, x.node) ∷ map seen_of seen) one)

module _ (f : Nodes) (seen : List Shown) (listing : IsTreeListing f seen) where
  there : (path : Text) (node : Node) → In (path, node) seen → IsSome (f path)
  there path node i = let held = listing.each path node (in_contains seen (path, node) i) in subst (λ (o : Option Held). IsSome o) (sym held.1) refl

  not_there : (path : Text) → ((node : Node) → ¬ In (path, node) seen) → f path ≡ None
  not_there path none = by (f path) refl
    where
      by : (o : Option Held) → f path ≡ o → f path ≡ None
      by None is = is
      by (Some held) is = absurd (none (shown held) (contains_in seen (path, shown held) (listing.all path held is)))

  first_of : (path : Text) (node : Node) (rest : List Shown) → seen ≡ (path, node) ∷ rest → IsFirst f path
  first_of path node rest is = (node, rest, subst (IsTreeListing f) is listing)

-- a listing without a node is of an empty folder
nothing_there : (f : Nodes) (seen : List Shown) → IsTreeListing f seen → seen ≡ [] → IsEmpty f
nothing_there f seen listing is path = not_there f seen listing path (λ node i. subst (λ (s : List Shown). In (path, node) s) is i)

-- what the listing says of the folder
pub opened : (delta : Bool) (nodes : Option Nodes) (seen : List Shown) → IfSome nodes (λ f. IsTreeListing f seen) → IsSeenOpen delta seen → IfSome nodes (IsOpen delta)
opened delta None seen listing x = tt
opened delta (Some f) seen listing (inl none) = inl (nothing_there f seen listing none)
opened delta (Some f) seen listing (inr x) = inr (x.0, there f seen listing version_path x.1.0 x.1.1)

-- why it is refused
pub seen_cause : (delta : Bool) (nodes : Option Nodes) (seen : List Shown) → IfSome nodes (λ f. IsTreeListing f seen) → (e : RestoreCommandFault) → SeenCause delta seen e → FolderCause delta nodes e
seen_cause delta nodes seen listing faults.SetForm h = absurd h
seen_cause delta nodes seen listing faults.TargetForm h = absurd h
seen_cause delta nodes seen listing (faults.Unchosen fault) h = absurd h
seen_cause delta None seen listing faults.Running h = tt
seen_cause delta (Some f) seen listing faults.Running h = there f seen listing server_path h.0 h.1
seen_cause delta None seen listing (faults.NotEmpty path) h = tt
seen_cause delta (Some f) seen listing (faults.NotEmpty path) h =
    let first = h.1.0 in
    (not_there f seen listing server_path (λ node i. h.0 (node, i)), first_of f seen listing (string_bytes path) first.0 first.1 first.2, λ on. not_there f seen listing version_path (λ node i. h.1.1 on (node, i)))
seen_cause delta nodes seen listing (faults.ManifestDamaged fault) h = absurd h
seen_cause delta nodes seen listing (faults.WorkersLost lost) h = absurd h
seen_cause delta nodes seen listing (faults.Unread path) h = absurd h
seen_cause delta nodes seen listing (faults.FileDamaged path known found) h = absurd h
