-- A data folder reports one cluster.
use Rattle.std.proofs.Common.{◌≡◌, ℕ, [], ◌∷◌, Option, Some, None, sym, ap, ◌∙◌, arith}
use Rattle.std.specs.Prelude.{IfSome, IsSomeAnd}
use Rattle.std.proofs.lemmas.List.{append_cancel_right}
use Rattle.std.proofs.lemmas.Fmt.{decimal_injective}
use Rattle.base_devices.specs.DataFolder.{Nodes}
use Rattle.base_model.specs.declared.clusters.Cluster.{Cluster}
use Rattle.base_model.specs.Text.{Text}
use Rattle.repo_stanza.specs.declared.control.Control.{Control}
use Rattle.repo_stanza.specs.ControlFile.{Shows, first_cluster}
use Rattle.cmd_types.specs.Cluster.{control_bytes, version_bytes, FolderShows, IsClusterOf}

abbrev made : ℕ → ℕ → ℕ → ℕ → Control
made s c k v = record { system = s; control = c; catalog = k; version = v }

same_control : (control version : Text) (a b : Control) → Shows control version a → Shows control version b → a ≡ b
same_control control version a b p q =
    let s : a.system ≡ b.system = p.system ∙ sym q.system in
    let c : a.control ≡ b.control = p.control_version ∙ sym q.control_version in
    let k : a.catalog ≡ b.catalog = p.catalog ∙ sym q.catalog in
    let texts = append_cancel_right _ _ (10 ∷ []) (sym p.version_text ∙ q.version_text) in
    let v : a.version ≡ b.version = decimal_injective a.version b.version (omega (arith, p.supported.1)) (omega (arith, q.supported.1)) texts in
    ap (λ (x : ℕ). made x a.control a.catalog a.version) s ∙ ap (λ (x : ℕ). made b.system x a.catalog a.version) c
    ∙ ap (λ (x : ℕ). made b.system b.control x a.version) k ∙ ap (λ (x : ℕ). made b.system b.control b.catalog x) v

same_known : (f : Nodes) (a b : Control) → FolderShows f a → FolderShows f b → a ≡ b
same_known f a b = go (control_bytes f) (version_bytes f)
  where
    go : (o p : Option Text) → IsSomeAnd o (λ c. IsSomeAnd p (λ v. Shows c v a)) → IsSomeAnd o (λ c. IsSomeAnd p (λ v. Shows c v b)) → a ≡ b
    go (Some c) (Some v) x y = same_control c v a b x y
    go None p x y = absurd x
    go (Some c) None x y = absurd x

cluster_by : (f : Nodes) (known : Control) (cluster : Option Cluster) → FolderShows f known → IsClusterOf f cluster → cluster ≡ Some (first_cluster known)
cluster_by f known None shows none = absurd (none known shows)
cluster_by f known (Some c) shows some = ap Some (some.2 ∙ ap first_cluster (same_known f some.0 known some.1 shows))

-- the cluster of the folder is that of what it states
pub cluster_is : (nodes : Option Nodes) (known : Control) (cluster : Option Cluster) → IfSome nodes (λ f. FolderShows f known) → IsSomeAnd nodes (λ f. IsClusterOf f cluster) → cluster ≡ Some (first_cluster known)
cluster_is None known cluster shows some = absurd some
cluster_is (Some f) known cluster shows some = cluster_by f known cluster shows some
