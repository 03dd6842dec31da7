-- What is seen of a manifest besides its entry.
use Rattle.std.specs.Prelude.{◌≡◌, List, option_map}
use Rattle.base_model.specs.declared.clusters.Cluster.{Cluster}
use Rattle.base_model.specs.declared.files.Manifest as rust_manifest
use Rattle.base_model.specs.declared.labels.Entry as rust_entry
use Rattle.base_model.specs.declared.wal.WalPart.{WalPart}
use Rattle.base_model.specs.Text.{Text}
use Rattle.base_model.specs.Values.{Entry, Manifest, entry_of, manifest_of}
use Rattle.cmd_verify.specs.What.{What, Unlike}
use Rattle.cmd_verify.specs.Findings.{IsOfEntry}

-- the manifest states what is in the entry itself, besides the references
pub record ShowsSame (e : Entry) (m : Manifest) : Type 0 where
  pub label : m.label ≡ e.label
  pub kind : m.kind ≡ e.kind
  pub prior : m.prior ≡ e.prior
  pub start : m.start ≡ e.start
  pub stop : m.stop ≡ e.stop
  pub number : m.cluster.id ≡ e.db
  pub span : option_map (λ (w : WalPart). w.span) m.wal ≡ e.span

-- at this name the manifest is reported, which is unlike the entry
abbrev pub IsUnlikeAt : Text → List Cluster → Entry → Manifest → Text → What → Type 0
IsUnlikeAt at history e m name Unlike = (name ≡ at) × ¬ IsOfEntry history e m
IsUnlikeAt at history e m name what = ⊥

-- the manifest states the backup that the entry does
abbrev pub StatesEntry : List Cluster → rust_entry.Entry → rust_manifest.Manifest → Type 0
StatesEntry history entry manifest = IsOfEntry history (entry_of entry) (manifest_of manifest)
