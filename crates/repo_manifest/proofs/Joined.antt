-- A manifest of its parts.
use Rattle.std.proofs.Common.{◌≡◌, ◌≤◌, ◌^◌, true, List, map, sum_by}
use Rattle.std.specs.List.{AllByRecursion}
use Rattle.base_devices.specs.Order.{are_in_order}
use Rattle.base_model.specs.declared.clusters.Cluster.{Cluster}
use Rattle.base_model.specs.declared.labels.Choices.{Choices}
use Rattle.base_model.specs.Text.{Text, In}
use Rattle.base_model.specs.InfoFiles.{IsCluster}
use Rattle.base_model.specs.ManifestText.{HasItsFolders, IsManifest}
use Rattle.base_model.specs.Values.{FileEntry}
use Rattle.repo_keys.proofs.Numbers.{all_in}
use Rattle.repo_manifest.specs.declared.head.Head.{Head}
use Rattle.repo_manifest.specs.Alone.{IsFile, IsDirectory}
use Rattle.repo_manifest.specs.Head.{manifest_with, IsHead}
use Rattle.repo_manifest.specs.Sections.{IsPlaced}
use Rattle.repo_manifest.proofs.Alone.{file_placed, folder_placed}
use Rattle.repo_manifest.proofs.Ordered.{apart_all}

pub is_manifest : (h : Head) (c : Cluster) (o : Choices) (fs : List FileEntry) (ps : List Text) → IsHead h → IsCluster c → AllByRecursion IsFile fs → AllByRecursion IsDirectory ps
    → are_in_order (map (λ (e : FileEntry). e.path) fs) ≡ true → are_in_order ps ≡ true → sum_by (λ (e : FileEntry). e.size) fs ≤ 2 ^ 63
    → ((e : FileEntry) → In e fs → IsPlaced ps e) → ((p : Text) → In p ps → HasItsFolders ps p) → IsManifest (manifest_with h c o fs ps)
is_manifest h c o fs ps head cluster files folders first second sizes placed below = record {
  label = head.label;
  kind = head.kind;
  prior = head.prior;
  start = head.start;
  stop = head.stop;
  cluster = cluster;
  wal = head.wal;
  files = λ e i. file_placed ps e (all_in IsFile fs e files i) (placed e i).0;
  folders = λ p i. folder_placed ps p (all_in IsDirectory ps p folders i) (below p i);
  file_order = first;
  folder_order = second;
  apart = apart_all ps fs placed;
  sizes = sizes;
}
