-- What a disk represents whose archive pair was healed, and what the path of a file states.
use Rattle.std.proofs.Common.{◌≡◌, ◌≢◌, inl, inr, ◌∷◌, ◌++◌, drop, refl, sym, ap, ◌∙◌}
use Rattle.std.specs.Prelude.{codes}
use Rattle.std.proofs.lemmas.List.{append_cancel_left}
use Rattle.base_text.specs.Sum.{IsSum, sum_text}
use Rattle.base_text.proofs.Sums.{sum_text-injective}
use Rattle.base_devices.specs.Content.{Name, Content}
use Rattle.base_devices.specs.Crash.{IsTemporary}
use Rattle.base_model.specs.declared.wal.ArchiveId.{ArchiveId}
use Rattle.base_model.specs.declared.wal.ArchiveName.{ArchiveName}
use Rattle.base_model.specs.declared.wal.ArchiveName.TheVariants.{Segment as Whole, Partial}
use Rattle.base_model.specs.declared.wal.Segment.{Segment}
use Rattle.base_model.specs.Text.{Text, ◌⫽◌}
use Rattle.base_model.specs.Names.{archive_info, backup_info, copy_of, archive_folder, archive_name, archive_text, id_text, segment_folder, segment_text}
use Rattle.base_model.specs.InfoFiles.{IsArchiveText}
use Rattle.base_model.specs.Pair.{PairIs}
use Rattle.base_model.specs.Repository.{Stanza}
use Rattle.base_model.specs.Represents.{HasStanza, archive_value}
use Rattle.base_model.specs.Log.{File, Manifested}
use Rattle.base_model.proofs.Frame.{AgreesPast, stanza_past, place_lasts}
use Rattle.base_model.proofs.Healed.{in_backups, manifest_begins, entry_begins}
use Rattle.base_model.proofs.NameLemmas.{file_info_apart, file_info_copy_apart}
use Rattle.base_model.proofs.Temporary.{pair_lasts, fixed_lasts}

-- where nothing changed but members of the archive pair and temporary names
module _ (stanza : Text) (f g : Content) (others : (n : Name) → n ≢ archive_info stanza → n ≢ copy_of (archive_info stanza) → ¬ IsTemporary n → g n ≡ f n) where
  healed_past : AgreesPast stanza f g
  healed_past = record {
    backup = others (backup_info stanza) (in_backups (backup_info stanza) (archive_info stanza) refl refl) (in_backups (backup_info stanza) (copy_of (archive_info stanza)) refl refl) (pair_lasts stanza (backup_info stanza) (inr (inr (inl refl))));
    backup_copy = others (copy_of (backup_info stanza)) (in_backups (copy_of (backup_info stanza)) (archive_info stanza) refl refl) (in_backups (copy_of (backup_info stanza)) (copy_of (archive_info stanza)) refl refl) (pair_lasts stanza (copy_of (backup_info stanza)) (inr (inr (inr refl))));
    listed = λ n m. others n (in_backups n (archive_info stanza) refl (manifest_begins stanza n m)) (in_backups n (copy_of (archive_info stanza)) refl (manifest_begins stanza n m)) (fixed_lasts stanza n (Manifested m));
    places = λ n p. others n (in_backups n (archive_info stanza) refl (entry_begins stanza f n p)) (in_backups n (copy_of (archive_info stanza)) refl (entry_begins stanza f n p)) (place_lasts stanza f n p);
  }

  -- the stanza is there still, where the pair has its value
  pub healed_stanza : (s : Stanza) → HasStanza stanza f s → PairIs IsArchiveText g (archive_info stanza) (archive_value s) → HasStanza stanza g s
  healed_stanza s h pair = stanza_past stanza f g healed_past s h s.archived pair h.named
      (λ n bytes file. let e = others n (file_info_apart stanza n file) (file_info_copy_apart stanza n file) (fixed_lasts stanza n (File file)) in
      ((λ is. (h.archived n bytes file).0 (sym e ∙ is)), (λ x. e ∙ (h.archived n bytes file).1 x)))

-- the rest of a path below a folder
below : (folder a b : Text) → folder ⫽ a ≡ folder ⫽ b → a ≡ b
below folder a b e = ap (drop 1) (append_cancel_left folder (47 ∷ a) (47 ∷ b) e)

-- what the path of a file has below its id
below_id : (stanza : Text) (id : ArchiveId) (name : ArchiveName) (s t : Text) → archive_name stanza id name s ≡ archive_name stanza id name t → archive_text name s ≡ archive_text name t
below_id stanza id name s t e = below (id_text id) (archive_text name s) (archive_text name t)
    (below (archive_folder stanza) (id_text id ⫽ archive_text name s) (id_text id ⫽ archive_text name t) e)

-- the path of a segment, whole or partial, states its sum
pub segment_sum : (stanza : Text) (id : ArchiveId) (segment : Segment) (s t : Text) → IsSum s → IsSum t → archive_name stanza id (Whole segment) (sum_text s) ≡ archive_name stanza id (Whole segment) (sum_text t) → s ≡ t
segment_sum stanza id segment s t p q e =
    let texts = below (segment_folder segment) (segment_text segment ++ 45 ∷ sum_text s) (segment_text segment ++ 45 ∷ sum_text t) (below_id stanza id (Whole segment) (sum_text s) (sum_text t) e) in
    sum_text-injective s t p q (ap (drop 1) (append_cancel_left (segment_text segment) (45 ∷ sum_text s) (45 ∷ sum_text t) texts))

pub partial_sum : (stanza : Text) (id : ArchiveId) (segment : Segment) (s t : Text) → IsSum s → IsSum t → archive_name stanza id (Partial segment) (sum_text s) ≡ archive_name stanza id (Partial segment) (sum_text t) → s ≡ t
partial_sum stanza id segment s t p q e =
    let texts = below (segment_folder segment) (segment_text segment ++ codes ".partial-" ++ sum_text s) (segment_text segment ++ codes ".partial-" ++ sum_text t) (below_id stanza id (Partial segment) (sum_text s) (sum_text t) e) in
    sum_text-injective s t p q (append_cancel_left (segment_text segment ++ codes ".partial-") (sum_text s) (sum_text t) texts)
