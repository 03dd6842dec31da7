use Rattle.std.proofs.Common.{[], ◌∷◌, String, Global, ap, ◌∙◌, string_bytes}
use Rattle.std.specs.Prelude.{codes}
use Rattle.serde_json.specs.Data.{string}
use Rattle.base_model.specs.declared.wal.WalPart.{WalPart}
use Rattle.base_model.specs.Fields.{whole}
use Rattle.base_model.specs.InfoFiles.{kind_text, label_value, segment_value}
use Rattle.base_model.specs.ManifestText.{lsn_text, optional}
use Rattle.repo_ini.specs.Parts.{keys_of}
use Rattle.repo_manifest.specs.Head.{head_fields}
use Rattle.repo_manifest.proofs.KeyLists.{one_key, all_keys, section_as, text_value}
use Rattle.repo_manifest.proofs.head_part.head_part.Goals as goal

pub returns : goal.returns
returns c =
    let h = c.args.head.now in
    let names = ap (λ (n : String Global). string_bytes n) (c.in_ok-add_size.ensures.name ∙ c.in_ok-add_times.ensures.name ∙ c.in_ok-add_prior.ensures.name ∙ c.in_ok-add_positions.ensures.name ∙ c.in_ok-add.ensures.name ∙ c.in_ok-add_span.ensures.name) in
    let label = one_key (keys_of c.add_span.new.part) (keys_of c.add.new.self) (codes "backup-label") _ (label_value h.label) c.in_ok-add.ensures.ok (text_value c.in_ok-label.label _ c.in_ok-label.ensures) in
    let keys = all_keys (keys_of c.in_ok-part.part) (keys_of c.add_span.new.part) (keys_of c.add.new.self) (keys_of c.add_positions.new.part) (keys_of c.add_prior.new.part) (keys_of c.add_times.new.part) (keys_of c.add_size.new.part)
    (optional (codes "backup-archive-start") (λ (w : WalPart). segment_value w.span.start) h.wal)
    (optional (codes "backup-archive-stop") (λ (w : WalPart). segment_value w.span.stop) h.wal)
    ((codes "backup-label", label_value h.label) ∷ [])
    (optional (codes "backup-lsn-start") (λ (w : WalPart). string (lsn_text w.from.0)) h.wal)
    (optional (codes "backup-lsn-stop") (λ (w : WalPart). string (lsn_text w.to.0)) h.wal)
    (optional (codes "backup-prior") label_value h.prior)
    ((codes "backup-timestamp-start", whole h.start) ∷ (codes "backup-timestamp-stop", whole h.stop) ∷ (codes "backup-type", string (kind_text h.kind)) ∷ [])
    (optional (codes "backup-wal-segment-size") (λ (w : WalPart). whole w.size.0) h.wal)
    c.in_ok-part.ensures.keys c.in_ok-add_span.ensures.keys label c.in_ok-add_positions.ensures.keys c.in_ok-add_prior.ensures.keys c.in_ok-add_times.ensures.keys c.in_ok-add_size.ensures.keys in
    section_as _ (codes "backup") _ (head_fields h) (names ∙ c.in_ok-part.ensures.name) keys
