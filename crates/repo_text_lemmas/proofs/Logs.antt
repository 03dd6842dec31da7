-- A manifest's part of the log is given by its five keys.
use Rattle.std.proofs.Common.{◌≡◌, ℕ, ◌<◌, ◌^◌, Option, Some, None, refl, ap, subst}
use Rattle.std.specs.Prelude.{option_map, IfSome}
use Rattle.serde_json.specs.Data.{Data, string}
use Rattle.base_model.specs.declared.wal.Segment.{Segment}
use Rattle.base_model.specs.declared.wal.WalPart.{WalPart}
use Rattle.base_model.specs.Text.{Text}
use Rattle.base_model.specs.Names.{segment_text}
use Rattle.base_model.specs.Fields.{whole}
use Rattle.base_model.specs.InfoFiles.{IsSegment, segment_value}
use Rattle.base_model.specs.ManifestText.{lsn_text, IsWalPart}
use Rattle.repo_names.specs.Lsn.{IsLsn}
use Rattle.repo_keys.proofs.Scalars.{same_number, same_data}
use Rattle.repo_info.proofs.EntryParts.{same_segment}
use Rattle.repo_manifest.proofs.LsnTexts.{lsn_is, one_lsn}

same_position : (a b : ℕ) → a < 2 ^ 64 → b < 2 ^ 64 → ◌≡◌ {A = Option Data} (Some (string (lsn_text a))) (Some (string (lsn_text b))) → a ≡ b
same_position a b h g e =
    let text : lsn_text a ≡ lsn_text b = cc in
    one_lsn (lsn_text b) a b (subst (λ (t : Text). IsLsn t a) text (lsn_is a h)) (lsn_is b g)

same_bound : (s t : Segment) → IsSegment s → IsSegment t → ◌≡◌ {A = Option Data} (Some (segment_value s)) (Some (segment_value t)) → s ≡ t
same_bound s t h g e = same_segment s t h g (let text : segment_text s ≡ segment_text t = cc in text)

abbrev part : Segment → Segment → ℕ → ℕ → ℕ → WalPart
part start stop from to size = record { span = record { start = start; stop = stop }; from = record { 0 = from }; to = record { 0 = to }; size = record { 0 = size } }

pub same_log : (o p : Option WalPart) → IfSome o IsWalPart → IfSome p IsWalPart
    → option_map (λ (w : WalPart). segment_value w.span.start) o ≡ option_map (λ (w : WalPart). segment_value w.span.start) p
    → option_map (λ (w : WalPart). segment_value w.span.stop) o ≡ option_map (λ (w : WalPart). segment_value w.span.stop) p
    → option_map (λ (w : WalPart). string (lsn_text w.from.0)) o ≡ option_map (λ (w : WalPart). string (lsn_text w.from.0)) p
    → option_map (λ (w : WalPart). string (lsn_text w.to.0)) o ≡ option_map (λ (w : WalPart). string (lsn_text w.to.0)) p
    → option_map (λ (w : WalPart). whole w.size.0) o ≡ option_map (λ (w : WalPart). whole w.size.0) p → o ≡ p
same_log None None h g start stop from to size = refl
same_log None (Some v) h g start stop from to size = cc
same_log (Some w) None h g start stop from to size = cc
same_log (Some w) (Some v) h g start stop from to size =
    let first = same_bound w.span.start v.span.start h.start.0 g.start.0 start in
    let last = same_bound w.span.stop v.span.stop h.stop.0 g.stop.0 stop in
    let begin = same_position w.from.0 v.from.0 h.from g.from from in
    let end = same_position w.to.0 v.to.0 h.to g.to to in
    let length = same_number w.size.0 v.size.0 (same_data (whole w.size.0) (whole v.size.0) size) in
    let parts : part w.span.start w.span.stop w.from.0 w.to.0 w.size.0 ≡ part v.span.start v.span.stop v.from.0 v.to.0 v.size.0 = rw (first, last, begin, end, length) refl in
    ap (λ (x : WalPart). Some x) parts
