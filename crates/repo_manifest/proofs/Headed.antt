-- What is read of the section `backup`: at a key where a manifest has what the text has, that was read.
use Rattle.std.proofs.Common.{◌≡◌, ℕ, ◌<◌, ◌≤◌, ◌^◌, false, List, [], Option, Some, None, refl, sym, ap, ◌∙◌, subst}
use Rattle.std.specs.Prelude.{codes, option_map, IfSome, IfNone}
use Rattle.serde_json.specs.Data.{Data, string}
use Rattle.base_model.specs.declared.labels.BackupKind.{BackupKind}
use Rattle.base_model.specs.declared.labels.BackupKind.TheVariants.{Full, Diff, Incr}
use Rattle.base_model.specs.declared.labels.Label.{Label}
use Rattle.base_model.specs.declared.wal.WalPart.{WalPart}
use Rattle.base_model.specs.Text.{Text, In}
use Rattle.base_devices.specs.States.{last_second}
use Rattle.base_model.specs.Fields.{Field, whole}
use Rattle.base_model.specs.InfoFiles.{IsLabel, IsSegment, label_value, label_kind, kind_text, segment_value}
use Rattle.base_model.specs.ManifestText.{lsn_text, HasItsPrior, IsSegSize, backup_fields, IsManifest, IsWalPart}
use Rattle.base_model.specs.Values.{Manifest}
use Rattle.repo_keys.specs.Agree.{IsOrdered}
use Rattle.repo_manifest.specs.declared.head.Head.{Head}
use Rattle.repo_manifest.specs.Head.{head_fields, manifest_with}
use Rattle.repo_manifest.specs.Read.{IsReadAt, IsLogRead, IsHeadRead}
use Rattle.repo_manifest.proofs.Valued.{none_data, value_at, value_in, in_value, start_at, stop_at, label_at, from_at, to_at, prior_at, first_at, last_at, type_at, size_at}

-- what is read at a key, where a value of its kind is there
read_value : {X : Type 0} (value : X → Data) (IsOne : X → Type 0) (ks : List Field) (key : Text) (x y : X) → IsReadAt value IsOne ks key x → IsOne y → Some (value y) ≡ value_at key ks → x ≡ y
read_value value IsOne ks key x y read h at = read y h (value_in key ks (value y) (sym at))

-- the manifest that was read, with nothing else in it
abbrev pub of_head : Head → Manifest
of_head h = manifest_with h (record { id = 0; system = 0; version = 0; control = 0; catalog = 0 }) (record { bundle = false; delta = false }) [] []

-- what a manifest has at the key is what was read
abbrev pub IsSame : Head → Manifest → Text → Type 0
IsSame h m key = value_at key (head_fields h) ≡ value_at key (backup_fields m)

-- a manifest has at the key what the text has
abbrev pub HasThere : Manifest → List Field → Text → Type 0
HasThere m ks key = value_at key (backup_fields m) ≡ value_at key ks

same_prior : (k : BackupKind) (o p : Option Label) (ks : List Field) → HasItsPrior k o → HasItsPrior k p → IfSome o IsLabel → option_map label_value o ≡ value_at (codes "backup-prior") ks → IfSome p (λ l. IsLabel l × IsReadAt label_value IsLabel ks (codes "backup-prior") l) → p ≡ o
same_prior Full o p ks h g rules is read = g ∙ sym h
same_prior Diff None p ks h g rules is read = cc h
same_prior Diff (Some l) None ks h g rules is read = cc g
same_prior Diff (Some l) (Some q) ks h g rules is read = ap (λ (x : Label). Some x) (read_value label_value IsLabel ks (codes "backup-prior") q l read.1 rules is)
same_prior Incr None p ks h g rules is read = cc h
same_prior Incr (Some l) None ks h g rules is read = cc g
same_prior Incr (Some l) (Some q) ks h g rules is read = ap (λ (x : Label). Some x) (read_value label_value IsLabel ks (codes "backup-prior") q l read.1 rules is)

module _ (ks : List Field) (h : Head) (read : IsHeadRead ks h) (m : Manifest) (rules : IsManifest m) where
  -- ---- the times

  pub first_read : HasThere m ks (codes "backup-timestamp-start") → IsSame h m (codes "backup-timestamp-start")
  first_read at =
      let own = first_at m m.wal m.prior in
      let same = read_value whole (λ t. t ≤ last_second) ks (codes "backup-timestamp-start") h.start m.start read.start.1 rules.start (sym own ∙ at) in
      first_at (of_head h) h.wal h.prior ∙ ap (λ (t : ℕ). Some (whole t)) same ∙ sym own

  pub last_read : HasThere m ks (codes "backup-timestamp-stop") → IsSame h m (codes "backup-timestamp-stop")
  last_read at =
      let own = last_at m m.wal m.prior in
      let same = read_value whole (λ t. t ≤ last_second) ks (codes "backup-timestamp-stop") h.stop m.stop read.stop.1 rules.stop (sym own ∙ at) in
      last_at (of_head h) h.wal h.prior ∙ ap (λ (t : ℕ). Some (whole t)) same ∙ sym own

  -- ---- what the label decides

  module _ (there : HasThere m ks (codes "backup-label")) where
    same_label : h.label ≡ m.label
    same_label = read_value label_value IsLabel ks (codes "backup-label") h.label m.label read.label.1 rules.label (sym (label_at m m.wal m.prior) ∙ there)

    same_kind : h.kind ≡ m.kind
    same_kind = read.kind ∙ ap label_kind same_label ∙ sym rules.kind

    pub label_read : IsSame h m (codes "backup-label")
    label_read = label_at (of_head h) h.wal h.prior ∙ ap (λ (l : Label). Some (label_value l)) same_label ∙ sym (label_at m m.wal m.prior)

    pub type_read : IsSame h m (codes "backup-type")
    type_read = type_at (of_head h) h.wal h.prior ∙ ap (λ (k : BackupKind). Some (string (kind_text k))) same_kind ∙ sym (type_at m m.wal m.prior)

    pub prior_read : HasThere m ks (codes "backup-prior") → IsSame h m (codes "backup-prior")
    prior_read at =
        let own = prior_at m m.wal m.prior in
        let has = subst (λ (k : BackupKind). HasItsPrior k h.prior) same_kind read.has in
        prior_at (of_head h) h.wal h.prior ∙ ap (option_map label_value) (same_prior m.kind m.prior h.prior ks rules.prior.0 has rules.prior.1 (sym own ∙ at) read.prior) ∙ sym own

  -- ---- the part of the log

  -- a value of the log's part, where the manifest has one exactly if one was read
  log_value : IsOrdered ks → (key : Text) (f : WalPart → Data) → ((w v : WalPart) → IsLogRead ks w → IsWalPart v → Some (f v) ≡ value_at key ks → f w ≡ f v)
      → (o : Option WalPart) → IfSome o (IsLogRead ks) → IfNone o ((d : Data) → ¬ In (codes "backup-archive-start", d) ks)
      → (q : Option WalPart) → IfSome q IsWalPart → option_map (λ (w : WalPart). segment_value w.span.start) q ≡ value_at (codes "backup-archive-start") ks → option_map f q ≡ value_at key ks → option_map f o ≡ option_map f q
  log_value order key f one None log none None part start at = refl
  log_value order key f one None log none (Some v) part start at = absurd (none (segment_value v.span.start) (value_in (codes "backup-archive-start") ks (segment_value v.span.start) (sym start)))
  log_value order key f one (Some w) log none None part start at = absurd (none_data log.there.0 (start ∙ in_value (codes "backup-archive-start") ks order log.there.0 log.there.1))
  log_value order key f one (Some w) log none (Some v) part start at = ap (λ (d : Data). Some d) (one w v log part at)

  module _ (order : IsOrdered ks) (there : HasThere m ks (codes "backup-archive-start")) where
    start_is : option_map (λ (w : WalPart). segment_value w.span.start) m.wal ≡ value_at (codes "backup-archive-start") ks
    start_is = sym (start_at m m.wal m.prior) ∙ there

    same_log : (key : Text) (f : WalPart → Data) → ((w v : WalPart) → IsLogRead ks w → IsWalPart v → Some (f v) ≡ value_at key ks → f w ≡ f v) → option_map f m.wal ≡ value_at key ks → option_map f h.wal ≡ option_map f m.wal
    same_log key f one at = log_value order key f one h.wal read.log read.none m.wal rules.wal start_is at

    pub start_read : IsSame h m (codes "backup-archive-start")
    start_read = start_at (of_head h) h.wal h.prior
        ∙ same_log (codes "backup-archive-start") (λ (w : WalPart). segment_value w.span.start) (λ w v log part at. ap segment_value (read_value segment_value IsSegment ks (codes "backup-archive-start") w.span.start v.span.start log.start.1 part.start.0 at)) start_is
        ∙ sym (start_at m m.wal m.prior)

    pub stop_read : HasThere m ks (codes "backup-archive-stop") → IsSame h m (codes "backup-archive-stop")
    stop_read at = stop_at (of_head h) h.wal h.prior
        ∙ same_log (codes "backup-archive-stop") (λ (w : WalPart). segment_value w.span.stop) (λ w v log part is. ap segment_value (read_value segment_value IsSegment ks (codes "backup-archive-stop") w.span.stop v.span.stop log.stop.1 part.stop.0 is)) (sym (stop_at m m.wal m.prior) ∙ at)
        ∙ sym (stop_at m m.wal m.prior)

    pub from_read : HasThere m ks (codes "backup-lsn-start") → IsSame h m (codes "backup-lsn-start")
    from_read at = from_at (of_head h) h.wal h.prior
        ∙ same_log (codes "backup-lsn-start") (λ (w : WalPart). string (lsn_text w.from.0)) (λ w v log part is. ap (λ (n : ℕ). string (lsn_text n)) (read_value (λ n. string (lsn_text n)) (λ n. n < 2 ^ 64) ks (codes "backup-lsn-start") w.from.0 v.from.0 log.from.1 part.from is)) (sym (from_at m m.wal m.prior) ∙ at)
        ∙ sym (from_at m m.wal m.prior)

    pub to_read : HasThere m ks (codes "backup-lsn-stop") → IsSame h m (codes "backup-lsn-stop")
    to_read at = to_at (of_head h) h.wal h.prior
        ∙ same_log (codes "backup-lsn-stop") (λ (w : WalPart). string (lsn_text w.to.0)) (λ w v log part is. ap (λ (n : ℕ). string (lsn_text n)) (read_value (λ n. string (lsn_text n)) (λ n. n < 2 ^ 64) ks (codes "backup-lsn-stop") w.to.0 v.to.0 log.to.1 part.to is)) (sym (to_at m m.wal m.prior) ∙ at)
        ∙ sym (to_at m m.wal m.prior)

    pub size_read : HasThere m ks (codes "backup-wal-segment-size") → IsSame h m (codes "backup-wal-segment-size")
    size_read at = size_at (of_head h) h.wal h.prior
        ∙ same_log (codes "backup-wal-segment-size") (λ (w : WalPart). whole w.size.0) (λ w v log part is. ap whole (read_value whole IsSegSize ks (codes "backup-wal-segment-size") w.size.0 v.size.0 log.size.1 part.size is)) (sym (size_at m m.wal m.prior) ∙ at)
        ∙ sym (size_at m m.wal m.prior)
