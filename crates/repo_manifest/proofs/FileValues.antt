-- What a file's value has at each key.
use Rattle.std.proofs.Common.{◌≡◌, ◌≢◌, List, [], ℕ, Option, Some, None, codes, refl, sym, ap, ◌∙◌}
use Rattle.std.specs.Prelude.{option_map, IfSome, IfNone}
use Rattle.serde_json.specs.Data.{Data, string, no_members, object, put}
use Rattle.serde_json.specs.Find.{get}
use Rattle.base_text.specs.declared.sum.Sum.{Sum}
use Rattle.base_text.specs.Sum.{IsSum, sum_text}
use Rattle.base_text.proofs.Sums.{sum_text-injective}
use Rattle.base_model.specs.declared.labels.Label.{Label}
use Rattle.base_model.specs.declared.files.Bundled.{Bundled}
use Rattle.base_model.specs.Fields.{whole}
use Rattle.base_model.specs.InfoFiles.{IsLabel, label_value}
use Rattle.repo_info.proofs.EntryParts.{same_label}
use Rattle.base_model.specs.ManifestText.{file_field}
use Rattle.base_model.specs.Values.{FileEntry}
use Rattle.repo_manifest.specs.FileFacts.{with_bundle, with_reference}

abbrev pub value_with : Option Bundled → Option Label → List ℕ → ℕ → ℕ → Data
value_with b r sum size time = (file_field (record { path = []; size = size; time = time; sum = sum; reference = r; bundle = b })).1

module _ (sum : List ℕ) (size time : ℕ) where
  checksum_with : (b : Option Bundled) (r : Option Label) → get (codes "checksum") (value_with b r sum size time) ≡ Some (string (sum_text sum))
  checksum_with None None = refl
  checksum_with None (Some l) = refl
  checksum_with (Some b) None = refl
  checksum_with (Some b) (Some l) = refl

  size_with : (b : Option Bundled) (r : Option Label) → get (codes "size") (value_with b r sum size time) ≡ Some (whole size)
  size_with None None = refl
  size_with None (Some l) = refl
  size_with (Some b) None = refl
  size_with (Some b) (Some l) = refl

  timestamp_with : (b : Option Bundled) (r : Option Label) → get (codes "timestamp") (value_with b r sum size time) ≡ Some (whole time)
  timestamp_with None None = refl
  timestamp_with None (Some l) = refl
  timestamp_with (Some b) None = refl
  timestamp_with (Some b) (Some l) = refl

  reference_with : (b : Option Bundled) (r : Option Label) → get (codes "reference") (value_with b r sum size time) ≡ option_map label_value r
  reference_with None None = refl
  reference_with None (Some l) = refl
  reference_with (Some b) None = refl
  reference_with (Some b) (Some l) = refl

  bni_with : (b : Option Bundled) (r : Option Label) → get (codes "bni") (value_with b r sum size time) ≡ option_map (λ (x : Bundled). whole x.number) b
  bni_with None None = refl
  bni_with None (Some l) = refl
  bni_with (Some b) None = refl
  bni_with (Some b) (Some l) = refl

  bno_with : (b : Option Bundled) (r : Option Label) → get (codes "bno") (value_with b r sum size time) ≡ option_map (λ (x : Bundled). whole x.at) b
  bno_with None None = refl
  bno_with None (Some l) = refl
  bno_with (Some b) None = refl
  bno_with (Some b) (Some l) = refl

  pub members_with : (b : Option Bundled) (r : Option Label) → object (put (codes "timestamp") (whole time) (put (codes "size") (whole size) (with_reference r (put (codes "checksum") (string (sum_text sum)) (with_bundle b no_members))))) ≡ value_with b r sum size time
  members_with None None = refl
  members_with None (Some l) = refl
  members_with (Some b) None = refl
  members_with (Some b) (Some l) = refl

pub at_checksum : (e : FileEntry) → get (codes "checksum") (file_field e).1 ≡ Some (string (sum_text e.sum))
at_checksum e = checksum_with e.sum e.size e.time e.bundle e.reference

pub at_size : (e : FileEntry) → get (codes "size") (file_field e).1 ≡ Some (whole e.size)
at_size e = size_with e.sum e.size e.time e.bundle e.reference

pub at_timestamp : (e : FileEntry) → get (codes "timestamp") (file_field e).1 ≡ Some (whole e.time)
at_timestamp e = timestamp_with e.sum e.size e.time e.bundle e.reference

pub at_reference : (e : FileEntry) → get (codes "reference") (file_field e).1 ≡ option_map label_value e.reference
at_reference e = reference_with e.sum e.size e.time e.bundle e.reference

pub at_bni : (e : FileEntry) → get (codes "bni") (file_field e).1 ≡ option_map (λ (x : Bundled). whole x.number) e.bundle
at_bni e = bni_with e.sum e.size e.time e.bundle e.reference

pub at_bno : (e : FileEntry) → get (codes "bno") (file_field e).1 ≡ option_map (λ (x : Bundled). whole x.at) e.bundle
at_bno e = bno_with e.sum e.size e.time e.bundle e.reference

-- ---- what is found there

pub some_data : {d e : Data} → ◌≡◌ {A = Option Data} (Some d) (Some e) → d ≡ e
some_data h = cc

same_string : (s t : List ℕ) → ◌≡◌ {A = Data} (string s) (string t) → s ≡ t
same_string s t e = cc

pub same_sum : (o : Option Sum) (d : Data) (s : List ℕ) → d ≡ string (sum_text s) → IsSum s → IfSome o (λ (x : Sum). (d ≡ string (sum_text x.0)) × IsSum x.0) → IfNone o ((t : List ℕ) → IsSum t → d ≢ string (sum_text t)) → option_map (λ (x : Sum). x.0) o ≡ Some s
same_sum None d s is h some none = absurd (none s h is)
same_sum (Some x) d s is h some none = ap (λ (l : List ℕ). Some l) (sum_text-injective x.0 s some.1 h (same_string (sum_text x.0) (sum_text s) (sym some.0 ∙ is)))

no_data : (d : Data) → ◌≡◌ {A = Option Data} (Some d) None → ⊥
no_data d e = cc

pub reference_only : (d : Data) (l : Label) → IsLabel l → d ≡ label_value l → (o : Option Label) → IfSome o IsLabel → Some d ≡ option_map label_value o → ◌≡◌ {A = Option (Option Label)} (Some (Some l)) (Some o)
reference_only d l h is None rules at = absurd (no_data d at)
reference_only d l h is (Some m) rules at = ap (λ (x : Label). Some (Some x)) (same_label l m h rules (sym is ∙ some_data at))
