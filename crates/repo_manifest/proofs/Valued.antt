-- What keys have at one key, as a function: the same form for sections whose keys may lack.
use Rattle.std.proofs.Common.{◌≡◌, inl, inr, Bool, true, false, if◌then◌else◌, List, [], ◌∷◌, bytes_eq, Option, Some, None, refl, sym, ap, ◌∙◌}
use Rattle.std.specs.Prelude.{codes, option_map}
use Rattle.std.proofs.lemmas.Slice.Eq.{bytes_eq-Decides}
use Rattle.serde_json.specs.Data.{Data, string}
use Rattle.base_model.specs.declared.labels.Label.{Label}
use Rattle.base_model.specs.declared.wal.WalPart.{WalPart}
use Rattle.base_model.specs.Text.{Text, In}
use Rattle.base_model.specs.InfoText.{Section, IsInfo}
use Rattle.base_model.specs.InfoFiles.{label_value, segment_value, kind_text}
use Rattle.base_model.specs.Fields.{Field, whole}
use Rattle.base_model.specs.ManifestText.{lsn_text, manifest_sections, IsManifest}
use Rattle.base_model.specs.Values.{Manifest}
use Rattle.repo_keys.specs.Agree.{AgreeAt, KeysAgree, IsOrdered}
use Rattle.repo_keys.specs.Agree.{IsKeysOf, IsFirstDifference}
use Rattle.repo_keys.proofs.Keyed.{same_value}
use Rattle.repo_manifest.specs.Wrong.{At, IsWrongAt}
use Rattle.repo_manifest.specs.Tied.{IsTied}
use Rattle.repo_manifest.proofs.Agreements.{agree_keys}
use Rattle.repo_manifest.proofs.ManifestRules.{manifest_is_info}
use Rattle.repo_manifest.proofs.Named.{fields_with}

abbrev pub value_at : Text → List Field → Option Data
value_at key [] = None
value_at key (k ∷ ks) = if bytes_eq key k.0 then Some k.1 else value_at key ks

pub some_data : (d e : Data) → ◌≡◌ {A = Option Data} (Some d) (Some e) → d ≡ e
some_data d e h = cc

pub none_data : (d : Data) → ◌≡◌ {A = Option Data} None (Some d) → ⊥
none_data d h = cc

pub value_in : (key : Text) (ks : List Field) (d : Data) → value_at key ks ≡ Some d → In (key, d) ks
value_in key [] d h = absurd (none_data d h)
value_in key (k ∷ ks) d h = by (value_in key ks d) (bytes_eq key k.0) refl h
  where
    by : (value_at key ks ≡ Some d → In (key, d) ks) → (b : Bool) → bytes_eq key k.0 ≡ b → (if b then Some k.1 else value_at key ks) ≡ Some d → In (key, d) (k ∷ ks)
    by more true e g =
        let named = (bytes_eq-Decides key k.0).0 e in
        let value = some_data k.1 d g in
        inl (ap (λ (n : Text). let f : Field = (n, d) in f) named ∙ ap (λ (x : Data). let f : Field = (k.0, x) in f) (sym value))
    by more false e g = inr (more g)

no_value : (key : Text) (ks : List Field) → value_at key ks ≡ None → (d : Data) → In (key, d) ks → ⊥
no_value key [] h d i = i
no_value key (k ∷ ks) h d i = by (no_value key ks) (bytes_eq key k.0) refl h i
  where
    by : (value_at key ks ≡ None → (d : Data) → In (key, d) ks → ⊥) → (b : Bool) → bytes_eq key k.0 ≡ b → (if b then Some k.1 else value_at key ks) ≡ None → In (key, d) (k ∷ ks) → ⊥
    by more true e g j = none_data k.1 (sym g)
    by more false e g (inl same) = let x : ◌≡◌ {A = Bool} false true = sym e ∙ (bytes_eq-Decides key k.0).1 (ap (λ (f : Field). f.0) same) in cc x
    by more false e g (inr j) = more g d j

pub in_value : (key : Text) (ks : List Field) → IsOrdered ks → (d : Data) → In (key, d) ks → value_at key ks ≡ Some d
in_value key ks order d i = by (value_at key ks) refl
  where
    by : (o : Option Data) → value_at key ks ≡ o → value_at key ks ≡ Some d
    by None e = absurd (no_value key ks e d i)
    by (Some x) e = e ∙ ap (λ (y : Data). Some y) (same_value ks key x d order (value_in key ks x e) i)

-- keys that agree at a key have the same value there
pub agree_values : (xs ks : List Field) → IsOrdered xs → IsOrdered ks → (key : Text) → KeysAgree xs ks key → value_at key xs ≡ value_at key ks
agree_values xs ks h g key agree = by (value_at key xs) refl (value_at key ks) refl
  where
    by : (o : Option Data) → value_at key xs ≡ o → (p : Option Data) → value_at key ks ≡ p → value_at key xs ≡ value_at key ks
    by (Some d) e p f = e ∙ sym (in_value key ks g d (agree.there d (value_in key xs d e)))
    by None e None f = e ∙ sym f
    by None e (Some d) f = absurd (no_value key xs e d (agree.back d (value_in key ks d f)))

pub values_agree : (xs ks : List Field) → IsOrdered xs → IsOrdered ks → (key : Text) → value_at key xs ≡ value_at key ks → KeysAgree xs ks key
values_agree xs ks h g key same = record {
  there = λ d i. value_in key ks d (sym same ∙ in_value key xs h d i);
  back = λ d i. value_in key xs d (same ∙ in_value key ks g d i);
}

-- at the first key where what was read differs from the text, no manifest has what the text has
pub wrong_value : (ss : List Section) → IsInfo ss → (n : Text) (ks : List Field) → IsKeysOf ss n ks → IsOrdered ks → (fields : Manifest → List Field) → ((m : Manifest) → IsKeysOf (manifest_sections m) n (fields m)) → ((m : Manifest) → IsOrdered (fields m))
    → (expected : List Field) → IsOrdered expected → (key : Text) → IsFirstDifference expected ks key → (others : List At) → ((a : At) → In a others → IsTied (n, key) a)
    → ((m : Manifest) → IsManifest m → ((a : At) → In a others → AgreeAt (manifest_sections m) ss a.0 a.1) → value_at key (fields m) ≡ value_at key ks → value_at key expected ≡ value_at key (fields m))
    → IsWrongAt IsManifest manifest_sections IsTied ss n key
wrong_value ss info n ks of order fields at ordered expected sorted key differ others tied reads = record {
  others = others;
  tied = tied;
  wrong = λ m rules beside agree.
      let same = agree_values (fields m) ks (ordered m) order key (agree_keys (manifest_sections m) ss (manifest_is_info m rules) info n (fields m) ks (at m) of key agree) in
      differ.here (values_agree expected ks sorted order key (reads m rules beside same ∙ same));
}

-- ---- the section `backup`, key by key

module _ (m : Manifest) where
  pub start_at : (w : Option WalPart) (p : Option Label) → value_at (codes "backup-archive-start") (fields_with w p m) ≡ option_map (λ (x : WalPart). segment_value x.span.start) w
  start_at None None = refl
  start_at None (Some l) = refl
  start_at (Some w) None = refl
  start_at (Some w) (Some l) = refl

  pub stop_at : (w : Option WalPart) (p : Option Label) → value_at (codes "backup-archive-stop") (fields_with w p m) ≡ option_map (λ (x : WalPart). segment_value x.span.stop) w
  stop_at None None = refl
  stop_at None (Some l) = refl
  stop_at (Some w) None = refl
  stop_at (Some w) (Some l) = refl

  pub label_at : (w : Option WalPart) (p : Option Label) → value_at (codes "backup-label") (fields_with w p m) ≡ Some (label_value m.label)
  label_at None None = refl
  label_at None (Some l) = refl
  label_at (Some w) None = refl
  label_at (Some w) (Some l) = refl

  pub from_at : (w : Option WalPart) (p : Option Label) → value_at (codes "backup-lsn-start") (fields_with w p m) ≡ option_map (λ (x : WalPart). string (lsn_text x.from.0)) w
  from_at None None = refl
  from_at None (Some l) = refl
  from_at (Some w) None = refl
  from_at (Some w) (Some l) = refl

  pub to_at : (w : Option WalPart) (p : Option Label) → value_at (codes "backup-lsn-stop") (fields_with w p m) ≡ option_map (λ (x : WalPart). string (lsn_text x.to.0)) w
  to_at None None = refl
  to_at None (Some l) = refl
  to_at (Some w) None = refl
  to_at (Some w) (Some l) = refl

  pub prior_at : (w : Option WalPart) (p : Option Label) → value_at (codes "backup-prior") (fields_with w p m) ≡ option_map label_value p
  prior_at None None = refl
  prior_at None (Some l) = refl
  prior_at (Some w) None = refl
  prior_at (Some w) (Some l) = refl

  pub first_at : (w : Option WalPart) (p : Option Label) → value_at (codes "backup-timestamp-start") (fields_with w p m) ≡ Some (whole m.start)
  first_at None None = refl
  first_at None (Some l) = refl
  first_at (Some w) None = refl
  first_at (Some w) (Some l) = refl

  pub last_at : (w : Option WalPart) (p : Option Label) → value_at (codes "backup-timestamp-stop") (fields_with w p m) ≡ Some (whole m.stop)
  last_at None None = refl
  last_at None (Some l) = refl
  last_at (Some w) None = refl
  last_at (Some w) (Some l) = refl

  pub type_at : (w : Option WalPart) (p : Option Label) → value_at (codes "backup-type") (fields_with w p m) ≡ Some (string (kind_text m.kind))
  type_at None None = refl
  type_at None (Some l) = refl
  type_at (Some w) None = refl
  type_at (Some w) (Some l) = refl

  pub size_at : (w : Option WalPart) (p : Option Label) → value_at (codes "backup-wal-segment-size") (fields_with w p m) ≡ option_map (λ (x : WalPart). whole x.size.0) w
  size_at None None = refl
  size_at None (Some l) = refl
  size_at (Some w) None = refl
  size_at (Some w) (Some l) = refl
