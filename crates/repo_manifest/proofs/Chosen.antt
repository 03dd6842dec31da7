-- Choices that a text doesn't state as any manifest does.
use Rattle.std.proofs.Common.{◌≡◌, inl, inr, Bool, true, false, List, [], ◌∷◌, bytes_eq, Option, Some, None, refl, sym, ap, ◌∙◌}
use Rattle.std.specs.Prelude.{codes, is_some}
use Rattle.std.specs.List.{AllByRecursion}
use Rattle.std.proofs.lemmas.Slice.Eq.{bytes_eq-Decides}
use Rattle.serde_json.specs.Data.{Data, boolean}
use Rattle.base_model.specs.declared.labels.Choices.{Choices}
use Rattle.base_model.specs.declared.labels.Label.{Label}
use Rattle.base_model.specs.declared.wal.WalPart.{WalPart}
use Rattle.base_model.specs.Text.{Text, In}
use Rattle.base_model.specs.InfoText.{Section, IsInfo}
use Rattle.base_model.specs.InfoFiles.{segment_value}
use Rattle.base_model.specs.Fields.{Field}
use Rattle.base_model.specs.ManifestText.{backup_fields, option_fields, manifest_sections, IsManifest}
use Rattle.base_model.specs.Values.{Manifest}
use Rattle.repo_keys.specs.Agree.{AgreeAt, KeysAgree}
use Rattle.repo_keys.specs.Agree.{IsKeysOf, IsFirstDifference}
use Rattle.repo_manifest.specs.Head.{choice_fields}
use Rattle.repo_manifest.specs.Wrong.{At, IsWrongAt}
use Rattle.repo_manifest.specs.Tied.{IsTied, backup}
use Rattle.repo_manifest.proofs.Agreements.{agree_keys}
use Rattle.repo_manifest.proofs.ManifestRules.{manifest_is_info}
use Rattle.repo_manifest.proofs.Named.{fields_with, backup_at, option_at}
use Rattle.repo_manifest.proofs.Rows.{HasRows, wrong_row}

abbrev start : Text
start = codes "backup-archive-start"

-- ---- the log is there where its first key is

none_of : (k : Text) (ks : List Field) → AllByRecursion (λ (f : Field). bytes_eq k f.0 ≡ false) ks → (d : Data) → In (k, d) ks → ⊥
none_of k [] h d i = i
none_of k (f ∷ fs) h d (inl e) = let x : ◌≡◌ {A = Bool} false true = sym h.0 ∙ (bytes_eq-Decides k f.0).1 (ap (λ (g : Field). g.0) e) in cc x
none_of k (f ∷ fs) h d (inr i) = none_of k fs h.1 d i

no_start : (p : Option Label) (m : Manifest) (d : Data) → In (start, d) (fields_with None p m) → ⊥
no_start None m d i = none_of start (fields_with None None m) (refl, (refl, (refl, (refl, tt)))) d i
no_start (Some l) m d i = none_of start (fields_with None (Some l) m) (refl, (refl, (refl, (refl, (refl, tt))))) d i

has_start : (w : WalPart) (p : Option Label) (m : Manifest) → In (start, segment_value w.span.start) (fields_with (Some w) p m)
has_start w p m = inl refl

same_log : (v w : Option WalPart) (p q : Option Label) (m n : Manifest) → KeysAgree (fields_with v p m) (fields_with w q n) start → is_some v ≡ is_some w
same_log None None p q m n agree = refl
same_log None (Some w) p q m n agree = absurd (no_start p m (segment_value w.span.start) (agree.back (segment_value w.span.start) (has_start w q n)))
same_log (Some v) None p q m n agree = absurd (no_start q n (segment_value v.span.start) (agree.there (segment_value v.span.start) (has_start v p m)))
same_log (Some v) (Some w) p q m n agree = refl

pub log_known : (ss : List Section) → IsInfo ss → (h : Manifest) → IsKeysOf ss backup (backup_fields h) → (m : Manifest) → IsManifest m → AgreeAt (manifest_sections m) ss backup start → is_some m.wal ≡ is_some h.wal
log_known ss info h known m rules agree = same_log m.wal h.wal m.prior h.prior m h (agree_keys (manifest_sections m) ss (manifest_is_info m rules) info backup (backup_fields m) (backup_fields h) (backup_at m) known start agree)

-- ---- the choices

module _ (ss : List Section) (info : IsInfo ss) (ks : List Field) (of : IsKeysOf ss (codes "backup:option") ks) (o : Choices) (online : Bool)
    (bundle : (b : Bool) → In (codes "option-bundle", boolean b) ks → o.bundle ≡ b) (delta : (b : Bool) → In (codes "option-delta", boolean b) ks → o.delta ≡ b)
    (log : (m : Manifest) → IsManifest m → AgreeAt (manifest_sections m) ss backup start → is_some m.wal ≡ online) (key : Text) (differ : IsFirstDifference (choice_fields o online) ks key) where
  rows : (m : Manifest) → ((codes "option-online") ≡ key → online ≡ is_some m.wal) → HasRows key (option_fields m) (choice_fields o online) ks
  rows m model = record {
    rows = record { key = codes "option-bundle"; own = boolean m.choices.bundle; read = boolean o.bundle }
        ∷ record { key = codes "option-delta"; own = boolean m.choices.delta; read = boolean o.delta }
        ∷ record { key = codes "option-online"; own = boolean (is_some m.wal); read = boolean online } ∷ [];
    own = refl;
    read = refl;
    each = (λ named i. ap boolean (bundle m.choices.bundle i), (λ named i. ap boolean (delta m.choices.delta i), (λ named i. ap boolean (model named), tt)));
  }

  by_key : (b : Bool) → bytes_eq key (codes "option-online") ≡ b → IsWrongAt IsManifest manifest_sections IsTied ss (codes "backup:option") key
  by_key true e =
      let is = (bytes_eq-Decides key (codes "option-online")).0 e in
      wrong_row ss info (codes "backup:option") ks of option_fields option_at (choice_fields o online) key differ ((backup, start) ∷ []) (tied is) (λ m rules beside. rows m (λ named. sym (log m rules (beside (backup, start) (inl refl)))))
    where
      tied : key ≡ codes "option-online" → (a : At) → In a ((backup, start) ∷ []) → IsTied (codes "backup:option", key) a
      tied is a (inl same) = inr (inr (inr (ap (λ (k : Text). let p : At = (codes "backup:option", k) in p) is, same)))
      tied is a (inr i) = absurd i
  by_key false e =
      wrong_row ss info (codes "backup:option") ks of option_fields option_at (choice_fields o online) key differ [] (λ a i. absurd i)
      (λ m rules beside. rows m (λ named. absurd (other (sym named))))
    where
      other : key ≡ codes "option-online" → ⊥
      other is = let x : ◌≡◌ {A = Bool} false true = sym e ∙ (bytes_eq-Decides key (codes "option-online")).1 is in cc x

  pub wrong_choice : IsWrongAt IsManifest manifest_sections IsTied ss (codes "backup:option") key
  wrong_choice = by_key (bytes_eq key (codes "option-online")) refl
