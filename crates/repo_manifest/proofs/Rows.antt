-- A section of few keys: each value that a text has is read, so what is read differs from the text only where no value
-- has what the text has.
use Rattle.std.proofs.Common.{◌≡◌, List, map, sym, ap, ap₂, ◌∙◌, subst}
use Rattle.std.specs.List.{AllByRecursion}
use Rattle.serde_json.specs.Data.{Data}
use Rattle.base_model.specs.Text.{Text, In}
use Rattle.base_model.specs.InfoText.{Section, IsInfo}
use Rattle.base_model.specs.Fields.{Field}
use Rattle.base_model.specs.ManifestText.{manifest_sections, IsManifest}
use Rattle.base_model.specs.Values.{Manifest}
use Rattle.repo_keys.specs.Agree.{AgreeAt, KeysAgree}
use Rattle.repo_keys.specs.Agree.{IsKeysOf, IsFirstDifference}
use Rattle.repo_keys.proofs.Numbers.{in_map, map_in, all_in}
use Rattle.repo_manifest.specs.Wrong.{At, IsWrongAt}
use Rattle.repo_manifest.specs.Tied.{IsTied}
use Rattle.repo_manifest.proofs.Agreements.{agree_keys}
use Rattle.repo_manifest.proofs.ManifestRules.{manifest_is_info}

-- a key, what a value has there, and what was read
pub record Row : Type 0 where
  pub key : Text
  pub own : Data
  pub read : Data

abbrev pub own_field : Row → Field
own_field r = (r.key, r.own)

abbrev pub read_field : Row → Field
read_field r = (r.key, r.read)

-- at its key: where the keys have what the value has, that was read
abbrev pub IsReadOf : Text → List Field → Row → Type 0
IsReadOf key ks r = r.key ≡ key → In (own_field r) ks → r.read ≡ r.own

module _ (rows : List Row) (ks : List Field) (key : Text) (each : AllByRecursion (IsReadOf key ks) rows) (agree : KeysAgree (map own_field rows) ks key) where
  read_there : (d : Data) → In (key, d) (map read_field rows) → In (key, d) ks
  read_there d i =
      let (r, j, at) = map_in read_field rows (key, d) i in
      let named : key ≡ r.key = ap (λ (f : Field). f.0) at in
      let value : d ≡ r.read = ap (λ (f : Field). f.1) at in
      let own : In (r.key, r.own) ks = subst (λ (k : Text). In (k, r.own) ks) named (agree.there r.own (subst (λ (k : Text). In (k, r.own) (map own_field rows)) (sym named) (in_map own_field rows r j))) in
      let same = value ∙ all_in (IsReadOf key ks) rows r each j (sym named) own in
      subst (λ (f : Field). In f ks) (ap₂ (λ (k : Text) (x : Data). let f : Field = (k, x) in f) (sym named) (sym same)) own

  there_read : (d : Data) → In (key, d) ks → In (key, d) (map read_field rows)
  there_read d i =
      let (r, j, at) = map_in own_field rows (key, d) (agree.back d i) in
      let named : key ≡ r.key = ap (λ (f : Field). f.0) at in
      let value : d ≡ r.own = ap (λ (f : Field). f.1) at in
      let same = all_in (IsReadOf key ks) rows r each j (sym named) (subst (λ (f : Field). In f ks) at i) in
      subst (λ (f : Field). In f (map read_field rows)) (ap₂ (λ (k : Text) (x : Data). let f : Field = (k, x) in f) (sym named) (same ∙ sym value)) (in_map read_field rows r j)

  pub read_agrees : KeysAgree (map read_field rows) ks key
  read_agrees = record { there = read_there; back = there_read }

-- the rows of a manifest and of what was read
pub record HasRows (key : Text) (fields expected ks : List Field) : Type 0 where
  pub rows : List Row
  pub own : fields ≡ map own_field rows
  pub read : expected ≡ map read_field rows
  pub each : AllByRecursion (IsReadOf key ks) rows

-- at the first key where what was read differs from the text, no manifest has what the text has
pub wrong_row : (ss : List Section) → IsInfo ss → (n : Text) (ks : List Field) → IsKeysOf ss n ks → (fields : Manifest → List Field) → ((m : Manifest) → IsKeysOf (manifest_sections m) n (fields m))
    → (expected : List Field) (key : Text) → IsFirstDifference expected ks key → (others : List At) → ((a : At) → In a others → IsTied (n, key) a)
    → ((m : Manifest) → IsManifest m → ((a : At) → In a others → AgreeAt (manifest_sections m) ss a.0 a.1) → HasRows key (fields m) expected ks)
    → IsWrongAt IsManifest manifest_sections IsTied ss n key
wrong_row ss info n ks of fields at expected key differ others tied rows = record {
  others = others;
  tied = tied;
  wrong = λ m rules beside agree.
      let h = rows m rules beside in
      let keys = agree_keys (manifest_sections m) ss (manifest_is_info m rules) info n (fields m) ks (at m) of key agree in
      let own = subst (λ (xs : List Field). KeysAgree xs ks key) h.own keys in
      differ.here (subst (λ (xs : List Field). KeysAgree xs ks key) (sym h.read) (read_agrees h.rows ks key h.each own));
}
