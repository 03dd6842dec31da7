-- When two lists of sections have the same at a key of a section.
use Rattle.std.proofs.Common.{inl, inr, List, refl, subst}
use Rattle.serde_json.specs.Data.{Data}
use Rattle.base_model.specs.Text.{Text, In}
use Rattle.base_model.specs.InfoText.{Section, IsInfo, head_name}
use Rattle.base_model.specs.Fields.{Field}
use Rattle.repo_keys.specs.Agree.{HasKey, AgreeAt, KeysAgree}
use Rattle.repo_keys.specs.Agree.{IsKeysOf}
use Rattle.repo_keys.proofs.Sorted.{unique}

module _ (ss : List Section) (info : IsInfo ss) (n : Text) (key : Text) (d : Data) where
  pub in_keys : (ks : List Field) → IsKeysOf ss n ks → HasKey ss n key d → In (key, d) ks
  in_keys ks (inl i) h =
      let here : Section = record { name = n; keys = ks } in
      let same = unique (λ (s : Section). s.name) head_name ss h.at here info.order h.found i h.named in
      subst (λ (s : Section). In (key, d) s.keys) same h.holds
  in_keys ks (inr none) h = absurd (none.0 h.at h.found h.named)

  pub keys_in : (ks : List Field) → IsKeysOf ss n ks → In (key, d) ks → HasKey ss n key d
  keys_in ks (inl i) j = record { at = record { name = n; keys = ks }; found = i; named = refl; holds = j }
  keys_in ks (inr none) j = absurd (subst (λ (xs : List Field). In (key, d) xs) none.1 j)

-- they have the same at the key of that section
pub agree_keys : (vs ss : List Section) → IsInfo vs → IsInfo ss → (n : Text) (xs ks : List Field) → IsKeysOf vs n xs → IsKeysOf ss n ks → (key : Text) → AgreeAt vs ss n key → KeysAgree xs ks key
agree_keys vs ss one two n xs ks at of key agree = record {
  there = λ d i. in_keys ss two n key d ks of (agree.there d (keys_in vs one n key d xs at i));
  back = λ d i. in_keys vs one n key d xs at (agree.back d (keys_in ss two n key d ks of i));
}
