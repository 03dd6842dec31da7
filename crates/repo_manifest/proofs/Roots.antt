-- Keys that don't begin with the data folder's own.
use Rattle.std.proofs.Common.{◌≡◌, inl, inr, List, [], ◌∷◌, refl, sym, ap, ◌∙◌, subst, ◌<◌, ◌-◌, length, take, drop, arith}
use Rattle.std.proofs.lemmas.List.{take_all}
use Rattle.std.specs.Prelude.{codes}
use Rattle.std.proofs.lemmas.Cmp.{nat_list_cmp_total}
use Rattle.serde_json.specs.Data.{Data}
use Rattle.base_model.specs.Text.{Text, In}
use Rattle.base_model.specs.Fields.{Field}
use Rattle.base_model.specs.ManifestText.{data_path}
use Rattle.repo_ini.proofs.Orders.{not_itself}
use Rattle.repo_keys.specs.Agree.{IsOrdered}
use Rattle.repo_keys.proofs.Sorted.{Before, later, rest}
use Rattle.repo_manifest.specs.Sections.{root_field, IsNoFolder, IsNoDirectory, IsRootKey}

root_first : (p : Text) → Before (codes "pg_data") (data_path p)
root_first p = refl

-- none of the keys from a folder's on is the data folder's
no_root_after : (k : Field) (ks : List Field) (p : Text) → IsOrdered (k ∷ ks) → k.0 ≡ data_path p → (d : Data) → In (codes "pg_data", d) (k ∷ ks) → ⊥
no_root_after k ks p order is d (inl e) = not_itself (codes "pg_data") (data_path p) (root_first p) (ap (λ (f : Field). f.0) e ∙ is)
no_root_after k ks p order is d (inr i) =
    let after = later (λ (f : Field). f.0) k.0 ks (codes "pg_data", d) (rest (λ (f : Field). f.0) [] k ks order) i in
    not_itself (codes "pg_data") (codes "pg_data") (nat_list_cmp_total.trans (codes "pg_data") k.0 (codes "pg_data") (subst (Before (codes "pg_data")) (sym is) (root_first p)) after) refl

pub no_root : (k : Field) (ks : List Field) → IsOrdered (k ∷ ks) → ¬ (k ≡ root_field) → (key : Text) → IsRootKey k.0 key → IsNoFolder (k ∷ ks) key
no_root k ks order other key (inl (named, p, is)) = inr (named, subst (λ (n : Text). (d : Data) → ¬ In (n, d) (k ∷ ks)) (sym named) (no_root_after k ks p order is))
no_root k ks order other key (inr (named, none)) = inl (k.1, inl (same named), (λ e. other (sym (same named) ∙ e)), λ p h e. none p (sym named ∙ ap (λ (f : Field). f.0) e))
  where
    same : key ≡ k.0 → (let f : Field = (key, k.1) in f) ≡ k
    same e = ap (λ (n : Text). let f : Field = (n, k.1) in f) e

-- a key after the data folder's that no folder has
pub after_root : (k : Field) (ks : List Field) → IsOrdered (k ∷ ks) → k ≡ root_field → (key : Text) → IsNoDirectory ks key → IsNoFolder (k ∷ ks) key
after_root k ks order is key (d, i, none) = inl (d, inr i, not_root, none)
  where
    not_root : ¬ ((let f : Field = (key, d) in f) ≡ root_field)
    not_root e =
        let after = later (λ (f : Field). f.0) k.0 ks (key, d) (rest (λ (f : Field). f.0) [] k ks order) i in
        not_itself k.0 key after (ap (λ (f : Field). f.0) (is ∙ sym e))

pub tail_is : {X : Type 0} (xs : List X) → 0 < length xs → take (length xs - 1) (drop 1 xs) ≡ drop 1 xs
tail_is [] h = absurd (omega arith)
tail_is (x ∷ xs) h = take_all (length (x ∷ xs) - 1) xs (omega arith)
