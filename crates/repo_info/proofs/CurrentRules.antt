-- The keys that state a cluster.
use Rattle.std.proofs.Common.{◌≡◌, ⊎_elim, inl, inr, ℕ, ◌<◌, ◌≤◌, ◌^◌, List, [], refl, sym, ap, ap₂, subst}
use Rattle.std.specs.Prelude.{codes, string_bytes}
use Rattle.serde_json.specs.Data.{Data}
use Rattle.base_model.specs.declared.clusters.ClusterId.{ClusterId}
use Rattle.base_model.specs.Text.{Text, In}
use Rattle.base_model.specs.Fields.{Field, whole}
use Rattle.base_model.specs.InfoFiles.{cluster_id_fields, version_value}
use Rattle.repo_keys.specs.declared.fault.PartsFault.{PartsFault}
use Rattle.repo_keys.specs.declared.fault.PartsFault.TheVariants.{Form, NoMemory}
use Rattle.repo_keys.specs.Fault.{IfForm}
use Rattle.repo_keys.specs.Agree.{db, IsOrdered}
use Rattle.repo_info.specs.ArchiveForm.{cluster_keys, IsWrongCurrent}
use Rattle.repo_keys.proofs.Forms.{form_as}
use Rattle.repo_keys.proofs.Keyed.{same_value}
use Rattle.repo_keys.proofs.Sorted.{fits, same_list}

abbrev Wrong : List Field → Text → Text → Type 0
Wrong ks = λ section key. (section ≡ db) × IsWrongCurrent ks key

pub wrong_id : (ks : List Field) (e : PartsFault) → IfForm e (λ s k. (s ≡ db) × (k ≡ codes "db-id")) → ((n : ℕ) → n < 2 ^ 32 → 1 ≤ n → ¬ In (codes "db-id", whole n) ks) → IfForm e (Wrong ks)
wrong_id ks e known none = form_as e db (codes "db-id") (Wrong ks) known (refl, λ c rules low agree. none c.id rules.id low (agree.there (whole c.id) (inl refl)))

pub wrong_system : (ks : List Field) (e : PartsFault) → IfForm e (λ s k. (s ≡ db) × (k ≡ codes "db-system-id")) → ((n : ℕ) → ¬ In (codes "db-system-id", whole n) ks) → IfForm e (Wrong ks)
wrong_system ks e known none = form_as e db (codes "db-system-id") (Wrong ks) known (refl, λ c rules low agree. none c.system (agree.there (whole c.system) (inr (inl refl))))

pub wrong_version : (ks : List Field) (e : PartsFault) → IfForm e (λ s k. (s ≡ db) × (k ≡ codes "db-version")) → ((n : ℕ) → n < 2 ^ 32 → ¬ In (codes "db-version", version_value n) ks) → IfForm e (Wrong ks)
wrong_version ks e known none = form_as e db (codes "db-version") (Wrong ks) known (refl, λ c rules low agree. none c.version rules.version (agree.there (version_value c.version) (inr (inr (inl refl)))))

named : (c : ClusterId) (z : Field) → In z (cluster_id_fields c) → In z.0 cluster_keys
named c z (inl e) = inl (ap (λ (k : Field). k.0) e)
named c z (inr (inl e)) = inr (inl (ap (λ (k : Field). k.0) e))
named c z (inr (inr (inl e))) = inr (inr (inl (ap (λ (k : Field). k.0) e)))
named c z (inr (inr (inr i))) = absurd i

pub wrong_foreign : (ks : List Field) (e : PartsFault) (key : Text) (d : Data) → IfForm e (λ s k. (s ≡ db) × (k ≡ key)) → In (key, d) ks → ¬ In key cluster_keys → IfForm e (Wrong ks)
wrong_foreign ks e key d known there other = form_as e db key (Wrong ks) known (refl, λ c rules low agree. other (named c (key, d) (agree.back d there)))

-- the keys of the section are those of the cluster
pub fields_are : (ks : List Field) (c : ClusterId) → IsOrdered ks → In (codes "db-id", whole c.id) ks → In (codes "db-system-id", whole c.system) ks → In (codes "db-version", version_value c.version) ks → ((z : Field) → In z ks → In z.0 cluster_keys) → ks ≡ cluster_id_fields c
fields_are ks c ordered id system version model =
    same_list (λ (k : Field). k.0) [] [] ks (cluster_id_fields c) ordered refl there (fits (λ (k : Field). k.0) [] [] (cluster_id_fields c) ks refl ordered back)
  where
    there : (z : Field) → In z (cluster_id_fields c) → In z ks
    there z (inl e) = subst (λ (k : Field). In k ks) (sym e) id
    there z (inr (inl e)) = subst (λ (k : Field). In k ks) (sym e) system
    there z (inr (inr (inl e))) = subst (λ (k : Field). In k ks) (sym e) version
    there z (inr (inr (inr i))) = absurd i

    as_field : (z : Field) (key : Text) (d : Data) → In z ks → In (key, d) ks → z.0 ≡ key → z ≡ (key, d)
    as_field z key d i j e =
        let value : z.1 ≡ d = same_value ks key z.1 d ordered (subst (λ (k : Text). In (k, z.1) ks) e i) j in
        ap₂ (λ (k : Text) (x : Data). let f : Field = (k, x) in f) e value

    back : (z : Field) → In z ks → In z (cluster_id_fields c)
    back z i = ⊎_elim
        (λ (e : z.0 ≡ codes "db-id"). inl (as_field z (codes "db-id") (whole c.id) i id e))
        (λ rest. ⊎_elim
        (λ (e : z.0 ≡ codes "db-system-id"). inr (inl (as_field z (codes "db-system-id") (whole c.system) i system e)))
        (λ last. ⊎_elim
        (λ (e : z.0 ≡ codes "db-version"). inr (inr (inl (as_field z (codes "db-version") (version_value c.version) i version e))))
        (λ (none : ⊥). absurd none)
        last)
        rest)
        (model z i)
