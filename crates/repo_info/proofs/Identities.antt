-- The identity that an object's two members state.
use Rattle.std.proofs.Common.{◌≡◌, ℕ, ◌<◌, ◌^◌, List, Option, Some, decimal, refl, sym, ap, ◌∙◌, subst, arith}
use Rattle.std.specs.Prelude.{codes}
use Rattle.serde_json.specs.Data.{Data}
use Rattle.serde_json.specs.Find.{get}
use Rattle.base_model.specs.declared.clusters.ClusterId.{ClusterId}
use Rattle.base_model.specs.Fields.{whole}
use Rattle.base_model.specs.InfoFiles.{cluster_id_field, version_value}
use Rattle.repo_keys.proofs.Scalars.{same_number, same_version, same_data}

pub system_of : (d found : Data) (n : ℕ) (e : ClusterId) → d ≡ (cluster_id_field e).1 → Some found ≡ get (codes "db-id") d → found ≡ whole n → n ≡ e.system
system_of d found n e is at shows = same_number n e.system (sym shows ∙ same_data found (whole e.system) (at ∙ ap (get (codes "db-id")) is))

pub version_of : (d found : Data) (n : ℕ) (e : ClusterId) → n < 2 ^ 64 → e.version < 2 ^ 64 → d ≡ (cluster_id_field e).1 → Some found ≡ get (codes "db-version") d → found ≡ version_value n → n ≡ e.version
version_of d found n e h g is at shows = same_version n e.version h g (sym shows ∙ same_data found (version_value e.version) (at ∙ ap (get (codes "db-version")) is))

pub same_cluster : (id system version : ℕ) (e : ClusterId) → e.id ≡ id → system ≡ e.system → version ≡ e.version → ◌≡◌ {A = Option ClusterId} (Some (record { id = id; system = system; version = version })) (Some e)
same_cluster id system version e i s v = rw (sym i, s, v) refl
