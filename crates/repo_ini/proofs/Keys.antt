-- A key whose value is built is a key of an info text.
use Rattle.std.proofs.Common.{◌≡◌, ℕ, ◌≤◌, true, List, IsUtf8}
use Rattle.serde_json.specs.Data.{Data, depth}
use Rattle.serde_json.specs.Read.{max_depth}
use Rattle.base_model.specs.InfoText.{is_key, IsKey}
use Rattle.repo_ini.specs.Built.{IsBuilt}
use Rattle.repo_ini.proofs.Built.{IsValue-built}

pub IsKey-built : (k : List ℕ) (d : Data) → is_key k ≡ true → IsUtf8 k → IsBuilt d → depth d ≤ max_depth → IsKey (k, d)
IsKey-built k d name utf8 built shallow = record { name = name; utf8 = utf8; value = IsValue-built d built shallow }
