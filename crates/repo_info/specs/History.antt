-- The history that a section states, whichever its clusters are.
use Rattle.std.specs.Prelude.{◌≡◌, ◌≢◌, ◌<◌, ◌≤◌, ◌^◌, ℕ, List, map, length, Option, Some, decimal}
use Rattle.std.specs.List.{AllByRecursion}
use Rattle.serde_json.specs.Data.{Data}
use Rattle.base_model.specs.Text.{Text, In}
use Rattle.base_model.specs.InfoText.{IsKey}
use Rattle.base_model.specs.Fields.{Field, at_number, by_key}
use Rattle.base_model.specs.InfoFiles.{AreFrom}
use Rattle.repo_ini.specs.declared.part.Part.{Part}
use Rattle.repo_ini.specs.Parts.{keys_of}
use Rattle.repo_keys.specs.declared.fault.PartsFault.{PartsFault}
use Rattle.repo_keys.specs.Agree.{KeysAgree, db_history}
use Rattle.repo_keys.specs.Fault.{IfForm, IsFaultIn}

-- A kind of cluster has its rules, its number, and its field in a history.
module _ {X : Type 0} (IsOne : X → Type 0) (number : X → ℕ) (field : X → Field) where
  -- a field is of one cluster, and is under its number
  pub record AreNumbered : Type 0 where
    pub named : (c : X) → (field c).0 ≡ decimal (number c)
    pub small : (c : X) → IsOne c → number c < 2 ^ 32
    pub key : (c : X) → IsOne c → IsKey (field c)
    pub one : (c e : X) → IsOne c → IsOne e → field c ≡ field e → c ≡ e

  -- clusters that are numbered 1, 2, 3 and so on, with this one at its number, this many at least, and one at least for
  -- each of this many keys
  pub record IsHistory (current : X) (least keys : ℕ) (h : List X) : Type 0 where
    pub clusters : AllByRecursion IsOne h
    pub numbers : AreFrom 1 (map number h)
    pub at : at_number (number current) h ≡ Some current
    pub within : least ≤ length h
    pub long : keys ≤ length h

  -- no history with this current cluster, with this many at least, and with a cluster for each key, has at this key
  -- what these keys have
  abbrev pub IsWrongHistory : X → ℕ → List Field → Text → Type 0
  IsWrongHistory current least ks key = (h : List X) → IsHistory current least (length ks) h
      → ¬ KeysAgree (by_key (map field h)) ks key

  -- ---- one field

  -- the value states this cluster of this number
  abbrev pub StatesCluster : ℕ → Data → X → Type 0
  StatesCluster n value c = IsOne c × (number c ≡ n) × (value ≡ (field c).1)

  abbrev pub StatesNone : ℕ → Data → Type 0
  StatesNone n value = (c : X) → IsOne c → number c ≡ n → value ≢ (field c).1

  -- where the value states a cluster of this number, it is the one that was read
  abbrev pub ClusterIs : ℕ → Data → Option X → Type 0
  ClusterIs n value read = (c : X) → IsOne c → number c ≡ n → value ≡ (field c).1 → read ≡ Some c

  -- the fault is at the key of this field, which is no cluster's
  abbrev pub IsFieldFault : Field → PartsFault → Type 0
  IsFieldFault k e = IfForm e (λ section key. (section ≡ db_history) × (key ≡ k.0)
      × ((c : X) → IsOne c → 1 ≤ number c → k ≢ field c))

  -- ---- all of a part

  -- the cluster has this number and is one of the part's, and is the current one at its number
  abbrev pub IsClusterAt : X → Part → ℕ → X → Type 0
  IsClusterAt current part n c = (number c ≡ n) × IsOne c × In (field c) (keys_of part)
      × (n ≡ number current → c ≡ current)

  -- a history with at least a cluster for each key of the part
  abbrev pub IsHistoryOf : X → ℕ → Part → List X → Type 0
  IsHistoryOf current least part h = IsHistory current least (length (keys_of part)) h

  -- the fault is at a key at which no such history has what the part has
  abbrev pub IsHistoryFault : X → ℕ → Part → PartsFault → Type 0
  IsHistoryFault current least part e = IsFaultIn db_history (IsWrongHistory current least (keys_of part)) e
