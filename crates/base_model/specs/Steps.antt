-- What commands do to a repository (pgBackRest command reference).
use Rattle.std.specs.Prelude.{◌≡◌, ◌⊎◌, ◌||◌, ◌&&◌, ◌+◌, nat_eq, Bool, false, not, List, [], ◌∷◌, ◌++◌, length, map, filter, Option, Some, None, if◌then◌else◌, bytes_eq}
use Rattle.std.specs.Option.{option_map_or}
use Rattle.std.specs.List.{flat_map}
use Rattle.sha1.specs.Sha1.{sha1}
use Rattle.base_model.specs.declared.labels.Label.{Label}
use Rattle.base_model.specs.declared.clusters.Cluster.{Cluster}
use Rattle.base_model.specs.declared.wal.ArchiveId.{ArchiveId}
use Rattle.base_model.specs.declared.wal.ArchiveName.{ArchiveName}
use Rattle.base_model.specs.Text.{Text, ◌⫽◌}
use Rattle.base_model.specs.Names.{id_text, wal_text}
use Rattle.base_model.specs.Fields.{at_number}
use Rattle.base_model.specs.Repository.{Backup, Archived, Drained, Stanza, Repository, id_of, current_number}

-- ---- steps

-- one change of the repository
pub data Step : Type 0 where
  -- a stanza of one cluster, with nothing in it
  Create : Cluster → Step
  -- a further cluster, which becomes the current one ("Stanza Upgrade Command")
  Upgrade : Cluster → Step
  -- one archived file more
  Push : Archived → Step
  -- one file more that a drain has stored
  Note : Drained → Step
  -- one backup more, as the last
  AddBackup : Backup → Step
  -- the backups of these labels expire
  Condemn : (Label → Bool) → Step
  -- an archived file is removed
  Forget : Archived → Step

-- the two are of one id and name
abbrev pub is_same_file : Archived → Archived → Bool
is_same_file a b = bytes_eq (id_text a.id ⫽ wal_text a.name) (id_text b.id ⫽ wal_text b.name)

abbrev pub new_stanza : Cluster → Stanza
new_stanza c = record { history = c ∷ []; backups = []; archived = []; drained = [] }

-- a step within a stanza
abbrev pub changed : Step → Stanza → Stanza
changed (Create c) s = s
changed (Upgrade c) s = record s { history = s.history ++ c ∷ [] }
changed (Push a) s = record s { archived = s.archived ++ a ∷ [] }
changed (Note d) s = record s { drained = s.drained ++ d ∷ [] }
changed (AddBackup b) s = record s { backups = s.backups ++ b ∷ [] }
changed (Condemn test) s = record s { backups = filter (λ b. not (test b.entry.label)) s.backups }
changed (Forget a) s = record s { archived = filter (λ b. not (is_same_file a b)) s.archived }

-- only Create makes a stanza
abbrev pub step : Repository → Step → Repository
step None (Create c) = Some (new_stanza c)
step None other = None
step (Some s) t = Some (changed t s)

-- after steps, the first of them first
abbrev pub after : Repository → List Step → Repository
after r [] = r
after r (t ∷ ts) = after (step r t) ts

-- ---- parts

-- A command's moves come one after another; of the groups of steps that are together any may be done.
pub data Move : Type 0 where
  One : Step → Move
  Any : List (List Step) → Move

abbrev pub all_of : List Move → List Step
all_of [] = []
all_of (One t ∷ moves) = t ∷ all_of moves
all_of (Any groups ∷ moves) = flat_map (λ g. g) groups ++ all_of moves

-- some of these groups, in their order
abbrev pub IsSomeOf : List Step → List (List Step) → Type 0
IsSomeOf done [] = done ≡ []
IsSomeOf done (g ∷ groups) = IsSomeOf done groups ⊎ ((rest : List Step) × (done ≡ g ++ rest) × IsSomeOf rest groups)

-- a part of a command's moves: the first of them, and after these some of the groups that are together
abbrev pub IsPartOf : List Step → List Move → Type 0
IsPartOf done [] = done ≡ []
IsPartOf done (One t ∷ moves) = (done ≡ []) ⊎ ((rest : List Step) × (done ≡ t ∷ rest) × IsPartOf rest moves)
IsPartOf done (Any groups ∷ moves) = IsSomeOf done groups
    ⊎ ((rest : List Step) × (done ≡ flat_map (λ g. g) groups ++ rest) × IsPartOf rest moves)

-- ---- commands

-- a file with its name
pub record Named : Type 0 where
  pub name : ArchiveName
  pub bytes : Text

-- A step of other processes: the files that they pushed, under which id, and whether the step of others succeeded.
pub record Turn : Type 0 where
  pub id : ArchiveId
  pub pushed : List Named
  pub ended : Bool

-- what the retention options condemn in a stanza, and which files they need of it
pub record Retention : Type 0 where
  pub condemned : Stanza → Label → Bool
  pub needed : Stanza → Archived → Bool

-- a command with its inputs
pub data Command : Type 0 where
  -- the cluster that the control files state, where they state one
  StanzaCreate : Option Cluster → Command
  -- the same; it gets the next number
  StanzaUpgrade : Option Cluster → Command
  -- the file, which goes under the current id
  ArchivePush : Named → Command
  -- the steps of others that it waited for
  ArchivePushAsync : List Turn → Command
  -- the files that are ready and aren't refused for their content
  ArchivePushDrain : List Named → Command
  -- the steps of others that it waited for, the backup that it made, and the retention, where an expiry follows
  MakeBackup : List Turn → Backup → Option Retention → Command
  Expire : Retention → Command
  -- one after another, as a rehearsal makes them
  Then : Command → Command → Command
  -- any command that changes nothing
  Reading : Command

abbrev pub after_all : Stanza → List Step → Stanza
after_all s [] = s
after_all s (t ∷ ts) = after_all (changed t s) ts

abbrev pub is_archived : Archived → List Archived → Bool
is_archived a [] = false
is_archived a (b ∷ bs) = is_same_file a b || is_archived a bs

-- a push, where this name isn't archived under the id
abbrev pub push_of : Stanza → Archived → List Step
push_of s a = if is_archived a s.archived then [] else Push a ∷ []

abbrev pub archived_of : ArchiveId → Named → Archived
archived_of id n = record { id = id; name = n.name; bytes = n.bytes }

-- a file of its id and name is archived with another sum
abbrev pub has_other : Archived → List Archived → Bool
has_other a [] = false
has_other a (b ∷ bs) = (is_same_file a b && not (bytes_eq (sha1 a.bytes) (sha1 b.bytes))) || has_other a bs

-- What a drain does with a file: a push, where it isn't archived, and then a note. Where it is archived with another
-- sum it does nothing.
abbrev pub store_of : Stanza → ArchiveId → Named → List Step
store_of s id n = if has_other (archived_of id n) s.archived then []
    else push_of s (archived_of id n) ++ Note (record { name = n.name; sum = sha1 n.bytes }) ∷ []

-- the stores of files one after another, a group each
abbrev pub stores_of : Stanza → ArchiveId → List Named → List (List Step)
stores_of s id [] = []
stores_of s id (n ∷ ns) = store_of s id n ∷ stores_of (after_all s (store_of s id n)) id ns

-- Steps of others one after another: a step of others that succeeded has stored all of its files, and another any of
-- them.
abbrev pub turn_moves : Stanza → List Turn → List Move
turn_moves s [] = []
turn_moves s (t ∷ ts) =
    let groups = stores_of s t.id t.pushed in
    let steps = flat_map (λ g. g) groups in
    (if t.ended then map One steps else Any groups ∷ []) ++ turn_moves (after_all s steps) ts

-- an expiry: the labels expire, then each file that isn't needed without them, in any order
abbrev pub expiry_moves : Retention → Stanza → List Move
expiry_moves kept s =
    let rest = changed (Condemn (kept.condemned s)) s in
    One (Condemn (kept.condemned s)) ∷ Any
    (map (λ a. Forget a ∷ []) (filter (λ a. not (kept.needed rest a)) rest.archived)) ∷ []

abbrev pub create_moves : Option Cluster → Repository → List Move
create_moves (Some c) None = One (Create c) ∷ []
create_moves cluster r = []

-- the two have one system identifier and one version
abbrev pub is_same_cluster : Cluster → Cluster → Bool
is_same_cluster c d = nat_eq c.system d.system && nat_eq c.version d.version

-- the stanza's current cluster is this one
abbrev pub is_current : Cluster → Stanza → Bool
is_current c s = option_map_or (is_same_cluster c) (at_number (current_number s) s.history) false

-- the cluster under the number that comes next
abbrev pub next_cluster : Cluster → Stanza → Cluster
next_cluster c s = record {
  id = length s.history + 1;
  system = c.system;
  version = c.version;
  control = c.control;
  catalog = c.catalog;
}

-- a further cluster, where the current one is another
abbrev pub upgrade_moves : Cluster → Stanza → List Move
upgrade_moves c s = if is_current c s then [] else One (Upgrade (next_cluster c s)) ∷ []

-- the moves in a stanza; there are none without one
abbrev pub in_stanza : (Stanza → List Move) → Repository → List Move
in_stanza moves None = []
in_stanza moves (Some s) = moves s

-- the moves under the id of the current cluster
abbrev pub under_current : (ArchiveId → List Move) → Stanza → List Move
under_current moves s = option_map_or (λ (c : Cluster). moves (id_of c)) (at_number (current_number s) s.history) []

abbrev pub backup_moves : List Turn → Backup → Option Retention → Stanza → List Move
backup_moves turns b kept s =
    let waited = turn_moves s turns in
    let made = changed (AddBackup b) (after_all s (all_of waited)) in
    waited ++ One (AddBackup b) ∷ option_map_or (λ (k : Retention). expiry_moves k made) kept []

-- the moves of a command on its stanza's repository
abbrev pub steps_of : Command → Repository → List Move
steps_of (StanzaCreate cluster) r = create_moves cluster r
steps_of (StanzaUpgrade cluster) r =
    in_stanza (λ s. option_map_or (λ (c : Cluster). upgrade_moves c s) cluster []) r
steps_of (ArchivePush n) r = in_stanza (λ s. under_current (λ id. map One (push_of s (archived_of id n))) s) r
steps_of (ArchivePushAsync turns) r = in_stanza (λ s. turn_moves s turns) r
steps_of (ArchivePushDrain files) r =
    in_stanza (λ s. under_current (λ id. map One (flat_map (λ g. g) (stores_of s id files))) s) r
steps_of (MakeBackup turns b kept) r = in_stanza (backup_moves turns b kept) r
steps_of (Expire kept) r = in_stanza (expiry_moves kept) r
steps_of (Then first next) r = steps_of first r ++ steps_of next (after r (all_of (steps_of first r)))
steps_of Reading r = []

-- the repository with this as its current cluster
abbrev pub upgraded : Cluster → Repository → Repository
upgraded c r = after r (all_of (steps_of (StanzaUpgrade (Some c)) r))
