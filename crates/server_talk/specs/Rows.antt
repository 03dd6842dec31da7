-- What the rows of the queries state (PostgreSQL manual, "System Information Functions" and "System Administration
-- Functions").
use Rattle.std.specs.Prelude.{◌≡◌, ◌≢◌, ◌<◌, ◌^◌, ◌⊎◌, ℕ, Bool, true, false, List, [], ◌∷◌, Option, Some, unwrap_or, IfSome, Result, Ok, Err, codes, decimal}
use Rattle.base_model.specs.Text.{Text}
use Rattle.base_model.specs.declared.wal.Segment.{Segment}
use Rattle.base_model.specs.ManifestText.{IsSegSize}
use Rattle.base_model.specs.InfoFiles.{IsSegment}
use Rattle.base_model.specs.Names.{segment_text}
use Rattle.repo_names.specs.Lsn.{IsLsn}
use Rattle.server_talk.specs.declared.session.known.Started.{Started}
use Rattle.server_talk.specs.declared.session.fault.ServerFault.{ServerFault}
use Rattle.server_talk.specs.Fault.{Fault, form, mismatch}
use Rattle.server_talk.specs.Talk.{Talk, Taken}
use Rattle.server_talk.specs.Reads.{Fails, IsOutside}

-- the server's system and the size of its segments
abbrev pub system_query : Text
system_query = codes "select system_identifier::text, (select setting from pg_catalog.pg_settings where name = 'wal_segment_size') from pg_catalog.pg_control_system()"

-- where a backup starts, at once or after the next checkpoint
abbrev pub start_query : Bool → Text
start_query true = codes "select lsn::text, pg_catalog.pg_walfile_name(lsn) from pg_catalog.pg_backup_start('pgBackRest backup', true) as lsn"
start_query false = codes "select lsn::text, pg_catalog.pg_walfile_name(lsn) from pg_catalog.pg_backup_start('pgBackRest backup', false) as lsn"

-- where it stops, and what its files are to hold
abbrev pub stop_query : Text
stop_query = codes "select lsn::text, pg_catalog.pg_walfile_name(lsn), labelfile, spcmapfile from pg_catalog.pg_backup_stop(false)"

-- two columns in decimal: the system, and the size of its segments
pub record IsSystemRow (t : Talk) (system size : ℕ) : Type 0 where
  pub columns : t.row ≡ Some (decimal system) ∷ Some (decimal size) ∷ []
  pub fits : system < 2 ^ 64
  pub sized : IsSegSize size

-- what a row answers where this system is kept; a value that isn't of its kind is a fault at the end of the row
pub data SystemOutcome (kept : ℕ) (t : Talk) : Result ℕ Fault → Type 0 where
  same : (size : ℕ) → IsSystemRow t kept size → SystemOutcome kept t (Ok size)
  other : (found size : ℕ) → IsSystemRow t found size → found ≢ kept → SystemOutcome kept t (Err (mismatch kept found))
  wrong : ((found size : ℕ) → ¬ IsSystemRow t found size) → SystemOutcome kept t (Err (form t.row_end))

-- a position, and the name of its segment
pub record IsStartRow (t : Talk) (s : Started) : Type 0 where
  pub lsn : Text
  pub columns : t.row ≡ Some lsn ∷ Some (segment_text s.segment) ∷ []
  pub position : IsLsn lsn s.lsn.0
  pub named : IsSegment s.segment

-- the two texts state none
abbrev pub StatesNoPlace : Text → Text → Type 0
StatesNoPlace lsn segment = (at : ℕ) (s : Segment) → IsLsn lsn at → IsSegment s → segment ≢ segment_text s

pub data StartOutcome (t : Talk) : Result Started Fault → Type 0 where
  started : (s : Started) → IsStartRow t s → StartOutcome t (Ok s)
  unstarted : ((s : Started) → ¬ IsStartRow t s) → StartOutcome t (Err (form t.row_end))

pub record Stop : Type 0 where
  pub lsn : ℕ
  pub segment : Segment
  pub label_file : Text
  pub map_file : Text

-- a row of three texts, and of one more that may be NULL
abbrev pub four_cells : Text → Text → Text → Option Text → List (Option Text)
four_cells a b c d = Some a ∷ Some b ∷ Some c ∷ d ∷ []

-- a position, the name of its segment, and the contents of two files, of which the second may be NULL
pub record IsStopRow (t : Talk) (s : Stop) : Type 0 where
  pub lsn : Text
  pub last : Option Text
  pub columns : t.row ≡ Some lsn ∷ Some (segment_text s.segment) ∷ Some s.label_file ∷ last ∷ []
  pub map : s.map_file ≡ unwrap_or last []
  pub position : IsLsn lsn s.lsn
  pub named : IsSegment s.segment

pub data StopOutcome (t : Talk) : Result Stop Fault → Type 0 where
  stopped : (s : Stop) → IsStopRow t s → StopOutcome t (Ok s)
  unstopped : ((s : Stop) → ¬ IsStopRow t s) → StopOutcome t (Err (form t.row_end))

-- an answer is one that the row allows, unless memory ran out
abbrev pub Known : {X Y : Type 0} → (X → Y) → Result X ServerFault → (Result Y Fault → Type 0) → Type 0
Known view (Ok x) Shows = Shows (Ok (view x))
Known {Y} view (Err e) Shows = IsOutside e ⊎ ((outcome : Result Y Fault) × Shows outcome × Fails e outcome)

-- a fault of the talk, or one that its row states
pub data Refuses {Y : Type 0} (e : ServerFault) (read : Result (Talk × List ℕ) Fault)
    (Shows : Talk → Result Y Fault → Type 0) : Type 0 where
  by_talk : Fails e read → Refuses e read Shows
  by_row : (t : Talk) (rest : List ℕ) → read ≡ Ok (t, rest) → (outcome : Result Y Fault) → Shows t outcome
      → Fails e outcome → Refuses e read Shows

-- the row of a talk, after which this much was taken and this is pending
pub record Rows {Y : Type 0} (read : Result (Talk × List ℕ) Fault) (taken : Taken) (new : Option (List ℕ))
    (Shows : Talk → Result Y Fault → Type 0) (outcome : Result Y Fault) : Type 0 where
  pub talk : Talk
  pub rest : List ℕ
  pub is : read ≡ Ok (talk, rest)
  pub pending : new ≡ Some rest
  pub following : taken ≡ talk.taken
  pub shows : Shows talk outcome

-- an answer to a query, by what was pending, where that is known
abbrev pub Answers : {X Y : Type 0} → (X → Y) → Result X ServerFault → Taken → Option (List ℕ) → Option (List ℕ)
    → (List ℕ → Result (Talk × List ℕ) Fault) → (Talk → Result Y Fault → Type 0) → Type 0
Answers view (Ok x) taken old new read Shows = IfSome old (λ s. Rows (read s) taken new Shows (Ok (view x)))
Answers view (Err e) taken old new read Shows = IfSome old (λ s. Refuses e (read s) Shows)
