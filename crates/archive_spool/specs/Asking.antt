-- What the spool is asked of a file, and what it answers.
use Rattle.std.specs.Prelude.{◌≡◌, ◌≢◌, ◌⊎◌, ◌<◌, ◌^◌, ◌↔◌, ℕ, Bool, IsTrue, Some, None, true, length, string_bytes, Option, option_map, IfSome, IsSomeAnd}
use Rattle.std.specs.Str.{is_utf8}
use Rattle.base_devices.specs.Content.{Name, Content, put}
use Rattle.base_devices.specs.States.{DiskState}
use Rattle.base_model.specs.declared.wal.ArchiveName.{ArchiveName}
use Rattle.base_model.specs.Text.{Text}
use Rattle.base_model.specs.Log.{HasReceipt}
use Rattle.base_model.specs.Names.{receipt_name}
use Rattle.archive_lookup.specs.Turns.{refusal_name}
use Rattle.archive_spool.specs.declared.spool_query.MarkNames.{MarkNames}
use Rattle.archive_spool.specs.declared.spool_query.Asked.{Asked}
use Rattle.archive_spool.specs.declared.spool_query.Asked.TheVariants.{Done, NotYet, Reported}
use Rattle.archive_spool.specs.Marks.{refusal_text}

-- the names of the file's two marks
pub record AreNamesOf (stanza : Text) (name : ArchiveName) (names : MarkNames) : Type 0 where
  pub receipt : string_bytes names.receipt ≡ receipt_name stanza name
  pub refusal : string_bytes names.refusal ≡ refusal_name stanza name

-- it is one of them
abbrev pub IsNameOf : MarkNames → Name → Type 0
IsNameOf names n = (n ≡ string_bytes names.receipt) ⊎ (n ≡ string_bytes names.refusal)

-- it is the name of a mark of this file
abbrev pub IsMarkName : Text → ArchiveName → Name → Type 0
IsMarkName stanza name n = (n ≡ receipt_name stanza name) ⊎ (n ≡ refusal_name stanza name)

-- f has the mark that the file was refused so
abbrev pub HasRefusal : Text → Content → ArchiveName → ℕ → Text → Type 0
HasRefusal stanza f name code line = (code < 2 ^ 32) × (is_utf8 line ≡ true)
    × (f (refusal_name stanza name) ≡ Some (refusal_text code line))

-- what f says of a file with this sum: a receipt of it comes first, and then a refusal
abbrev pub Answers : Text → Content → ArchiveName → Text → Asked → Type 0
Answers stanza f name sum Done = HasReceipt stanza f name sum
Answers stanza f name sum NotYet = ¬ HasReceipt stanza f name sum
    × ((code : ℕ) (line : Text) → ¬ HasRefusal stanza f name code line)
Answers stanza f name sum (Reported code text) = ¬ HasReceipt stanza f name sum
    × HasRefusal stanza f name code (string_bytes text)

-- the limit is 1 MiB, and at one of these names are more bytes
abbrev pub IsLong : (Name → Type 0) → Option Content → Name → ℕ → Type 0
IsLong these now n limit = these n × (limit ≡ 2 ^ 20) × IfSome now (λ f. IsSomeAnd (f n) (λ b. limit < length b))

-- the same for the marks of this file
abbrev pub HasLongMark : Text → ArchiveName → DiskState → Name → ℕ → Type 0
HasLongMark stanza name spool = IsLong (IsMarkName stanza name) spool.view.now

-- ---- the text of a refusal

-- the text is that of this refusal
abbrev pub IsRefusalText : Text → ℕ → Text → Type 0
IsRefusalText bytes code line = (code < 2 ^ 32) × (is_utf8 line ≡ true) × (bytes ≡ refusal_text code line)

-- the text is no refusal's
abbrev pub IsNoRefusalText : Text → Type 0
IsNoRefusalText bytes = (code : ℕ) (line : Text) → code < 2 ^ 32 → is_utf8 line ≡ true
    → bytes ≢ refusal_text code line

-- ---- what the spool says

-- the answer is whether the name has this text
abbrev pub SaysHeld : Name → Text → DiskState → Bool → Type 0
SaysHeld name text spool held = IfSome spool.view.now (λ f. IsTrue held ↔ (f name ≡ Some text))

-- the name has this refusal
abbrev pub HasRefusalAt : Name → DiskState → ℕ → Text → Type 0
HasRefusalAt name spool code line = (code < 2 ^ 32) × (is_utf8 line ≡ true)
    × IfSome spool.view.now (λ f. f name ≡ Some (refusal_text code line))

-- the name has no refusal
abbrev pub HasNoRefusalAt : Name → DiskState → Type 0
HasNoRefusalAt name spool = IfSome spool.view.now (λ f. (code : ℕ) (line : Text)
    → ¬ ((code < 2 ^ 32) × (is_utf8 line ≡ true) × (f name ≡ Some (refusal_text code line))))

-- this is what it says of a file with this sum
abbrev pub IsAnswer : Text → ArchiveName → Text → DiskState → Asked → Type 0
IsAnswer stanza name sum spool asked = IfSome spool.view.now (λ f. Answers stanza f name sum asked)

-- .. of the file whose marks have these names
abbrev pub IsAnswerAt : MarkNames → Text → DiskState → Asked → Type 0
IsAnswerAt names sum spool asked = IfSome spool.view.now (λ f. (stanza : Text) (name : ArchiveName)
    → AreNamesOf stanza name names → Answers stanza f name sum asked)

-- ---- marks that were asked for

-- neither name has anything, and all else is as before
abbrev pub RemovesNames : MarkNames → DiskState → DiskState → Type 0
RemovesNames names old new = new.view.now ≡ option_map (λ f. put (string_bytes names.refusal) None
    (put (string_bytes names.receipt) None f)) old.view.now

-- the file has no mark, and all else is as before
abbrev pub RemovesMarks : Text → ArchiveName → DiskState → DiskState → Type 0
RemovesMarks stanza name old new = new.view.now ≡ option_map (λ f. put (refusal_name stanza name) None
    (put (receipt_name stanza name) None f)) old.view.now
