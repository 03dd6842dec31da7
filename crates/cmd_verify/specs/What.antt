-- The ways in which a repository may deviate, and the lines that state them (own).
use Rattle.std.specs.Prelude.{◌≡◌, ℕ, ◌++◌, codes, decimal, string_bytes}
use Rattle.base_text.specs.Sum.{sum_text}
use Rattle.base_model.specs.declared.labels.Label.{Label}
use Rattle.base_model.specs.declared.wal.Segment.{Segment}
use Rattle.base_model.specs.Text.{Text}
use Rattle.base_model.specs.Names.{label_text, segment_text}
use Rattle.cmd_verify.specs.declared.findings.finding.FindingKind.{FindingKind}
use Rattle.cmd_verify.specs.declared.findings.finding.FindingKind.TheVariants as kinds
use Rattle.cmd_verify.specs.declared.findings.finding.Finding.{Finding}

-- how the pairs, the archive's names and the list of backups contradict each other
pub data Contradiction : Type 0 where
  -- the histories of the two pairs don't fit together
  HistoriesDiffer : Contradiction
  -- the file is archived under a cluster that isn't in the history
  NoCluster : Contradiction
  -- the prior of the backup is of another cluster
  OtherPrior : Contradiction

-- what is wrong with a file
pub data What : Type 0 where
  -- a member of a pair isn't there
  MemberAbsent : What
  -- it is no text of its kind
  MemberBad : What
  -- both members are texts of their kind, and they differ
  MembersDiffer : What
  -- nothing is there
  Absent : What
  -- this many bytes should lie there, and this many do
  Short : ℕ → ℕ → What
  -- bytes with the one sum should lie there, and those that do have the other
  Digest : Text → Text → What
  -- the segment is stored under an earlier name too
  Second : Segment → What
  -- the segment isn't stored
  Gap : Segment → What
  -- the label isn't listed
  Reference : Label → What
  -- the manifest states another backup than its entry in backup.info does
  Unlike : What
  -- what is stated there contradicts what is stated elsewhere
  Contradicts : Contradiction → What

abbrev pub kind_of : What → FindingKind
kind_of MemberAbsent = kinds.MemberAbsent
kind_of MemberBad = kinds.MemberBad
kind_of MembersDiffer = kinds.MembersDiffer
kind_of Absent = kinds.Absent
kind_of (Short known found) = kinds.Short
kind_of (Digest known found) = kinds.Digest
kind_of (Second s) = kinds.Second
kind_of (Gap s) = kinds.Gap
kind_of (Reference l) = kinds.Reference
kind_of Unlike = kinds.Unlike
kind_of (Contradicts c) = kinds.Contradiction

abbrev pub contradiction_line : Contradiction → Text
contradiction_line HistoriesDiffer = codes "history differs from archive.info"
contradiction_line NoCluster = codes "cluster not in the history"
contradiction_line OtherPrior = codes "prior of another cluster"

-- what is reported after the name and `: `
abbrev pub line_of : What → Text
line_of MemberAbsent = codes "member absent"
line_of MemberBad = codes "member not valid"
line_of MembersDiffer = codes "members differ"
line_of Absent = codes "absent"
line_of (Short known found) = codes "short, " ++ decimal found ++ codes " of " ++ decimal known ++ codes " bytes"
line_of (Digest known found) = codes "checksum " ++ sum_text known ++ codes ", found " ++ sum_text found
line_of (Second s) = codes "second name of " ++ segment_text s
line_of (Gap s) = codes "segment " ++ segment_text s ++ codes " absent"
line_of (Reference l) = codes "refers to " ++ label_text l ++ codes ", not listed"
line_of Unlike = codes "unlike its entry"
line_of (Contradicts c) = contradiction_line c

-- it states that the name deviates so
pub record Shows (x : Finding) (name : Text) (what : What) : Type 0 where
  pub named : string_bytes x.name ≡ name
  pub kind : x.kind ≡ kind_of what
  pub line : string_bytes x.line ≡ line_of what
