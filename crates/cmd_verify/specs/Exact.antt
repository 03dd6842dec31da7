-- Exactly the findings, in their order.
use Rattle.std.specs.Prelude.{◌≡◌, ◌⊎◌, ℕ, List, string_bytes}
use Rattle.std.specs.declared.cmp.Ordering.{Ordering}
use Rattle.std.specs.Ordering.{ordering_then, nat_cmp}
use Rattle.std.specs.List.Sorted.{IsStrictlySortedBy}
use Rattle.base_devices.specs.Content.{Content}
use Rattle.base_model.specs.Text.{Text, text_cmp}
use Rattle.cmd_verify.specs.declared.findings.finding.Finding.{Finding}
use Rattle.cmd_verify.specs.declared.findings.finding.FindingKind.{FindingKind}
use Rattle.cmd_verify.specs.declared.findings.finding.FindingKind.TheVariants as kinds
use Rattle.base_model.specs.Names.{archive_info, backup_info}
use Rattle.base_model.specs.InfoFiles.{IsArchiveText, IsBackupText}
use Rattle.cmd_verify.specs.What.{What}
use Rattle.cmd_verify.specs.Findings.{PairDeviates, IsFinding}
use Rattle.cmd_verify.specs.Adding.{Are}

-- the kinds in their order
abbrev pub rank : FindingKind → ℕ
rank kinds.MemberAbsent = 0
rank kinds.MemberBad = 1
rank kinds.MembersDiffer = 2
rank kinds.Absent = 3
rank kinds.Short = 4
rank kinds.Digest = 5
rank kinds.Second = 6
rank kinds.Gap = 7
rank kinds.Reference = 8
rank kinds.Unlike = 9
rank kinds.Contradiction = 10

-- by name, then by kind, then by line; names and lines in byte order
abbrev pub finding_cmp : Finding → Finding → Ordering
finding_cmp a b = ordering_then (text_cmp (string_bytes a.name) (string_bytes b.name))
    (ordering_then (nat_cmp (rank a.kind) (rank b.kind)) (text_cmp (string_bytes a.line) (string_bytes b.line)))

-- two findings state the same
pub record AreAlike (x y : Finding) : Type 0 where
  pub name : string_bytes x.name ≡ string_bytes y.name
  pub kind : x.kind ≡ y.kind
  pub line : string_bytes x.line ≡ string_bytes y.line

-- one of the two pairs deviates so
abbrev pub PairsDeviate : Text → Content → Text → What → Type 0
PairsDeviate stanza f name what = PairDeviates IsArchiveText f (archive_info stanza) name what
    ⊎ PairDeviates IsBackupText f (backup_info stanza) name what

-- each way in which f deviates, once, in order
pub record AreFindings (stanza : Text) (f : Content) (found : List Finding) : Type 0 where
  pub are : Are (IsFinding stanza f) found
  pub order : IsStrictlySortedBy finding_cmp found
