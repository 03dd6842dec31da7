-- The rules of the options (pgBackRest configuration reference, "Repository Options").
use Rattle.std.specs.Prelude.{ℕ, Option, Some, None}
use Rattle.base_model.specs.declared.labels.BackupKind.{BackupKind}
use Rattle.base_model.specs.declared.labels.BackupKind.TheVariants as kinds
use Rattle.options_read.specs.declared.options.Options.{Options}
use Rattle.options_read.specs.declared.options.KindWord.{KindWord}
use Rattle.options_read.specs.declared.options.KindWord.TheVariants.{Full, Diff, Incr}
use Rattle.options_read.specs.declared.options.RetentionWord.{RetentionWord}
use Rattle.options_read.specs.declared.options.RetentionWord.TheVariants.{Count as Counted, Time}
use Rattle.expire_rules.specs.declared.rules.FullRule.{FullRule}
use Rattle.expire_rules.specs.declared.rules.FullRule.TheVariants.{Unset, Count, Days}
use Rattle.expire_rules.specs.declared.rules.Rules.{Rules}

-- how many full backups are kept, or for how many days
abbrev pub full_rule : Option ℕ → RetentionWord → FullRule
full_rule None unit = Unset
full_rule (Some n) Counted = Count n
full_rule (Some n) Time = Days n

abbrev pub kind_by : KindWord → BackupKind
kind_by Full = kinds.Full
kind_by Diff = kinds.Diff
kind_by Incr = kinds.Incr

abbrev pub rules_by : Options → Rules
rules_by o = record {
  full = full_rule o.repo1_retention_full o.repo1_retention_full_type;
  diff = o.repo1_retention_diff;
  archive = o.repo1_retention_archive;
  archive_kind = kind_by o.repo1_retention_archive_type;
}
