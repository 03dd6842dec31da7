-- What the proof of the stages needs of each command: a line each.
use Rattle.std.specs.Prelude.{Bool, true, false, List}
use Rattle.base_model.specs.Text.{Text}
use Rattle.options_read.specs.Filled.{output_word, word_in}
use Rattle.options_read.specs.Settings.{Source, Resolved, value}
use Rattle.options_table.specs.declared.table.Opt.TheVariants.{ArchiveAsync, ArchiveGetQueueMax, ArchiveTimeout, Number, Online, Output, SpoolPath}
use Rattle.options_table.specs.declared.table.Verb.{Verb}
use Rattle.options_table.specs.declared.table.Verb.TheVariants.{StanzaCreate, StanzaUpgrade, ArchivePush, ArchivePushAsync, ArchiveGet, ArchiveGetAsync, Backup, Restore, Info, Verify, Expire, Rehearse}
use Rattle.cmd_trait.specs.InForce.{is_on, first_of, second_of, path_in, count_in, size_in}
use Rattle.cmd_trait.specs.Meaning.{IsLawful}
use Rattle.run_stanza_create.specs.Lawful.{create_lawful}
use Rattle.run_stanza_upgrade.specs.Lawful.{upgrade_lawful}
use Rattle.run_archive_push.specs.Lawful.{push_lawful}
use Rattle.run_archive_push.specs.QueueLawful.{queued_push_lawful}
use Rattle.run_archive_push_async.specs.Lawful.{drain_lawful}
use Rattle.run_archive_get.specs.Lawful.{get_lawful, through_lawful}
use Rattle.run_archive_get_async.specs.Lawful.{fetch_lawful}
use Rattle.run_backup.specs.OfflineLawful.{backup_offline_lawful}
use Rattle.run_backup.specs.OnlineLawful.{backup_online_lawful}
use Rattle.run_restore.specs.Asking.{set_in, how_in}
use Rattle.run_restore.specs.Lawful.{restore_lawful}
use Rattle.run_info.specs.Informing.{info_lawful}
use Rattle.run_verify.specs.Verifying.{verify_lawful}
use Rattle.run_expire.specs.Lawful.{expire_lawful}
use Rattle.run_rehearse.specs.Lawful.{rehearse_lawful}
use Rattle.program_run.specs.Asked.{asked, asked_by, push_by, get_by, backup_by, asked_in, server_in, rules_in, expires_in, backup_in, running_in}

push_lawful_by : (background : Bool) (s : Source) (path : Text) → IsLawful (push_by background s path).means
push_lawful_by false s path = push_lawful path
push_lawful_by true s path = queued_push_lawful path (path_in s SpoolPath) (size_in s ArchiveTimeout)

get_lawful_by : (background : Bool) (s : Source) (name path : Text) → IsLawful (get_by background s name path)
get_lawful_by false s name path = get_lawful name path
get_lawful_by true s name path = through_lawful name path (path_in s SpoolPath) (size_in s ArchiveGetQueueMax)

backup_lawful_by : (online : Bool) (s : Source) → IsLawful (backup_by online s).means
backup_lawful_by false s = backup_offline_lawful (backup_in s) (expires_in s)
backup_lawful_by true s = backup_online_lawful (server_in s) (running_in s) (expires_in s)

lawful_by : (verb : Verb) (s : Source) (given : List Text) → IsLawful (asked_by verb s given).means
lawful_by StanzaCreate s given = create_lawful (asked_in s)
lawful_by StanzaUpgrade s given = upgrade_lawful (asked_in s)
lawful_by ArchivePush s given = push_lawful_by (is_on s ArchiveAsync) s (first_of given)
lawful_by ArchivePushAsync s given = drain_lawful (path_in s SpoolPath)
lawful_by ArchiveGet s given = get_lawful_by (is_on s ArchiveAsync) s (first_of given) (second_of given)
lawful_by ArchiveGetAsync s given = fetch_lawful (first_of given) (path_in s SpoolPath) (size_in s ArchiveGetQueueMax)
lawful_by Backup s given = backup_lawful_by (is_on s Online) s
lawful_by Restore s given = restore_lawful (set_in s) (how_in s)
lawful_by Info s given = info_lawful (output_word (word_in (value s Output)))
lawful_by Verify s given = verify_lawful
lawful_by Expire s given = expire_lawful (rules_in s)
lawful_by Rehearse s given = rehearse_lawful (count_in s Number)

pub lawful : (s : Resolved) → IsLawful (asked s).means
lawful s = lawful_by s.source.verb s.source s.parameters
