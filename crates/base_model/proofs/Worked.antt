-- The definitions on worked examples.
use Rattle.std.specs.Prelude.{◌≡◌, [], Some, None, refl, codes}
use Rattle.std.proofs.Common.{arith}
use Rattle.std.proofs.lemmas.Fmt.{decimal_digit}
use Rattle.base_model.specs.declared.labels.Label.{Label}
use Rattle.base_model.specs.declared.labels.BackupKind.TheVariants.{Diff}
use Rattle.base_model.specs.declared.wal.ArchiveName.TheVariants.{Segment as Whole, History}
use Rattle.base_model.specs.Text.{hex_upper}
use Rattle.base_model.specs.Dates.{date_after, stamp}
use Rattle.base_model.specs.Names.{label_text, wal_text}
use Rattle.base_model.specs.ManifestText.{lsn_text}
use Rattle.base_model.specs.Values.{FileEntry}
use Rattle.base_model.specs.Place.{place}

leap_day : date_after 789 ≡ record { year = 1972; month = 2; day = 29 }
unfolding date_after
leap_day = refl

abbrev full_label : Label
full_label = record { full = 1704164645; later = None }

abbrev diff_label : Label
diff_label = record { full = 1704164645; later = Some (record { time = 1704164705; kind = Diff }) }

full_label_text : label_text full_label ≡ codes "20240102-030405F"
unfolding stamp date_after
full_label_text = refl

diff_label_text : label_text diff_label ≡ codes "20240102-030405F_20240102-030505D"
unfolding stamp date_after
diff_label_text = refl

segment_name : wal_text (Whole (record { timeline = 1; log = 2; seg = 255 })) ≡ codes "0000000100000002000000FF"
unfolding hex_upper
segment_name = refl

history_name : wal_text (History 2) ≡ codes "00000002.history"
unfolding hex_upper
history_name = refl

position_text : lsn_text 4395630632 ≡ codes "1/6000028"
unfolding hex_upper
position_text = refl

-- a file of two bytes at the third byte of the first bundle of an earlier backup
bundled : FileEntry
bundled = record { path = codes "base/5/b"; size = 2; time = 0; sum = []; reference = Some full_label; bundle = Some (record { number = 1; at = 3 }) }

bundled_place : place (codes "demo") diff_label bundled ≡ (codes "backup/demo/20240102-030405F/bundle/1", 3)
unfolding bundled stamp date_after
bundled_place = rw (decimal_digit 1 (omega arith)) refl
