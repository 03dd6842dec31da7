-- What a rehearsal reports at its end, a line for each step (own).
use Rattle.std.specs.Prelude.{ℕ, ◌++◌, codes, decimal}
use Rattle.base_model.specs.Text.{Text}
use Rattle.base_sample.specs.Folder.{file_count, segment_count}
use Rattle.cmd_rehearse.specs.declared.backup_totals.Amount.{Amount}
use Rattle.cmd_rehearse.specs.declared.telling.Summary.{Summary}

-- a number after its word
abbrev pub count_line : Text → ℕ → Text
count_line word n = word ++ (codes " " ++ (decimal n ++ codes "\n"))

-- a number of files and one of bytes
abbrev pub amount_line : Text → Amount → Text
amount_line word a = word ++ (codes " " ++ (decimal a.files ++ (codes " " ++ (decimal a.bytes ++ codes "\n"))))

-- what was made
abbrev pub made_lines : ℕ → Text
made_lines number = count_line (codes "files") (file_count number)
    ++ count_line (codes "segments") (segment_count number)

-- what each backup stored
abbrev pub backup_lines : Summary → Text
backup_lines s = amount_line (codes "full") s.first
    ++ (amount_line (codes "incr") s.second ++ amount_line (codes "full") s.third)

-- what was removed, what was kept, what was restored, and what a verification found
abbrev pub end_lines : Summary → Text
end_lines s = count_line (codes "expired") s.expired
    ++ (count_line (codes "kept") s.kept
    ++ (amount_line (codes "restored") s.restored ++ count_line (codes "findings") s.findings))

abbrev pub summary_of : ℕ → Summary → Text
summary_of number s = made_lines number ++ (backup_lines s ++ end_lines s)
