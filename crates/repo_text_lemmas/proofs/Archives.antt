-- A text of `archive.info` is of one value.
use Rattle.std.proofs.Common.{◌≡◌}
use Rattle.base_model.specs.Text.{Text}
use Rattle.base_model.specs.InfoFiles.{IsArchiveText}
use Rattle.base_model.specs.Values.{ArchiveInfo}
use Rattle.repo_info.proofs.OneArchive.{one_archive_text}

pub one_archive : (v w : ArchiveInfo) (t : Text) → IsArchiveText v t → IsArchiveText w t → v ≡ w
one_archive v w t h g = one_archive_text v w t h g
