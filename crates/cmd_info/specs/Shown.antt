-- Which backups can be shown.
use Rattle.std.specs.Prelude.{◌≤◌}
use Rattle.base_devices.specs.States.{last_second}
use Rattle.base_model.specs.Values.{Entry}
use Rattle.repo_info.specs.Entries.{HasLabels}

-- the labels and the times have texts
pub record HasTexts (e : Entry) : Type 0 where
  pub labels : HasLabels e
  pub start : e.start ≤ last_second
  pub stop : e.stop ≤ last_second
