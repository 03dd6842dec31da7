-- An object with the key under which it is.
use Rattle.std.specs.Prelude.{codes}
use Rattle.serde_json.specs.Data.{Data, string}
use Rattle.base_model.specs.Fields.{Field}
use Rattle.cmd_info.specs.ReportData.{with_key}

-- a backup as the report lists it, with its label
abbrev pub labelled_data : Field → Data
labelled_data k = with_key (codes "label") (string k.0) k.1
