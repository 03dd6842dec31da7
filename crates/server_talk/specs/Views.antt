-- What the code's values represent.
use Rattle.std.specs.Prelude.{ℕ, ◌+◌, List, length, map, Option, option_map, string_bytes, String}
use Rattle.std.specs.declared.alloc.Global.{Global}
use Rattle.base_model.specs.Text.{Text}
use Rattle.server_talk.specs.declared.session.cells.Left as code_left
use Rattle.server_talk.specs.declared.session.message.Message as code_message
use Rattle.server_talk.specs.declared.session.talk.Talk as code_talk
use Rattle.server_talk.specs.declared.session.session.Session as code_session
use Rattle.server_talk.specs.declared.session.known.Stopped as code_stopped
use Rattle.server_talk.specs.Cells.{Left}
use Rattle.server_talk.specs.Rows.{Stop}
use Rattle.server_talk.specs.Message.{Message}
use Rattle.server_talk.specs.Talk.{Talk, Taken}

-- what the messages and the talk of the code represent
abbrev pub cell_view : Option (String Global) → Option Text
cell_view c = option_map string_bytes c

abbrev pub cells_view : List (Option (String Global)) → List (Option Text)
cells_view cs = map (λ c. option_map string_bytes c) cs

abbrev pub left_view : code_left.Left → Left
left_view l = record { cells = cells_view l.cells.items; at = l.at; rest = l.rest.now }

-- the place where what is left ends
abbrev pub end_place : code_left.Left → ℕ
end_place l = l.at + length l.rest.now

abbrev pub message_view : code_message.Message → Message
message_view m = record { kind = m.kind; body = m.body.items }

abbrev pub session_view : code_session.Session → Taken
session_view s = record { bytes = s.taken; messages = s.messages }

abbrev pub talk_view : code_talk.Talk → Talk
talk_view t = record {
  phase = t.phase;
  row = cells_view t.row.items;
  row_end = t.row_end;
  taken = session_view t.session;
}

abbrev pub stopped_view : code_stopped.Stopped → Stop
stopped_view s = record {
  lsn = s.lsn.0;
  segment = s.segment;
  label_file = string_bytes s.label_file;
  map_file = string_bytes s.map_file;
}
