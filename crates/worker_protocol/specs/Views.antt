-- From the program's frames to those of the definitions.
use Rattle.std.specs.Prelude.{List, map, string_bytes}
use Rattle.worker_protocol.specs.declared.frames.frames.Item as rust_item
use Rattle.worker_protocol.specs.declared.frames.frames.Job as rust_job
use Rattle.worker_protocol.specs.declared.frames.frames.Roots as rust_roots
use Rattle.worker_protocol.specs.declared.frames.frames.Frame as rust_frame
use Rattle.worker_protocol.specs.declared.frames.frames.Frame.TheVariants as frames
use Rattle.worker_protocol.specs.declared.frames.fields.Rest as rust_rest
use Rattle.worker_protocol.specs.Frames.{Item, Job, Roots, Frame}
use Rattle.worker_protocol.specs.Frames.Frame.{Setup, Task, Part, End, Vanished, Unread}
use Rattle.worker_protocol.specs.Reading.{Rest}

-- what the jobs and frames of the code represent
abbrev pub item_of : rust_item.Item → Item
item_of i = record { root = i.root; path = string_bytes i.path; at = i.at; size = i.size }

abbrev pub items_of : List rust_item.Item → List Item
items_of is = map item_of is

abbrev pub job_of : rust_job.Job → Job
job_of j = record { kind = j.kind; items = items_of j.items.items }

abbrev pub roots_of : rust_roots.Roots → Roots
roots_of r = record { tree = string_bytes r.tree; repo = string_bytes r.repo }

abbrev pub frame_of : rust_frame.Frame → Frame
frame_of (frames.Setup r) = Setup (roots_of r)
frame_of (frames.Job j) = Task (job_of j)
frame_of (frames.Part v) = Part v.items
frame_of (frames.End n sum) = End n sum.0
frame_of frames.Vanished = Vanished
frame_of frames.Unread = Unread

abbrev pub rest_of : rust_rest.Rest → Rest
rest_of r = record { left = r.left; bytes = r.bytes.now }
