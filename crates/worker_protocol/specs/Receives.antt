-- What receiving a frame leaves of a link. Own.
use Rattle.std.specs.Prelude.{ℕ, Bool, false, ◌≡◌, ◌==◌, ◌&&◌, ◌^◌, ◌<◌, ◌≤◌, nat_lt, nat_le, if◌then◌else◌, length, Result, Ok, Err}
use Rattle.base_devices.specs.Links.{LinkState}
use Rattle.worker_protocol.specs.Frames.{Frame, spell, part_size}
use Rattle.worker_protocol.specs.Frames.Frame.{Setup, Task, Part, End, Vanished, Unread}
use Rattle.worker_protocol.specs.declared.replies.frames.Received.{Received}
use Rattle.worker_protocol.specs.declared.replies.frames.Received.TheVariants as received_reply
use Rattle.worker_protocol.specs.declared.replies.cause.ReceiveFault.{ReceiveFault}
use Rattle.worker_protocol.specs.Takes.{Takes, Offers, Begins}

-- the frame that was received
abbrev pub frame_of : Received → Frame
frame_of (received_reply.Part v) = Part v.items
frame_of (received_reply.End n sum) = End n sum.0
frame_of received_reply.Vanished = Vanished
frame_of received_reply.Unread = Unread

-- the bytes that were given are the frame's
abbrev pub ReceiveReplyLeaves : Result Received ReceiveFault → LinkState → LinkState → Type 0
ReceiveReplyLeaves (Ok h) old new = Takes old new (spell (frame_of h))
ReceiveReplyLeaves (Err e) old new = Unit {0}

-- a frame that may be in a reply
abbrev pub IsReplyFrame : Frame → Type 0
IsReplyFrame (Setup r) = ⊥
IsReplyFrame (Task j) = ⊥
IsReplyFrame (Part bytes) = (0 < length bytes) × (length bytes ≤ part_size)
IsReplyFrame (End n sum) = (n < 2 ^ 64) × (length sum ≡ 20)
IsReplyFrame Vanished = Unit {0}
IsReplyFrame Unread = Unit {0}

-- it may be in a reply
abbrev pub IsFullyReceived : Received → Type 0
IsFullyReceived h = IsReplyFrame (frame_of h)

-- the link is steady, and its next bytes are a frame of a reply
abbrev pub OffersReply : LinkState → Type 0
OffersReply s = (f : Frame) × IsReplyFrame f × Offers s (spell f)

-- the link's next bytes are a frame of a reply
abbrev pub BeginsReply : LinkState → Type 0
BeginsReply s = (f : Frame) × IsReplyFrame f × Begins s (spell f)

-- whether a frame of a reply may have this type and a body of this length
abbrev pub is_head : ℕ → ℕ → Bool
is_head type n =
    if type == 80 then nat_lt 0 n && nat_le n part_size
    else if type == 69 then n == 28
    else if type == 86 then n == 0
    else if type == 85 then n == 0
    else false
