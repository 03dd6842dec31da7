-- What taking a frame leaves, over the values of the program. Own.
use Rattle.std.specs.Prelude.{ℕ, Result, IfOk, IfErr}
use Rattle.base_devices.specs.Links.{LinkState}
use Rattle.worker_protocol.specs.declared.frames.frames.Job as rust_job
use Rattle.worker_protocol.specs.declared.replies.frames.Received.{Received}
use Rattle.worker_protocol.specs.Frames.{Job, spell}
use Rattle.worker_protocol.specs.PartSinkState.{PartSinkState}
use Rattle.worker_protocol.specs.Receives.{frame_of}
use Rattle.worker_protocol.specs.Views.{job_of}
use Rattle.worker_pool.specs.declared.replies.fault.ReplyFault.{ReplyFault}
use Rattle.worker_pool.specs.declared.replies.receiving.Receiving.{Receiving}
use Rattle.worker_pool.specs.declared.replies.reply.Verdict.{Verdict}
use Rattle.worker_pool.specs.Going.{IsGiving, ItemFails, FrameFails, CountsFrame, ReceivedOf}

-- the link is in the course of its reply to the job, and the keeper is for the job
abbrev pub IsReplying : LinkState → Job → ℕ → Receiving → PartSinkState → Type 0
IsReplying link job number h s = IsGiving link.known job number h s

-- with a frame of this size more bytes of the reply were received
abbrev pub CountsMore : Result Verdict ReplyFault → Receiving → ℕ → Receiving → Type 0
CountsMore result h size next = IfOk result (λ v. CountsFrame v h.received_reply size next.received_reply)

-- why no more is taken of the item, whatever the link is still to give, where the keeper and its device went from the
-- first two to the last
abbrev pub ItemRefused : {K W : Type 0} → Result Verdict ReplyFault → (K → W → PartSinkState) → rust_job.Job → Receiving
    → K → W → K → W → Type 0
ItemRefused result kept job h k v l w = IfErr result (λ e. ItemFails e (job_of job) h.item (kept k v) (kept l w))

-- why the frame wasn't taken, in each course that the reply may be in
abbrev pub NotTaken : {K W : Type 0} → Result Verdict ReplyFault → (K → W → PartSinkState) → Received → rust_job.Job → ℕ
    → Receiving → K → W → K → W → Type 0
NotTaken result kept frame job number h k v l w =
    IfErr result (λ e. FrameFails e (spell (frame_of frame)) (job_of job) number h (kept k v) (kept l w))

-- how many bytes of the reply are received with those that the link gave now, and why it is lost
abbrev pub ReceivedBy : {L : Type 0} → Result Verdict ReplyFault → (L → LinkState) → Receiving → L → Receiving → L
    → Type 0
ReceivedBy result of h old next new =
    IfOk result (λ v. ReceivedOf v h.received_reply next.received_reply (of old) (of new))
