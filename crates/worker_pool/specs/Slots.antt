-- What calls leave of the links in their slots. Own.
use Rattle.std.specs.Prelude.{ℕ, ◌≡◌, List, Option, Some, None, Result, Ok, Err, map, option_map, slice_get, slice_set, ◌∷◌, []}
use Rattle.base_devices.specs.Links.{LinkState, Sends, Fails, last_five}
use Rattle.base_devices.specs.declared.device_error.DeviceError.{DeviceError}
use Rattle.base_devices.specs.declared.device_error.DeviceError.TheVariants.{Failed, NoMemory}
use Rattle.base_model.specs.Text.{Text}
use Rattle.worker_protocol.specs.Frames.{Job, spell}
use Rattle.worker_protocol.specs.Frames.Frame.{Unread}
use Rattle.worker_protocol.specs.PartSinkState.{PartSinkState}
use Rattle.worker_protocol.specs.Lists.{ChangesAt}
use Rattle.worker_pool.specs.declared.dispatch.job_run.Slots as links
use Rattle.worker_pool.specs.declared.replies.receiving.Receiving.{Receiving}
use Rattle.worker_pool.specs.declared.replies.reply.Verdict.{Verdict}
use Rattle.worker_pool.specs.declared.replies.fault.ReplyFault.{ReplyFault}
use Rattle.worker_pool.specs.Going.{IsGiving, ReplyLeaves, ReplyFails, KeepsCounts, ReceivedOf, IsUnread}

-- a link was there and still is, and R holds of its two states
abbrev pub Both : (LinkState → LinkState → Type 0) → Option LinkState → Option LinkState → Type 0
Both R None new = Unit {0}
Both R (Some s) None = ⊥
Both R (Some s) (Some t) = R s t

-- a frame was sent over the link, or the call failed, or memory ran out
abbrev pub SentOver : Result (Unit {0}) DeviceError → Text → LinkState → LinkState → Type 0
SentOver (Ok _) frame old new = Sends old new frame
SentOver (Err Failed) frame old new = Fails old new
SentOver (Err NoMemory) frame old new = Unit {0}

-- the same for a slot
abbrev pub SlotSends : Result (Unit {0}) DeviceError → Text → Option LinkState → Option LinkState → Type 0
SlotSends result frame = Both (SentOver result frame)

-- the link in the slot replies to the job
abbrev pub IsReceiving : Option LinkState → Job → ℕ → Receiving → PartSinkState → Type 0
IsReceiving None job number h s = ⊥
IsReceiving (Some state) job number h s = IsGiving state.known job number h s

-- a frame was received of the link in the slot
abbrev pub ReceivesOver : Verdict → Job → ℕ → Receiving → Receiving → PartSinkState → PartSinkState → LinkState →
    LinkState → Type 0
ReceivesOver v job number h n s t old new = KeepsCounts v old new × ReplyLeaves v job number h n s t old new
    × ReceivedOf v h.received_reply n.received_reply old new

-- the same for a slot
abbrev pub Receives : Verdict → Job → ℕ → Receiving → Receiving → PartSinkState → PartSinkState → Option LinkState →
    Option LinkState
    → Type 0
Receives v job number h n s t = Both (ReceivesOver v job number h n s t)

-- no frame of the link was taken
abbrev pub FailsOver : ReplyFault → Job → ℕ → Receiving → PartSinkState → PartSinkState → LinkState → LinkState → Type 0
FailsOver e job number h s t old new = (IsUnread e → last_five new.given ≡ spell Unread)
    × ReplyFails e job number h s t old

-- the same for a slot
abbrev pub ReceiveFails : ReplyFault → Job → ℕ → Receiving → PartSinkState → PartSinkState → Option LinkState → Option
    LinkState
    → Type 0
ReceiveFails e job number h s t = Both (FailsOver e job number h s t)

-- the link and the receiving at i changed by R
pub record ReceivedAt (R : Receiving → Receiving → Option LinkState → Option LinkState → Type 0) (i : ℕ)
    (slots after : List (Option LinkState)) (receivings newer : List Receiving) : Type 0 where
  pub receive_reply : Receiving
  pub next : Receiving
  pub slot : Option LinkState
  pub then_slot : Option LinkState
  pub receive_is : slice_get receivings i ≡ Some receive_reply
  pub slot_is : slice_get slots i ≡ Some slot
  pub receivings_are : newer ≡ slice_set receivings i next
  pub slots_are : after ≡ slice_set slots i then_slot
  pub by : R receive_reply next slot then_slot

-- the links in these slots
abbrev pub slot_states : {L : Type 0} → (L → LinkState) → List (Option L) → List (Option LinkState)
slot_states of slots = map (option_map of) slots

-- a frame was sent over the link in the slot of this number
abbrev pub SendsAt : {L : Type 0} → Result (Unit {0}) DeviceError → (L → LinkState) → Text → ℕ → List (Option L)
    → List (Option L) → Type 0
SendsAt result of frame i old new = ChangesAt (SlotSends result frame) (slot_states of old) (slot_states of new) i

-- the link in this slot replies to the job
abbrev pub SlotReplies : {L : Type 0} → (L → LinkState) → Option L → Job → ℕ → Receiving → PartSinkState → Type 0
SlotReplies of slot job number h s = IsReceiving (option_map of slot) job number h s

-- the link of this number replies to the job
abbrev pub IsReceivingAt : {L : Type 0} → (L → LinkState) → ℕ → Job → ℕ → links.Slots L → PartSinkState → Type 0
IsReceivingAt of i job number links s = (h : Receiving) (slot : Option LinkState)
    → slice_get links.receivings.items i ≡ Some h → slice_get (slot_states of links.slots.items) i ≡ Some slot
    → IsReceiving slot job number h s

-- the link of this number, and what was received of it, changed by R
abbrev pub LinkChanges : {L : Type 0} → (L → LinkState) → ℕ → links.Slots L → links.Slots L
    → (Receiving → Receiving → Option LinkState → Option LinkState → Type 0) → Type 0
LinkChanges of i old new R = ReceivedAt R i (slot_states of old.slots.items) (slot_states of new.slots.items)
    old.receivings.items new.receivings.items

-- only the slot of this number is left
abbrev pub LeavesOne : ℕ → List (Option LinkState) → List (Option LinkState) → Type 0
LeavesOne i old new = (slot : Option LinkState) → slice_get old i ≡ Some slot → new ≡ slot ∷ []
