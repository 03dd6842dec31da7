-- Answering an item of which no bytes are known.
use Rattle.std.proofs.Common.{◌≡◌, inl, inr, ℕ, Bool, true, false, [], ◌∷◌, Option, Some, None, Result, Ok, Err, refl, sym, subst}
use Rattle.base_devices.specs.Content.{Value}
use Rattle.base_model.specs.Text.{Text}
use Rattle.worker_process.specs.declared.serve_fault.ServeFault.{ServeFault}
use Rattle.worker_protocol.specs.declared.frames.frames.Root.{Root}
use Rattle.worker_protocol.specs.declared.frames.frames.Root.TheVariants.{DataFolder, Repo}
use Rattle.worker_protocol.specs.declared.frames.frames.JobKind.{JobKind}
use Rattle.worker_protocol.specs.Frames.{Item}
use Rattle.worker_protocol.specs.Frames.Frame.{Vanished, Unread}
use Rattle.worker_protocol.specs.Replies.{item_reply}
use Rattle.worker_process.specs.Answers.{FillsPart, KnownItem, KnownUnread, KnownAbsent}
use Rattle.worker_process.proofs.Written.{none_written}

pub fills_none : (value : Value) (item : Item) (known : ℕ) (room : Text) → FillsPart value item known room None → value ≡ None
fills_none None item known room fills = refl
fills_none (Some bytes) item known room fills = absurd fills

pub absent_known : (kind : JobKind) (root : Root) (path : Text) (at size : ℕ) (value : Value) (failed : Type 0) (result : Result Bool ServeFault) (old new : Option Text) → value ≡ None → KnownAbsent root result old new
    → KnownItem kind (record { root = root; path = path; at = at; size = size }) value failed result old new
absent_known kind root path at size (Some bytes) failed result old new none wrote = cc
absent_known kind DataFolder path at size None failed (Ok goes) old new none wrote = subst (λ (b : Bool). KnownItem kind (record { root = DataFolder; path = path; at = at; size = size }) None failed (Ok b) old new) (sym wrote.1) (Vanished ∷ [], (refl, inr refl), wrote.0)
absent_known kind DataFolder path at size None failed (Err e) old new none wrote = (true, Vanished ∷ [], (refl, inr refl), wrote.0)
absent_known kind Repo path at size None failed (Ok goes) old new none wrote = subst (λ (b : Bool). KnownItem kind (record { root = Repo; path = path; at = at; size = size }) None failed (Ok b) old new) (sym wrote.1) (Unread ∷ [], inl (refl, refl, refl), wrote.0)
absent_known kind Repo path at size None failed (Err e) old new none wrote = (false, Unread ∷ [], inl (refl, refl, refl), wrote.0)

pub unread_known : (kind : JobKind) (item : Item) (value : Value) (failed : Type 0) (result : Result Bool ServeFault) (old new : Option Text) → failed → KnownUnread result old new → KnownItem kind item value failed result old new
unread_known kind item value failed (Ok goes) old new rose wrote = subst (λ (b : Bool). KnownItem kind item value failed (Ok b) old new) (sym wrote.1) (Unread ∷ [], inr (rose, record { count = 0; is = refl }), wrote.0)
unread_known kind item value failed (Err e) old new rose wrote = (false, Unread ∷ [], inr (rose, record { count = 0; is = refl }), wrote.0)

-- nothing was written
pub nothing_known : (kind : JobKind) (root : Root) (path : Text) (at size : ℕ) (value : Value) (failed : Type 0) (e : ServeFault) (old : Option Text) → KnownItem kind (record { root = root; path = path; at = at; size = size }) value failed (Err e) old old
nothing_known kind root path at size (Some bytes) failed e old = (true, item_reply kind (record { root = root; path = path; at = at; size = size }) (Some bytes) [], (refl, inl refl), record { count = 0; is = none_written old })
nothing_known kind DataFolder path at size None failed e old = (true, Vanished ∷ [], (refl, inr refl), record { count = 0; is = none_written old })
nothing_known kind Repo path at size None failed e old = (false, Unread ∷ [], inl (refl, refl, refl), record { count = 0; is = none_written old })
