-- A server's message: a kind, a length that counts itself, a body (PostgreSQL manual, "Message Formats").
use Rattle.std.specs.Prelude.{ℕ, ◌+◌, ◌-◌, ◌||◌, ◌==◌, nat_lt, nat_le, Bool, false, List, [], ◌∷◌, length, take, drop, Result, Ok, Err, if◌then◌else◌}
use Rattle.std.specs.Int.{w32, from_be_bytes}
use Rattle.server_talk.specs.declared.session.phase.Phase.{Phase}
use Rattle.server_talk.specs.declared.session.phase.Phase.TheVariants.{Granted, Settled, Heading, Row, Complete, Ready, Over}
use Rattle.server_talk.specs.Fault.{Fault, ended, form, too_long, ◌>>=◌}

-- a message of the server's protocol: its kind and its body
pub record Message : Type 0 where
  pub kind : ℕ
  pub body : List ℕ

abbrev pub of_kind : ℕ → List ℕ → Message
of_kind kind body = record { kind = kind; body = body }

-- the kind that is due: R and Z at the start, then T, D, C and Z for each query
abbrev pub due : Phase → ℕ
due Granted = 82
due Settled = 90
due Heading = 84
due Row = 68
due Complete = 67
due Ready = 90
due Over = 0

-- S, N and A are anywhere between a query's messages
abbrev pub is_notice : ℕ → Bool
is_notice kind = (kind == 83) || (kind == 78) || (kind == 65)

-- what may be there besides: S, K and N once the start is granted
abbrev pub is_aside : Phase → ℕ → Bool
is_aside Granted kind = false
is_aside Settled kind = (kind == 83) || (kind == 75) || (kind == 78)
is_aside Heading kind = is_notice kind
is_aside Row kind = is_notice kind
is_aside Complete kind = is_notice kind
is_aside Ready kind = is_notice kind
is_aside Over kind = false

-- E is anywhere
abbrev pub is_allowed : Phase → ℕ → Bool
is_allowed phase kind = is_aside phase kind || (kind == 69) || (kind == due phase)

-- how short a length may be: with a code in R, a count in D, a byte in C
abbrev pub least : ℕ → ℕ
least kind = if kind == 82 then 8 else if kind == 68 then 6 else if kind == 67 then 5 else 4

-- the lengths of a kind: Z has one byte
abbrev pub is_length : ℕ → ℕ → Bool
is_length kind n = if kind == 90 then n == 5 else nat_le (least kind) n

-- a kind, and how many bytes its body has: at most 16 MiB with the length's own
abbrev pub body_count : ℕ → ℕ → ℕ → Result (ℕ × ℕ) Fault
body_count at kind n = if is_length kind
    n then (if nat_lt 16777216 n then Err (too_long n) else Ok (kind, n - 4)) else Err (form (at + 1))

-- the five bytes in front of a body
abbrev pub header_of : Phase → ℕ → List ℕ → Result (ℕ × ℕ) Fault
header_of phase at [] = Err (ended at)
header_of phase at (kind ∷ h) = if is_allowed phase
    kind then (if length h == 4 then body_count at kind (from_be_bytes w32 h) else Err
    (ended (at + length (kind ∷ h)))) else Err (form at)

abbrev pub body_of : ℕ → ℕ → ℕ → List ℕ → Result Message Fault
body_of at kind count body = if length body
    == count then Ok (record { kind = kind; body = body }) else Err (ended (at + 5 + length body))

-- this many bytes at the front, fewer only where no more come
abbrev pub take_at : ℕ → List ℕ → Result (List ℕ × List ℕ) Fault
take_at n s = Ok (take n s, drop n s)

abbrev pub message_of : ℕ → ℕ × ℕ → List ℕ → Result (Message × List ℕ) Fault
message_of at h s = take_at h.1 s >>= λ b. body_of at h.0 h.1 b.0 >>= λ m. Ok (m, b.1)

-- the message at the front, and what comes after it
unfoldable pub message_at : Phase → ℕ → List ℕ → Result (Message × List ℕ) Fault
message_at phase at s = take_at 5 s >>= λ p. header_of phase at p.0 >>= λ h. message_of at h p.1
