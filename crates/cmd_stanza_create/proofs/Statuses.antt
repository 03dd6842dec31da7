-- What the status of a refusal says about it.
use Rattle.std.proofs.Common.{◌⊎◌, ◌≤◌, ◌≢◌, ℕ, arith, inl, inr, List, Option}
use Rattle.server_talk.specs.declared.session.fault.ServerFault.{ServerFault}
use Rattle.server_talk.specs.declared.session.fault.ServerFault.TheVariants as talks
use Rattle.cmd_types.specs.ServerTextsTexts.{server_status}
use Rattle.cmd_types.proofs.Statuses.{server_over}
use Rattle.cmd_types.specs.declared.stages.halt.Halt.TheVariants.{Refused}
use Rattle.cmd_stanza_create.specs.declared.fault.CreateFault.{CreateFault}
use Rattle.cmd_stanza_create.specs.declared.fault.CreateFault.TheVariants as faults
use Rattle.cmd_stanza_create.specs.Creating.{CreateCloses}
use Rattle.cmd_stanza_create.specs.Talking.{Ended, IsServerRefusal}
use Rattle.cmd_stanza_create.specs.Texts.{create_status}

-- a server's answer that is refused has no status of findings
pub server_not_found : (fault : ServerFault) → server_status fault ≢ 65
server_not_found talks.NoMemory = λ is. absurd (omega (arith, is))
server_not_found talks.ServerConnection = λ is. absurd (omega (arith, is))
server_not_found (talks.ServerSaid code text) = λ is. absurd (omega (arith, is))
server_not_found (talks.AuthUnsupported code) = λ is. absurd (omega (arith, is))
server_not_found (talks.ServerForm at) = λ is. absurd (omega (arith, is))
server_not_found (talks.ServerEnded at) = λ is. absurd (omega (arith, is))
server_not_found (talks.SystemMismatch kept found) = λ is. absurd (omega (arith, is))
server_not_found (talks.TooLong length) = λ is. absurd (omega (arith, is))
server_not_found (talks.TooMany limit) = λ is. absurd (omega (arith, is))

-- no refusal has the status of a command that succeeded
pub create_over : (fault : CreateFault) → 2 ≤ create_status fault
create_over (faults.Server fault) = server_over fault
create_over (faults.InfoDamaged name main copy) = omega arith
create_over (faults.HistoryDiffers at) = omega arith
create_over (faults.StanzaMismatch kept found) = omega arith
create_over (faults.ArchiveLost label) = omega arith
create_over (faults.FilesFound name) = omega arith

-- a status outside of these
pub not_server : {P : Type 0} (n : ℕ) → (n ≤ 46) ⊎ (72 ≤ n) → IsServerRefusal n → P
not_server n (inl a) (inl b) = absurd (omega (arith, a, b.0))
not_server n (inl a) (inr b) = absurd (omega (arith, a, b.0))
not_server n (inr a) (inl b) = absurd (omega (arith, a, b.1))
not_server n (inr a) (inr b) = absurd (omega (arith, a, b.1))

-- at the status of a server's answer the talk was ended
pub create_closed : (rose : Type 0) (new : Option (List ℕ)) (fault : CreateFault) →
    IsServerRefusal (create_status fault) → CreateCloses rose new (Refused fault) → Ended new ⊎ rose
create_closed rose new (faults.Server fault) is closes = closes
create_closed rose new (faults.InfoDamaged name main copy) is closes = not_server 22 (inl (omega arith)) is
create_closed rose new (faults.HistoryDiffers at) is closes = not_server 101 (inr (omega arith)) is
create_closed rose new (faults.StanzaMismatch kept found) is closes = not_server 23 (inl (omega arith)) is
create_closed rose new (faults.ArchiveLost label) is closes = not_server 24 (inl (omega arith)) is
create_closed rose new (faults.FilesFound name) is closes = not_server 29 (inl (omega arith)) is

-- with another failure of the connection
pub closes_as : (rose risen : Type 0) (new : Option (List ℕ)) → (rose → risen) → (fault : CreateFault) → CreateCloses rose new (Refused fault) → CreateCloses risen new (Refused fault)
closes_as rose risen new to (faults.Server fault) (inl ended) = inl ended
closes_as rose risen new to (faults.Server fault) (inr failed) = inr (to failed)
closes_as rose risen new to (faults.InfoDamaged name main copy) closes = tt
closes_as rose risen new to (faults.HistoryDiffers at) closes = tt
closes_as rose risen new to (faults.StanzaMismatch kept found) closes = tt
closes_as rose risen new to (faults.ArchiveLost label) closes = tt
closes_as rose risen new to (faults.FilesFound name) closes = tt
