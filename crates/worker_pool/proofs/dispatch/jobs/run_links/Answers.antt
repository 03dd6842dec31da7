use Rattle.std.proofs.Common.{List, Some, map, subst, ap, arith}
use Rattle.std.specs.Prelude.{option_map}
use Rattle.std.proofs.lemmas.List.{length-map}
use Rattle.worker_protocol.specs.Views.{job_of}
use Rattle.worker_pool.specs.declared.dispatch.fault.Lost.{Lost as Entry}
use Rattle.worker_pool.specs.Run.{state, begun, Starts, SlotsLeave, Left, UnreadLeaves, AllLost, AddsLosses}
use Rattle.worker_pool.proofs.Reading.{reads_rise}
use Rattle.worker_pool.proofs.Whole.{starts_at, all_done, links_left, some_left, given_back, unread_back, known_slotted}
use Rattle.worker_pool.proofs.dispatch.jobs.run_links.Goals as goal

pub run_slots-done-requires-clause-starts : goal.run_slots-done-requires-clause-starts
run_slots-done-requires-clause-starts g c =
    let a = length-map c.args.jobs.now job_of in
    let starts : Starts (map job_of c.args.jobs.now) (map g.L.Link.link_state c.args.pool.now.links.items) (state g.L.Link.link_state c.in_ok-job_table.job_table c.in_ok-slots.slots.items c.in_ok-receivings.receivings.items (g.K.PartSink.kept c.args.keep.now c.args.on.now) c.replace-lost.result.items) = starts_at g.L.Link.link_state (map job_of c.args.jobs.now) c.args.pool.now.links.items c.in_ok-job_table.job_table _ _ c.in_ok-slots.slots.items c.in_ok-receivings.receivings.items (g.K.PartSink.kept c.args.keep.now c.args.on.now) c.replace-lost.result.items
    c.in_ok-job_table.ensures (omega (arith, a)) (omega (arith, c.args.pool.now.links.ok, c.len.ensures)) c.in_ok-slots.ensures.slots (omega (arith, c.args.pool.now.links.ok, c.in_ok-receivings.ensures, c.len-2.ensures)) c.requires.keeps c.requires.ready c.requires.empty in
    ((map g.L.Link.link_state c.args.pool.now.links.items), starts)

pub returns-in-Ok-clause-done : goal.returns-in-Ok-clause-done
returns-in-Ok-clause-done g c =
    let a = length-map c.args.jobs.now job_of in
    let starts : Starts (map job_of c.args.jobs.now) (map g.L.Link.link_state c.args.pool.now.links.items) (state g.L.Link.link_state c.in_ok-job_table.job_table c.in_ok-slots.slots.items c.in_ok-receivings.receivings.items (g.K.PartSink.kept c.args.keep.now c.args.on.now) c.replace-lost.result.items) = starts_at g.L.Link.link_state (map job_of c.args.jobs.now) c.args.pool.now.links.items c.in_ok-job_table.job_table _ _ c.in_ok-slots.slots.items c.in_ok-receivings.receivings.items (g.K.PartSink.kept c.args.keep.now c.args.on.now) c.replace-lost.result.items
    c.in_ok-job_table.ensures (omega (arith, a)) (omega (arith, c.args.pool.now.links.ok, c.len.ensures)) c.in_ok-slots.ensures.slots (omega (arith, c.args.pool.now.links.ok, c.in_ok-receivings.ensures, c.len-2.ensures)) c.requires.keeps c.requires.ready c.requires.empty in
    all_done (map job_of c.args.jobs.now) (begun (map g.L.Link.link_state c.args.pool.now.links.items) c.replace-lost.result.items) (state g.L.Link.link_state c.run_slots-done.new.run.job_table c.run_slots-done.new.run.links.slots.items c.run_slots-done.new.run.links.receivings.items (g.K.PartSink.kept c.run_slots-done.new.keep c.run_slots-done.new.on) c.run_slots-done.new.run.lost.items) (c.in-Ok.ensures.going (map g.L.Link.link_state c.args.pool.now.links.items) starts) c.in-Ok.ensures.over.0

pub returns-in-Ok-clause-some : goal.returns-in-Ok-clause-some
returns-in-Ok-clause-some g c =
    let a = length-map c.args.jobs.now job_of in
    let starts : Starts (map job_of c.args.jobs.now) (map g.L.Link.link_state c.args.pool.now.links.items) (state g.L.Link.link_state c.in_ok-job_table.job_table c.in_ok-slots.slots.items c.in_ok-receivings.receivings.items (g.K.PartSink.kept c.args.keep.now c.args.on.now) c.replace-lost.result.items) = starts_at g.L.Link.link_state (map job_of c.args.jobs.now) c.args.pool.now.links.items c.in_ok-job_table.job_table _ _ c.in_ok-slots.slots.items c.in_ok-receivings.receivings.items (g.K.PartSink.kept c.args.keep.now c.args.on.now) c.replace-lost.result.items
    c.in_ok-job_table.ensures (omega (arith, a)) (omega (arith, c.args.pool.now.links.ok, c.len.ensures)) c.in_ok-slots.ensures.slots (omega (arith, c.args.pool.now.links.ok, c.in_ok-receivings.ensures, c.len-2.ensures)) c.requires.keeps c.requires.ready c.requires.empty in
    λ many.
    let b = length-map c.args.pool.now.links.items g.L.Link.link_state in
    let d = length-map c.free_slots.new.links.items g.L.Link.link_state in
    let left = some_left (map job_of c.args.jobs.now) (map g.L.Link.link_state c.args.pool.now.links.items) c.replace-lost.result.items (state g.L.Link.link_state c.run_slots-done.new.run.job_table c.run_slots-done.new.run.links.slots.items c.run_slots-done.new.run.links.receivings.items (g.K.PartSink.kept c.run_slots-done.new.keep c.run_slots-done.new.on) c.run_slots-done.new.run.lost.items) (map g.L.Link.link_state c.free_slots.new.links.items) (c.in-Ok.ensures.going (map g.L.Link.link_state c.args.pool.now.links.items) starts) c.in-Ok.ensures.over.0 (given_back g.L.Link.link_state c.free_slots.new.links.items c.slot_all.new.links.items c.run_slots-done.new.run.links.slots.items c.in_ok-slots.ensures.taken c.in_ok-free_slots-in-Ok.ensures) (omega (arith, many, b)) in
    omega (arith, left, d)

pub returns-in-Ok-clause-reads : goal.returns-in-Ok-clause-reads
returns-in-Ok-clause-reads g c =
    let a = length-map c.args.jobs.now job_of in
    let starts : Starts (map job_of c.args.jobs.now) (map g.L.Link.link_state c.args.pool.now.links.items) (state g.L.Link.link_state c.in_ok-job_table.job_table c.in_ok-slots.slots.items c.in_ok-receivings.receivings.items (g.K.PartSink.kept c.args.keep.now c.args.on.now) c.replace-lost.result.items) = starts_at g.L.Link.link_state (map job_of c.args.jobs.now) c.args.pool.now.links.items c.in_ok-job_table.job_table _ _ c.in_ok-slots.slots.items c.in_ok-receivings.receivings.items (g.K.PartSink.kept c.args.keep.now c.args.on.now) c.replace-lost.result.items
    c.in_ok-job_table.ensures (omega (arith, a)) (omega (arith, c.args.pool.now.links.ok, c.len.ensures)) c.in_ok-slots.ensures.slots (omega (arith, c.args.pool.now.links.ok, c.in_ok-receivings.ensures, c.len-2.ensures)) c.requires.keeps c.requires.ready c.requires.empty in
    reads_rise (map job_of c.args.jobs.now) (map g.L.Link.link_state c.args.pool.now.links.items) c.replace-lost.result.items (state g.L.Link.link_state c.run_slots-done.new.run.job_table c.run_slots-done.new.run.links.slots.items c.run_slots-done.new.run.links.receivings.items (g.K.PartSink.kept c.run_slots-done.new.keep c.run_slots-done.new.on) c.run_slots-done.new.run.lost.items) (map g.L.Link.link_state c.free_slots.new.links.items) (c.in-Ok.ensures.going (map g.L.Link.link_state c.args.pool.now.links.items) starts) c.in-Ok.ensures.over.0
    (given_back g.L.Link.link_state c.free_slots.new.links.items c.slot_all.new.links.items c.run_slots-done.new.run.links.slots.items c.in_ok-slots.ensures.taken c.in_ok-free_slots-in-Ok.ensures)

pub returns-in-Ok-clause-left : goal.returns-in-Ok-clause-left
returns-in-Ok-clause-left g c =
    let a = length-map c.args.jobs.now job_of in
    let starts : Starts (map job_of c.args.jobs.now) (map g.L.Link.link_state c.args.pool.now.links.items) (state g.L.Link.link_state c.in_ok-job_table.job_table c.in_ok-slots.slots.items c.in_ok-receivings.receivings.items (g.K.PartSink.kept c.args.keep.now c.args.on.now) c.replace-lost.result.items) = starts_at g.L.Link.link_state (map job_of c.args.jobs.now) c.args.pool.now.links.items c.in_ok-job_table.job_table _ _ c.in_ok-slots.slots.items c.in_ok-receivings.receivings.items (g.K.PartSink.kept c.args.keep.now c.args.on.now) c.replace-lost.result.items
    c.in_ok-job_table.ensures (omega (arith, a)) (omega (arith, c.args.pool.now.links.ok, c.len.ensures)) c.in_ok-slots.ensures.slots (omega (arith, c.args.pool.now.links.ok, c.in_ok-receivings.ensures, c.len-2.ensures)) c.requires.keeps c.requires.ready c.requires.empty in
    subst (λ (before : List Entry). Left (map job_of c.args.jobs.now) (map g.L.Link.link_state c.args.pool.now.links.items) before c.run_slots-done.new.run.lost.items (map g.L.Link.link_state c.free_slots.new.links.items)) (ap (λ v. v.items) c.replace-lost.ensures.value)
    (links_left (map job_of c.args.jobs.now) (map g.L.Link.link_state c.args.pool.now.links.items) c.replace-lost.result.items (state g.L.Link.link_state c.run_slots-done.new.run.job_table c.run_slots-done.new.run.links.slots.items c.run_slots-done.new.run.links.receivings.items (g.K.PartSink.kept c.run_slots-done.new.keep c.run_slots-done.new.on) c.run_slots-done.new.run.lost.items) (map g.L.Link.link_state c.free_slots.new.links.items) (c.in-Ok.ensures.going (map g.L.Link.link_state c.args.pool.now.links.items) starts) c.in-Ok.ensures.over.1
    (given_back g.L.Link.link_state c.free_slots.new.links.items c.slot_all.new.links.items c.run_slots-done.new.run.links.slots.items c.in_ok-slots.ensures.taken c.in_ok-free_slots-in-Ok.ensures))

pub returns-in-Err-Unread-clause-fault : goal.returns-in-Err-Unread-clause-fault
returns-in-Err-Unread-clause-fault g c =
    let a = length-map c.args.jobs.now job_of in
    let starts : Starts (map job_of c.args.jobs.now) (map g.L.Link.link_state c.args.pool.now.links.items) (state g.L.Link.link_state c.in_ok-job_table.job_table c.in_ok-slots.slots.items c.in_ok-receivings.receivings.items (g.K.PartSink.kept c.args.keep.now c.args.on.now) c.replace-lost.result.items) = starts_at g.L.Link.link_state (map job_of c.args.jobs.now) c.args.pool.now.links.items c.in_ok-job_table.job_table _ _ c.in_ok-slots.slots.items c.in_ok-receivings.receivings.items (g.K.PartSink.kept c.args.keep.now c.args.on.now) c.replace-lost.result.items
    c.in_ok-job_table.ensures (omega (arith, a)) (omega (arith, c.args.pool.now.links.ok, c.len.ensures)) c.in_ok-slots.ensures.slots (omega (arith, c.args.pool.now.links.ok, c.in_ok-receivings.ensures, c.len-2.ensures)) c.requires.keeps c.requires.ready c.requires.empty in
    subst (λ (before : List Entry). UnreadLeaves (map job_of c.args.jobs.now) (begun (map g.L.Link.link_state c.args.pool.now.links.items) before) c.in-Err-Unread.job c.in-Err-Unread.item (map Some (map g.L.Link.link_state c.free_slots-in-Err-Unread.new.links.items))) (ap (λ v. v.items) c.replace-lost.ensures.value)
    (unread_back (map job_of c.args.jobs.now) (begun (map g.L.Link.link_state c.args.pool.now.links.items) c.replace-lost.result.items) c.in-Err-Unread.job c.in-Err-Unread.item (map (option_map g.L.Link.link_state) c.run_slots-done.new.run.links.slots.items) (map g.L.Link.link_state c.free_slots-in-Err-Unread.new.links.items)
    (subst (λ e. SlotsLeave (map job_of c.args.jobs.now) (map g.L.Link.link_state c.args.pool.now.links.items) c.replace-lost.result.items (g.K.PartSink.kept c.args.keep.now c.args.on.now).faults e (state g.L.Link.link_state c.run_slots-done.new.run.job_table c.run_slots-done.new.run.links.slots.items c.run_slots-done.new.run.links.receivings.items (g.K.PartSink.kept c.run_slots-done.new.keep c.run_slots-done.new.on) c.run_slots-done.new.run.lost.items)) (rw c.in-Err-Unread.is at c.in-Err-Unread.field-0-is) ((rw c.in-Err-Unread.is at c.run_slots-done.ensures.fault) (map g.L.Link.link_state c.args.pool.now.links.items) starts))
    (given_back g.L.Link.link_state c.free_slots-in-Err-Unread.new.links.items c.slot_all.new.links.items c.run_slots-done.new.run.links.slots.items c.in_ok-slots.ensures.taken c.in_ok-free_slots-in-Err-Unread.ensures))

pub returns-in-Err-WorkersLost-clause-fault : goal.returns-in-Err-WorkersLost-clause-fault
returns-in-Err-WorkersLost-clause-fault g c =
    let a = length-map c.args.jobs.now job_of in
    let starts : Starts (map job_of c.args.jobs.now) (map g.L.Link.link_state c.args.pool.now.links.items) (state g.L.Link.link_state c.in_ok-job_table.job_table c.in_ok-slots.slots.items c.in_ok-receivings.receivings.items (g.K.PartSink.kept c.args.keep.now c.args.on.now) c.replace-lost.result.items) = starts_at g.L.Link.link_state (map job_of c.args.jobs.now) c.args.pool.now.links.items c.in_ok-job_table.job_table _ _ c.in_ok-slots.slots.items c.in_ok-receivings.receivings.items (g.K.PartSink.kept c.args.keep.now c.args.on.now) c.replace-lost.result.items
    c.in_ok-job_table.ensures (omega (arith, a)) (omega (arith, c.args.pool.now.links.ok, c.len.ensures)) c.in_ok-slots.ensures.slots (omega (arith, c.args.pool.now.links.ok, c.in_ok-receivings.ensures, c.len-2.ensures)) c.requires.keeps c.requires.ready c.requires.empty in
    subst (λ (before : List Entry). AllLost (map job_of c.args.jobs.now) (begun (map g.L.Link.link_state c.args.pool.now.links.items) before) c.run_slots-done.new.run.lost.items) (ap (λ v. v.items) c.replace-lost.ensures.value)
    (subst (λ e. SlotsLeave (map job_of c.args.jobs.now) (map g.L.Link.link_state c.args.pool.now.links.items) c.replace-lost.result.items (g.K.PartSink.kept c.args.keep.now c.args.on.now).faults e (state g.L.Link.link_state c.run_slots-done.new.run.job_table c.run_slots-done.new.run.links.slots.items c.run_slots-done.new.run.links.receivings.items (g.K.PartSink.kept c.run_slots-done.new.keep c.run_slots-done.new.on) c.run_slots-done.new.run.lost.items)) (rw c.in-Err-WorkersLost.is at c.in-Err-WorkersLost.field-0-is) ((rw c.in-Err-WorkersLost.is at c.run_slots-done.ensures.fault) (map g.L.Link.link_state c.args.pool.now.links.items) starts))

pub returns-in-Err-PartSink-clause-fault : goal.returns-in-Err-PartSink-clause-fault
returns-in-Err-PartSink-clause-fault g c =
    let a = length-map c.args.jobs.now job_of in
    let starts : Starts (map job_of c.args.jobs.now) (map g.L.Link.link_state c.args.pool.now.links.items) (state g.L.Link.link_state c.in_ok-job_table.job_table c.in_ok-slots.slots.items c.in_ok-receivings.receivings.items (g.K.PartSink.kept c.args.keep.now c.args.on.now) c.replace-lost.result.items) = starts_at g.L.Link.link_state (map job_of c.args.jobs.now) c.args.pool.now.links.items c.in_ok-job_table.job_table _ _ c.in_ok-slots.slots.items c.in_ok-receivings.receivings.items (g.K.PartSink.kept c.args.keep.now c.args.on.now) c.replace-lost.result.items
    c.in_ok-job_table.ensures (omega (arith, a)) (omega (arith, c.args.pool.now.links.ok, c.len.ensures)) c.in_ok-slots.ensures.slots (omega (arith, c.args.pool.now.links.ok, c.in_ok-receivings.ensures, c.len-2.ensures)) c.requires.keeps c.requires.ready c.requires.empty in
    subst (λ e. SlotsLeave (map job_of c.args.jobs.now) (map g.L.Link.link_state c.args.pool.now.links.items) c.replace-lost.result.items (g.K.PartSink.kept c.args.keep.now c.args.on.now).faults e (state g.L.Link.link_state c.run_slots-done.new.run.job_table c.run_slots-done.new.run.links.slots.items c.run_slots-done.new.run.links.receivings.items (g.K.PartSink.kept c.run_slots-done.new.keep c.run_slots-done.new.on) c.run_slots-done.new.run.lost.items)) (rw c.in-Err-PartSink.is at c.in-Err-PartSink.field-0-is) ((rw c.in-Err-PartSink.is at c.run_slots-done.ensures.fault) (map g.L.Link.link_state c.args.pool.now.links.items) starts)

pub returns-in_err-free_slots-in-Ok-clause-known : goal.returns-in_err-free_slots-in-Ok-clause-known
returns-in_err-free_slots-in-Ok-clause-known g c = subst (λ (before : List Entry). AddsLosses (map job_of c.args.jobs.now) (map g.L.Link.link_state c.args.pool.now.links.items) before c.run_slots-done.new.run.lost.items) (ap (λ v. v.items) c.replace-lost.ensures.value)
    (known_slotted g.L.Link.link_state _ c.args.pool.now.links.items c.in_ok-slots.slots.items _ _ c.in_ok-slots.ensures.slots c.run_slots-done.ensures.known)

pub returns-in-Ok-clause-known : goal.returns-in-Ok-clause-known
returns-in-Ok-clause-known g c = subst (λ (before : List Entry). AddsLosses (map job_of c.args.jobs.now) (map g.L.Link.link_state c.args.pool.now.links.items) before c.run_slots-done.new.run.lost.items) (ap (λ v. v.items) c.replace-lost.ensures.value)
    (known_slotted g.L.Link.link_state _ c.args.pool.now.links.items c.in_ok-slots.slots.items _ _ c.in_ok-slots.ensures.slots c.run_slots-done.ensures.known)

pub returns-in_err-free_slots-in-Err-Unread-clause-known : goal.returns-in_err-free_slots-in-Err-Unread-clause-known
returns-in_err-free_slots-in-Err-Unread-clause-known g c = subst (λ (before : List Entry). AddsLosses (map job_of c.args.jobs.now) (map g.L.Link.link_state c.args.pool.now.links.items) before c.run_slots-done.new.run.lost.items) (ap (λ v. v.items) c.replace-lost.ensures.value)
    (known_slotted g.L.Link.link_state _ c.args.pool.now.links.items c.in_ok-slots.slots.items _ _ c.in_ok-slots.ensures.slots c.run_slots-done.ensures.known)

pub returns-in-Err-Unread-clause-known : goal.returns-in-Err-Unread-clause-known
returns-in-Err-Unread-clause-known g c = subst (λ (before : List Entry). AddsLosses (map job_of c.args.jobs.now) (map g.L.Link.link_state c.args.pool.now.links.items) before c.run_slots-done.new.run.lost.items) (ap (λ v. v.items) c.replace-lost.ensures.value)
    (known_slotted g.L.Link.link_state _ c.args.pool.now.links.items c.in_ok-slots.slots.items _ _ c.in_ok-slots.ensures.slots c.run_slots-done.ensures.known)

pub returns-in-Err-WorkersLost-clause-known : goal.returns-in-Err-WorkersLost-clause-known
returns-in-Err-WorkersLost-clause-known g c = subst (λ (before : List Entry). AddsLosses (map job_of c.args.jobs.now) (map g.L.Link.link_state c.args.pool.now.links.items) before c.run_slots-done.new.run.lost.items) (ap (λ v. v.items) c.replace-lost.ensures.value)
    (known_slotted g.L.Link.link_state _ c.args.pool.now.links.items c.in_ok-slots.slots.items _ _ c.in_ok-slots.ensures.slots c.run_slots-done.ensures.known)

pub returns-in-Err-PartSink-clause-known : goal.returns-in-Err-PartSink-clause-known
returns-in-Err-PartSink-clause-known g c = subst (λ (before : List Entry). AddsLosses (map job_of c.args.jobs.now) (map g.L.Link.link_state c.args.pool.now.links.items) before c.run_slots-done.new.run.lost.items) (ap (λ v. v.items) c.replace-lost.ensures.value)
    (known_slotted g.L.Link.link_state _ c.args.pool.now.links.items c.in_ok-slots.slots.items _ _ c.in_ok-slots.ensures.slots c.run_slots-done.ensures.known)

pub returns-clause-known : goal.returns-clause-known
returns-clause-known g c = subst (λ (before : List Entry). AddsLosses (map job_of c.args.jobs.now) (map g.L.Link.link_state c.args.pool.now.links.items) before c.run_slots-done.new.run.lost.items) (ap (λ v. v.items) c.replace-lost.ensures.value)
    (known_slotted g.L.Link.link_state _ c.args.pool.now.links.items c.in_ok-slots.slots.items _ _ c.in_ok-slots.ensures.slots c.run_slots-done.ensures.known)
