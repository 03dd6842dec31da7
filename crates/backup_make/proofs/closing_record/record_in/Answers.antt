use Rattle.std.proofs.Common.{◌≡◌, ◌∙◌, ℕ, List, Option, map, ap, sym, subst, Vec, Global}
use Rattle.std.proofs.lemmas.Result.{IfErr-weaker, IfOk-weaker}
use Rattle.std.specs.List.{AllByRecursion}
use Rattle.std.specs.Prelude.{◌<◌, ◌^◌}
use Rattle.base_model.specs.declared.labels.Label.{Label}
use Rattle.base_model.specs.declared.wal.WalPart.{WalPart}
use Rattle.base_model.specs.Values.{FileEntry, Manifest, file_entry_of, backup_info_of}
use Rattle.backup_sink.specs.declared.keeper.EndedItem.{EndedItem}
use Rattle.backup_sink.specs.Keeping.{total}
use Rattle.backup_plan.specs.declared.values.Choice.{Choice}
use Rattle.backup_record.specs.declared.manifest_record.Head.{Head}
use Rattle.backup_record.specs.Bounds.{KeepsBounds, MayFollow}
use Rattle.backup_record.specs.Entries.{BackupRun, entries}
use Rattle.backup_record.specs.Faults.{RecordFails}
use Rattle.backup_record.specs.Further.{with_further}
use Rattle.backup_record.specs.Making.{manifest_with}
use Rattle.backup_record.specs.Views.{went_of}
use Rattle.backup_make.specs.declared.draft.Draft.{Draft}
use Rattle.backup_make.specs.Draft.{folders_in, taken_in, went_with}
use Rattle.backup_make.specs.Staged.{closed_draft, closed_ends, closed_online}
use Rattle.backup_make.proofs.Drafted.{keeps, totals, follows_with}
use Rattle.backup_make.proofs.LabelFile.{label_added, label_entries, part_same}
use Rattle.backup_make.proofs.closing_record.record_in.Goals as goal

-- the draft's manifest with this part of the log and this further file, after this run
abbrev made : Draft → ℕ → Option WalPart → Option FileEntry → BackupRun → List Choice → Manifest
made d stop part further run choices = manifest_with (record { label = d.label; prior = d.prior; start = d.start; stop = stop; cluster = d.cluster; wal = part; choices = d.choices }) (with_further further (entries run (taken_in d) choices)) (folders_in d)

same : (d : Draft) (stop : ℕ) (p p2 : Option WalPart) (e e2 : Option FileEntry) (w w2 : BackupRun) (cs cs2 : List Choice) → p ≡ p2 → e ≡ e2 → w ≡ w2 → cs ≡ cs2 → made d stop p e w cs ≡ made d stop p2 e2 w2 cs2
same d stop p p2 e e2 w w2 cs cs2 part further run choices =
    ap (λ (x : Option WalPart). made d stop x e w cs) part
    ∙ ap (λ (x : Option FileEntry). made d stop p2 x w cs) further
    ∙ ap (λ (x : BackupRun). made d stop p2 e2 x cs) run
    ∙ ap (λ (x : List Choice). made d stop p2 e2 w2 x) choices

pub places_of-requires : goal.places_of-requires
places_of-requires c = subst (λ (vs : List (Vec EndedItem Global)). AllByRecursion (λ (es : List EndedItem). total es < 2 ^ 64) (map (λ v. v.items) vs)) (sym c.deref.ensures.value) (totals (closed_draft c.args.closed) c.requires.fetched.is_draft (closed_ends c.args.closed) c.requires.fetched.come)

pub record_of-requires-clause-came : goal.record_of-requires-clause-came
record_of-requires-clause-came c =
    let draft = closed_draft c.args.closed in
    let old = map file_entry_of draft.old.now in
    let went = c.went-ran.ensures.went
    ∙ ap (λ (vs : List (Vec EndedItem Global)). (let w : BackupRun = record { prior = c.unwrap_or.result; old = old; singles = draft.plan.singles; ends = map (λ v. v.items) vs } in w)) c.deref-2.ensures.value
    ∙ ap (λ (l : Label). (let w : BackupRun = record { prior = l; old = old; singles = draft.plan.singles; ends = closed_ends c.args.closed } in w)) c.unwrap_or.ensures in
    subst (λ (cs : List Choice). KeepsBounds (went_of c.went-ran.result) (taken_in draft) cs) (sym c.deref-4.ensures.value)
    (subst (λ (w : BackupRun). KeepsBounds w (taken_in draft) draft.plan.choices.items) (sym went) (keeps draft c.requires.fetched.is_draft (closed_ends c.args.closed) c.requires.fetched.come))

pub record_of-requires-clause-further : goal.record_of-requires-clause-further
record_of-requires-clause-further c = label_added (closed_draft c.args.closed) c.args.closed.online c.args.closed.stop c.in_ok-further.further c.in_ok-further.ensures c.requires.free c.requires.online c.requires.within

pub record_of-requires-clause-follows : goal.record_of-requires-clause-follows
record_of-requires-clause-follows c =
    let draft = closed_draft c.args.closed in
    let part = c.part_of.ensures ∙ part_same draft c.args.closed.online c.args.closed.stop in
    subst (λ (w : Option WalPart). MayFollow (let h : Head = record { label = draft.label; prior = draft.prior; start = draft.start; stop = c.args.closed.stop; cluster = draft.cluster; wal = w; choices = draft.choices } in h) (backup_info_of draft.before)) (sym part)
    (follows_with draft c.requires.fetched.is_draft (closed_online c.args.closed) c.requires.online c.args.closed.stop c.requires.within)

pub returns-clause-manifest : goal.returns-clause-manifest
returns-clause-manifest c =
    let draft = closed_draft c.args.closed in
    let old = map file_entry_of draft.old.now in
    let stop = c.args.closed.stop in
    let went = c.went-ran.ensures.went
    ∙ ap (λ (vs : List (Vec EndedItem Global)). (let w : BackupRun = record { prior = c.unwrap_or.result; old = old; singles = draft.plan.singles; ends = map (λ v. v.items) vs } in w)) c.deref-2.ensures.value
    ∙ ap (λ (l : Label). (let w : BackupRun = record { prior = l; old = old; singles = draft.plan.singles; ends = closed_ends c.args.closed } in w)) c.unwrap_or.ensures in
    let part = c.part_of.ensures ∙ part_same draft c.args.closed.online stop in
    let further = label_entries draft c.args.closed.online stop c.in_ok-further.further c.in_ok-further.ensures in
    IfOk-weaker c.record_of.result _ _ (λ r is. is ∙ same draft stop _ _ _ _ _ _ _ _ part further went c.deref-4.ensures.value) c.record_of.ensures.manifest

pub returns-clause-fault : goal.returns-clause-fault
returns-clause-fault c =
    let draft = closed_draft c.args.closed in
    let old = map file_entry_of draft.old.now in
    let went = c.went-ran.ensures.went
    ∙ ap (λ (vs : List (Vec EndedItem Global)). (let w : BackupRun = record { prior = c.unwrap_or.result; old = old; singles = draft.plan.singles; ends = map (λ v. v.items) vs } in w)) c.deref-2.ensures.value
    ∙ ap (λ (l : Label). (let w : BackupRun = record { prior = l; old = old; singles = draft.plan.singles; ends = closed_ends c.args.closed } in w)) c.unwrap_or.ensures in
    let files = ap (λ (w : BackupRun). entries w (taken_in draft) c.deref-4.result.now) went
    ∙ ap (λ (cs : List Choice). entries (went_with draft (closed_ends c.args.closed)) (taken_in draft) cs) c.deref-4.ensures.value in
    IfErr-weaker c.record_of.result _ _ (λ e h. subst (λ (fs : List FileEntry). RecordFails fs e) files h) c.record_of.ensures.fault
