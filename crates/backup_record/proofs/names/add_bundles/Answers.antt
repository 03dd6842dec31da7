use Rattle.std.proofs.Common.{◌++◌, ◌∷◌, [], ◌+◌, map, drop, sym, ap, ◌∙◌, string_bytes, append_assoc, List, String, Global}
use Rattle.std.proofs.lemmas.List.{map-append}
use Rattle.worker_protocol.specs.Views.{job_of}
use Rattle.base_devices.specs.Content.{Name}
use Rattle.backup_record.specs.Naming.{bundles_in}
use Rattle.backup_record.proofs.Parts.{next_bundle}
use Rattle.backup_record.proofs.names.add_bundles.Goals as goal

pub loop-i-preserved : goal.loop-i-preserved
loop-i-preserved c =
    let folder = c.args.folder.now in
    let i = c.loop-i.i in
    let old = c.loop-i.names.items in
    let name = c.in_ok-format.field-0 in
    let rest = map job_of (drop (i + 1) c.args.jobs.now) in
    let items = c.in_ok-push.ensures.items in
    let said = c.in_ok-format.ensures.ok in
    let step = next_bundle folder (i + 1) c.args.jobs.now i c.loop-i-test.true in
    let sb = string_bytes {Z = Global} in
    let later = bundles_in folder (i + 1 + 1) rest in
    ap (λ (xs : List (String Global)). map sb xs ++ later) items
    ∙ ap (λ (xs : List Name). xs ++ later) (map-append sb old (name ∷ []))
    ∙ append_assoc (map sb old) (sb name ∷ []) later
    ∙ ap (λ (t : Name). map sb old ++ t ∷ later) said
    ∙ ap (λ (xs : List Name). map sb old ++ xs) (sym step)
    ∙ c.loop-i.invariant
