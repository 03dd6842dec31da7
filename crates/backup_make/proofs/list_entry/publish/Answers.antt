use Rattle.std.proofs.Common.{◌≡◌, [], ◌∙◌, ap, refl}
use Rattle.std.proofs.lemmas.Result.{err_from_is_err_and}
use Rattle.base_model.specs.Names.{manifest_name}
use Rattle.base_model.specs.Values.{Manifest, manifest_of}
use Rattle.repo_manifest.specs.Keeping.{manifest_text}
use Rattle.base_devices.specs.Crash.{FirstOf, AllOf}
use Rattle.backup_make.specs.Draft.{stanza_of, pair_of, main_of}
use Rattle.backup_make.specs.Staged.{closed_draft, closed_online}
use Rattle.repo_stanza.proofs.Alikes.{now_alike}
use Rattle.backup_make.proofs.Besides.{saved_beside, listed_beside}
use Rattle.backup_make.proofs.Commits.{stays_still, crash_at, ends_at, goes_at, stays_saved, list_crash, list_ends, makes_part, makes_whole}
use Rattle.backup_make.proofs.Labels.{apart}
use Rattle.backup_make.proofs.Outcomes.{nothing_listed, may_be_listed}
use Rattle.repo_stanza.proofs.Saves.{backup_name_is}
use Rattle.backup_make.specs.Touched.{IsOfBackup}
use Rattle.backup_make.proofs.Touched.{touched_none, saved_touched, listed_touched}
use Rattle.backup_make.proofs.list_entry.publish.Goals as goal

pub save_text-requires : goal.save_text-requires
save_text-requires g c = backup_name_is (stanza_of (closed_draft c.args.closed)) c.deref.result.now (c.deref.ensures ∙ c.in_ok-prepared.ensures.main)

pub returns-in_err-prepared-clause-stops : goal.returns-in_err-prepared-clause-stops
returns-in_err-prepared-clause-stops g c links staged =
    let draft = closed_draft c.args.closed in
    let o = closed_online c.args.closed in
    let b = (g.D.Disk.state c.args.d.now).view in
    let p = err_from_is_err_and c.from_residual.result c.from_residual.ensures.1 in
    nothing_listed draft o links b b c.from_residual.result p.0 p.1 (λ stop. stop ≡ c.args.closed.stop) (stays_still draft (apart draft c.requires.fetched.is_draft) o links b (g.met.D.Disk.now_may_be_left c.args.d.now))

pub returns-in_err-prepared-clause-made : goal.returns-in_err-prepared-clause-made
returns-in_err-prepared-clause-made g c links staged = (returns-in_err-prepared-clause-stops g c links staged).0

pub returns-in_err-save_manifest-clause-stops : goal.returns-in_err-save_manifest-clause-stops
returns-in_err-save_manifest-clause-stops g c links staged =
    let draft = closed_draft c.args.closed in
    let o = closed_online c.args.closed in
    let b = (g.D.Disk.state c.args.d.now).view in
    let e = (g.D.Disk.state c.save_manifest.new.d).view in
    let law = g.met.D.Disk.now_may_be_left c.args.d.now in
    let off = apart draft c.requires.fetched.is_draft in
    let m = manifest_of c.in_ok-prepared.prepared.manifest in
    let named = ap (λ (x : Manifest). manifest_name (stanza_of draft) x.label) c.in_ok-prepared.ensures.prepares.manifest_is in
    let p = err_from_is_err_and c.from_residual-in_err-save_manifest.result c.from_residual-in_err-save_manifest.ensures.1 in
    nothing_listed draft o links b e c.from_residual-in_err-save_manifest.result p.0 p.1 (λ stop. stop ≡ c.args.closed.stop)
    (stays_saved draft off o links b law m e (crash_at draft off o links b law m e _ named c.save_manifest.ensures.crash)
    (goes_at draft off o links b law FirstOf (manifest_text m) (manifest_text m) b.now e.now (pair_of draft) _ named refl c.save_manifest.ensures.now_part))

pub returns-in_err-save_manifest-clause-made : goal.returns-in_err-save_manifest-clause-made
returns-in_err-save_manifest-clause-made g c links staged = (returns-in_err-save_manifest-clause-stops g c links staged).0

pub returns-in_err-save_text-clause-stops : goal.returns-in_err-save_text-clause-stops
returns-in_err-save_text-clause-stops g c links staged =
    let draft = closed_draft c.args.closed in
    let o = closed_online c.args.closed in
    let b = (g.D.Disk.state c.args.d.now).view in
    let e = (g.D.Disk.state c.save_manifest.new.d).view in
    let d = (g.D.Disk.state c.save_text.new.d).view in
    let law = g.met.D.Disk.now_may_be_left c.args.d.now in
    let off = apart draft c.requires.fetched.is_draft in
    let m = manifest_of c.in_ok-prepared.prepared.manifest in
    let text = c.in_ok-prepared.prepared.text.items in
    let named = ap (λ (x : Manifest). manifest_name (stanza_of draft) x.label) c.in_ok-prepared.ensures.prepares.manifest_is in
    let main_is = c.deref.ensures ∙ c.in_ok-prepared.ensures.main in
    let crash = crash_at draft off o links b law m e _ named c.save_manifest.ensures.crash in
    let ends = ends_at draft off o links b law m e _ named c.in_ok-save_manifest.ensures.whole in
    let last = list_crash draft off o links b law m e crash text _ d _ main_is c.deref-2.ensures.value c.save_text.ensures.crash in
    let pair_goes = goes_at draft off o links b law AllOf (manifest_text m) (manifest_text m) b.now e.now (pair_of draft) _ named refl c.in_ok-save_manifest.ensures.now_whole in
    let list_goes = goes_at draft off o links b law FirstOf text _ e.now d.now (main_of draft) _ main_is c.deref-2.ensures.value c.save_text.ensures.now_part in
    let p = err_from_is_err_and c.from_residual-in_err-save_text.result c.from_residual-in_err-save_text.ensures.1 in
    may_be_listed draft o links b d c.from_residual-in_err-save_text.result p.0 p.1 (λ stop. stop ≡ c.args.closed.stop) c.in_err-save_text.field-0.0 p.2
    (makes_part draft off o links b law m e crash c.requires.fetched.is_draft text d _ staged c.args.closed.stop c.in_ok-prepared.ensures.prepares c.in_ok-save_manifest.ensures.within ends last pair_goes list_goes)

pub returns-in_err-save_text-clause-made : goal.returns-in_err-save_text-clause-made
returns-in_err-save_text-clause-made g c links staged = (returns-in_err-save_text-clause-stops g c links staged).0

pub returns-clause-stops : goal.returns-clause-stops
returns-clause-stops g c links staged =
    let draft = closed_draft c.args.closed in
    let o = closed_online c.args.closed in
    let b = (g.D.Disk.state c.args.d.now).view in
    let e = (g.D.Disk.state c.save_manifest.new.d).view in
    let d = (g.D.Disk.state c.save_text.new.d).view in
    let law = g.met.D.Disk.now_may_be_left c.args.d.now in
    let off = apart draft c.requires.fetched.is_draft in
    let m = manifest_of c.in_ok-prepared.prepared.manifest in
    let text = c.in_ok-prepared.prepared.text.items in
    let named = ap (λ (x : Manifest). manifest_name (stanza_of draft) x.label) c.in_ok-prepared.ensures.prepares.manifest_is in
    let main_is = c.deref.ensures ∙ c.in_ok-prepared.ensures.main in
    let text_is = c.deref-2.ensures.value in
    let crash = crash_at draft off o links b law m e _ named c.save_manifest.ensures.crash in
    let ends = ends_at draft off o links b law m e _ named c.in_ok-save_manifest.ensures.whole in
    let last = list_crash draft off o links b law m e crash text _ d _ main_is text_is c.save_text.ensures.crash in
    let pair_goes = goes_at draft off o links b law AllOf (manifest_text m) (manifest_text m) b.now e.now (pair_of draft) _ named refl c.in_ok-save_manifest.ensures.now_whole in
    let list_goes = goes_at draft off o links b law FirstOf text _ e.now d.now (main_of draft) _ main_is text_is c.save_text.ensures.now_part in
    makes_whole draft off o links b law m e crash c.requires.fetched.is_draft text d _ staged c.args.closed.stop c.in_ok-prepared.ensures.prepares c.in_ok-save_manifest.ensures.within ends last pair_goes list_goes
    (list_ends draft off o links b law m e crash text _ d _ main_is text_is c.in_ok-save_text.ensures.whole)
    (goes_at draft off o links b law AllOf text _ e.now d.now (main_of draft) _ main_is text_is c.in_ok-save_text.ensures.now_whole)

pub returns-clause-made : goal.returns-clause-made
returns-clause-made g c links staged = (returns-clause-stops g c links staged).0

pub returns-in_err-prepared-clause-only : goal.returns-in_err-prepared-clause-only
returns-in_err-prepared-clause-only g c =
    let d = closed_draft c.args.closed in
    let b = (g.D.Disk.state c.args.d.now).view in
    touched_none (IsOfBackup (stanza_of d) d.label) b

pub returns-in_err-save_manifest-clause-only : goal.returns-in_err-save_manifest-clause-only
returns-in_err-save_manifest-clause-only g c =
    let d = closed_draft c.args.closed in
    saved_touched (stanza_of d) d.label _ _ c.in_ok-prepared.prepared.manifest.label (ap (λ (x : Manifest). x.label) c.in_ok-prepared.ensures.prepares.manifest_is) c.save_manifest.ensures.only

pub returns-in_err-save_text-clause-only : goal.returns-in_err-save_text-clause-only
returns-in_err-save_text-clause-only g c =
    let d = closed_draft c.args.closed in
    listed_touched (stanza_of d) d.label _ _ _ c.in_ok-prepared.prepared.manifest.label (ap (λ (x : Manifest). x.label) c.in_ok-prepared.ensures.prepares.manifest_is) c.save_manifest.ensures.only
    _ (c.deref.ensures ∙ c.in_ok-prepared.ensures.main) c.save_text.ensures.only

pub returns-clause-only : goal.returns-clause-only
returns-clause-only g c =
    let d = closed_draft c.args.closed in
    listed_touched (stanza_of d) d.label _ _ _ c.in_ok-prepared.prepared.manifest.label (ap (λ (x : Manifest). x.label) c.in_ok-prepared.ensures.prepares.manifest_is) c.save_manifest.ensures.only
    _ (c.deref.ensures ∙ c.in_ok-prepared.ensures.main) c.save_text.ensures.only

pub returns-in_err-save_manifest-clause-beside : goal.returns-in_err-save_manifest-clause-beside
returns-in_err-save_manifest-clause-beside g c = saved_beside (stanza_of (closed_draft c.args.closed)) _ c.in_ok-prepared.prepared.manifest.label _ c.save_manifest.ensures.only

pub returns-in_err-save_text-clause-beside : goal.returns-in_err-save_text-clause-beside
returns-in_err-save_text-clause-beside g c =
    listed_beside (stanza_of (closed_draft c.args.closed)) _ c.in_ok-prepared.prepared.manifest.label _ c.save_manifest.ensures.only _ _ (c.deref.ensures ∙ c.in_ok-prepared.ensures.main) c.save_text.ensures.only

pub returns-clause-beside : goal.returns-clause-beside
returns-clause-beside g c =
    listed_beside (stanza_of (closed_draft c.args.closed)) _ c.in_ok-prepared.prepared.manifest.label _ c.save_manifest.ensures.only _ _ (c.deref.ensures ∙ c.in_ok-prepared.ensures.main) c.save_text.ensures.only

pub returns-clause-alike : goal.returns-clause-alike
returns-clause-alike g c some =
    let draft = closed_draft c.args.closed in
    let o = closed_online c.args.closed in
    let b = (g.D.Disk.state c.args.d.now).view in
    let e = (g.D.Disk.state c.save_manifest.new.d).view in
    let d = (g.D.Disk.state c.save_text.new.d).view in
    let off = apart draft c.requires.fetched.is_draft in
    let law = g.met.D.Disk.now_may_be_left c.args.d.now in
    let text = c.in_ok-prepared.prepared.text.items in
    let list_goes = goes_at draft off o [] b law AllOf text _ e.now d.now (main_of draft) _ (c.deref.ensures ∙ c.in_ok-prepared.ensures.main) c.deref-2.ensures.value c.in_ok-save_text.ensures.now_whole in
    now_alike (main_of draft) text off.main_lasts off.main_copy_lasts off.main_two e.now d.now (c.save_manifest.ensures.now_part.known some) list_goes
